-- What the number of the first that passes a test tells of the list.
use Rattle.std.proofs.Common.{◌≡◌, ℕ, suc, ◌+◌, ◌<◌, Bool, true, false, cond, not, ◌||◌, ltb, inl, inr, List, [], ◌∷◌, length, map, get_or, Some, None, Option, sym, refl, ap, ◌∙◌, arith}
use Rattle.std.specs.List.{position_or_len, remove}
use Rattle.std.proofs.lemmas.Bool.{lt-ltb, le-ltb, cases_lt}
use Rattle.utreexo.specs.Lists.{any, first}
use Rattle.utreexo.specs.Wallet.{Held, drop_first}
use Rattle.laws.proofs.Logic.{never, some_inj}
use Rattle.shelf.specs.Finding.{index_of, next_index}

abbrev within : ℕ → ℕ → Option ℕ
within i n = cond (ltb i n) (Some i) None

within_next : (i n : ℕ) → within (1 + i) (suc n) ≡ next_index (within i n)
within_next i n = elim (cases_lt i n) [
  | inl l ↦ rw (lt-ltb (1 + i) (suc n) (omega arith), lt-ltb i n l) (ap (λ x. Some x) (let e : 1 + i ≡ i + 1 = omega arith in e))
  | inr l ↦ rw (le-ltb (1 + i) (suc n) (omega arith), le-ltb i n l) refl
]

-- what the iterator finds
pub found : {A : Type 0} (p : A → Bool) (xs : List A) → within (position_or_len p xs) (length xs) ≡ index_of p xs
found p [] = refl
found p (x ∷ xs) = go (p x) (found p xs)
  where
    go : (b : Bool) → within (position_or_len p xs) (length xs) ≡ index_of p xs
        → within (cond (not b) (1 + position_or_len p xs) 0) (suc (length xs)) ≡ cond b (Some 0) (next_index (index_of p xs))
    go true e = rw (lt-ltb 0 (suc (length xs)) (omega arith)) refl
    go false e = within_next (position_or_len p xs) (length xs) ∙ ap next_index e

-- no element passes
pub record Without {A : Type 0} (p : A → Bool) (xs : List A) : Type 0 where
  pub none : any p xs ≡ false
  pub no_first : first p xs ≡ None

-- the first that passes is that of number i
pub record With {A : Type 0} (p : A → Bool) (xs : List A) (i : ℕ) : Type 0 where
  pub within : i < length xs
  pub some : any p xs ≡ true
  pub is_first : (d : A) → first p xs ≡ Some (get_or xs i d)

next_none : (z : Option ℕ) → next_index z ≡ None → z ≡ None
next_none None e = refl
next_none (Some i) e = absurd (never (i + 1) (sym e))

next_some : (z : Option ℕ) (i : ℕ) → next_index z ≡ Some i → (j : ℕ) × (z ≡ Some j) × (i ≡ j + 1)
next_some None i e = absurd (never i e)
next_some (Some j) i e = (j, refl, sym (some_inj (j + 1) i e))

pub without : {A : Type 0} (p : A → Bool) (xs : List A) → index_of p xs ≡ None → Without p xs
without p [] e = record { none = refl; no_first = refl }
without p (x ∷ xs) e = let (a, b) = go (p x) (without p xs) e in record { none = a; no_first = b }
  where
    go : (b : Bool) → (index_of p xs ≡ None → Without p xs) → cond b (Some 0) (next_index (index_of p xs)) ≡ None
        → ((b || any p xs) ≡ false) × (cond b (Some x) (first p xs) ≡ None)
    go true f e = absurd (never 0 (sym e))
    go false f e = let w = f (next_none (index_of p xs) e) in (w.none, w.no_first)

behind : {A : Type 0} (x : A) (xs : List A) (i j : ℕ) (d : A) → i ≡ j + 1 → get_or xs j d ≡ get_or (x ∷ xs) i d
behind x xs i j d z = let n : i ≡ suc j = omega arith in rw n refl

pub with : {A : Type 0} (p : A → Bool) (xs : List A) (i : ℕ) → index_of p xs ≡ Some i → With p xs i
with p [] i e = absurd (never i e)
with {A = A} p (x ∷ xs) i e = let (a, b, c) = go (p x) (with p xs) e in record { within = a; some = b; is_first = c }
  where
    go : (b : Bool) → ((j : ℕ) → index_of p xs ≡ Some j → With p xs j) → cond b (Some 0) (next_index (index_of p xs)) ≡ Some i
        → (i < suc (length xs)) × ((b || any p xs) ≡ true) × ((d : A) → cond b (Some x) (first p xs) ≡ Some (get_or (x ∷ xs) i d))
    go true f e = let z : i ≡ 0 = sym (some_inj 0 i e) in (omega arith, refl, λ d. rw z refl)
    go false f e =
        let (j, q, z) = next_some (index_of p xs) i e in
        let w = f j q in
        let l = w.within in
        (omega arith, w.some, λ d. w.is_first d ∙ ap (λ v. Some v) (behind x xs i j d z))

-- the coins but that one are what is left once it is dropped
pub dropped : (p : Held → Bool) (hs : List Held) (i : ℕ) → index_of p hs ≡ Some i → drop_first p hs ≡ remove hs i
dropped p [] i e = absurd (never i e)
dropped p (h ∷ hs) i e = go (p h) (dropped p hs) e
  where
    go : (b : Bool) → ((j : ℕ) → index_of p hs ≡ Some j → drop_first p hs ≡ remove hs j) → cond b (Some 0) (next_index (index_of p hs)) ≡ Some i
        → cond b hs (h ∷ drop_first p hs) ≡ remove (h ∷ hs) i
    go true f e = let z : i ≡ 0 = sym (some_inj 0 i e) in rw z refl
    go false f e =
        let (j, q, z) = next_some (index_of p hs) i e in
        let n : j + 1 ≡ suc j = omega arith in
        rw (z, n) (ap (λ w. h ∷ w) (f j q))

-- the same number in a list and in its image
pub index_map : {A B : Type 0} (f : A → B) (p : B → Bool) (xs : List A) → index_of (λ x. p (f x)) xs ≡ index_of p (map f xs)
index_map f p [] = refl
index_map f p (x ∷ xs) = ap (λ z. cond (p (f x)) (Some 0) (next_index z)) (index_map f p xs)
