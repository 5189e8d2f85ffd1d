-- One appended coin: a path gains at most a hash on top, and what is not joined stays as it was.
use Rattle.std.proofs.Common.{◌≡◌, ℕ, zero, suc, ◌+◌, ◌*◌, ◌/◌, ◌%◌, ◌<◌, List, [], ◌∷◌, ◌++◌, length, Some, None, Option, sym, refl, ap, ◌∙◌, inl, inr, arith}
use mathlib.Core.Path.{fun_ext}
use Rattle.laws.proofs.Logic.{eqb_cases, EqbCases}
use Rattle.laws.proofs.Place.{up, sib, close}
use Rattle.laws.proofs.Places.{half_even, half_odd, sib_half, with_bit_half, with_bit_mod, up_suc, up_lt, up_add}
use Rattle.laws.proofs.Tree.{map_o, Preimage, Tree, coin, grow, count_struck, count_kept, with_bit, struck, depth, place}
use Rattle.laws.proofs.Value.{push_o, value_under, value, path}
use Rattle.laws.proofs.Forest.{put, slot_of}
use Rattle.laws.proofs.After.{value_grow}

module _ {C : Type 0} (slot slot' : ℕ → Option C) where
  -- a tree depends on its own run's slots alone
  pub grow_same : (r o : ℕ) → ((i : ℕ) → up r i ≡ o → slot i ≡ slot' i) → grow slot r o ≡ grow slot' r o
  grow_same zero o s = ap (map_o (coin o)) (s o refl)
  grow_same (suc r) o s =
      rw (
        grow_same r (2 * o) (λ i e. s i (up_suc r i ∙ ap (λ x. x / 2) e ∙ half_even o)),
        grow_same r (2 * o + 1) (λ i e. s i (up_suc r i ∙ ap (λ x. x / 2) e ∙ half_odd o)),
      )

  module _ (n : ℕ) (same : (i : ℕ) → i < n → slot i ≡ slot' i) where
    pub grow_below : (r o : ℕ) → o < up r n → grow slot r o ≡ grow slot' r o
    grow_below r o l = grow_same r o (λ i e. same i (up_lt r i n (rw e l)))

module _ {C V : Type 0} (image : Preimage C V → V) (slot slot' : ℕ → Option C) (n : ℕ) (same : (i : ℕ) → i < n → slot i ≡ slot' i) where
  -- below the count nothing changes
  pub value_below : (r o : ℕ) → o < up r n → value_under image slot r o ≡ value_under image slot' r o
  value_below r o l =
      value_grow image slot r o ∙ ap (map_o (value image)) (grow_below slot slot' n same r o l) ∙ sym (value_grow image slot' r o)

-- One row more on top: the last bit.
pub push_append : {A : Type 0} (x : Option A) (l m : List A) → push_o x (l ++ m) ≡ push_o x l ++ m
push_append None l m = refl
push_append (Some v) l m = refl

module _ {C : Type 0} (slot : ℕ → Option C) where
  -- the row of a slot, with one row more on top
  pub struck_top : (f j o : ℕ) → (h : ℕ) → j + f ≡ h → struck slot j o (suc f) ≡ count_struck (grow slot h (sib (up f o))) (struck slot j o f)
  struck_top zero j o h e = let q : j ≡ h = omega arith in rw q
  struck_top (suc f) j o h e = go (grow slot j (sib o)) (struck_top f (suc j) (o / 2) h (omega arith))
    where
      skip_skip : {A B : Type 0} (x : Option A) (y : Option B) (n : ℕ) → count_struck x (count_struck y n) ≡ count_struck y (count_struck x n)
      skip_skip None None n = refl
      skip_skip None (Some b) n = refl
      skip_skip (Some a) y n = refl

      go : (x : Option (Tree C)) → struck slot (suc j) (o / 2) (suc f) ≡ count_struck (grow slot h (sib (up f (o / 2)))) (struck slot (suc j) (o / 2) f)
          → count_struck x (struck slot (suc j) (o / 2) (suc f))
          ≡ count_struck (grow slot h (sib (up f (o / 2)))) (count_struck x (struck slot (suc j) (o / 2) f))
      go x i = ap (count_struck x) i ∙ skip_skip x (grow slot h (sib (up f (o / 2)))) (struck slot (suc j) (o / 2) f)

  -- the other tree is not blank: the place stays, its bit below the new top
  pub place_top_some : (f j o h : ℕ) (v : Tree C) → j + f ≡ h → grow slot h (sib (up f o)) ≡ Some v → place slot j o (suc f) ≡ place slot j o f
  place_top_some zero j o h v e s =
      let q : j ≡ h = omega arith in
      let s' : grow slot j (sib o) ≡ Some v = rw q s in
      rw s' (omega arith)
  place_top_some (suc f) j o h v e s =
      ap (λ x. with_bit (grow slot j (sib o)) x (o % 2)) (place_top_some f (suc j) (o / 2) h v (omega arith) s)

  -- it is blank: the bit is struck out
  pub place_top_none : (f j o h : ℕ) → j + f ≡ h → grow slot h (sib (up f o)) ≡ None → place slot j o (suc f) ≡ close (depth slot j o f) (place slot j o f)
  place_top_none zero j o h e s =
      let q : j ≡ h = omega arith in
      let s' : grow slot j (sib o) ≡ None = rw q s in
      rw s'
  place_top_none (suc f) j o h e s = go (grow slot j (sib o)) (place_top_none f (suc j) (o / 2) h (omega arith) s)
    where
      go : (x : Option (Tree C)) → place slot (suc j) (o / 2) (suc f) ≡ close (depth slot (suc j) (o / 2) f) (place slot (suc j) (o / 2) f)
          → with_bit x (place slot (suc j) (o / 2) (suc f)) (o % 2)
          ≡ close (count_kept x (depth slot (suc j) (o / 2) f)) (with_bit x (place slot (suc j) (o / 2) f) (o % 2))
      go None i = i
      go (Some v) i =
          let a = with_bit_half (place slot (suc j) (o / 2) f) o in
          let b = with_bit_mod (place slot (suc j) (o / 2) f) o in
          cc

  -- its path gains the value beside the old top, if there is one
  pub path_top : {V : Type 0} (image : Preimage C V → V) (f j o h : ℕ) → j + f ≡ h
      → path image slot j o (suc f) ≡ path image slot j o f ++ push_o (value_under image slot h (sib (up f o))) []
  path_top image zero j o h e = let q : j ≡ h = omega arith in rw q
  path_top image (suc f) j o h e =
      ap (push_o (value_under image slot j (sib o))) (path_top image f (suc j) (o / 2) h (omega arith))
      ∙ push_append (value_under image slot j (sib o)) (path image slot (suc j) (o / 2) f) (push_o (value_under image slot h (sib (up f (o / 2)))) [])

-- Slots that agree over the tree give each of its slots the same position and path.
module _ {C V : Type 0} (image : Preimage C V → V) (slot slot' : ℕ → Option C) (k p : ℕ) (same : (i : ℕ) → up k i ≡ p → slot i ≡ slot' i) where
  pub grow_inside : (f j o : ℕ) → j + f ≡ k → up f o ≡ p → grow slot j o ≡ grow slot' j o
  grow_inside f j o e q = grow_same slot slot' j o (λ i u. same i (up_add j f k i e ∙ ap (up f) u ∙ q))

  pub record Stays (j o f : ℕ) : Type 0 where
    pub hashes : path image slot j o f ≡ path image slot' j o f
    pub row : struck slot j o f ≡ struck slot' j o f
    pub deep : depth slot j o f ≡ depth slot' j o f
    pub at : place slot j o f ≡ place slot' j o f

  -- position and path stay
  pub stays : (f j o : ℕ) → j + f ≡ k → up f o ≡ p → Stays j o f
  stays zero j o e q = record { hashes = refl; row = refl; deep = refl; at = refl }
  stays (suc f) j o e q =
      let i = stays f (suc j) (o / 2) (omega arith) q in
      let g = grow_inside (suc f) j (sib o) e (ap (up f) (sib_half o) ∙ q) in
      let a = value_grow image slot j (sib o) in
      let b = value_grow image slot' j (sib o) in
      let x = i.hashes in let y = i.row in let z = i.deep in let w = i.at in
      record { hashes = cc; row = cc; deep = cc; at = cc }

-- slots as a list, one more put at its end
pub slot_append : {C : Type 0} (s : List (Option C)) (c : C) (i : ℕ) → slot_of (s ++ Some c ∷ []) i ≡ put (slot_of s) (length s) c i
slot_append [] c zero = refl
slot_append [] c (suc i) = elim (eqb_cases (suc i) 0) [ inl e ↦ absurd (omega arith) | inr e ↦ rw e.0 ]
slot_append (x ∷ s) c zero = elim (eqb_cases 0 (suc (length s))) [ inl e ↦ absurd (omega arith) | inr e ↦ rw e.0 ]
slot_append (x ∷ s) c (suc i) = slot_append s c i ∙ go (eqb_cases i (length s)) (eqb_cases (suc i) (suc (length s)))
  where
    go : EqbCases i (length s)
        → EqbCases (suc i) (suc (length s))
        → put (slot_of s) (length s) c i ≡ put (slot_of (x ∷ s)) (suc (length s)) c (suc i)
    go (inl e) (inl f) = rw (e.0, f.0)
    go (inr e) (inr f) = rw (e.0, f.0)
    go (inl e) (inr f) = absurd (f.1 (ap suc e.1))
    go (inr e) (inl f) = absurd (omega arith)

-- the same of the functions, for rewriting
pub slots_append : {C : Type 0} (s : List (Option C)) (c : C) → slot_of (s ++ Some c ∷ []) ≡ put (slot_of s) (length s) c
slots_append s c = fun_ext (slot_append s c)
