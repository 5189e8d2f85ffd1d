-- The numbers from a on, and the numbers below k.
use Rattle.std.proofs.Common.{◌≡◌, ℕ, zero, suc, ◌+◌, ◌-◌, ◌<◌, ◌≤◌, cond, eqb, [], ◌∷◌, ◌++◌, map, length, get_or, set, sym, refl, ap, ◌∙◌, ap₂, inl, inr, arith}
use lib.ListN.{length-map}
use Rattle.std.proofs.lemmas.Bool.{eq-eqb, ne_eqb}
use Rattle.utreexo.specs.Lists.{below}
use Rattle.laws.proofs.Order.{Mem, From, range}
use Rattle.laws.proofs.Members.{map_ext}

-- the members of a range, their order, and its last element
pub mem_range : (a n z : ℕ) → Mem z (range a n) → (a ≤ z) × (z < a + n)
mem_range a zero z m = absurd m
mem_range a (suc n) z (inl e) = (omega arith, omega arith)
mem_range a (suc n) z (inr m) = let h = mem_range (suc a) n z m in (omega arith, omega arith)

pub range_mem : (a n z : ℕ) → a ≤ z → z < a + n → Mem z (range a n)
range_mem a zero z l h = absurd (omega arith)
range_mem a (suc n) z l h = go (z - a) refl (range_mem (suc a) n z)
  where
    go : (d : ℕ) → z - a ≡ d → (suc a ≤ z → z < suc a + n → Mem z (range (suc a) n)) → Mem z (range a (suc n))
    go zero e ih = inl (omega arith)
    go (suc d) e ih = inr (ih (omega arith) (omega arith))

pub from_range : (a n : ℕ) → From a (range a n)
from_range a zero = tt
from_range a (suc n) = (omega arith, from_range (suc a) n)

pub range_snoc : (a n : ℕ) → range a (suc n) ≡ range a n ++ (a + n) ∷ []
range_snoc a zero = let e : a + 0 ≡ a = omega arith in rw e
range_snoc a (suc n) = let e : suc a + n ≡ a + suc n = omega arith in ap (λ z. a ∷ z) (range_snoc (suc a) n ∙ ap (λ x. range (suc a) n ++ x ∷ []) e)

-- the numbers below k, as the definitions list them
pub below_range : (k : ℕ) → below k ≡ range 0 k
below_range zero = refl
below_range (suc k) = let e : 0 + k ≡ k = omega arith in ap (λ z. z ++ k ∷ []) (below_range k) ∙ ap (λ x. range 0 k ++ x ∷ []) (sym e) ∙ sym (range_snoc 0 k)

-- its members, their order and their number
pub below_mem : (k x : ℕ) → x < k → Mem x (below k)
below_mem k x l = rw below_range (range_mem 0 k x (omega arith) (omega arith))

pub mem_below : (k x : ℕ) → Mem x (below k) → x < k
mem_below k x m = let m' : Mem x (range 0 k) = rw below_range at m in let h = mem_range 0 k x m' in omega arith

pub below_from : (k : ℕ) → From 0 (below k)
below_from k = rw below_range (from_range 0 k)

pub length_range : (a n : ℕ) → length (range a n) ≡ n
length_range a zero = refl
length_range a (suc n) = ap suc (length_range (suc a) n)

pub length_below : (n : ℕ) → length (below n) ≡ n
length_below n = ap length (below_range n) ∙ length_range 0 n

pub length_map_below : {A : Type 0} (f : ℕ → A) (n : ℕ) → length (map f (below n)) ≡ n
length_map_below f n = length-map (below n) f ∙ length_below n

pub get_or_range : {A : Type 0} (f : ℕ → A) (d : A) (a n k : ℕ) → k < n → get_or (map f (range a n)) k d ≡ f (a + k)
get_or_range f d a zero k l = absurd (omega arith)
get_or_range f d a (suc n) zero l = let e : a + 0 ≡ a = omega arith in rw e
get_or_range f d a (suc n) (suc k) l = let e : suc a + k ≡ a + suc k = omega arith in get_or_range f d (suc a) n k (omega arith) ∙ ap f e

-- a list made from the numbers below n, read at k
pub get_or_below : {A : Type 0} (f : ℕ → A) (d : A) (n k : ℕ) → k < n → get_or (map f (below n)) k d ≡ f k
get_or_below f d n k l = let e : 0 + k ≡ k = omega arith in ap (λ xs. get_or (map f xs) k d) (below_range n) ∙ get_or_range f d 0 n k l ∙ ap f e

set_range : {A : Type 0} (f : ℕ → A) (y : A) (a n k : ℕ) → set (map f (range a n)) k y ≡ map (λ j. cond (eqb j (a + k)) y (f j)) (range a n)
set_range f y a zero k = refl
set_range f y a (suc n) zero =
    ap₂ (λ u v. u ∷ v) (sym (ap (λ b. cond b y (f a)) (eq-eqb a (a + 0) (omega arith))))
    (sym (map_ext (λ j. cond (eqb j (a + 0)) y (f j)) f (range (suc a) n)
    (λ j m. let h = mem_range (suc a) n j m in ap (λ b. cond b y (f j)) (ne_eqb j (a + 0) (omega arith)))))
set_range f y a (suc n) (suc k) =
    let e : suc a + k ≡ a + suc k = omega arith in
    ap₂ (λ u v. u ∷ v) (sym (ap (λ b. cond b y (f a)) (ne_eqb a (a + suc k) (omega arith))))
    (set_range f y (suc a) n k ∙ ap (λ z. map (λ j. cond (eqb j z) y (f j)) (range (suc a) n)) e)

-- and changed at k
pub set_below : {A : Type 0} (f : ℕ → A) (y : A) (n k : ℕ) → set (map f (below n)) k y ≡ map (λ j. cond (eqb j k) y (f j)) (below n)
set_below f y n k =
    let e : 0 + k ≡ k = omega arith in
    ap (λ xs. set (map f xs) k y) (below_range n) ∙ set_range f y 0 n k ∙ ap (λ z. map (λ j. cond (eqb j z) y (f j)) (range 0 n)) e
    ∙ ap (map (λ j. cond (eqb j k) y (f j))) (sym (below_range n))
