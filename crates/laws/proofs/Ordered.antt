-- Strictly ascending lists are known by their members.
use Rattle.std.proofs.Common.{◌≡◌, ℕ, suc, ◌≤◌, Bool, true, false, cond, ◌⊎◌, List, [], ◌∷◌, refl, ap₂, inl, inr, arith}
use Rattle.utreexo.specs.Lists.{filter}
use Rattle.laws.proofs.Order.{Mem, From}

-- members are no less than the start
pub from_mem : (a : ℕ) (xs : List ℕ) (z : ℕ) → From a xs → Mem z xs → a ≤ z
from_mem a [] z f m = absurd m
from_mem a (x ∷ xs) z f (inl e) = omega arith
from_mem a (x ∷ xs) z f (inr m) = omega (arith, from_mem (suc x) xs z f.1 m)

tail_mem : (x z : ℕ) (xs ys : List ℕ) → From (suc x) xs → (Mem z xs → (z ≡ x) ⊎ Mem z ys) → Mem z xs → Mem z ys
tail_mem x z xs ys f g m = elim (g m) [ inl e ↦ absurd (omega (arith, from_mem (suc x) xs z f m)) | inr n ↦ n ]

-- strictly ascending lists with the same members are one
pub same_list : (a b : ℕ) (xs ys : List ℕ) → From a xs → From b ys → ((z : ℕ) → Mem z xs → Mem z ys) → ((z : ℕ) → Mem z ys → Mem z xs) → xs ≡ ys
same_list a b [] [] f g i j = refl
same_list a b [] (y ∷ ys) f g i j = absurd (j y (inl refl))
same_list a b (x ∷ xs) [] f g i j = absurd (i x (inl refl))
same_list a b (x ∷ xs) (y ∷ ys) f g i j =
    ap₂ (λ u v. u ∷ v) h
    (same_list (suc x) (suc y) xs ys f.1 g.1
    (λ z. tail_mem x z xs ys f.1 (λ m. rw h (i z (inr m))))
    (λ z. tail_mem y z ys xs g.1 (λ m. rw (← h) (j z (inr m)))))
  where
    le : (x y : ℕ) (ys : List ℕ) → From (suc y) ys → Mem x (y ∷ ys) → y ≤ x
    le x y ys g (inl e) = omega arith
    le x y ys g (inr m) = omega (arith, from_mem (suc y) ys x g m)

    h : x ≡ y
    h = omega (arith, le x y ys g.1 (i x (inl refl)), le y x xs f.1 (j y (inl refl)))

-- from a lower start
pub from_weaker : (a b : ℕ) (xs : List ℕ) → a ≤ b → From b xs → From a xs
from_weaker a b [] l f = tt
from_weaker a b (x ∷ xs) l f = (omega arith, f.1)

-- what is left by a filter ascends
pub filter_from : (test : ℕ → Bool) (a : ℕ) (xs : List ℕ) → From a xs → From a (filter test xs)
filter_from test a [] f = tt
filter_from test a (x ∷ xs) f = go (test x) (filter_from test (suc x) xs f.1)
  where
    go : (b : Bool) → From (suc x) (filter test xs) → From a (cond b (x ∷ filter test xs) (filter test xs))
    go true g = (f.0, g)
    go false g = from_weaker a (suc x) (filter test xs) (omega arith) g
