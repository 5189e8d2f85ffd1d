-- The two halves of a tree, and which of them a place is in.
use Rattle.std.proofs.Common.{◌≡◌, ℕ, zero, suc, ◌+◌, ◌/◌, ◌%◌, ◌^◌, Some, None, refl, ap, ◌∙◌, arith, shr-shr}
use Rattle.laws.proofs.Tree.{Tree, coin, fork, child, subtree}

-- the half that the bit tells
abbrev pub half : {C : Type 0} → ℕ → Tree C → Tree C → Tree C
half zero a b = a
half (suc n) a b = b

next_bit : (d o : ℕ) → o / 2 / 2 ^ d ≡ o / 2 ^ suc d
next_bit d o = shr-shr o 1 d ∙ ap (λ x. o / 2 ^ x) (let e : 1 + d ≡ suc d = omega arith in e)

-- Below a fork: bit d of the place tells the half, and the bits below it the place in the half.
pub fork_half : {C : Type 0} (a b : Tree C) (d o : ℕ) → subtree (fork a b) (suc d) o ≡ subtree (half (o / 2 ^ d % 2) a b) d o
fork_half a b zero o = go (o % 2) refl
  where
    go : (m : ℕ) → o % 2 ≡ m → child m (Some (fork a b)) ≡ Some (half (o / 2 ^ 0 % 2) a b)
    go zero e = let q : o / 2 ^ 0 % 2 ≡ 0 = omega arith in rw q
    go (suc m) e = let q : o / 2 ^ 0 % 2 ≡ suc m = omega arith in rw q
fork_half a b (suc d) o =
    ap (child (o % 2)) (fork_half a b d (o / 2)) ∙ ap (λ x. child (o % 2) (subtree (half (x % 2) a b) d (o / 2))) (next_bit d o)

-- below a coin there is nothing
pub coin_end : {C : Type 0} (i : ℕ) (c : C) (d o : ℕ) → subtree (coin i c) (suc d) o ≡ None
coin_end i c zero o = refl
coin_end i c (suc d) o = ap (child (o % 2)) (coin_end i c d (o / 2))
