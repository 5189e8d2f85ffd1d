-- Strictly ascending lists, one after the other.
use Rattle.std.proofs.Common.{ℕ, suc, ◌<◌, ◌≤◌, List, [], ◌∷◌, ◌++◌, refl, inl, inr}
use Rattle.laws.proofs.Order.{Mem, From}
use Rattle.laws.proofs.Ordered.{from_weaker}

pub from_append : (a b : ℕ) (xs ys : List ℕ) → a ≤ b → From a xs → ((z : ℕ) → Mem z xs → z < b) → From b ys → From a (xs ++ ys)
from_append a b [] ys l f s g = from_weaker a b ys l g
from_append a b (x ∷ xs) ys l f s g = (f.0, from_append (suc x) b xs ys (s x (inl refl)) f.1 (λ z m. s z (inr m)) g)
