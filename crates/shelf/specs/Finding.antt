-- Finding a coin on the shelf.
use Rattle.std.specs.Prelude.{ℕ, ◌+◌, Bool, cond, List, [], ◌∷◌, Some, None, Option, nat_eq}
use Rattle.utreexo.specs.Forest.{Node, at_node}
use Rattle.utreexo.specs.Claims.{same_node}
use Rattle.utreexo.specs.Wallet.{Held, position_of}

abbrev pub next_index : Option ℕ → Option ℕ
next_index None = None
next_index (Some i) = Some (i + 1)

-- the number of the first that passes the test, counted from 0
abbrev pub index_of : {A : Type 0} → (A → Bool) → List A → Option ℕ
index_of p [] = None
index_of p (x ∷ xs) = cond (p x) (Some 0) (next_index (index_of p xs))

-- the coin is at the node
abbrev pub is_at : Node → Held → Bool
is_at d h = same_node (at_node h.row h.place) d

-- the coin has the position p, in a forest of n slots
abbrev pub has_position : ℕ → ℕ → Held → Bool
has_position n p h = nat_eq (position_of n h) p
