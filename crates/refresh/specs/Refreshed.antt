-- A coin of the shelf refreshed by a table of after-values.
use Rattle.std.specs.Prelude.{ℕ, ◌+◌, ◌/◌, List, [], ◌∷◌, Some, None, Option}
use Rattle.utreexo.specs.declared.types.Value.{Value}
use Rattle.utreexo.specs.Forest.{sibling, strike}
use Rattle.utreexo.specs.Wallet.{Held, moved}

-- the after-value of a place of a row; none where it is not covered
abbrev pub Lookup : Type 0
Lookup = ℕ → ℕ → Option (Option Value)

-- what a hash becomes
abbrev pub settled : Option (Option Value) → Value → Option Value
settled None v = Some v
settled (Some x) v = x

-- the path of place o of row r
abbrev pub renewed_by : Lookup → ℕ → ℕ → List Value → List (Option Value)
renewed_by f r o [] = []
renewed_by f r o (v ∷ vs) = settled (f r (sibling o)) v ∷ renewed_by f (r + 1) (o / 2) vs

-- the coin, with what is absent struck out of its path
abbrev pub refreshed_by : Lookup → Held → Held
refreshed_by f h = moved h (strike (renewed_by f h.row h.place h.path) h.place)
