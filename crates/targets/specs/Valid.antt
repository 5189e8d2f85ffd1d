-- What the checks on positions leave of a block's targets: they are in the forest, ascending, and none is above another.
use Rattle.std.specs.Prelude.{ℕ, ◌/◌, ◌^◌, Bool, true, not, ◌&&◌, ◌||◌, List, [], ◌∷◌, ◌==◌, nat_lt}
use Rattle.utreexo.specs.Lists.{any}
use Rattle.utreexo.specs.Claims.{Target}
use Rattle.utreexo.specs.Checks.{above_another}

-- the place is in the forest of n slots: the run that it spans is within the count
abbrev pub within : ℕ → Target → Bool
within n t = nat_lt t.node.place (n / 2 ^ t.node.row)

-- u comes after t, by row and place
abbrev pub later : Target → Target → Bool
later t u = nat_lt t.node.row u.node.row || (t.node.row == u.node.row && nat_lt t.node.place u.node.place)

abbrev pub sorted : List Target → Bool
sorted [] = true
sorted (t ∷ ts) = not (any (λ u. not (later t u)) ts) && sorted ts

-- all in the forest of n slots, ascending, and none above another
abbrev pub valid : ℕ → List Target → Bool
valid n ts = not (any (λ t. not (within n t)) ts) && (sorted ts && not (above_another ts))
