-- The code's shelf as the definitions have it.
use Rattle.std.specs.Prelude.{ℕ, ◌+◌, ◌*◌, ◌/◌, ◌%◌, ◌^◌, Bool, not, ◌&&◌, List, map, length, take, ◌==◌}
use Rattle.utreexo.specs.Lists.{any}
use Rattle.utreexo.specs.Forest.{bit, tree_place}
use Rattle.utreexo.specs.Wallet.{Held}
use Rattle.shelf.specs.declared.held.Held.{Held as HeldCode}
use Rattle.shelf.specs.declared.table.Shelf.{Shelf}

-- bit k of a place struck out, those above it closed up
abbrev pub close : ℕ → ℕ → ℕ
close k o = o / 2 ^ (k + 1) * 2 ^ k + o % 2 ^ k

-- a coin of the shelf, with so much of its array as is the path
abbrev pub held_of : HeldCode → Held
held_of r = record { coin = r.coin; row = r.row; place = r.place; path = take r.len r.path }

abbrev pub shelf_of : Shelf → List Held
shelf_of s = map held_of (take s.len s.coins)

-- the coin is in a tree of the forest of n slots, and its path goes up to the root
abbrev pub in_its_tree : ℕ → Held → Bool
in_its_tree n h = let k = h.row + length h.path in bit n k && h.place / 2 ^ length h.path == tree_place n k

-- some coin of the shelf is not so
abbrev pub astray : ℕ → List Held → Bool
astray n hs = any (λ h. not (in_its_tree n h)) hs
