-- Slots, the trees over them, and positions. Counts are below 2 ^ 32, so the rows of trees are 0 to 31.
use Rattle.std.specs.Prelude.{ℕ, zero, suc, ◌+◌, ◌-◌, ◌*◌, ◌/◌, ◌%◌, ◌^◌, Bool, cond, ◌&&◌, List, [], ◌∷◌, map, length, is_some, Some, None, Option, ◌==◌, nat_le, nat_lt, slice_index_or}
use Rattle.utreexo.specs.declared.types.Coin.{Coin}
use Rattle.utreexo.specs.declared.types.Value.{Value}
use Rattle.utreexo.specs.declared.types.Input.TheVariants.{Leaf}
use Rattle.utreexo.specs.Lists.{below, first}
use Rattle.utreexo.specs.Values.{Image, join}

-- A forest is a list of slots, from slot 0; each holds a coin or is blank. Its length is the count.
abbrev pub Slots : Type 0
Slots = List (Option Coin)

-- the value over one slot: absent if it is blank, else the leaf image of its coin
abbrev pub leaf_value : Image → Option Coin → Option Value
leaf_value image None = None
leaf_value image (Some c) = Some (image (Leaf c))

-- the value over the slots o × 2 ^ r to (o + 1) × 2 ^ r - 1, worked out from its two halves
abbrev pub value_over : Image → Slots → ℕ → ℕ → Option Value
value_over image s zero o = leaf_value image (slice_index_or s o None)
value_over image s (suc r) o = join image (value_over image s r (2 * o)) (value_over image s r (2 * o + 1))

-- Trees --------------------------------------------------------------------------
-- A tree of 2 ^ k slots stands for each bit k of the count that is one, from the left, the largest first.

-- bit k of n is one
abbrev pub bit : ℕ → ℕ → Bool
bit n k = (n / 2 ^ k) % 2 == 1

-- the place of the tree of row k among the runs of 2 ^ k slots
abbrev pub tree_place : ℕ → ℕ → ℕ
tree_place n k = n / 2 ^ k - 1

-- the root of the tree of row k; absent too where there is no such tree
abbrev pub root_of : Image → Slots → ℕ → Option Value
root_of image s k = cond (bit (length s) k) (value_over image s k (tree_place (length s) k)) None

-- the roots by row
abbrev pub roots_of : Image → Slots → List (Option Value)
roots_of image s = map (root_of image s) (below 32)

-- Rows and positions ---------------------------------------------------------------
-- Place o of row r spans the slots o × 2 ^ r to (o + 1) × 2 ^ r - 1. Its parent is place o / 2 of row r + 1.
pub record Node : Type 0 where
  pub row : ℕ
  pub place : ℕ

abbrev pub at_node : ℕ → ℕ → Node
at_node r o = record { row = r; place = o }

-- the least k from the given one on with n ≤ 2 ^ k, in so many steps
abbrev pub least_from : ℕ → ℕ → ℕ → ℕ
least_from zero k n = k
least_from (suc steps) k n = cond (nat_le n (2 ^ k)) k (least_from steps (suc k) n)

-- R: the least number with n ≤ 2 ^ R, which is at most 32 for such counts
abbrev pub rows : ℕ → ℕ
rows n = least_from 33 0 n

-- the position of place o of row r: row after row, from the slots up
abbrev pub position : ℕ → ℕ → ℕ → ℕ
position n r o = 2 ^ (rows n + 1) - 2 ^ (rows n + 1 - r) + o

-- the span of d lies inside the tree of row k
abbrev pub in_tree : ℕ → Node → ℕ → Bool
in_tree n d k = bit n k && (nat_le d.row k && d.place / 2 ^ (k - d.row) == tree_place n k)

-- the row of the tree that the span of d lies inside; d is in the forest if there is one
abbrev pub tree_of : ℕ → Node → Option ℕ
tree_of n d = first (in_tree n d) (below 32)

-- the row and place that have the number p, of row r or one of the next so many
abbrev pub row_from : ℕ → ℕ → ℕ → ℕ → Option Node
row_from n p zero r = None
row_from n p (suc more) r =
    cond (nat_le (position n r 0) p && nat_lt p (position n (r + 1) 0)) (Some (at_node r (p - position n r 0))) (row_from n p more (r + 1))

-- the same, if it is in the forest of n slots
abbrev pub if_inside : ℕ → Option Node → Option Node
if_inside n None = None
if_inside n (Some d) = cond (is_some (tree_of n d)) (Some d) None

-- the row and place of the position p, if it is in the forest of n slots
abbrev pub locate : ℕ → ℕ → Option Node
locate n p = if_inside n (row_from n p (rows n + 1) 0)

-- the place with the same parent
abbrev pub sibling : ℕ → ℕ
sibling o = cond (o % 2 == 0) (o + 1) (o - 1)

-- The position of a live slot --------------------------------------------------------
-- Bit j of the slot's number is struck out if the sibling run of 2 ^ j slots is wholly blank. The bits struck out, counted, are
-- the row; the others, closed up, are the place; and the values over the other sibling runs, from below, are the path.
pub record Struck : Type 0 where
  pub row : ℕ
  pub place : ℕ
  pub path : List Value

-- the lowest bit of o put before the bits above it, which are done: struck out if its sibling run has no value, else kept, with that value
-- at the front of the path
abbrev pub keep_bit : ℕ → Option Value → Struck → Struck
keep_bit o None k = record { row = k.row + 1; place = k.place; path = k.path }
keep_bit o (Some v) k = record { row = k.row; place = 2 * k.place + o % 2; path = v ∷ k.path }

-- the number o after striking, the values over the sibling runs of its lowest bits being these, from below
abbrev pub strike : List (Option Value) → ℕ → Struck
strike [] o = record { row = 0; place = o; path = [] }
strike (x ∷ xs) o = keep_bit o x (strike xs (o / 2))

-- the values over the sibling runs of a slot, below row k
abbrev pub siblings_of : Image → Slots → ℕ → ℕ → List (Option Value)
siblings_of image s slot k = map (λ j. value_over image s j (sibling (slot / 2 ^ j))) (below k)

-- the row of the tree of a slot; for one past the count it is of no account
abbrev pub tree_row : ℕ → ℕ → ℕ
tree_row n slot = elim (tree_of n (at_node 0 slot)) [ None ↦ 0 | Some k ↦ k ]

-- the row, place and path of a live slot
abbrev pub slot_struck : Image → Slots → ℕ → Struck
slot_struck image s slot = strike (siblings_of image s slot (tree_row (length s) slot)) slot
