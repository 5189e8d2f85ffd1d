-- Laws that show the definitions to be the right ones, for forests of fewer than `bound` slots; the functions of this crate state them at
-- the bound 2 ^ 32. The last has this bound in itself, and another parameter.
use Rattle.std.specs.Prelude.{◌≡◌, ℕ, ◌*◌, ◌/◌, ◌^◌, ◌<◌, ◌≤◌, true, List, [], ◌∷◌, length, is_some, Some, None, nat_lt, slice_index_or}
use Rattle.utreexo.specs.declared.types.Coin.{Coin}
use Rattle.utreexo.specs.declared.types.Input.{Input}
use Rattle.utreexo.specs.Values.{Image}
use Rattle.utreexo.specs.Forest.{Slots, Node, at_node, rows, bit, tree_place, tree_of, position, locate, value_over}
use Rattle.utreexo.specs.Claims.{Target, beneath, needed}
use Rattle.utreexo.specs.Wallet.{position_of}
use Rattle.utreexo.specs.Collection.{slot_held, slot_at, own_input, value_at, fresh}

-- R is the least row in which one place spans all slots
abbrev pub RowsLeast : ℕ → Type 0
RowsLeast bound = (n : ℕ) → n < bound → (n ≤ 2 ^ rows n) × ((k : ℕ) → n ≤ 2 ^ k → rows n ≤ k)

-- a place of the forest is found by its position, and what is found at a position has that position
abbrev pub OnePosition : ℕ → Type 0
OnePosition bound =
    ((n r o k : ℕ) → n < bound → tree_of n (at_node r o) ≡ Some k → locate n (position n r o) ≡ Some (at_node r o))
    × ((n p : ℕ) (d : Node) → locate n p ≡ Some d → position n d.row d.place ≡ p)

-- a place is in the forest exactly if it is below n / 2 ^ row: the run that it spans lies within the count
abbrev pub InsideExactly : ℕ → Type 0
InsideExactly bound = (n r o : ℕ) → n < bound → is_some (tree_of n (at_node r o)) ≡ nat_lt o (n / 2 ^ r)

-- a live slot has a position in the forest; it is the slot found there, and no other live slot has that position
abbrev pub LivePositions : ℕ → Type 0
LivePositions bound = (image : Image) (s : Slots) → length s < bound → (i : ℕ) (c : Coin) → slice_index_or s i None ≡ Some c →
    let h = slot_held image s i c in
    (locate (length s) (position_of (length s) h) ≡ Some (at_node h.row h.place))
    × (slot_at image s (at_node h.row h.place) ≡ Some i)
    × ((j : ℕ) (e : Coin) → slice_index_or s j None ≡ Some e → position_of (length s) (slot_held image s j e) ≡ position_of (length s) h → j ≡ i)

-- where a live slot's coin is
abbrev pub where_is : Image → Slots → ℕ → Coin → Node
where_is image s i c = let h = slot_held image s i c in at_node h.row h.place

-- no live slot's position is above another's: beneath a live slot's position, or at it, is no other's
abbrev pub PositionsApart : ℕ → Type 0
PositionsApart bound = (image : Image) (s : Slots) → length s < bound → (i j : ℕ) (c e : Coin) → slice_index_or s i None ≡ Some c → slice_index_or s j None ≡ Some e →
    beneath (where_is image s i c) (where_is image s j e) ≡ true → i ≡ j

-- a place of the forest has an own input exactly if some live slot's position lies there or beneath
abbrev pub InputsOverCoins : ℕ → Type 0
InputsOverCoins bound = (image : Image) (s : Slots) → length s < bound → (r o k : ℕ) → tree_of (length s) (at_node r o) ≡ Some k →
    ((x : Input) → own_input image s r o ≡ Some x →
    (i : ℕ) × (c : Coin) × (slice_index_or s i None ≡ Some c) × (beneath (where_is image s i c) (at_node r o) ≡ true))
    × ((i : ℕ) (c : Coin) → slice_index_or s i None ≡ Some c → beneath (where_is image s i c) (at_node r o) ≡ true →
    is_some (own_input image s r o) ≡ true)

-- the value at a root position is the value over the tree, which is the root
abbrev pub RootValues : ℕ → Type 0
RootValues bound = (image : Image) (s : Slots) → length s < bound → (k : ℕ) → bit (length s) k ≡ true →
    value_at image s (at_node k (tree_place (length s) k)) ≡ value_over image s k (tree_place (length s) k)

-- the path of a live slot is the fresh proof for its position alone
abbrev pub PathsFresh : ℕ → Type 0
PathsFresh bound = (image : Image) (s : Slots) → length s < bound → (i : ℕ) (c : Coin) → slice_index_or s i None ≡ Some c →
    let h = slot_held image s i c in
    h.path ≡ fresh image s (record { node = at_node h.row h.place; coin = c } ∷ [])

-- a proof in a forest of fewer than 2 ^ 32 slots needs at most `most` hashes for each target
abbrev pub NeededFew : ℕ → Type 0
NeededFew most = (s : Slots) → length s < 2 ^ 32 → (ts : List Target) → length (needed (length s) ts) ≤ most * length ts
