-- The code's marks as marks of the definitions, and what blanking and undoing make of a list of slots.
use Rattle.std.specs.Prelude.{ℕ, Bool, true, cond, not, ◌&&◌, List, [], ◌∷◌, map, length, take, is_some, Some, None, Option, nat_eq, nat_le, slice_index_or}
use Rattle.utreexo.specs.declared.types.Coin.{Coin}
use Rattle.utreexo.specs.Lists.{below, filter, any, first}
use Rattle.utreexo.specs.Forest.{Slots}
use Rattle.utreexo.specs.Values.{Image}
use Rattle.utreexo.specs.Claims.{Target}
use Rattle.utreexo.specs.Collection.{no_coin, slot_at}
use Rattle.utreexo.specs.Bridge.{Undo, undone}
use Rattle.history.specs.Stack.{stack}
use Rattle.undo.specs.declared.mark.Blanked.{Blanked}
use Rattle.undo.specs.declared.mark.Mark.{Mark}
use Rattle.undo.specs.declared.marks.Marks.{Marks}

-- those that are there
abbrev pub present : {A : Type 0} → List (Option A) → List A
present [] = []
present (None ∷ xs) = present xs
present (Some x ∷ xs) = x ∷ present xs

-- the slots of a mark, with their coins, in the order of the block's targets
abbrev pub listed : Mark → List Blanked
listed r = present r.blanked

-- slot w is among them
abbrev pub names : List Blanked → ℕ → Bool
names bs w = any (λ b. nat_eq b.slot.number w) bs

-- its coin there; where it is not among them, the coin is of no account
abbrev pub coin_there : List Blanked → ℕ → Coin
coin_there bs w = elim (first (λ b. nat_eq b.slot.number w) bs) [ None ↦ no_coin | Some b ↦ b.coin ]

-- The mark of the definitions: its slots are put in ascending order.
abbrev pub undo_of : Mark → Undo
undo_of r =
    let bs = listed r in
    let ws = filter (names bs) (below r.count) in
    record { count = r.count; spent = ws; coins = map (coin_there bs) ws }

-- the same of a mark that there may be
abbrev pub undo_in : Option Mark → Option Undo
undo_in None = None
undo_in (Some r) = Some (undo_of r)

-- the marks that are held, the newest first
abbrev pub marks_of : Marks → List Undo
marks_of u = map undo_of (stack u.places u.ring)

-- the slots once these are blank
abbrev pub blanked : List Blanked → Slots → Slots
blanked bs s = map (λ w. cond (names bs w) None (slice_index_or s w None)) (below (length s))

-- slot w once these are filled again: a live one keeps its coin
abbrev pub filled : List Blanked → ℕ → Option Coin → Option Coin
filled bs w None = cond (names bs w) (Some (coin_there bs w)) None
filled bs w (Some c) = Some c

-- the slots once a mark is undone, whichever they were: those past its count are cut, and its own are filled
abbrev pub undone_by : Mark → Slots → Slots
undone_by r s = let t = take r.count s in map (λ w. filled (listed r) w (slice_index_or t w None)) (below (length t))

-- what a block's target blanks: the slot that has its position, and the coin that it names
abbrev pub target_entry : Image → Slots → Target → Blanked
target_entry image s t = record { slot = record { number = elim (slot_at image s t.node) [ None ↦ 0 | Some w ↦ w ] }; coin = t.coin }

-- All these marks can be undone, one after the other: then there are no fewer slots than the mark counts, and those that the block
-- blanked are blank.
abbrev pub undoable : List Undo → Slots → Bool
undoable [] s = true
undoable (m ∷ ms) s = nat_le m.count (length s) && (not (any (λ w. is_some (slice_index_or s w None)) m.spent) && undoable ms (undone m s))
