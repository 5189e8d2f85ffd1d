-- The bridge holds the whole forest, over a keeper of some capacity. Card, write and challenge are those of its slots; here are its
-- state, take and take back, and what find and look up may answer.
use Rattle.std.specs.Prelude.{◌≡◌, ℕ, ◌+◌, not, ◌≢◌, List, [], ◌∷◌, ◌++◌, map, length, take, Some, None, Option, nat_lt, slice_index_or, slice_set}
use Rattle.utreexo.specs.declared.types.Coin.{Coin}
use Rattle.utreexo.specs.Bytes.{Bytes, Octets}
use Rattle.utreexo.specs.Lists.{any}
use Rattle.utreexo.specs.Values.{Image}
use Rattle.utreexo.specs.Forest.{Slots}
use Rattle.utreexo.specs.Blocks.{entries, ascending}
use Rattle.utreexo.specs.Checks.{Cause, cause, refusal, Answer, granted, refused, Step, step, when_granted, push, most_slots, read_causes, targets_of, place_causes}
use Rattle.utreexo.specs.Wallet.{Call, take_block, take_back}
use Rattle.utreexo.specs.Collection.{target_live, same_values, fresh, slots_after, slots_named, no_coin, card}

-- a mark: the count before a block, and the slots that it blanked with their coins
pub record Undo : Type 0 where
  pub count : ℕ
  pub spent : List ℕ
  pub coins : List Coin

-- the bridge: its keeper's capacity and slots, and its marks, the newest first
pub record Bridge : Type 0 where
  pub capacity : ℕ
  pub slots : Slots
  pub marks : List Undo

-- a bridge over an empty keeper
abbrev pub new_bridge : ℕ → Bridge
new_bridge capacity = record { capacity = capacity; slots = []; marks = [] }

-- the causes for which take is refused, in their order: a bridge looks at its slots, so 16 and 17 stand for a wallet's 9 and 10
abbrev pub bridge_take_causes : Image → ℕ → Slots → Bytes → List Cause
bridge_take_causes image capacity s bs =
    let b = entries bs in
    let ts = targets_of (length s) b in
    read_causes bs ++ (cause 4 (not (ascending b.targets)) ∷ place_causes (length s) b
    ++ (cause 11 (nat_lt most_slots (length s + length b.coins))
    ∷ cause 16 (any (λ t. not (target_live image s t)) ts)
    ∷ cause 17 (not (same_values b.hashes (fresh image s ts)))
    ∷ cause 18 (nat_lt capacity (length s + length b.coins)) ∷ []))

-- the mark of a block, of the slots before it
abbrev pub undo_of : Image → Slots → Bytes → Undo
undo_of image s b =
    let ws = slots_named image s (entries b) in
    record { count = length s; spent = ws; coins = map (λ w. elim (slice_index_or s w None) [ None ↦ no_coin | Some c ↦ c ]) ws }

-- the slots once these hold these coins again
abbrev pub refilled : List ℕ → List Coin → Slots → Slots
refilled [] cs s = s
refilled (w ∷ ws) [] s = s
refilled (w ∷ ws) (c ∷ cs) s = refilled ws cs (slice_set s w (Some c))

-- the slots before the block: those past the count are cut, the blanked ones filled again
abbrev pub undone : Undo → Slots → Slots
undone u s = refilled u.spent u.coins (take u.count s)

-- the calls that change a bridge
pub data BridgeCall : Type 0 where
  bridge_take : Bytes → BridgeCall
  bridge_take_back : BridgeCall

-- a call's answer, and the bridge after it; the bridge keeps 64 marks
abbrev pub bridge_step : Image → BridgeCall → Bridge → Step Bridge
bridge_step image (bridge_take b) g =
    when_granted (refusal (bridge_take_causes image g.capacity g.slots b))
    (record { capacity = g.capacity; slots = slots_after image b g.slots; marks = push 64 (undo_of image g.slots b) g.marks }) g
bridge_step image bridge_take_back g =
    elim g.marks [ [] ↦ step (refused 14) g | m ∷ ms ↦ step (granted []) (record { capacity = g.capacity; slots = undone m g.slots; marks = ms }) ]

-- the wallet's call of the same name
abbrev pub as_call : BridgeCall → Call
as_call (bridge_take b) = take_block b
as_call bridge_take_back = take_back

-- a block given to the bridge is bytes
abbrev pub GivenOctets : BridgeCall → Type 0
GivenOctets (bridge_take b) = Octets b
GivenOctets bridge_take_back = Unit {0}

-- Find gives some live slot with the coin, or none exactly if there is none. Which of several is its one free answer.
abbrev pub Found : Slots → Coin → Option ℕ → Type 0
Found s c None = (w : ℕ) → slice_index_or s w None ≢ Some c
Found s c (Some w) = slice_index_or s w None ≡ Some c

-- look up is find, then card
abbrev pub looked_up : Image → Slots → Option ℕ → Bytes → Answer
looked_up image s None out = refused 16
looked_up image s (Some w) out = card image s w out
