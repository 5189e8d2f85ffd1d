-- What the calls of a keeper answer, and its slots after them.
use Rattle.std.specs.Prelude.{◌≡◌, ℕ, ◌+◌, ◌-◌, ◌*◌, ◌^◌, ◌<◌, Bool, true, false, cond, [], ◌∷◌, ◌++◌, length, take, is_some, Some, None, Ok, Err, Option, Result, nat_le, nat_lt, slice_index_or, slice_set}
use Rattle.refusal.specs.declared.Refusal.{Refusal}
use Rattle.refusal.specs.declared.Refusal.TheVariants.{NotFound, OverCapacity}
use Rattle.utreexo.specs.declared.types.Coin.{Coin}
use Rattle.utreexo.specs.declared.types.Value.{Value}
use Rattle.utreexo.specs.Values.{Image}
use Rattle.utreexo.specs.Forest.{Slots, value_over}

-- Questions ----------------------------------------------------------------------------

-- the coin of a slot, absent if it is blank
abbrev pub coin_read : Slots → ℕ → Result (Option Coin) Refusal
coin_read s i = cond (nat_lt i (length s)) (Ok (slice_index_or s i None)) (Err NotFound)

-- the run of 2 ^ row slots at the place lies within the count
abbrev pub run_within : ℕ → ℕ → ℕ → Bool
run_within n row place = nat_le ((place + 1) * 2 ^ row) n

-- the value over a run, absent if it is wholly blank
abbrev pub value_read : Image → Slots → ℕ → ℕ → Result (Option Value) Refusal
value_read image s row place = cond (run_within (length s) row place) (Ok (value_over image s row place)) (Err NotFound)

-- Changes ------------------------------------------------------------------------------
-- Each says when the call is granted, and the slots t after it; a refused call leaves them as they were.

-- slot i holds a coin; one past the count does not
abbrev pub live : Slots → ℕ → Bool
live s i = is_some (slice_index_or s i None)

abbrev pub Appended : Slots → ℕ → Coin → Result (Unit {0}) Refusal → Slots → Type 0
Appended s capacity c (Ok u) t = (length s < capacity) × (t ≡ s ++ (Some c ∷ []))
Appended s capacity c (Err e) t = (length s ≡ capacity) × (e ≡ OverCapacity) × (t ≡ s)

abbrev pub Blanked : Slots → ℕ → Result (Unit {0}) Refusal → Slots → Type 0
Blanked s i (Ok u) t = (i < length s) × (live s i ≡ true) × (t ≡ slice_set s i None)
Blanked s i (Err e) t = (i < length s → live s i ≡ false) × (e ≡ NotFound) × (t ≡ s)

abbrev pub Refilled : Slots → ℕ → Coin → Result (Unit {0}) Refusal → Slots → Type 0
Refilled s i c (Ok u) t = (i < length s) × (live s i ≡ false) × (t ≡ slice_set s i (Some c))
Refilled s i c (Err e) t = (i < length s → live s i ≡ true) × (e ≡ NotFound) × (t ≡ s)

abbrev pub Cut : Slots → Result (Unit {0}) Refusal → Slots → Type 0
Cut s (Ok u) t = (0 < length s) × (t ≡ take (length s - 1) s)
Cut s (Err e) t = (length s ≡ 0) × (e ≡ NotFound) × (t ≡ s)
