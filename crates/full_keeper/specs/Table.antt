-- The table of a full keeper.
use Rattle.std.specs.Prelude.{◌≡◌, ℕ, ◌+◌, ◌-◌, ◌/◌, ◌^◌, ◌<◌, ◌≤◌, List, length, None, Option, ◌≢◌, slice_index_or}
use Rattle.utreexo.specs.declared.types.Value.{Value}
use Rattle.utreexo.specs.Values.{Image}
use Rattle.utreexo.specs.Forest.{Slots, value_over, position}

abbrev pub Table : Type 0
Table = List (Option Value)

-- the table has the value over each run within the slots, at its position
abbrev pub AtPositions : Image → Slots → Table → Type 0
AtPositions image s t = (r o : ℕ) → o < length s / 2 ^ r → slice_index_or t (position (length s) r o) None ≡ value_over image s r o

-- The same by R -------------------------------------------------------------------------

-- the position of place o of row r, with R rows above the slots
abbrev pub index : ℕ → ℕ → ℕ → ℕ
index R r o = 2 ^ (R + 1) - 2 ^ (R + 1 - r) + o

abbrev pub Stored : Image → Slots → ℕ → Table → Type 0
Stored image s R t = (r o : ℕ) → o < length s / 2 ^ r → slice_index_or t (index R r o) None ≡ value_over image s r o

-- so it is, save for the runs of row j and above that hold slot i
abbrev pub StoredBut : Image → Slots → ℕ → Table → ℕ → ℕ → Type 0
StoredBut image s R t i j =
    (r o : ℕ) → o < length s / 2 ^ r → (j ≤ r → i / 2 ^ r ≢ o) → slice_index_or t (index R r o) None ≡ value_over image s r o

-- the entries of n slots that t has by R, u has by Q
abbrev pub Laid : ℕ → ℕ → ℕ → Table → Table → Type 0
Laid n R Q t u = (r o : ℕ) → o < n / 2 ^ r → slice_index_or u (index Q r o) None ≡ slice_index_or t (index R r o) None
