-- The reader: the entries of a block one at a time, each with its offset from the block's first byte and the unread rest.
use Rattle.std.specs.Prelude.{◌≡◌, ℕ, zero, suc, ◌+◌, ◌*◌, Bool, true, false, cond, List, [], ◌∷◌, ◌++◌, map, length, take, drop, None, nat_lt}
use Rattle.std.specs.Borrow.{Bor}
use Rattle.utreexo.specs.declared.types.Coin.{Coin}
use Rattle.utreexo.specs.declared.types.Value.{Value}
use Rattle.utreexo.specs.Bytes.{Bytes, part, number_in, coin_in, value_in}
use Rattle.utreexo.specs.Lists.{below}
use Rattle.utreexo.specs.Blocks.{Block, concat, spent_count, hash_count, coin_count, entries}
use Rattle.utreexo.specs.Checks.{refusal, read_causes}
use Rattle.block.specs.declared.entry.Counts.{Counts}
use Rattle.block.specs.declared.entry.Entry.{Entry}
use Rattle.block.specs.declared.entry.Entry.TheVariants.{Target, Spent, Hash, New, End}

-- the counts in a block's first six bytes
abbrev pub counts_in : Bytes → Counts
counts_in b = record { spent = spent_count b; hashes = hash_count b; coins = coin_count b }

-- an entry by the bytes that it holds
pub data Part : Type 0 where
  target : Bytes → Part
  spent : Bytes → Part
  hash : Bytes → Part
  new : Bytes → Part
  end : Part

abbrev pub part_of : Entry → Part
part_of (Target b) = target b.now
part_of (Spent b) = spent b.now
part_of (Hash b) = hash b.now
part_of (New b) = new b.now
part_of End = end

-- where the targets, the spent coins, the hashes and the new coins end
abbrev pub targets_end : Counts → ℕ
targets_end c = 6 + 8 * c.spent

abbrev pub spent_end : Counts → ℕ
spent_end c = targets_end c + 32 * c.spent

abbrev pub hashes_end : Counts → ℕ
hashes_end c = spent_end c + 32 * c.hashes

abbrev pub coins_end : Counts → ℕ
coins_end c = hashes_end c + 32 * c.coins

-- the offset of the entry after the one at offset o; the first entry, after none, is at 6
abbrev pub next_offset : Counts → ℕ → ℕ
next_offset c o = cond (nat_lt o 6) 6 (cond (nat_lt o (targets_end c)) (o + 8) (o + 32))

-- an entry of so many bytes at offset o, off the front of the unread bytes; the end where they are too few
abbrev pub taken : (Bytes → Part) → ℕ → ℕ → ℕ → Bytes → Part × ℕ × Bytes
taken kind size before o rest = cond (nat_lt (length rest) size) (end, before, rest) (kind (take size rest), o, drop size rest)

-- the entry at offset o, the one before it being at the other offset
abbrev pub entry_at : Counts → ℕ → ℕ → Bytes → Part × ℕ × Bytes
entry_at c before o rest =
    cond (nat_lt o (targets_end c)) (taken target 8 before o rest)
    (cond (nat_lt o (spent_end c)) (taken spent 32 before o rest)
    (cond (nat_lt o (hashes_end c)) (taken hash 32 before o rest)
    (cond (nat_lt o (coins_end c)) (taken new 32 before o rest)
    (end, before, rest))))

-- one answer of the reader: the next entry, its offset, and the unread rest; at the end, what it was given
abbrev pub read_next : Counts → ℕ → Bytes → Part × ℕ × Bytes
read_next c before rest = entry_at c before (next_offset c before) rest

-- the code's answer is that
abbrev pub Reads : Counts → ℕ → Bytes → Entry × ℕ × Bor Bytes → Type 0
Reads c before rest r = ◌≡◌ {A = Part × ℕ × Bytes} (part_of r.0, r.1, r.2.now) (read_next c before rest)

-- Whole runs ---------------------------------------------------------------------------------

abbrev pub is_end : Part → Bool
is_end (target b) = false
is_end (spent b) = false
is_end (hash b) = false
is_end (new b) = false
is_end end = true

abbrev pub bytes_of : Part → Bytes
bytes_of (target b) = b
bytes_of (spent b) = b
bytes_of (hash b) = b
bytes_of (new b) = b
bytes_of end = []

-- the reader called until the end, so many times at most: the entries with their offsets
abbrev pub read_run : ℕ → Counts → ℕ → Bytes → List (Part × ℕ)
read_run zero c before rest = []
read_run (suc more) c before rest =
    let r = read_next c before rest in
    cond (is_end r.0) [] ((r.0, r.1) ∷ read_run more c r.1 r.2)

-- m entries of w bytes each, from an offset on
abbrev pub entries_from : (Bytes → Part) → ℕ → ℕ → ℕ → Bytes → List (Part × ℕ)
entries_from kind w from m b = map (λ i. (kind (part (from + w * i) w b), from + w * i)) (below m)

-- the entries of a block in their order, each with its offset
abbrev pub all_entries : Bytes → List (Part × ℕ)
all_entries b =
    let c = counts_in b in
    entries_from target 8 6 c.spent b
    ++ (entries_from spent 32 (targets_end c) c.spent b
    ++ (entries_from hash 32 (spent_end c) c.hashes b
    ++ entries_from new 32 (hashes_end c) c.coins b))

-- What was read, as a block: its targets as numbers, its coins and hashes as records.
abbrev pub target_in : Part → List ℕ
target_in (target b) = number_in b ∷ []
target_in (spent b) = []
target_in (hash b) = []
target_in (new b) = []
target_in end = []

abbrev pub spent_in : Part → List Coin
spent_in (target b) = []
spent_in (spent b) = coin_in b ∷ []
spent_in (hash b) = []
spent_in (new b) = []
spent_in end = []

abbrev pub hash_in : Part → List Value
hash_in (target b) = []
hash_in (spent b) = []
hash_in (hash b) = value_in b ∷ []
hash_in (new b) = []
hash_in end = []

abbrev pub new_in : Part → List Coin
new_in (target b) = []
new_in (spent b) = []
new_in (hash b) = []
new_in (new b) = coin_in b ∷ []
new_in end = []

-- what these parts give, joined up in their order
abbrev pub gathered : {A : Type 0} → (Part → List A) → List (Part × ℕ) → List A
gathered of [] = []
gathered of (e ∷ es) = of e.0 ++ gathered of es

-- the block that these parts make
abbrev pub read_as : List (Part × ℕ) → Block
read_as es = record { targets = gathered target_in es; spent = gathered spent_in es; hashes = gathered hash_in es; coins = gathered new_in es }

-- The reader's run over a readable block, begun with this offset for the entry before the first, and with as many calls as there are
-- entries or more, gives exactly these. They are the block's entries, and their bytes, after the six of the counts, join up to it.
abbrev pub RunReads : ℕ → Type 0
RunReads before_first = (b : Bytes) → refusal (read_causes b) ≡ None → (more : ℕ) →
    let c = counts_in b in
    (read_run (c.spent + (c.spent + (c.hashes + (c.coins + more)))) c before_first (drop 6 b) ≡ all_entries b)
    × (read_as (all_entries b) ≡ entries b)
    × (take 6 b ++ concat (map (λ e. bytes_of e.0) (all_entries b)) ≡ b)
