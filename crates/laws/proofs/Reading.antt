-- The counts of bytes that read as a block.
use Rattle.std.proofs.Common.{◌≡◌, ℕ, ◌+◌, ◌*◌, ◌≤◌, ◌||◌, ltb, length, None}
use Rattle.std.proofs.lemmas.Bool.{ltb-false, eqb-true, or_parts, not-false}
use Rattle.utreexo.specs.Bytes.{Bytes}
use Rattle.utreexo.specs.Blocks.{spent_count, hash_count, coin_count}
use Rattle.utreexo.specs.Checks.{refusal, read_causes}
use Rattle.laws.proofs.Causes.{free}

-- the length that the counts tell
abbrev pub whole_length : Bytes → ℕ
whole_length b = 6 + 40 * spent_count b + 32 * hash_count b + 32 * coin_count b

-- the counts of bytes that read
pub record Reads (b : Bytes) : Type 0 where
  pub spent_few : spent_count b ≤ 32
  pub hashes_few : hash_count b ≤ 992
  pub coins_few : coin_count b ≤ 32
  pub whole : length b ≡ whole_length b

-- bytes that read have such counts
pub reads : (b : Bytes) → refusal (read_causes b) ≡ None → Reads b
reads b e =
    let p = free (read_causes b) e in
    let u = or_parts (ltb 32 (spent_count b)) (ltb 992 (hash_count b) || ltb 32 (coin_count b)) p.1.0 in
    let v = or_parts (ltb 992 (hash_count b)) (ltb 32 (coin_count b)) u.1 in
    record {
      spent_few = ltb-false 32 (spent_count b) u.0;
      hashes_few = ltb-false 992 (hash_count b) v.0;
      coins_few = ltb-false 32 (coin_count b) v.1;
      whole = eqb-true (length b) (whole_length b) (not-false _ p.1.1.0);
    }
