-- The four lists of a readable block, by where they begin.
use Rattle.std.proofs.Common.{◌≡◌, ℕ, ◌+◌, ◌-◌, ◌*◌, ◌≤◌, List, [], ◌++◌, map, length, sym, ap, ◌∙◌, arith}
use Rattle.std.proofs.lemmas.Simd.{map-map}
use Rattle.utreexo.specs.declared.types.Coin.{Coin}
use Rattle.utreexo.specs.declared.types.Position.{Position}
use Rattle.utreexo.specs.Bytes.{Bytes, part, number_in, position_in, coin_in, value_in}
use Rattle.utreexo.specs.Lists.{below}
use Rattle.utreexo.specs.Blocks.{spent_count, hash_count, coin_count, entries}
use Rattle.block.specs.declared.entry.Counts.{Counts}
use Rattle.block.specs.Reader.{counts_in, targets_end, spent_end, hashes_end}
use Rattle.block.specs.Compose.{numbers}
use Rattle.laws.proofs.Reading.{Reads}
use Rattle.laws.proofs.Ranges.{length_map_below}
use Rattle.climb.specs.Held.{hashes_in}
use Rattle.proof.proofs.Listing.{record_at, records_part}

module _ (b : Bytes) where
  -- the same list from the same start, counted in another way
  same_start : {A : Type 0} (read : Bytes → A) (size start start' count count' : ℕ) → start ≡ start' → count ≡ count' → map (record_at size read b start) (below count) ≡ map (record_at size read b start') (below count')
  same_start read size start start' count count' e f = ap (λ s. map (record_at size read b s) (below count)) e ∙ ap (λ k. map (record_at size read b start') (below k)) f

  -- each list as it is read
  pub targets_read : (c : Counts) → c ≡ counts_in b → {ps empty : List Position} → empty ≡ [] → ps ≡ empty ++ map (record_at 8 position_in b 6) (below c.spent) → numbers ps ≡ (entries b).targets
  targets_read c e {ps} {empty} none p =
      ap numbers (p ∙ ap (λ (l : List Position). l ++ map (record_at 8 position_in b 6) (below c.spent)) none) ∙ map-map (λ (q : Position). q.number) (record_at 8 position_in b 6) (below c.spent) ∙ ap (λ k. map (λ i. number_in (part (6 + 8 * i) 8 b)) (below k)) (ap (λ (x : Counts). x.spent) e)

  pub spent_read : (c : Counts) → c ≡ counts_in b → {cs empty : List Coin} → empty ≡ [] → (start : ℕ) → start ≡ targets_end c → cs ≡ empty ++ map (record_at 32 coin_in b start) (below c.spent) → cs ≡ (entries b).spent
  spent_read c e {cs} {empty} none start s p = p ∙ ap (λ (l : List Coin). l ++ map (record_at 32 coin_in b start) (below c.spent)) none ∙ same_start coin_in 32 start (6 + 8 * spent_count b) c.spent (spent_count b) (s ∙ ap targets_end e) (ap (λ (x : Counts). x.spent) e)

  pub coins_read : (c : Counts) → c ≡ counts_in b → {cs empty : List Coin} → empty ≡ [] → (start : ℕ) → start ≡ hashes_end c → cs ≡ empty ++ map (record_at 32 coin_in b start) (below c.coins) → cs ≡ (entries b).coins
  coins_read c e {cs} {empty} none start s p =
      p ∙ ap (λ (l : List Coin). l ++ map (record_at 32 coin_in b start) (below c.coins)) none ∙ same_start coin_in 32 start (6 + 40 * spent_count b + 32 * hash_count b) c.coins (coin_count b) (s ∙ ap hashes_end e ∙ omega arith) (ap (λ (x : Counts). x.coins) e)

  pub hashes_read : Reads b → (c : Counts) → c ≡ counts_in b → (start end : ℕ) → start ≡ spent_end c → end ≡ hashes_end c → hashes_in (part start (end - start) b) ≡ (entries b).hashes
  hashes_read r c e start end s t =
      let from : start ≡ 6 + 40 * spent_count b = s ∙ ap spent_end e ∙ omega arith in
      let to : end ≡ 6 + 40 * spent_count b + 32 * hash_count b = t ∙ ap hashes_end e ∙ omega arith in
      let long = r.whole in
      let size : end - start ≡ 32 * hash_count b = omega arith in
      ap (λ k. hashes_in (part start k b)) size ∙ ap (λ k. hashes_in (part k (32 * hash_count b) b)) from
      ∙ records_part 32 value_in b (6 + 40 * spent_count b) (hash_count b) (omega arith) (omega arith)

  -- as many targets as coins, and not too many
  pub length_targets : Reads b → length (entries b).targets ≤ 32
  length_targets r = let n = length_map_below (λ i. number_in (part (6 + 8 * i) 8 b)) (spent_count b) in let few = r.spent_few in omega arith

  pub same_length : length (entries b).targets ≡ length (entries b).spent
  same_length = length_map_below (λ i. number_in (part (6 + 8 * i) 8 b)) (spent_count b) ∙ sym (length_map_below (λ i. coin_in (part (6 + 8 * spent_count b + 32 * i) 32 b)) (spent_count b))

  pub length_hashes : (c : Counts) → c ≡ counts_in b → c.hashes ≡ length (entries b).hashes
  length_hashes c e = ap (λ (x : Counts). x.hashes) e ∙ sym (length_map_below (λ i. value_in (part (6 + 40 * spent_count b + 32 * i) 32 b)) (hash_count b))
