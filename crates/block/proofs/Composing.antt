-- A block's parts, written one after the other, are the block.
use Rattle.std.proofs.Common.{◌≡◌, ℕ, ◌+◌, ◌<◌, ◌≤◌, List, [], ◌∷◌, ◌++◌, map, length, None, sym, refl, ap, ◌∙◌, arith, length-append}
use mathlib.Core.List.{map-map}
use lib.ListN.{length-map}
use Rattle.std.proofs.lemmas.Bool.Decides.{nat_tests}
use Rattle.utreexo.specs.declared.types.Coin.{Coin}
use Rattle.utreexo.specs.declared.types.Position.{Position}
use Rattle.utreexo.specs.declared.types.Value.{Value}
use Rattle.utreexo.specs.Bytes.{Bytes, number_bytes, position_bytes, coin_bytes, value_bytes}
use Rattle.utreexo.specs.Blocks.{composed, concat}
use Rattle.utreexo.specs.Checks.{refusal, refused, over, compose, compose_causes}
use Rattle.laws.proofs.Packing.{packed_length}
use Rattle.block.specs.declared.entry.Counts.{Counts}
use Rattle.block.specs.Compose.{numbers, block_of, counts_of, placed}
use Rattle.block.specs.Reader.{coins_end}
use Rattle.block.proofs.Placing.{five_parts}

-- the counts as bytes
abbrev heads : Counts → Bytes
heads n = concat (map (number_bytes 2) (n.spent ∷ n.hashes ∷ n.coins ∷ []))

module _ (ts : List Position) (ss : List Coin) (hs : List Value) (cs : List Coin) where
  abbrev T : Bytes
  T = concat (map position_bytes ts)

  abbrev S : Bytes
  S = concat (map coin_bytes ss)

  abbrev H : Bytes
  H = concat (map value_bytes hs)

  abbrev C : Bytes
  C = concat (map coin_bytes cs)

  -- a block's bytes, part by part
  in_parts : heads (counts_of ss hs cs) ++ (T ++ (S ++ (H ++ C))) ≡ composed (block_of ts ss hs cs)
  in_parts = ap (λ ps. heads (counts_of ss hs cs) ++ (concat ps ++ (S ++ (H ++ C)))) (sym (map-map (number_bytes 8) (λ p. p.number) ts))

  pub composed_parts : length (composed (block_of ts ss hs cs)) ≡ 6 + length T + length S + length H + length C
  composed_parts = sym (ap length in_parts) ∙ (omega (arith, length-append T (S ++ (H ++ C)), length-append S (H ++ C), length-append H C))

  pub block_written : (n : Counts) (old o₁ o₂ o₃ o₄ o₅ : Bytes) (k₂ k₃ k₄ k₅ : ℕ) → n ≡ counts_of ss hs cs
      → length (composed (block_of ts ss hs cs)) ≤ length old → length o₁ ≡ length old → length o₂ ≡ length o₁ → length o₃ ≡ length o₂
      → k₂ ≡ 0 + length (heads n) → k₃ ≡ k₂ + length T → k₄ ≡ k₃ + length S → k₅ ≡ k₄ + length H
      → o₁ ≡ placed 0 (heads n) old → o₂ ≡ placed k₂ T o₁ → o₃ ≡ placed k₃ S o₂ → o₄ ≡ placed k₄ H o₃ → o₅ ≡ placed k₅ C o₄
      → o₅ ≡ over (composed (block_of ts ss hs cs)) old
  block_written n old o₁ o₂ o₃ o₄ o₅ k₂ k₃ k₄ k₅ is room l₁ l₂ l₃ q₂ q₃ q₄ q₅ p₁ p₂ p₃ p₄ p₅ =
      let l = composed_parts in
      five_parts k₂ k₃ k₄ k₅ (heads n) T S H C old o₁ o₂ o₃ o₄ o₅ q₂ q₃ q₄ q₅ (omega arith) (omega arith) (omega arith) p₁ p₂ p₃ p₄ p₅
      ∙ ap (λ b. over b old) (ap (λ m. heads m ++ (T ++ (S ++ (H ++ C)))) is ∙ in_parts)

-- how long that is
pub composed_long : (ts : List Position) (ss : List Coin) (hs : List Value) (cs : List Coin) → length ts ≡ length ss
    → length (composed (block_of ts ss hs cs)) ≡ coins_end (counts_of ss hs cs)
composed_long ts ss hs cs e =
    let p = composed_parts ts ss hs cs in
    let t = packed_length position_bytes 8 (λ p. refl) ts in
    let s = packed_length coin_bytes 32 (λ c. refl) ss in
    let h = packed_length value_bytes 32 (λ v. refl) hs in
    let n = packed_length coin_bytes 32 (λ c. refl) cs in
    omega arith

-- what compose answers where the output is too short; its causes go by the number of targets
pub compose_short : (ts : List Position) (ss : List Coin) (hs : List Value) (cs : List Coin) (out : Bytes)
    → refusal (compose_causes (length ts) (length ss) (length hs) (length cs)) ≡ None → length out < length (composed (block_of ts ss hs cs))
    → refused 19 ≡ compose (numbers ts) ss hs cs out
compose_short ts ss hs cs out e l =
    let m = length-map ts (λ p. p.number) in
    grind (arith, nat_tests)
