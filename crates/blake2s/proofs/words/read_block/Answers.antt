use Rattle.std.proofs.Common.{◌≡◌, ℕ, [], ◌/◌, List, length, get_or, rules, refl, ap, ◌∙◌, sym, map, subst}
use Rattle.std.specs.List.{range_with_len}
use Rattle.std.specs.Int.{from_le_bytes, w32}
use Rattle.std.specs.Simd.{first_chunks}
use Rattle.blake2s.specs.Blake2s.{block_words}
use Rattle.blake2s.proofs.Arrays.{made, elements}
use Rattle.blake2s.proofs.words.read_block.Goals as goal

abbrev words_of : List (List ℕ) → List ℕ
words_of cs = map (λ k. from_le_bytes w32 (get_or cs k [])) (range_with_len 0 16)

read : (bs : List ℕ) → length bs ≡ 64 → words_of (first_chunks 4 16 bs) ≡ block_words bs
read bs long = let P = λ (xs : List ℕ). words_of (first_chunks 4 16 xs) ≡ block_words xs in subst P (sym (elements bs 64 long)) refl

pub returns : goal.returns
returns c = made _ _ (λ k. from_le_bytes w32 (get_or c.as_chunks.result.0.now k [])) (λ i r f' call. search rules) c.from_fn.result 16 c.from_fn.ensures.items ∙ ap words_of (c.as_chunks.ensures.front ∙ ap (λ n. first_chunks 4 (n / 4) c.args.bytes.now) c.told-bytes) ∙ read c.args.bytes.now c.told-bytes
