use Rattle.std.proofs.Common.{◌/◌, ◌%◌, get_or, ap, sym, ◌∙◌, rules}
use Rattle.std.specs.List.{flat_map}
use Rattle.std.specs.Int.{to_le_bytes, w32}
use Rattle.blake2s.specs.Blake2s.{word_bytes}
use Rattle.blake2s.proofs.Arrays.{made, elements}
use Rattle.blake2s.proofs.words.write_state.Goals as goal

pub returns : goal.returns
returns c =
    made _ _ (λ i. get_or (to_le_bytes w32 (get_or c.args.h (i / 4) 0)) (i % 4) 0) (λ i r f' call. search rules) c.from_fn.result 32 c.from_fn.ensures.items ∙ ap (flat_map word_bytes) (sym (elements c.args.h 8 (search rules)))
