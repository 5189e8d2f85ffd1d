use Rattle.std.proofs.Common.{ap, ◌∙◌, arith}
use Rattle.std.proofs.lemmas.Bool.Decides.{nat_tests}
use Rattle.std.specs.List.{flat_map}
use Rattle.blake2s.specs.Blake2s.{blake2s, word_bytes}
use Rattle.blake2s.proofs.Blocks.{last, one, two}
use Rattle.blake2s.proofs.hash.Goals as goal
use Rattle.blake2s.proofs.hash.Goals.{in-Some, in_default, in_default-via-in-Some+else-not-is_empty, in_default-via-in_default}

pub returns : goal.returns
unfolding blake2s
returns g c =
    c.write_state.ensures ∙ ap (flat_map word_bytes)
    (elim c.match-split_first_chunk.branch [
      | in-Some w ↦ two c.args.message.now _ _ _ _ _ _ (grind (arith, nat_tests, w.in-Some.ensures.cases.2, w.is_empty.ensures, w.if-not-is_empty.true)) (omega arith) w.in-Some.ensures.cases.0 w.in-Some.ensures.cases.1 w.read_block-m.ensures w.compress.ensures (last _ _ _ _ _ _ w.t-10-is c.pad.ensures c.read_block-m-2.ensures c.compress-2.ensures)
      | in_default w ↦ one _ _ _ (elim w.in_default.branch [ in_default-via-in-Some+else-not-is_empty w' ↦ grind (arith, nat_tests, w'.in-Some.ensures.cases.2, w'.is_empty.ensures, w'.if-not-is_empty.false) | in_default-via-in_default w' ↦ omega (arith, w'.in_default.ensures.cases) ]) (last _ _ _ _ _ _ w.t-10-is c.pad.ensures c.read_block-m-2.ensures c.compress-2.ensures)
    ])
