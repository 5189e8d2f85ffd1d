use Rattle.std.proofs.Common.{◌≡◌, ap, ◌∙◌}
use Rattle.utreexo.specs.Blocks.{entries}
use Rattle.utreexo.specs.Checks.{targets_of}
use Rattle.block.specs.Compose.{numbers}
use Rattle.laws.proofs.Reading.{reads}
use Rattle.targets.specs.Targets.{placed}
use Rattle.proof.proofs.Parts.{length_targets, same_length, length_hashes}
use Rattle.proof.proofs.Chain.{passed, place_all, placed_are, not_placed, other_number, right_number, found_number}
use Rattle.proof.proofs.readable.Block.place.Goals as goal

pub returns-in_err-targets : goal.returns-in_err-targets
returns-in_err-targets c =
    let bytes = c.args.self.now.bytes.now in
    let b = entries bytes in
    passed (place_all c.args.count b) (λ t. (t.count ≡ c.args.count) × (placed t ≡ targets_of c.args.count b)) c.from_residual.result c.in_err-targets.field-0.0 c.from_residual.ensures.1
    (not_placed c.args.count b c.as_slice.result.now c.as_slice-2.result.now (ap numbers c.as_slice.ensures.value ∙ c.positions.ensures) (c.as_slice-2.ensures.value ∙ c.spent.ensures)
    (length_targets bytes (reads bytes c.args.self.now.readable)) (same_length bytes) c.in_err-targets.field-0.0 c.in_err-targets.ensures)

pub returns-then-count-self : goal.returns-then-count-self
returns-then-count-self c =
    let bytes = c.args.self.now.bytes.now in
    let b = entries bytes in
    let order = ap numbers c.as_slice.ensures.value ∙ c.positions.ensures in
    let coins = c.as_slice-2.ensures.value ∙ c.spent.ensures in
    let are = placed_are c.args.count b c.as_slice.result.now c.as_slice-2.result.now order coins c.in_ok-targets.ensures.1 in
    other_number c.args.count b c.as_slice.result.now c.as_slice-2.result.now order coins (length_targets bytes (reads bytes c.args.self.now.readable)) (same_length bytes) c.in_ok-targets.ensures.0
    (length_hashes bytes c.args.self.now.counts c.args.self.now.counted)
    (found_number c.args.count b c.in_ok-targets.targets c.count.result c.in_ok-targets.ensures.1.forest are c.count.ensures)
    c.if-count-self.true

pub returns : goal.returns
returns c =
    let bytes = c.args.self.now.bytes.now in
    let b = entries bytes in
    let order = ap numbers c.as_slice.ensures.value ∙ c.positions.ensures in
    let coins = c.as_slice-2.ensures.value ∙ c.spent.ensures in
    let are = placed_are c.args.count b c.as_slice.result.now c.as_slice-2.result.now order coins c.in_ok-targets.ensures.1 in (
      right_number c.args.count b c.as_slice.result.now c.as_slice-2.result.now order coins (length_targets bytes (reads bytes c.args.self.now.readable)) (same_length bytes) c.in_ok-targets.ensures.0
          (length_hashes bytes c.args.self.now.counts c.args.self.now.counted)
          (found_number c.args.count b c.in_ok-targets.targets c.count.result c.in_ok-targets.ensures.1.forest are c.count.ensures)
          c.if-count-self.false,
      (c.in_ok-targets.ensures.1.forest, are),
    )
