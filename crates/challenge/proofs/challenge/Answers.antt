use Rattle.std.proofs.Common.{◌≡◌, ◌^◌, ◌<◌, true, length, ◌∙◌, sym, ap, subst, arith}
use Rattle.std.specs.List.{All}
use Rattle.refusal.specs.Numbers.{number}
use Rattle.utreexo.specs.Blocks.{entries}
use Rattle.utreexo.specs.Checks.{block_proof}
use Rattle.place.specs.Nodes.{inside}
use Rattle.climb.specs.After.{Fills}
use Rattle.climb.specs.Needed.{numbered}
use Rattle.challenge.specs.Visits.{visit_rows}
use Rattle.challenge.proofs.Answering.{read_number, judge_number, number_passed, refusal_passed, same_judgement, same_proof, turned_down, visited_so}
use Rattle.challenge.proofs.challenge.Goals as goal

pub returns-in_err-block-clause-limit : goal.returns-in_err-block-clause-limit
returns-in_err-block-clause-limit g c =
    number_passed c.from_residual.result c.in_err-block.field-0.0 c.from_residual.ensures.1 (read_number c.args.block.now (number c.in_err-block.field-0.0) c.in_err-block.ensures)

pub returns-in_err-accepted : goal.returns-in_err-accepted
returns-in_err-accepted g c =
    let image = g.C.Compression.image in
    let s = g.K.Keeper.slots c.args.keeper.now in
    let bs = c.args.block.now in
    let read = c.in_ok-block.ensures in
    let e = c.in_err-accepted.field-0.0 in
    let same = same_judgement image s bs c.count.result c.roots-roots.result c.in_ok-block.block.bytes.now c.count.ensures c.roots-roots.ensures read.1 in
    record {
      verdict = refusal_passed c.from_residual-in_err-accepted.result e c.from_residual-in_err-accepted.ensures.1 ∙ turned_down image s bs read.0 _ (sym same ∙ c.in_err-accepted.ensures.judged);
      limit = number_passed c.from_residual-in_err-accepted.result e c.from_residual-in_err-accepted.ensures.1
          (judge_number image c.count.result c.roots-roots.result (entries c.in_ok-block.block.bytes.now) (number e) c.in_err-accepted.ensures.judged);
    }

pub invariant_of-claims : goal.invariant_of-claims
invariant_of-claims g c =
    let t = c.in_ok-accepted.accepted.targets in
    let a = c.in_ok-accepted.ensures.judged.1 in
    let bytes = c.in_ok-block.block.bytes.now in
    record {
      small = omega (arith, a.forest);
      filled = subst (λ p. Fills g.C.Compression.image p c.judge.new.after) (sym (same_proof t c.count.result bytes c.hashes.result.now a.forest a.spent c.hashes.ensures)) c.in_ok-accepted.ensures.after;
      positions = ap (numbered t.count) c.as_slice.ensures.nodes ∙ c.of-needed.ensures.positions;
      places = subst (All (λ d. inside t.count d ≡ true)) (sym c.as_slice.ensures.nodes) c.of-needed.ensures.places;
    }

pub returns-clause-verdict : goal.returns-clause-verdict
returns-clause-verdict g c =
    let image = g.C.Compression.image in
    let s = g.K.Keeper.slots c.args.keeper.now in
    let bs = c.args.block.now in
    let read = c.in_ok-block.ensures in
    let t = c.in_ok-accepted.accepted.targets in
    let a = c.in_ok-accepted.ensures.judged.1 in
    let bytes = c.in_ok-block.block.bytes.now in
    let same = same_judgement image s bs c.count.result c.roots-roots.result bytes c.count.ensures c.roots-roots.ensures read.1 in
    let small : length s < 2 ^ 32 = omega (arith, c.count.ensures) in
    visited_so image s bs read.0 small (sym same ∙ c.in_ok-accepted.ensures.judged.0) _
    (c.visit.ensures
    ∙ ap (λ p. visit_rows image s p 32)
    (same_proof t c.count.result bytes c.hashes.result.now a.forest a.spent c.hashes.ensures
    ∙ ap (λ n. block_proof n (entries bytes)) c.count.ensures ∙ ap (λ b. block_proof (length s) (entries b)) read.1))
