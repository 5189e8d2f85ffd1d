use Rattle.std.proofs.Common.{map, ap, ◌∙◌, sym, subst}
use Rattle.utreexo.specs.Lists.{below}
use Rattle.utreexo.specs.Claims.{Proof, root_after}
use Rattle.utreexo.specs.Blocks.{entries}
use Rattle.climb.specs.After.{Fills}
use Rattle.proof.specs.Accepts.{judge_causes, Accepts}
use Rattle.proof.proofs.Chain.{passed, some_then, none_then, not_judged, claims_are, not_fitting, all_judged}
use Rattle.proof.proofs.judge.judge.Goals as goal

pub returns-in_err-targets-clause-judged : goal.returns-in_err-targets-clause-judged
returns-in_err-targets-clause-judged g c =
    let image = g.C.Compression.image in
    let b = entries c.args.block.now.bytes.now in
    passed (judge_causes image c.args.count c.args.roots.now b) (Accepts image c.args.count c.args.roots.now b) c.from_residual.result c.in_err-targets.field-0.0 c.from_residual.ensures.1
    (not_judged c.args.count b image c.args.roots.now _ c.in_err-targets.ensures)

pub returns-in_default-clause-judged : goal.returns-in_default-clause-judged
returns-in_default-clause-judged g c =
    let (free, (forest, are)) = c.in_ok-targets.ensures in
    not_fitting c.args.count (entries c.args.block.now.bytes.now) g.C.Compression.image c.args.roots.now free c.in_ok-targets.targets forest are c.hashes.result.now c.hashes.ensures
    (sym c.if-any_under_blank.ensures) (none_then _ _ c.in_default.ensures.roots)

pub returns-clause-judged : goal.returns-clause-judged
returns-clause-judged g c =
    let image = g.C.Compression.image in
    let b = entries c.args.block.now.bytes.now in
    let (free, (forest, are)) = c.in_ok-targets.ensures in
    let (fit, left) = some_then _ _ c.in-Some.roots c.in-Some.ensures.roots in (
      all_judged c.args.count b image c.args.roots.now free c.in_ok-targets.targets forest are c.hashes.result.now c.hashes.ensures (sym c.if-any_under_blank.ensures) fit,
      record {
        forest = forest;
        spent = are;
        left = left ∙ ap (λ (p : Proof). map (root_after image p c.args.roots.now) (below 32)) (claims_are c.args.count b c.in_ok-targets.targets c.hashes.result.now forest are c.hashes.ensures);
      },
    )

pub returns-clause-after : goal.returns-clause-after
returns-clause-after g c =
    let (free, (forest, are)) = c.in_ok-targets.ensures in
    subst (λ (p : Proof). Fills g.C.Compression.image p c.climb.new.after)
    (claims_are c.args.count (entries c.args.block.now.bytes.now) c.in_ok-targets.targets c.hashes.result.now forest are c.hashes.ensures)
    c.climb.ensures.after
