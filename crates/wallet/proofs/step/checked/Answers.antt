use Rattle.std.proofs.Common.{◌∙◌, sym, ap}
use Rattle.refusal.specs.Numbers.{number}
use Rattle.utreexo.specs.Blocks.{coin_count}
use Rattle.utreexo.specs.Wallet.{take_causes}
use Rattle.block.specs.declared.entry.Counts.{Counts}
use Rattle.shelf.specs.Views.{view_of}
use Rattle.proof.proofs.Chain.{passed}
use Rattle.wallet.proofs.Chain.{coins_counted, not_judged, limit_checked}
use Rattle.wallet.proofs.step.checked.Goals as goal

pub returns-in_err-judge : goal.returns-in_err-judge
returns-in_err-judge g c =
    let image = g.C.Compression.image in
    let v = view_of c.args.state.now in
    let b = c.args.bytes.now in
    let own = c.in_ok-block.block.bytes.now in
    let e = c.in_err-judge.field-0.0 in
    passed (take_causes image v b) (λ _. Unit {0}) c.from_residual-in_err-judge.result e c.from_residual-in_err-judge.ensures.1
    (not_judged image v b own c.in_ok-block.ensures.1 c.in_ok-block.ensures.0 (number e) c.in_err-judge.ensures.judged)

pub returns : goal.returns
returns g c =
    let image = g.C.Compression.image in
    let v = view_of c.args.state.now in
    let b = c.args.bytes.now in
    let own = c.in_ok-block.block.bytes.now in
    let same = c.in_ok-block.ensures.1 in
    let n = ap (λ (x : Counts). x.coins) c.counts.ensures ∙ ap coin_count same ∙ sym (coins_counted b) in
    limit_checked image v b own same c.in_ok-block.ensures.0 c.in_ok-judge.ensures.judged.0 c.counts.result.coins n c.check_limit.result c.check_limit.ensures.judged
