use Rattle.std.proofs.Common.{◌≡◌, Some, None, ◌∙◌, arith}
use Rattle.refusal.specs.Numbers.{number}
use Rattle.utreexo.specs.Wallet.{take_causes, view_after}
use Rattle.shelf.specs.declared.state.State.{State}
use Rattle.shelf.specs.Views.{view_of}
use Rattle.proof.proofs.Chain.{passed}
use Rattle.wallet.proofs.Chain.{not_judged, limit_after, view_taken}
use Rattle.wallet.proofs.step.taken.Goals as goal

pub returns-in_err-accepted : goal.returns-in_err-accepted
returns-in_err-accepted g c =
    let image = g.C.Compression.image in
    let v = view_of c.args.state in
    let b = c.args.bytes.now in
    let own = c.in_ok-block.block.bytes.now in
    let e = c.in_err-accepted.field-0.0 in
    passed (take_causes image v b) (λ (s : State). view_of s ≡ view_after image b v) c.from_residual-in_err-accepted.result e c.from_residual-in_err-accepted.ensures.1
    (not_judged image v b own c.in_ok-block.ensures.1 c.in_ok-block.ensures.0 (number e) c.in_err-accepted.ensures.judged)

pub returns-in_err-add_all : goal.returns-in_err-add_all
returns-in_err-add_all g c =
    let image = g.C.Compression.image in
    let v = view_of c.args.state in
    let b = c.args.bytes.now in
    let own = c.in_ok-block.block.bytes.now in
    let e = c.in_err-add_all.field-0.0 in
    passed (take_causes image v b) (λ (s : State). view_of s ≡ view_after image b v) c.from_residual-in_err-add_all.result e c.from_residual-in_err-add_all.ensures.1
    (limit_after image v b own c.in_ok-block.ensures.1 c.in_ok-block.ensures.0 c.in_ok-accepted.ensures.judged.0 c.spend.new.state.count c.as_slice.result.now c.spend.ensures.count
    (c.as_slice.ensures.value ∙ c.coins.ensures) (Some (number e)) c.in_err-add_all.ensures.view)

pub returns : goal.returns
returns g c =
    let image = g.C.Compression.image in
    let v = view_of c.args.state in
    let b = c.args.bytes.now in
    let own = c.in_ok-block.block.bytes.now in
    let coins = c.as_slice.ensures.value ∙ c.coins.ensures in
    let judged = c.in_ok-accepted.ensures.judged in (
      limit_after image v b own c.in_ok-block.ensures.1 c.in_ok-block.ensures.0 judged.0 c.spend.new.state.count c.as_slice.result.now c.spend.ensures.count coins None c.in_ok-add_all.ensures.view.0,
      view_taken image v b own c.in_ok-block.ensures.1 c.in_ok-block.ensures.0 judged.0 c.in_ok-accepted.accepted c.judge.new.after (view_of c.spend.new.state) (view_of c.add_all.new.state) c.as_slice.result.now
          (omega arith) judged.1 c.in_ok-accepted.ensures.after c.spend.ensures.spent coins c.in_ok-add_all.ensures.view.1,
    )
