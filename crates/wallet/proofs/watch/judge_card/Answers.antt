use Rattle.std.proofs.Common.{◌∙◌, arith}
use Rattle.wallet.proofs.OneTarget.{card_passed, some_target, is_of}
use Rattle.wallet.proofs.watch.judge_card.Goals as goal

pub bounds-as_slice-0 : goal.bounds-as_slice-0
bounds-as_slice-0 g c =
    let s = c.args.state.now in
    let judged = c.in_ok-accepted.ensures.judged in
    some_target g.C.Compression.image s.count (omega arith) s.roots c.args.card.now.bytes.now c.counts.result c.counts.ensures c.in-Ok-check_card.ensures.0 judged.0
    c.as_slice.result.now (c.as_slice.ensures.value ∙ judged.1.spent)

pub returns : goal.returns
returns g c =
    let s = c.args.state.now in
    let image = g.C.Compression.image in
    let b = c.args.card.now.bytes.now in
    let card = c.in-Ok-check_card.ensures.0 in
    let judged = c.in_ok-accepted.ensures.judged in (
      card_passed image s.count (omega arith) s.roots b c.counts.result c.counts.ensures card judged.0,
      is_of image s.count (omega arith) s.roots b c.counts.result c.counts.ensures card judged.0 c.as_slice.result.now _ (c.as_slice.ensures.value ∙ judged.1.spent),
    )
