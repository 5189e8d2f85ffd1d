use Rattle.std.proofs.Common.{◌≡◌, ◌+◌, ◌/◌, ◌^◌, ◌<◌, ◌≤◌, length, min, arith, ap}
use Rattle.full_keeper.proofs.Rows.{fitting}
use Rattle.full_keeper.proofs.Moves.{laid_by, row_in, copied, relaid_none, relaid_more, relaid_all}
use Rattle.full_keeper.proofs.relay.relay.Goals as goal
use Rattle.full_keeper.proofs.relay.relay.Goals.{then-from-to-2, else-from-to-2}

pub loop-done-init : goal.loop-done-init
loop-done-init c =
    let n = min c.args.old c.args.new in
    let len = length c.args.table.now in
    let from = fitting n c.args.old c.args.old c.rows-from.result len (omega arith) (omega arith) (omega arith) c.rows-from.ensures.value c.requires.0 in
    let to = fitting n c.args.new c.args.new c.rows-to.result len (omega arith) (omega arith) (omega arith) c.rows-to.ensures.value c.requires.1 in
    record { from = from; to = to; relaid = relaid_none n _ _ c.args.table.now from.high to.high c.if-from-to.false c.min-last.result c.min-last.ensures }

pub copy_within-requires-clause-in_bounds : goal.copy_within-requires-clause-in_bounds
copy_within-requires-clause-in_bounds c =
    let f = c.loop-done.invariant.from in
    let low : c.if-from-to-2.row ≤ c.rows-from.result = elim c.if-from-to-2.branch [ then-from-to-2 w ↦ omega arith | else-from-to-2 w ↦ omega arith ] in
    let i = row_in _ c.rows-from.result c.if-from-to-2.row _ f low in
    rw (c.min-count.ensures, c.index_of-start.ensures) (omega arith)

pub copy_within-requires-clause-dest_in_bounds : goal.copy_within-requires-clause-dest_in_bounds
copy_within-requires-clause-dest_in_bounds c =
    let f = c.loop-done.invariant.to in
    let low : c.if-from-to-2.row ≤ c.rows-to.result = elim c.if-from-to-2.branch [ then-from-to-2 w ↦ omega arith | else-from-to-2 w ↦ omega arith ] in
    let i = row_in _ c.rows-to.result c.if-from-to-2.row _ f low in
    rw (c.min-count.ensures, c.index_of-target.ensures) (omega arith)

pub loop-done-preserved : goal.loop-done-preserved
loop-done-preserved c =
    let was = c.loop-done.invariant in
    let r = c.if-from-to-2.row in
    let k = c.loop-done.done in
    let z = c.copy_within.ensures.by_index in
    let low : r ≤ c.min-last.result = elim c.if-from-to-2.branch [ then-from-to-2 w ↦ omega arith | else-from-to-2 w ↦ omega arith ] in
    let up : c.rows-from.result < c.rows-to.result → r + k ≡ c.min-last.result = λ l. elim c.if-from-to-2.branch [ then-from-to-2 w ↦ omega arith | else-from-to-2 w ↦ omega arith ] in
    let down : c.rows-to.result < c.rows-from.result → r ≡ k + 1 = λ l. elim c.if-from-to-2.branch [ then-from-to-2 w ↦ omega arith | else-from-to-2 w ↦ omega arith ] in
    record {
      from = was.from;
      to = was.to;
      relaid = relaid_more _ _ _ c.args.table.now was.from.high was.to.high c.if-from-to.false c.loop-done.table c.copy_within.new.self c.min-last.result k r c.min-last.ensures low up down
          (copied c.loop-done.table c.copy_within.new.self c.index_of-start.result c.index_of-target.result _ _ _ _ (ap (λ x. x / 2 ^ r) c.min-count.ensures) c.index_of-start.ensures c.index_of-target.ensures z.0 z.1 z.2) was.relaid;
    }

pub returns : goal.returns
returns c =
    let was = c.loop-done.invariant in
    laid_by _ c.args.old c.args.new _ _ c.args.table.now c.loop-done.table c.rows-from.ensures.value c.rows-to.ensures.value
    (relaid_all _ _ _ c.args.table.now was.from.high was.to.high c.if-from-to.false c.loop-done.table c.min-last.result c.loop-done.done c.min-last.ensures (omega arith) was.relaid)
