use Rattle.std.proofs.Common.{ℕ, ◌+◌, ◌-◌, ◌*◌, ◌/◌, ◌^◌, length, arith, length-set}
use Rattle.keeper.proofs.Runs.{halves, run_true, run_false}
use Rattle.full_keeper.proofs.Rows.{fitting}
use Rattle.full_keeper.proofs.Indices.{has_entry}
use Rattle.full_keeper.proofs.Paths.{stored_leaf, stored_node, stored_rest, stored_top}
use Rattle.full_keeper.proofs.layout.update_path.Goals as goal

pub loop-row-init : goal.loop-row-init
loop-row-init g c =
    let s = c.args.slots.now in
    let t = c.args.table.now in
    let R = c.rows-rows.result in
    let f = fitting (length s) (length s) (length s) R (length t) (omega arith) (omega arith) c.requires.few c.rows-rows.ensures.value c.requires.room in
    record {
      fit = simp length-set f;
      stored = stored_leaf g.C.Compression.image s R t c.args.slot c.leaf_value.result f c.requires.slot c.leaf_value.ensures;
    }

pub slice_copy_out-left : goal.slice_copy_out-left
slice_copy_out-left g c =
    let n = length c.args.slots.now in
    let r = c.loop-row.row in
    let o : ℕ = c.args.slot / 2 ^ r in
    let h = halves n r o (omega arith) (run_true n r o c.if-not-is_within.ensures) in
    rw (c.index_of.ensures, c.in-Some.ensures.1) (has_entry n c.rows-rows.result (r - 1) (2 * o) (length c.loop-row.table) c.loop-row.invariant.fit (omega arith))

pub slice_copy_out-right : goal.slice_copy_out-right
slice_copy_out-right g c =
    let n = length c.args.slots.now in
    let r = c.loop-row.row in
    let o : ℕ = c.args.slot / 2 ^ r in
    let h = halves n r o (omega arith) (run_true n r o c.if-not-is_within.ensures) in
    rw (c.index_of-in-loop-row.ensures, c.in-Some.ensures.2) (has_entry n c.rows-rows.result (r - 1) (2 * o + 1) (length c.loop-row.table) c.loop-row.invariant.fit h)

pub bounds-table-index_of : goal.bounds-table-index_of
bounds-table-index_of g c =
    let n = length c.args.slots.now in
    let r = c.loop-row.row in
    let o : ℕ = c.args.slot / 2 ^ r in
    rw c.index_of-in-loop-row-2.ensures
    (has_entry n c.rows-rows.result r o (length c.loop-row.table) c.loop-row.invariant.fit (run_true n r o c.if-not-is_within.ensures))

pub loop-row-preserved : goal.loop-row-preserved
loop-row-preserved g c =
    let s = c.args.slots.now in
    let r = c.loop-row.row in
    record {
      fit = simp length-set c.loop-row.invariant.fit;
      stored = λ was.
          stored_node g.C.Compression.image s c.rows-rows.result c.loop-row.table c.args.slot c.join.result c.loop-row.invariant.fit r _ _ _ (omega arith)
          (run_true (length s) r (c.args.slot / 2 ^ r) c.if-not-is_within.ensures) c.in-Some.ensures.1 c.in-Some.ensures.2 c.index_of.ensures c.index_of-in-loop-row.ensures
          c.index_of-in-loop-row-2.ensures c.join.ensures (c.loop-row.invariant.stored was);
    }

pub returns : goal.returns
returns g c =
    stored_top g.C.Compression.image c.args.slots.now c.rows-rows.result c.args.table.now c.loop-row.table c.args.slot c.loop-row.row c.rows-rows.ensures.value c.loop-row.invariant.stored
    c.loop-row.invariant.fit.high (omega arith)

pub returns-then-not-is_within : goal.returns-then-not-is_within
returns-then-not-is_within g c =
    let s = c.args.slots.now in
    let r = c.loop-row.row in
    stored_rest g.C.Compression.image s c.rows-rows.result c.args.table.now c.loop-row.table c.args.slot r c.rows-rows.ensures.value c.loop-row.invariant.stored
    (run_false (length s) r (c.args.slot / 2 ^ r) c.if-not-is_within.ensures)

pub returns-in-Some : goal.returns-in-Some
returns-in-Some g c =
    let s = c.args.slots.now in
    let r = c.loop-row.row in
    stored_top g.C.Compression.image s c.rows-rows.result c.args.table.now _ c.args.slot (r + 1) c.rows-rows.ensures.value
    (λ was.
    stored_node g.C.Compression.image s c.rows-rows.result c.loop-row.table c.args.slot c.join.result c.loop-row.invariant.fit r _ _ _ (omega arith)
    (run_true (length s) r (c.args.slot / 2 ^ r) c.if-not-is_within.ensures) c.in-Some.ensures.1 c.in-Some.ensures.2 c.index_of.ensures c.index_of-in-loop-row.ensures
    c.index_of-in-loop-row-2.ensures c.join.ensures (c.loop-row.invariant.stored was)) c.loop-row.invariant.fit.high (omega arith)
