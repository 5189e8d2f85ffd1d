use Rattle.std.proofs.Common.{◌<◌, ◌/◌, ◌^◌, length, get_or, None, Ok, vec_items, vec_len, sym, ap, ◌∙◌, subst, arith}
use Rattle.std.proofs.lemmas.List.{get_or_read_under}
use Rattle.std.proofs.lemmas.Bool.{cond-true}
use Rattle.utreexo.specs.Forest.{rows}
use Rattle.laws.proofs.Positions.{rows_ok}
use Rattle.keeper.specs.Calls.{run_within}
use Rattle.keeper.proofs.Runs.{run_true}
use Rattle.full_keeper.specs.Table.{index}
use Rattle.full_keeper.proofs.Rows.{fitting}
use Rattle.full_keeper.proofs.Indices.{has_entry, in_row}
use Rattle.full_keeper.proofs.FullKeeper.value.Goals as goal

pub index_of-requires : goal.index_of-requires
index_of-requires g c =
    let n = c.count-count.result in
    let low = c.rows.ensures.low in (
      low,
      in_row n c.rows.result c.args.run.row c.args.run.place (rw c.rows.ensures.value (rows_ok n (omega arith))) low
          (run_true n c.args.run.row c.args.run.place c.if-not-is_within.ensures),
    )

pub index-requires : goal.index-requires
index-requires g c =
    let m = c.args.self.now in
    let n = c.count-count.result in
    let f = fitting n n m.bare.limit c.rows.result (vec_len m.table) (omega arith) (omega arith) m.bare.small c.rows.ensures.value (omega (arith, m.room)) in
    rw c.index_of.ensures (has_entry n c.rows.result c.args.run.row c.args.run.place _ f (run_true n c.args.run.row c.args.run.place c.if-not-is_within.ensures))

pub returns : goal.returns
returns g c =
    let m = c.args.self.now in
    let s = vec_items m.bare.coins in
    let t = vec_items m.table in
    let n = c.count-count.result in
    let row = c.args.run.row in
    let place = c.args.run.place in
    let h = run_true n row place c.if-not-is_within.ensures in
    let f = fitting n n m.bare.limit c.rows.result (vec_len m.table) (omega arith) (omega arith) m.bare.small c.rows.ensures.value (omega (arith, m.room)) in
    let here : c.index_of.result < vec_len m.table = rw c.index_of.ensures (has_entry n c.rows.result row place _ f h) in
    let R = c.rows.ensures.value ∙ ap rows c.count-count.ensures in
    ap Ok
    (get_or_read_under t c.index_of.result (vec_len m.table) c.index.result.now None c.index.ensures here m.table.ok.0
    ∙ ap (λ x. get_or t x None) (c.index_of.ensures ∙ ap (λ x. index x row place) R)
    ∙ m.stored row place (subst (λ x. place < x / 2 ^ row) c.count-count.ensures h))
    ∙ sym (cond-true (run_within (length s) row place) _ _ (sym (c.if-not-is_within.ensures ∙ ap (λ x. run_within x row place) c.count-count.ensures)))
