use Rattle.std.proofs.Common.{sym, refl, arith}
use Rattle.place.proofs.Powers.{double_shl}
use Rattle.place.proofs.Numbers.{Counted, counted, counted_numbered, found, not_found, past_end}
use Rattle.place.proofs.locate.Goals as goal

deep : (c : goal.After-highest_bit-depth) → Counted c.rows-rows.result c.args.position.number c.highest_bit-depth.result
deep c =
    counted c.rows-rows.result c.args.position.number c.highest_bit-depth.result c.rows-rows.ensures.low c.if-position-end.false
    c.highest_bit-depth.ensures.high_bound c.highest_bit-depth.ensures.low_bound

pub returns-then-position-end : goal.returns-then-position-end
returns-then-position-end c =
    let all = double_shl c.rows-rows.result c.rows-rows.ensures.low in
    let past = c.if-position-end.true in
    record {
      value = sym (past_end c.args.count c.rows-rows.result c.args.position.number (omega arith) c.rows-rows.ensures.value (omega arith));
      low = tt;
    }

pub overflow_sub-found : goal.overflow_sub-found
overflow_sub-found c = (deep c).row

pub overflow_cast-found-2 : goal.overflow_cast-found-2
overflow_cast-found-2 c = let k = deep c in omega arith

pub returns-then-not-is_inside : goal.returns-then-not-is_inside
returns-then-not-is_inside c =
    let s = counted_numbered _ _ _ c.rows-rows.ensures.low c.if-position-end.false c.highest_bit-depth.ensures.high_bound c.highest_bit-depth.ensures.low_bound in
    record {
      value =
          sym (not_found c.args.count c.rows-rows.result c.args.position.number _ _ c.highest_bit-depth.result (omega arith)
          c.rows-rows.ensures.value s (sym c.if-not-is_inside.ensures.value));
      low = tt;
    }

pub returns : goal.returns
returns c =
    let s = counted_numbered _ _ _ c.rows-rows.ensures.low c.if-position-end.false c.highest_bit-depth.ensures.high_bound c.highest_bit-depth.ensures.low_bound in
    record {
      value =
          sym (found c.args.count c.rows-rows.result c.args.position.number _ _ c.highest_bit-depth.result (omega arith)
          c.rows-rows.ensures.value s (sym c.if-not-is_inside.ensures.value));
      low = c.if-not-is_inside.ensures.low refl;
    }
