use Rattle.std.proofs.Common.{◌≡◌, length, ◌+◌, ◌^◌, vec_len, sym, subst, ap, ◌∙◌, arith}
use native.Mathlib.Nat.{div-eq_of_lt}
use Rattle.std.proofs.lemmas.Nat.{pow_pos}
use Rattle.utreexo.specs.Forest.{rows}
use Rattle.place.proofs.Powers.{double_shl, pow_next}
use Rattle.full_keeper.proofs.Full.new.Goals as goal

pub invariant_of-result : goal.invariant_of-result
invariant_of-result g c =
    let m = c.in_ok-bare.bare in
    let e = c.rows.ensures.value ∙ ap rows (sym c.in_ok-bare.ensures.1) in
    let low = c.rows.ensures.low in
    let len = c.in_ok-table.ensures.len in
    let none : length m.coins.items ≡ 0 = ap length c.in_ok-bare.ensures.0 in
    record {
      room = subst (λ R. vec_len c.in_ok-table.table ≡ 2 ^ (R + 1)) e (omega (arith, double_shl c.rows.result low, pow_next c.rows.result));
      stored = λ r o h. absurd (omega (arith, div-eq_of_lt {n = length m.coins.items} {m = 2 ^ r} (omega (arith, pow_pos r))));
    }
