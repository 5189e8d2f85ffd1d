use Rattle.std.proofs.Common.{refl, arith}
use Rattle.targets.proofs.Refusals.{refused_not, placed_valid}
use Rattle.targets.proofs.placed.Targets.place.Goals as goal

pub invariant_of-result : goal.invariant_of-result
invariant_of-result c = record {
  valid = placed_valid c.args.count c.args.positions.now c.args.coins.now c.if-positions-gt32.false c.if-positions-coins.false c.in-Ok.ensures.0 c.in-Some.ensures c.as_slice.ensures.value
      c.if-any_above.ensures (omega arith);
}

pub returns : goal.returns
returns c = (
  refused_not c.args.count c.args.positions.now c.args.coins.now c.if-positions-gt32.false c.if-positions-coins.false c.in-Ok.ensures.0 c.in-Some.ensures c.as_slice.ensures.value
      c.if-any_above.ensures,
  record { forest = refl; named_so = c.in-Some.ensures.are },
)
