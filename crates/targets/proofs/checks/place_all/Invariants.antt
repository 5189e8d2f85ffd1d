use Rattle.std.specs.Slice.Iter.{iter_rest}
use Rattle.inline_list.specs.InlineList.{listed}
use Rattle.std.specs.Iterator.Adapters.{zip_first, zip_second}
use Rattle.targets.proofs.Placing.{Placing}
use Rattle.targets.proofs.checks.place_all.Given as goal

abbrev pub invariant-loop-position : goal.invariant-loop-position
invariant-loop-position l = Placing l.count l.positions l.coins (listed l.spends) (iter_rest (zip_first l.position-iterator)) (iter_rest (zip_second l.position-iterator))
