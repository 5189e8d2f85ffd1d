use Rattle.std.proofs.lemmas.List.Filters.{FiltersInPlace}
use Rattle.targets.specs.Spends.{targets}
use Rattle.shelf.specs.Held.{held_of}
use Rattle.refresh.specs.Spent.{stays}
use Rattle.refresh.proofs.leave.drop_spent.Given as goal

abbrev pub invariant-loop-i : goal.invariant-loop-i
invariant-loop-i l = FiltersInPlace (λ r. stays (targets l.spends) (held_of r)) l.initial.shelf.coins l.shelf.coins l.kept l.i
