use Rattle.climb.proofs.Merging.{Merging}
use Rattle.inline_list.specs.InlineList.{listed}
use Rattle.climb.proofs.step.merge_row.Given as goal

abbrev pub invariant-loop-spend : goal.invariant-loop-spend
invariant-loop-spend g l = Merging g.C.Compression.image l.carried l.spends (listed l.row) l.rest l.spend-index
