use Rattle.std.proofs.Common.{◌≡◌, length}
use Rattle.inline_list.specs.InlineList.{listed}
use Rattle.climb.specs.Held.{hashes_in}
use Rattle.climb.proofs.Going.{Going}
use Rattle.climb.proofs.step.step_row.Given as goal

abbrev pub invariant-loop-item : goal.invariant-loop-item
invariant-loop-item g l =
    Going g.C.Compression.image (hashes_in l.initial.hashes.bytes.now) l.width l.items l.initial.hashes.used (listed l.parents) l.aside l.hashes.used l.rest
    × (l.hashes.bytes ≡ l.initial.hashes.bytes)

abbrev pub decreases-loop-item : goal.decreases-loop-item
decreases-loop-item g l = length l.rest
