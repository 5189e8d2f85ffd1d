use Rattle.std.proofs.Common.{◌≡◌, []}
use Rattle.inline_list.specs.InlineList.{listed}
use Rattle.utreexo.specs.Claims.{no_value}
use Rattle.targets.specs.Spends.{targets}
use Rattle.targets.specs.Targets.{placed}
use Rattle.climb.specs.Needed.{nodes_of}
use Rattle.climb.proofs.Standing.{Rising}
use Rattle.climb.proofs.Lacking.{Lacked}
use Rattle.climb.proofs.needed.Needed.of.Given as goal

abbrev pub invariant-loop-row : goal.invariant-loop-row
invariant-loop-row l =
    Rising (λ x. no_value) l.targets.count (placed l.targets) [] l.row (listed l.rise.carried) (targets l.rise.left.now) l.rise.hashes.used
    × Lacked l.targets.count (placed l.targets) l.row (nodes_of l.needed)
    × (l.rise.count ≡ l.targets.count) × (l.rise.hashes.bytes.now ≡ [])
