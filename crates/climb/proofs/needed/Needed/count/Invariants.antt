use Rattle.std.proofs.Common.{◌≡◌, []}
use Rattle.inline_list.specs.InlineList.{listed}
use Rattle.utreexo.specs.Claims.{no_value}
use Rattle.targets.specs.Spends.{targets}
use Rattle.targets.specs.Targets.{placed}
use Rattle.climb.proofs.Standing.{Rising}
use Rattle.climb.proofs.needed.Needed.count.Given as goal

abbrev pub invariant-loop-row : goal.invariant-loop-row
invariant-loop-row l =
    Rising (λ x. no_value) l.targets.count (placed l.targets) [] l.row (listed l.rise.carried) (targets l.rise.left.now) l.rise.hashes.used
    × (l.rise.count ≡ l.targets.count) × (l.rise.hashes.bytes.now ≡ [])
