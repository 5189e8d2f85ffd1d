use Rattle.std.proofs.Common.{◌≡◌, map}
use Rattle.inline_list.specs.InlineList.{listed}
use Rattle.climb.specs.Held.{hashes_in}
use Rattle.targets.specs.Spends.{targets}
use Rattle.targets.specs.Targets.{placed}
use Rattle.climb.proofs.Standing.{Standing}
use Rattle.climb.proofs.climb.climb.Given as goal

abbrev pub invariant-loop-row : goal.invariant-loop-row
invariant-loop-row g l =
    Standing g.C.Compression.image l.targets.count (placed l.targets) (hashes_in l.hashes) l.roots
    l.row (listed l.rise.carried) (targets l.rise.left.now) l.rise.hashes.used l.fitting l.roots_after (map listed l.rows)
    × (l.rise.count ≡ l.targets.count) × (l.rise.hashes.bytes.now ≡ l.hashes)
