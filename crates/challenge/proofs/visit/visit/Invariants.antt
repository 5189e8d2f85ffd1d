use Rattle.std.proofs.Common.{◌≡◌}
use Rattle.climb.specs.Claimed.{claims}
use Rattle.challenge.specs.Visits.{visit_rows}
use Rattle.challenge.proofs.visit.visit.Given as goal

abbrev pub invariant-loop-row : goal.invariant-loop-row
invariant-loop-row g l =
    let p = claims l.claims.targets.now l.claims.hashes.now in
    visit_rows g.C.Compression.image (g.K.Keeper.slots l.keeper) p 32 ≡ visit_rows g.C.Compression.image (g.K.Keeper.slots l.keeper) p l.row
