use Rattle.std.proofs.Common.{◌≡◌, List, [], reverse, length, get_or}
use Rattle.utreexo.specs.Collection.{Verdict}
use Rattle.climb.specs.declared.item.Item.{Item}
use Rattle.climb.specs.After.{row_lists}
use Rattle.climb.specs.Claimed.{claims}
use Rattle.challenge.proofs.RowVisits.{left_verdict}
use Rattle.challenge.proofs.visit.visit_row.Given as goal

abbrev pub invariant-loop-item : goal.invariant-loop-item
invariant-loop-item g l =
    let all : List Item = reverse (get_or (row_lists l.claims.table.now) l.row []) in
    let p = claims l.claims.targets.now l.claims.hashes.now in
    (on : Verdict) → left_verdict g.C.Compression.image (g.K.Keeper.slots l.keeper) p l.row all 0 on
    ≡ left_verdict g.C.Compression.image (g.K.Keeper.slots l.keeper) p l.row all (length l.yielded) on
