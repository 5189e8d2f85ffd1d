use Rattle.std.proofs.Common.{◌-◌, ◌∙◌, sym, arith}
use Rattle.climb.specs.Claimed.{claims}
use Rattle.challenge.proofs.RowsVisited.{rows_more, rows_found, rows_none}
use Rattle.challenge.proofs.visit.visit.Goals as goal

pub returns-in-Some : goal.returns-in-Some
returns-in-Some g c =
    let t = c.args.claims.now in
    let a = c.loop-row-test.true in
    let b = c.in-Some.ensures in
    rows_found g.C.Compression.image (g.K.Keeper.slots c.args.keeper.now) (claims t.targets.now t.hashes.now) c.loop-row.row (c.loop-row.row - 1) (omega arith) _ c.in-Some.ensures
    ∙ sym c.loop-row.invariant

pub loop-row-preserved : goal.loop-row-preserved
loop-row-preserved g c =
    let t = c.args.claims.now in
    c.loop-row.invariant
    ∙ rows_more g.C.Compression.image (g.K.Keeper.slots c.args.keeper.now) (claims t.targets.now t.hashes.now) c.loop-row.row (c.loop-row.row - 1) (omega arith) c.in_default.ensures

pub returns : goal.returns
returns g c =
    let t = c.args.claims.now in
    rows_none g.C.Compression.image (g.K.Keeper.slots c.args.keeper.now) (claims t.targets.now t.hashes.now) c.loop-row.row (omega arith)
    ∙ sym c.loop-row.invariant
