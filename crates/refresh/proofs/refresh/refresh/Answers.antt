use Rattle.std.proofs.Common.{arith}
use Rattle.utreexo.specs.Claims.{no_value}
use Rattle.climb.specs.After.{look}
use Rattle.shelf.specs.Held.{held_of}
use Rattle.refresh.proofs.Striking.{going_all, going_kept, going_struck}
use Rattle.refresh.proofs.refresh.refresh.Goals as goal
use Rattle.refresh.proofs.refresh.refresh.Goals.{in-Some, in-None}

pub loop-i-preserved : goal.loop-i-preserved
loop-i-preserved c =
    let f = look c.args.after.now in
    let h = held_of c.args.held.now in
    let n = c.args.held.now.len in
    let l = c.loop-i in
    elim c.match-renew.branch [
      | in-Some w ↦
          let e = w.in-Some.ensures in
          rw (w.held-is, w.row-is, w.place-is, w.kept-is)
          (going_kept f h n l.held.coin l.row l.place l.kept l.held.path l.i l.invariant no_value w.in-Some.value (omega arith) (cc))
      | in-None w ↦
          let e = w.in-None.ensures in
          rw (w.held-is, w.row-is, w.place-is, w.kept-is, w.close-place.ensures)
          (going_struck f h n l.held.coin l.row l.place l.kept l.held.path l.i l.invariant no_value (omega arith) (cc))
    ]

pub returns : goal.returns
returns c =
    let l = c.loop-i in
    going_all (look c.args.after.now) (held_of c.args.held.now) c.args.held.now.len l.held.coin l.row l.place l.kept l.held.path l.i l.invariant (omega arith)
