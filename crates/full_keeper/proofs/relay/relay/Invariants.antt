use Rattle.std.proofs.Common.{length, min}
use Rattle.full_keeper.proofs.Rows.{Fitting}
use Rattle.full_keeper.proofs.Moves.{Relaid}
use Rattle.full_keeper.proofs.relay.relay.Given as goal

abbrev pub invariant-loop-done : goal.invariant-loop-done
invariant-loop-done l =
    let n = min l.old l.new in
    record {
      from : Fitting n l.from (length l.fn.table);
      to : Fitting n l.to (length l.fn.table);
      relaid : Relaid n l.from l.to l.last l.fn.table l.table l.done;
    }
