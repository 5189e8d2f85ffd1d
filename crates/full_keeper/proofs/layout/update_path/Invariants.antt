use Rattle.std.proofs.Common.{length}
use Rattle.full_keeper.specs.Table.{StoredBut}
use Rattle.full_keeper.proofs.Rows.{Fitting}
use Rattle.full_keeper.proofs.layout.update_path.Given as goal

abbrev pub invariant-loop-row : goal.invariant-loop-row
invariant-loop-row g l =
    record {
      fit : Fitting (length l.slots) l.rows (length l.table);
      stored : StoredBut g.C.Compression.image l.slots l.rows l.fn.table l.slot 0 → StoredBut g.C.Compression.image l.slots l.rows l.table l.slot l.row;
    }
