use Rattle.std.proofs.Common.{◌≡◌, ◌++◌, map}
use Rattle.utreexo.specs.Lists.{below}
use Rattle.proof.proofs.Listing.{record_at}
use Rattle.proof.proofs.records.read_all.Given as goal

abbrev pub invariant-loop-chunk : goal.invariant-loop-chunk
invariant-loop-chunk g l = l.records.items ≡ l.initial.records.items ++ map (record_at g.row.N g.T.Record.decoded l.bytes l.start) (below l.chunk-index)
