use Rattle.std.proofs.Common.{◌≡◌, ◌++◌, map, take, drop}
use Rattle.utreexo.specs.Tally.{leaf_byte}
use Rattle.compression.proofs.tally.add_one_to_each.Given as goal

-- what is written, and the images of what is left, are the images
abbrev pub invariant-loop-b : goal.invariant-loop-b
invariant-loop-b l = take l.b-index l.bytes ++ map leaf_byte (drop l.b-index l.bytes) ≡ map leaf_byte l.initial.bytes
