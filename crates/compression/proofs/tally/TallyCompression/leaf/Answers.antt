use Rattle.std.proofs.Common.{map, ap, ◌∙◌}
use Rattle.utreexo.specs.Bytes.{value_in}
use Rattle.utreexo.specs.Tally.{leaf_byte}
use Rattle.compression.proofs.tally.TallyCompression.leaf.Goals as goal

pub returns : goal.returns
returns c =
    c.from_bytes.ensures ∙ ap value_in (c.add_one_to_each.ensures ∙ ap (map leaf_byte) c.to_bytes-bytes.ensures)
