use Rattle.std.proofs.Common.{ap, ◌∙◌, ap₂}
use lib.Lanes.{zip2}
use Rattle.utreexo.specs.Bytes.{value_in}
use Rattle.utreexo.specs.Tally.{pair_byte}
use Rattle.compression.proofs.tally.TallyCompression.pair.Goals as goal

pub returns : goal.returns
returns c =
    c.from_bytes.ensures ∙ ap value_in (c.mix.ensures ∙ ap₂ (zip2 pair_byte) c.to_bytes.ensures c.to_bytes-2.ensures)
