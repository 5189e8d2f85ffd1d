use Rattle.std.proofs.Common.{◌∷◌, ap, ◌∙◌}
use Rattle.blake2s.specs.Blake2s.{blake2s}
use Rattle.utreexo.specs.Bytes.{value_in}
use Rattle.compression.proofs.hash.Blake2sCompression.leaf.Goals as goal

pub returns : goal.returns
returns c =
    c.from_bytes.ensures ∙ ap value_in (c.digest_of.ensures ∙ ap blake2s (c.leaf_message.ensures ∙ ap (λ bs. 0 ∷ bs) c.to_bytes.ensures))
