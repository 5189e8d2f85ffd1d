use Rattle.std.proofs.Common.{◌∷◌, ◌++◌, ap, ◌∙◌, ap₂}
use Rattle.blake2s.specs.Blake2s.{blake2s}
use Rattle.utreexo.specs.Bytes.{value_in}
use Rattle.compression.proofs.hash.Blake2sCompression.pair.Goals as goal

pub returns : goal.returns
returns c =
    c.from_bytes.ensures ∙ ap value_in (c.digest_of.ensures ∙ ap blake2s (c.pair_message.ensures ∙ ap₂ (λ l r. 1 ∷ (l ++ r)) c.to_bytes.ensures c.to_bytes-2.ensures))
