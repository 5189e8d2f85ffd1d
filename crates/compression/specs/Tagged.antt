-- BLAKE2s as a compression. A tag byte comes first, so that no leaf's message is a pair's.
use Rattle.std.specs.Prelude.{◌∷◌, ◌++◌}
use Rattle.blake2s.specs.Blake2s.{blake2s}
use Rattle.utreexo.specs.declared.types.Input.TheVariants.{Leaf, Pair}
use Rattle.utreexo.specs.Bytes.{coin_bytes, value_in, value_bytes}
use Rattle.utreexo.specs.Values.{Image}

-- BLAKE2s of the input's bytes, with 0 before a leaf's and 1 before a pair's, so that no leaf has a pair's message
abbrev pub tagged_blake2s : Image
tagged_blake2s (Leaf coin) = value_in (blake2s (0 ∷ coin_bytes coin))
tagged_blake2s (Pair left right) = value_in (blake2s (1 ∷ (value_bytes left ++ value_bytes right)))
