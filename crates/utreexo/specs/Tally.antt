-- The house compression Tally, byte by byte: small enough to follow by hand, and two inputs with one image are easy to find.
use Rattle.std.specs.Prelude.{ℕ, ◌+◌, ◌*◌, ◌%◌, map}
use Rattle.std.specs.Simd.Lanes.{zip2}
use Rattle.utreexo.specs.declared.types.Input.TheVariants.{Leaf, Pair}
use Rattle.utreexo.specs.Bytes.{coin_bytes, value_in, value_bytes}
use Rattle.utreexo.specs.Values.{Image}

-- a byte of a leaf's image, by the coin's byte
abbrev pub leaf_byte : ℕ → ℕ
leaf_byte b = (b + 1) % 256

-- a byte of a pair's image, by the bytes of the left and the right value
abbrev pub pair_byte : ℕ → ℕ → ℕ
pair_byte l r = (3 * l + 5 * r) % 256

abbrev pub tally : Image
tally (Leaf coin) = value_in (map leaf_byte (coin_bytes coin))
tally (Pair left right) = value_in (zip2 pair_byte (value_bytes left) (value_bytes right))
