-- The bytes of an image under Tally are below 256. These lemmas stand here and not in proofs/ since the law of an `impl` cites them.
use Rattle.std.specs.Prelude.{ℕ, List, [], ◌∷◌, map}
use Rattle.std.proofs.Common.{arith}
use Rattle.std.specs.Simd.Lanes.{zip2}
use Rattle.std.specs.List.{AllByRecursion}
use Rattle.utreexo.specs.Tally.{leaf_byte, pair_byte}
use Rattle.utreexo.proofs.Fitting.{Octet}

pub leaf_octets : (bs : List ℕ) → AllByRecursion Octet (map leaf_byte bs)
leaf_octets [] = tt
leaf_octets (b ∷ bs) = (omega arith, leaf_octets bs)

pub pair_octets : (ls rs : List ℕ) → AllByRecursion Octet (zip2 pair_byte ls rs)
pair_octets [] rs = tt
pair_octets (l ∷ ls) [] = tt
pair_octets (l ∷ ls) (r ∷ rs) = (omega arith, pair_octets ls rs)
