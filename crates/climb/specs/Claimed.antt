-- The proof that placed targets and the bytes of hashes make.
use Rattle.utreexo.specs.Bytes.{Bytes}
use Rattle.utreexo.specs.Claims.{Proof, proof_of}
use Rattle.targets.specs.declared.placed.Targets.{Targets}
use Rattle.targets.specs.Targets.{placed}
use Rattle.climb.specs.Held.{hashes_in}

abbrev pub claims : Targets → Bytes → Proof
claims t hashes = proof_of t.count (placed t) (hashes_in hashes)
