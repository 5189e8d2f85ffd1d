-- A digest is bytes.
use Rattle.std.proofs.Common.{ℕ, ◌<◌, List, [], ◌∷◌, arith}
use Rattle.std.specs.List.{flat_map, AllByRecursion}
use Rattle.std.proofs.ByRecursion.{All-append}
use Rattle.blake2s.specs.Blake2s.{word_bytes, blake2s}

abbrev Octet : ℕ → Type 0
Octet b = b < 256

written : (ws : List ℕ) → AllByRecursion Octet (flat_map word_bytes ws)
written [] = tt
written (w ∷ ws) = All-append Octet (word_bytes w) (flat_map word_bytes ws) (omega arith, (omega arith, (omega arith, (omega arith, tt)))) (written ws)

pub digest_octets : (message : List ℕ) → AllByRecursion (λ b. b < 256) (blake2s message)
unfolding blake2s
digest_octets message = written _
