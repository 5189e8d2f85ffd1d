-- The check chain of a block against a count and roots.
use Rattle.std.specs.Prelude.{◌≡◌, ℕ, not, List, ◌∷◌, ◌++◌, map, Option}
use Rattle.utreexo.specs.declared.types.Value.{Value}
use Rattle.utreexo.specs.Lists.{below}
use Rattle.utreexo.specs.Values.{Image}
use Rattle.utreexo.specs.Claims.{root_after}
use Rattle.utreexo.specs.Blocks.{Block, ascending}
use Rattle.utreexo.specs.Checks.{Cause, cause, targets_of, block_proof, place_causes, proof_causes}
use Rattle.targets.specs.Targets.{placed}
use Rattle.proof.specs.declared.accepted.Accepted.{Accepted}

-- the causes 4, and 6 to 10, which a wallet's calls and the challenge have
abbrev pub judge_causes : Image → ℕ → List (Option Value) → Block → List Cause
judge_causes image n roots b = cause 4 (not (ascending b.targets)) ∷ place_causes n b ++ proof_causes image n roots b

-- what is given for a block that none of them refuses: its targets, in a forest of n slots, and the roots once they are spent
pub record Accepts (image : Image) (n : ℕ) (roots : List (Option Value)) (b : Block) (a : Accepted) : Type 0 where
  pub forest : a.targets.count ≡ n
  pub spent : placed a.targets ≡ targets_of n b
  pub left : a.roots ≡ map (root_after image (block_proof n b) roots) (below 32)
