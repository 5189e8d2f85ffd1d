-- The checks on the positions of a block, and what they leave.
use Rattle.std.specs.Prelude.{◌≡◌, ℕ, false, not, List, [], ◌∷◌, length, ◌==◌, nat_lt}
use Rattle.inline_list.specs.InlineList.{listed}
use Rattle.utreexo.specs.declared.types.Coin.{Coin}
use Rattle.utreexo.specs.Lists.{any}
use Rattle.utreexo.specs.Claims.{Target}
use Rattle.utreexo.specs.Blocks.{ascending}
use Rattle.utreexo.specs.Checks.{Cause, cause, named, outside, above_another}
use Rattle.targets.specs.declared.spend.Spend.{Spend}
use Rattle.targets.specs.declared.placed.Targets.{Targets}
use Rattle.targets.specs.Spends.{targets}

-- the causes for which positions, named with coins, are refused: too many, not as many as the coins, not ascending, outside the forest, one above another
abbrev pub target_causes : ℕ → List ℕ → List Coin → List Cause
target_causes n ps cs =
    cause 2 (nat_lt 32 (length ps))
    ∷ cause 3 (not (length ps == length cs))
    ∷ cause 4 (not (ascending ps))
    ∷ cause 6 (any (outside n) ps)
    ∷ cause 7 (above_another (named n ps cs))
    ∷ []

-- the targets of the definitions
abbrev pub placed : Targets → List Target
placed t = targets (listed t.spends)

-- t are the named targets, in a forest of n slots
pub record Are (n : ℕ) (ps : List ℕ) (cs : List Coin) (t : Targets) : Type 0 where
  pub forest : t.count ≡ n
  pub named_so : placed t ≡ named n ps cs

-- all positions are in the forest, and these are the targets
pub record Located (n : ℕ) (ps : List ℕ) (cs : List Coin) (ss : List Spend) : Type 0 where
  pub all_inside : any (outside n) ps ≡ false
  pub are : targets ss ≡ named n ps cs
