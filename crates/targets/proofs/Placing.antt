-- The checks, by what is left to look at.
use Rattle.std.proofs.Common.{◌≡◌, ℕ, ◌+◌, ◌≤◌, Bool, ◌||◌, List, [], ◌∷◌, ◌++◌, length, refl, ap}
use Rattle.std.specs.List.{list_any}
use Rattle.utreexo.specs.declared.types.Coin.{Coin}
use Rattle.utreexo.specs.declared.types.Position.{Position}
use Rattle.utreexo.specs.Lists.{any}
use Rattle.utreexo.specs.Claims.{Target}
use Rattle.utreexo.specs.Checks.{named, outside}
use Rattle.block.specs.Compose.{numbers}
use Rattle.targets.specs.declared.spend.Spend.{Spend}
use Rattle.targets.specs.Spends.{target_of, targets}

-- whether a target passes a test
pub any_targets : (p : Target → Bool) (ss : List Spend) → list_any (λ s. p (target_of s)) ss ≡ any p (targets ss)
any_targets p [] = refl
any_targets p (s ∷ ss) = ap (λ b. p (target_of s) || b) (any_targets p ss)

module _ (n : ℕ) (ps : List Position) (cs : List Coin) where
  -- all but the positions and coins that are left are placed
  pub record Placing (out : List Spend) (left : List Position) (unspent : List Coin) : Type 0 where
    pub few : length out + length left ≤ 32
    pub same : length left ≡ length unspent
    pub ahead : any (outside n) (numbers left) ≡ any (outside n) (numbers ps)
    pub are : targets out ++ named n (numbers left) unspent ≡ named n (numbers ps) cs
