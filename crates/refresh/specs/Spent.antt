-- A shelf, and a state, once a block's targets are spent.
use Rattle.std.specs.Prelude.{◌≡◌, Bool, not, List, map, Option}
use Rattle.utreexo.specs.declared.types.Value.{Value}
use Rattle.utreexo.specs.Lists.{below, filter}
use Rattle.utreexo.specs.Values.{Image}
use Rattle.utreexo.specs.Claims.{Target, root_after}
use Rattle.utreexo.specs.Blocks.{Block}
use Rattle.utreexo.specs.Checks.{targets_of, block_proof}
use Rattle.utreexo.specs.Wallet.{Held, View, leaves_shelf, spend}
use Rattle.climb.specs.declared.after.AfterValues.{AfterValues}
use Rattle.climb.specs.After.{Tells}
use Rattle.refresh.specs.Refreshed.{Lookup, refreshed_by}

-- the coin stays on the shelf
abbrev pub stays : List Target → Held → Bool
stays ts h = not (leaves_shelf ts h)

-- the shelf once the targets are spent, by the table alone: the coins that stay, refreshed
abbrev pub shelf_after : Lookup → List Target → List Held → List Held
shelf_after f ts hs = map (refreshed_by f) (filter (stays ts) hs)

-- From v to w a block is spent: whatever block has these targets and this table of after-values, and leaves these roots.
abbrev pub Spends : List Target → AfterValues → List (Option Value) → View → View → Type 0
Spends ts t roots v w =
    (image : Image) (b : Block) → ts ≡ targets_of v.count b → Tells image (block_proof v.count b) t
    → roots ≡ map (root_after image (block_proof v.count b) v.roots) (below 32) → w ≡ spend image b v
