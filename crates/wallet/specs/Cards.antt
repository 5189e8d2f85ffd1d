-- Cards that a wallet judges before it watches them.
use Rattle.std.specs.Prelude.{◌≡◌, ℕ, true, not, ◌&&◌, List, [], ◌∷◌, ◌++◌, Some, Option, ◌==◌}
use Rattle.utreexo.specs.declared.types.Value.{Value}
use Rattle.utreexo.specs.Bytes.{Bytes}
use Rattle.utreexo.specs.Values.{Image}
use Rattle.utreexo.specs.Forest.{locate}
use Rattle.utreexo.specs.Blocks.{entries, spent_count, coin_count, ascending}
use Rattle.utreexo.specs.Claims.{Target}
use Rattle.utreexo.specs.Checks.{Cause, cause, targets_of, place_causes, proof_causes}
use Rattle.utreexo.specs.Wallet.{Held}
use Rattle.shelf.specs.Held.{in_its_tree}
use Rattle.place.specs.Nodes.{node_of}
use Rattle.targets.specs.declared.spend.Spend.{Spend}
use Rattle.targets.specs.Spends.{target_of}

-- the causes of refusal 4 to 10
abbrev pub card_causes : Image → ℕ → List (Option Value) → Bytes → List Cause
card_causes image n roots bs =
    let b = entries bs in
    cause 4 (not (ascending b.targets))
    ∷ cause 5 (not (spent_count bs == 1 && coin_count bs == 0))
    ∷ place_causes n b ++ proof_causes image n roots b

-- the coin of a target with these hashes for its path
abbrev pub held_with : Target → List Value → Held
held_with t hashes = record { coin = t.coin; row = t.node.row; place = t.node.place; path = hashes }

-- a card that adds no coin has this one target, and its coin, with the card's hashes for a path, is in a tree of the forest of n slots
pub record IsOf (n : ℕ) (bs : Bytes) (s : Spend) : Type 0 where
  pub number : ℕ
  pub named : (entries bs).targets ≡ number ∷ []
  pub located : locate n number ≡ Some (node_of s.node)
  pub one : targets_of n (entries bs) ≡ target_of s ∷ []
  pub no_coin : (entries bs).coins ≡ []
  pub in_tree : in_its_tree n (held_with (target_of s) (entries bs).hashes) ≡ true
