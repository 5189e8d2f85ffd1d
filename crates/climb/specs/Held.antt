-- What a row holds.
use Rattle.std.specs.Prelude.{◌≡◌, ℕ, ◌*◌, ◌/◌, ◌≤◌, Bool, true, not, List, [], ◌∷◌, map, length, take, drop}
use Rattle.utreexo.specs.declared.types.Value.{Value}
use Rattle.utreexo.specs.Bytes.{Bytes, part, value_in}
use Rattle.utreexo.specs.Lists.{below}
use Rattle.climb.specs.declared.item.Item.{Item}
use Rattle.targets.specs.declared.spend.Spend.{Spend}
use Rattle.targets.specs.Spends.{targets}
use Rattle.climb.specs.Rows.{beside, front, past}

-- no right sibling of the item is the first of those that come after it
abbrev pub alone_item : Item → List Item → Bool
alone_item x [] = true
alone_item x (y ∷ ys) = not (beside x.place y.place)

-- the first k are the targets of row r in front
pub record Counted (r : ℕ) (ss : List Spend) (k : ℕ) : Type 0 where
  pub within : k ≤ length ss
  pub taken : targets (take k ss) ≡ front r (targets ss)
  pub rest : targets (drop k ss) ≡ past r (targets ss)

-- the hashes that bytes stand for, 32 each
abbrev pub hashes_in : Bytes → List Value
hashes_in bs = map (λ i. value_in (part (32 * i) 32 bs)) (below (length bs / 32))
