-- The table of after-values, and when it is right.
use Rattle.std.specs.Prelude.{◌≡◌, ℕ, ◌/◌, ◌^◌, ◌<◌, cond, List, [], map, Some, None, Option, slice_index_or}
use Rattle.inline_list.specs.InlineList.{listed}
use Rattle.utreexo.specs.declared.types.Value.{Value}
use Rattle.utreexo.specs.Lists.{below, filter}
use Rattle.utreexo.specs.Values.{Image}
use Rattle.utreexo.specs.Forest.{at_node}
use Rattle.utreexo.specs.Claims.{Target, Proof, covered, claim_at, after}
use Rattle.climb.specs.declared.after.AfterValues.{AfterValues}
use Rattle.climb.specs.declared.item.Item.{Item}
use Rattle.climb.specs.Rows.{lookup}
use Rattle.climb.specs.Entries.{entry}

-- the table's rows as lists, from row 0
abbrev pub row_lists : AfterValues → List (List Item)
row_lists t = map listed t.rows

-- what is left by an item that there may be
abbrev pub left_at : Option Item → Option (Option Value)
left_at None = None
left_at (Some x) = Some x.left

-- the after-value of place o of row r; none where it is not covered
abbrev pub look : AfterValues → ℕ → ℕ → Option (Option Value)
look t r o = left_at (lookup (slice_index_or (row_lists t) r []) o)

-- the table has the after-value of each covered place of the forest, and of no other place of it
abbrev pub Tells : Image → Proof → AfterValues → Type 0
Tells image p t =
    (r o : ℕ) → o < p.count / 2 ^ r → look t r o ≡ cond (covered p.targets (at_node r o)) (Some (after image (claim_at p r o))) None

-- the covered places of row r of the forest of n slots, ascending
abbrev pub covered_places : ℕ → List Target → ℕ → List ℕ
covered_places n ts r = filter (λ o. covered ts (at_node r o)) (below (n / 2 ^ r))

-- each row of the table has the row's covered places, from the left, with what is claimed there and what is left; Tells follows (proofs/Filled)
abbrev pub Fills : Image → Proof → AfterValues → Type 0
Fills image p t = (r : ℕ) → r < 32 → slice_index_or (row_lists t) r [] ≡ map (entry image p r) (covered_places p.count p.targets r)
