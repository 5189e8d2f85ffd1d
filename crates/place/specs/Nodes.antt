-- The code's nodes as nodes of the definitions; roots, parents and siblings of places, and positions of places.
use Rattle.std.specs.Prelude.{ℕ, Bool, false, cond, not, ◌&&◌, is_some, Some, None, Option, nat_eq}
use Rattle.utreexo.specs.declared.types.Position.{Position}
use Rattle.utreexo.specs.Forest.{Node as ForestNode, at_node, tree_place, tree_of, position, sibling}
use Rattle.place.specs.declared.Node.{Node}

-- What the code holds ---------------------------------------------------------------

abbrev pub node_of : Node → ForestNode
node_of d = at_node d.row d.place

abbrev pub node_in : Option Node → Option ForestNode
node_in None = None
node_in (Some d) = Some (node_of d)

abbrev pub number_of : Option Position → Option ℕ
number_of None = None
number_of (Some p) = Some p.number

-- Roots, parents, siblings ----------------------------------------------------------

-- d is in the forest
abbrev pub inside : ℕ → ForestNode → Bool
inside n d = is_some (tree_of n d)

-- d is the root of the tree that it lies in
abbrev pub is_root : ℕ → ForestNode → Bool
is_root n d = elim (tree_of n d) [ None ↦ false | Some k ↦ nat_eq k d.row ]

-- d is in the forest and no root, so it has a sibling there
abbrev pub below_root : ℕ → ForestNode → Bool
below_root n d = inside n d && not (is_root n d)

abbrev pub sibling_of : ℕ → ForestNode → Option ForestNode
sibling_of n d = cond (below_root n d) (Some (at_node d.row (sibling d.place))) None

-- Positions ---------------------------------------------------------------------------

-- the number of a place, in the forest or not
abbrev pub number_at : ℕ → ForestNode → ℕ
number_at n d = position n d.row d.place

-- the position of a place of the forest
abbrev pub position_at : ℕ → ForestNode → Option ℕ
position_at n d = cond (inside n d) (Some (number_at n d)) None

-- the position of the root of a tree, by the row of the tree
abbrev pub tree_position : ℕ → Option ℕ → Option ℕ
tree_position n None = None
tree_position n (Some k) = Some (position n k (tree_place n k))

-- the position of the root of the tree that a place of the forest lies in
abbrev pub root_position : ℕ → ForestNode → Option ℕ
root_position n d = tree_position n (tree_of n d)
