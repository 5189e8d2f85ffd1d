-- The needed positions that the code finds.
use Rattle.std.specs.Prelude.{ℕ, List, map}
use Rattle.inline_list.specs.InlineList.{listed}
use Rattle.utreexo.specs.Forest.{Node, position}
use Rattle.place.specs.Nodes.{node_of}
use Rattle.climb.specs.declared.item.Item.{Item}
use Rattle.climb.specs.declared.needed.Needed.{Needed}

abbrev pub nodes_of : Needed → List Node
nodes_of t = map node_of (listed t.nodes)

-- their numbers in a forest of n slots
abbrev pub numbered : ℕ → List Node → List ℕ
numbered n ds = map (λ d. position n d.row d.place) ds

-- the places of a row's items
abbrev pub places : List Item → List ℕ
places xs = map (λ x. x.place) xs
