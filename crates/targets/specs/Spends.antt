-- The code's targets as targets of the definitions.
use Rattle.std.specs.Prelude.{List, map}
use Rattle.utreexo.specs.Claims.{Target}
use Rattle.place.specs.Nodes.{node_of}
use Rattle.targets.specs.declared.spend.Spend.{Spend}

abbrev pub target_of : Spend → Target
target_of s = record { node = node_of s.node; coin = s.coin }

abbrev pub targets : List Spend → List Target
targets ss = map target_of ss
