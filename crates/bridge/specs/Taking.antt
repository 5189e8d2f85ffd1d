-- What is found of a block that a bridge takes.
use Rattle.std.specs.Prelude.{◌≡◌, map, length}
use Rattle.utreexo.specs.Bytes.{Bytes}
use Rattle.utreexo.specs.Values.{Image}
use Rattle.utreexo.specs.Forest.{Slots}
use Rattle.utreexo.specs.Blocks.{entries}
use Rattle.utreexo.specs.Checks.{targets_of}
use Rattle.undo.specs.Marks.{target_entry}
use Rattle.bridge.specs.declared.judge.Taking.{Taking}

-- these are the slots that the block's targets blank, and the coins that it adds
pub record Takes (image : Image) (s : Slots) (b : Bytes) (t : Taking) : Type 0 where
  pub blanked : t.blanked.items ≡ map (target_entry image s) (targets_of (length s) (entries b))
  pub coins : t.coins.items ≡ (entries b).coins
