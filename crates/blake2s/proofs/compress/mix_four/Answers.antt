use Rattle.std.proofs.Common.{refl}
use Rattle.blake2s.proofs.Mixing.{mixed}
use Rattle.blake2s.proofs.compress.mix_four.Goals as goal

pub returns : goal.returns
returns c =
    mixed _ _ _ _ _ _ _ _ _ _ _ _ _ _ c.add_three-a.ensures c.rotate_right-d.ensures refl c.rotate_right-b.ensures c.add_three-a-2.ensures c.rotate_right-d-2.ensures refl c.rotate_right-b-2.ensures
