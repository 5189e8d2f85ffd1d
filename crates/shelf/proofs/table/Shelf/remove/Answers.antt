use Rattle.std.proofs.Common.{map, take, ◌-◌, ap, ◌∙◌, arith}
use Rattle.shelf.specs.Held.{held_of}
use Rattle.shelf.proofs.Closing.{shelf_closed, shelf_length}
use Rattle.shelf.proofs.table.Shelf.remove.Goals as goal

pub returns : goal.returns
returns c =
    let s = c.args.self.now in
    let n = shelf_length s in
    let l = c.requires in
    let e = s.eight in
    let f = s.few in
    ap (λ rs. map held_of (take (s.len - 1) rs)) c.copy_within.ensures.after ∙ shelf_closed s.coins c.args.index s.len (omega arith) (omega arith)
