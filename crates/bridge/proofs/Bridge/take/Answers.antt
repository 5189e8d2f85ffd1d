use Rattle.std.proofs.Common.{◌^◌, ◌<◌, length, ◌∙◌, arith}
use Rattle.undo.specs.Marks.{marks_of}
use Rattle.bridge.proofs.Changing.{took}
use Rattle.bridge.proofs.Bridge.take.Goals as goal

pub invariant_of-self : goal.invariant_of-self
invariant_of-self g c =
    let b = c.args.self.now in
    let s = g.K.Keeper.slots b.keeper in
    let small : length s < 2 ^ 32 = omega (arith, g.met.K.Keeper.fits b.keeper, g.met.K.Keeper.small b.keeper) in
    let (none, takes) = c.in_ok-taking.ensures in
    let both =
    took g.C.Compression.image (g.K.Keeper.limit b.keeper) s small c.args.block.now none c.in_ok-taking.taking takes c.new-mark.result (c.new-mark.ensures.count ∙ c.count.ensures)
    c.as_slice.result.now c.as_slice.ensures.fits c.as_slice.ensures.value c.new-mark.ensures.value
    c.as_slice-2.result.now (g.K.Keeper.limit c.blank.new.keeper) (g.K.Keeper.limit c.append_all.new.keeper) (g.K.Keeper.slots c.blank.new.keeper) (g.K.Keeper.slots c.append_all.new.keeper)
    (marks_of b.marks) (marks_of c.push.new.self) c.as_slice-2.ensures.value c.blank.ensures.after c.blank.ensures.same c.append_all.ensures.after c.append_all.ensures.same c.push.ensures b.undoable in
    record { undoable = both.1 }

pub returns : goal.returns
returns g c =
    let b = c.args.self.now in
    let s = g.K.Keeper.slots b.keeper in
    let small : length s < 2 ^ 32 = omega (arith, g.met.K.Keeper.fits b.keeper, g.met.K.Keeper.small b.keeper) in
    let (none, takes) = c.in_ok-taking.ensures in
    let both =
    took g.C.Compression.image (g.K.Keeper.limit b.keeper) s small c.args.block.now none c.in_ok-taking.taking takes c.new-mark.result (c.new-mark.ensures.count ∙ c.count.ensures)
    c.as_slice.result.now c.as_slice.ensures.fits c.as_slice.ensures.value c.new-mark.ensures.value
    c.as_slice-2.result.now (g.K.Keeper.limit c.blank.new.keeper) (g.K.Keeper.limit c.append_all.new.keeper) (g.K.Keeper.slots c.blank.new.keeper) (g.K.Keeper.slots c.append_all.new.keeper)
    (marks_of b.marks) (marks_of c.push.new.self) c.as_slice-2.ensures.value c.blank.ensures.after c.blank.ensures.same c.append_all.ensures.after c.append_all.ensures.same c.push.ensures b.undoable in
    both.0
