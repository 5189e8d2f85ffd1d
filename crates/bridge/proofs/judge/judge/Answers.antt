use Rattle.std.proofs.Common.{◌≡◌, ◌+◌, length, map, sym, ap, ◌∙◌, arith}
use Rattle.utreexo.specs.Bridge.{bridge_take_causes}
use Rattle.climb.specs.Held.{hashes_in}
use Rattle.proof.proofs.Chain.{passed}
use Rattle.undo.specs.Marks.{target_entry}
use Rattle.bridge.specs.Taking.{Takes}
use Rattle.bridge.proofs.Chain.{placed_so, coins_so, not_placed, too_many, not_live, as_many, not_fresh, no_room, all_pass}
use Rattle.bridge.proofs.judge.judge.Goals as goal

pub returns-in_err-targets : goal.returns-in_err-targets
returns-in_err-targets g c =
    let image = g.C.Compression.image in
    let s = g.K.Keeper.slots c.args.keeper.now in
    let room = g.K.Keeper.limit c.args.keeper.now in
    let bs = c.args.bytes.now in
    let (read, same) = c.in_ok-block.ensures in
    let x = c.in_ok-block.block.bytes.now in
    passed (bridge_take_causes image room s bs) (Takes image s bs) c.from_residual-in_err-targets.result c.in_err-targets.field-0.0 c.from_residual-in_err-targets.ensures.1
    (not_placed image room s bs read x same c.count-count.result c.count-count.ensures _ c.in_err-targets.ensures)

pub returns-in_err-check_limit : goal.returns-in_err-check_limit
returns-in_err-check_limit g c =
    let image = g.C.Compression.image in
    let s = g.K.Keeper.slots c.args.keeper.now in
    let room = g.K.Keeper.limit c.args.keeper.now in
    let bs = c.args.bytes.now in
    let (read, same) = c.in_ok-block.ensures in
    let x = c.in_ok-block.block.bytes.now in
    let (none, (forest, are)) = c.in_ok-targets.ensures in
    let t = c.in_ok-targets.targets in
    let cs = c.coins-coins.result.items in
    let sum = c.count-count.result + c.len.result in
    let total : sum ≡ length s + length cs = omega (arith, c.count-count.ensures, c.len.ensures.value) in
    passed (bridge_take_causes image room s bs) (Takes image s bs) c.from_residual-in_err-check_limit.result c.in_err-check_limit.field-0.0 c.from_residual-in_err-check_limit.ensures.1
    (too_many image room s bs read x same c.count-count.result c.count-count.ensures none t are cs c.coins-coins.ensures sum total _ c.in_err-check_limit.ensures.judged)

pub returns-in_default : goal.returns-in_default
returns-in_default g c =
    let image = g.C.Compression.image in
    let s = g.K.Keeper.slots c.args.keeper.now in
    let room = g.K.Keeper.limit c.args.keeper.now in
    let bs = c.args.bytes.now in
    let (read, same) = c.in_ok-block.ensures in
    let x = c.in_ok-block.block.bytes.now in
    let (none, (forest, are)) = c.in_ok-targets.ensures in
    let t = c.in_ok-targets.targets in
    let cs = c.coins-coins.result.items in
    let sum = c.count-count.result + c.len.result in
    let total : sum ≡ length s + length cs = omega (arith, c.count-count.ensures, c.len.ensures.value) in
    not_live image room s bs read x same c.count-count.result c.count-count.ensures none t are cs c.coins-coins.ensures sum total c.in_ok-check_limit.ensures.room c.in_default.ensures

pub are_hashes-requires : goal.are_hashes-requires
are_hashes-requires g c =
    let image = g.C.Compression.image in
    let s = g.K.Keeper.slots c.args.keeper.now in
    let room = g.K.Keeper.limit c.args.keeper.now in
    let bs = c.args.bytes.now in
    let (read, same) = c.in_ok-block.ensures in
    let x = c.in_ok-block.block.bytes.now in
    let (none, (forest, are)) = c.in_ok-targets.ensures in
    let t = c.in_ok-targets.targets in
    let cs = c.coins-coins.result.items in
    let sum = c.count-count.result + c.len.result in
    let total : sum ≡ length s + length cs = omega (arith, c.count-count.ensures, c.len.ensures.value) in
    as_many image room s bs read x same c.count-count.result c.count-count.ensures none t are cs c.coins-coins.ensures sum total c.in_ok-check_limit.ensures.room c.in-Some.ensures.0 (hashes_in c.hashes.result.now) c.as_slice.result.now c.hashes.ensures (c.as_slice.ensures.value ∙ c.fresh_hashes.ensures)

pub returns-then-not-are_hashes : goal.returns-then-not-are_hashes
returns-then-not-are_hashes g c =
    let image = g.C.Compression.image in
    let s = g.K.Keeper.slots c.args.keeper.now in
    let room = g.K.Keeper.limit c.args.keeper.now in
    let bs = c.args.bytes.now in
    let (read, same) = c.in_ok-block.ensures in
    let x = c.in_ok-block.block.bytes.now in
    let (none, (forest, are)) = c.in_ok-targets.ensures in
    let t = c.in_ok-targets.targets in
    let cs = c.coins-coins.result.items in
    let sum = c.count-count.result + c.len.result in
    let total : sum ≡ length s + length cs = omega (arith, c.count-count.ensures, c.len.ensures.value) in
    not_fresh image room s bs read x same c.count-count.result c.count-count.ensures none t are cs c.coins-coins.ensures sum total c.in_ok-check_limit.ensures.room c.in-Some.ensures.0 (hashes_in c.hashes.result.now) c.as_slice.result.now c.hashes.ensures (c.as_slice.ensures.value ∙ c.fresh_hashes.ensures) (sym c.if-not-are_hashes.ensures)

pub returns-then-count-len : goal.returns-then-count-len
returns-then-count-len g c =
    let image = g.C.Compression.image in
    let s = g.K.Keeper.slots c.args.keeper.now in
    let room = g.K.Keeper.limit c.args.keeper.now in
    let bs = c.args.bytes.now in
    let (read, same) = c.in_ok-block.ensures in
    let x = c.in_ok-block.block.bytes.now in
    let (none, (forest, are)) = c.in_ok-targets.ensures in
    let t = c.in_ok-targets.targets in
    let cs = c.coins-coins.result.items in
    let sum = c.count-count.result + c.len.result in
    let total : sum ≡ length s + length cs = omega (arith, c.count-count.ensures, c.len.ensures.value) in
    no_room image room s bs read x same c.count-count.result c.count-count.ensures none t are cs c.coins-coins.ensures sum total c.in_ok-check_limit.ensures.room c.in-Some.ensures.0 (hashes_in c.hashes.result.now) c.as_slice.result.now c.hashes.ensures (c.as_slice.ensures.value ∙ c.fresh_hashes.ensures) (sym c.if-not-are_hashes.ensures) (omega (arith, c.capacity.ensures, c.if-count-len.true, c.len-2.ensures.value, c.len.ensures.value))

pub returns : goal.returns
returns g c =
    let image = g.C.Compression.image in
    let s = g.K.Keeper.slots c.args.keeper.now in
    let room = g.K.Keeper.limit c.args.keeper.now in
    let bs = c.args.bytes.now in
    let (read, same) = c.in_ok-block.ensures in
    let x = c.in_ok-block.block.bytes.now in
    let (none, (forest, are)) = c.in_ok-targets.ensures in
    let t = c.in_ok-targets.targets in
    let cs = c.coins-coins.result.items in
    let sum = c.count-count.result + c.len.result in
    let total : sum ≡ length s + length cs = omega (arith, c.count-count.ensures, c.len.ensures.value) in (
      all_pass image room s bs read x same c.count-count.result c.count-count.ensures none t are cs c.coins-coins.ensures sum total c.in_ok-check_limit.ensures.room c.in-Some.ensures.0 (hashes_in c.hashes.result.now) c.as_slice.result.now c.hashes.ensures (c.as_slice.ensures.value ∙ c.fresh_hashes.ensures) (sym c.if-not-are_hashes.ensures) (omega (arith, c.capacity.ensures, c.if-count-len.false, c.len-2.ensures.value, c.len.ensures.value)),
      record {
        blanked = c.in-Some.ensures.1 ∙ ap (map (target_entry image s)) (placed_so image room s bs read x same c.count-count.result c.count-count.ensures none t are cs c.coins-coins.ensures sum total);
        coins = coins_so image room s bs read x same c.count-count.result c.count-count.ensures none t are cs c.coins-coins.ensures sum total;
      },
    )
