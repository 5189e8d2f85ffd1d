use Rattle.std.proofs.Common.{◌≡◌, map, length, take, drop, ◌++◌, ap, ◌∙◌, arith, length-append, length-drop, length-set, length-take-le}
use Rattle.std.proofs.lemmas.List.{take-append-drop}
use Rattle.shelf.specs.Held.{held_of}
use Rattle.shelf.specs.Views.{view_of}
use Rattle.grow.specs.Grown.{added}
use Rattle.grow.proofs.Places.{ones_at}
use Rattle.grow.proofs.Carrying.{carried_none, carried_so, carried_all, carried_placed}
use Rattle.grow.proofs.Joining.{front_replaced}
use Rattle.grow.proofs.carry.add_coin.Goals as goal

pub loop-row-init : goal.loop-row-init
loop-row-init g c =
    let s = c.args.state.now in
    record {
      eight = s.shelf.eight;
      carried =
          rw (take-append-drop c.trailing_ones-joined.result s.roots)
          (carried_none g.C.Compression.image s.count c.args.coin c.leaf.result s.roots (map held_of (take s.shelf.len s.shelf.coins)) c.leaf.ensures s.standing);
    }

pub loop-row-preserved : goal.loop-row-preserved
loop-row-preserved g c =
    let s = c.args.state.now in
    let l = c.loop-row in
    let t = c.trailing_ones-joined.result in
    let o = ones_at s.count t c.requires c.trailing_ones-joined.ensures in
    let n : length c.join_coins.new.coins ≡ s.shelf.len = omega (arith, length-take-le s.shelf.len l.coins (omega arith), c.join_coins.auto.coins) in
    let trees : length l.stored-items ≡ t = omega (arith, l.auto.stored-items, length-take-le t s.roots (omega (arith, o.low, s.rows))) in
    record {
      eight = simp (length-append, length-drop) (omega arith);
      carried =
          carried_so g.C.Compression.image s.count (added g.C.Compression.image (view_of s) c.args.coin) l.row l.root l.stored-items
          (drop t s.roots) (map held_of (take s.shelf.len l.coins)) c.take-left.result c.join-root.result c.take-left.new.self
          (map held_of (take s.shelf.len (c.join_coins.new.coins ++ drop s.shelf.len l.coins))) (omega (arith, o.low)) (omega arith)
          (o.one_bits l.row (omega arith)) l.invariant.carried c.take-left.ensures.value c.join-root.ensures c.take-left.ensures.after
          (ap (map held_of) (front_replaced s.shelf.len c.join_coins.new.coins l.coins n) ∙ c.join_coins.ensures);
    }

pub invariant_of-state-2 : goal.invariant_of-state-2
invariant_of-state-2 g c =
    let s = c.args.state.now in
    let l = c.loop-row in
    let t = c.trailing_ones-joined.result in
    let o = ones_at s.count t c.requires c.trailing_ones-joined.ensures in
    let trees : length l.stored-items ≡ t = omega (arith, l.auto.stored-items, length-take-le t s.roots (omega (arith, o.low, s.rows))) in
    record {
      rows = simp (length-set, length-append, length-drop) (omega (arith, s.rows, o.low));
      standing =
          carried_placed g.C.Compression.image s.count (added g.C.Compression.image (view_of s) c.args.coin) l.row t l.root (l.stored-items ++ drop t s.roots)
          (map held_of (take s.shelf.len l.coins)) (omega arith) o.low o.zero_bit l.invariant.carried o.filled;
    }

pub returns-clause-view : goal.returns-clause-view
returns-clause-view g c =
    let s = c.args.state.now in
    let l = c.loop-row in
    let t = c.trailing_ones-joined.result in
    let o = ones_at s.count t c.requires c.trailing_ones-joined.ensures in
    let trees : length l.stored-items ≡ t = omega (arith, l.auto.stored-items, length-take-le t s.roots (omega (arith, o.low, s.rows))) in
    carried_all g.C.Compression.image s.count (added g.C.Compression.image (view_of s) c.args.coin) l.row t l.root (l.stored-items ++ drop t s.roots)
    (map held_of (take s.shelf.len l.coins)) (omega arith) o.low o.zero_bit l.invariant.carried
