use Rattle.std.proofs.Common.{◌≡◌, ◌+◌, ◌-◌, length, vec_items, vec_len, ap, ◌∙◌, arith, length-take, rules}
use Rattle.std.proofs.lemmas.List.{with_items_is}
use Rattle.full_keeper.proofs.Rows.{room}
use Rattle.full_keeper.proofs.Values.{cut_kept}
use Rattle.full_keeper.proofs.FullKeeper.cut.Goals as goal

pub invariant_of-self-2 : goal.invariant_of-self-2
invariant_of-self-2 g c =
    let m = c.args.self.now in
    let z = c.in_ok-cut.ensures.after in
    record {
      room = search rules;
      stored = cut_kept g.C.Compression.image (vec_items m.bare.coins) _ (vec_items m.table) c.as_mut_slice.result.now c.relay.new.table _ c.count-count.result z.0 c.count-count.ensures z.1
          c.as_mut_slice.ensures.value (with_items_is m.table c.relay.new.table (omega arith)) c.relay.ensures m.stored;
    }

pub relay-requires : goal.relay-requires
relay-requires g c =
    let m = c.args.self.now in
    let n = c.count-count.result in
    let z = c.in_ok-cut.ensures.after in
    let pos = z.0 in
    let less : length c.cut.new.self.coins.items ≡ length (vec_items m.bare.coins) - 1 = ap length z.1 ∙ simp length-take (omega arith) in
    let len = vec_len m.table in
    let size = length c.as_mut_slice.result.now in
    let e = c.as_mut_slice.ensures.len in
    (room (n + 1) m.bare.limit len size (omega arith) m.bare.small e (omega (arith, m.room)), room n m.bare.limit len size (omega arith) m.bare.small e (omega (arith, m.room)))
