use Rattle.std.proofs.Common.{◌+◌, length, Some, vec_items, vec_len, refl, ap, arith, rules}
use Rattle.std.proofs.lemmas.List.{with_items_is}
use Rattle.full_keeper.proofs.Rows.{room}
use Rattle.full_keeper.proofs.Values.{updated, push_kept}
use Rattle.full_keeper.proofs.FullKeeper.append.Goals as goal

pub invariant_of-self-2 : goal.invariant_of-self-2
invariant_of-self-2 g c =
    let m = c.args.self.now in
    record {
      room = search rules;
      stored = updated g.C.Compression.image (vec_items c.append.new.self.coins) _ c.relay.new.table _ _ _ c.count-count.result c.slots.ensures refl
          (with_items_is m.table c.update_path.new.table (omega arith)) c.update_path.ensures
          (push_kept g.C.Compression.image (vec_items m.bare.coins) _ (vec_items m.table) c.as_mut_slice-table.result.now c.relay.new.table _ c.count-count.result (Some c.args.coin)
          c.count-count.ensures c.in_ok-append.ensures.after.1 c.as_mut_slice-table.ensures.value refl c.relay.ensures m.stored);
    }

pub update_path-requires-clause-room : goal.update_path-requires-clause-room
update_path-requires-clause-room g c =
    let m = c.args.self.now in
    room (length c.slots.result.now) m.bare.limit (vec_len m.table) (length c.relay.new.table) (omega (arith, ap length c.slots.ensures, c.append.new.self.fits, c.in_ok-append.ensures.same)) m.bare.small (omega (arith, c.as_mut_slice-table.ensures.len)) (omega (arith, m.room))

pub relay-requires : goal.relay-requires
relay-requires g c =
    let m = c.args.self.now in
    let n = c.count-count.result in
    let less = c.in_ok-append.ensures.after.0 in
    let len = vec_len m.table in
    let size = length c.as_mut_slice-table.result.now in
    let e = c.as_mut_slice-table.ensures.len in
    (room n m.bare.limit len size (omega arith) m.bare.small e (omega (arith, m.room)), room (n + 1) m.bare.limit len size (omega arith) m.bare.small e (omega (arith, m.room)))
