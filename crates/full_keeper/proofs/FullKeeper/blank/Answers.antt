use Rattle.std.proofs.Common.{length, None, vec_items, vec_len, ap, arith, rules}
use Rattle.std.proofs.lemmas.List.{with_items_is}
use Rattle.full_keeper.proofs.Rows.{room}
use Rattle.full_keeper.proofs.Values.{updated, set_kept}
use Rattle.full_keeper.proofs.FullKeeper.blank.Goals as goal

pub update_path-requires-clause-room : goal.update_path-requires-clause-room
update_path-requires-clause-room g c =
    let m = c.args.self.now in
    room (length c.slots.result.now) m.bare.limit (vec_len m.table) (length c.as_mut_slice.result.now) (omega (arith, ap length c.slots.ensures, c.blank.new.self.fits, c.in_ok-blank.ensures.same)) m.bare.small c.as_mut_slice.ensures.len (omega (arith, m.room))

pub invariant_of-self-2 : goal.invariant_of-self-2
invariant_of-self-2 g c =
    let m = c.args.self.now in
    record {
      room = search rules;
      stored = updated g.C.Compression.image (vec_items c.blank.new.self.coins) _ (vec_items m.table) _ _ _ c.args.slot.number c.slots.ensures c.as_mut_slice.ensures.value
          (with_items_is m.table c.update_path.new.table (omega arith)) c.update_path.ensures
          (set_kept g.C.Compression.image m.bare.coins.items _ m.table.items c.args.slot.number None c.in_ok-blank.ensures.after.2 m.stored);
    }
