use Rattle.blake2s.proofs.Mixing.{next, done}
use Rattle.blake2s.proofs.compress.mix_rounds.Goals as goal

pub returns : goal.returns
returns g c =
    next _ _ _ _ _ _ _ c.in_order.ensures c.mix_round-v.ensures (next _ _ _ _ _ _ _ c.in_order-2.ensures c.mix_round-v-2.ensures (next _ _ _ _ _ _ _ c.in_order-3.ensures c.mix_round-v-3.ensures (next _ _ _ _ _ _ _ c.in_order-4.ensures c.mix_round-v-4.ensures (next _ _ _ _ _ _ _ c.in_order-5.ensures c.mix_round-v-5.ensures (next _ _ _ _ _ _ _ c.in_order-6.ensures c.mix_round-v-6.ensures (next _ _ _ _ _ _ _ c.in_order-7.ensures c.mix_round-v-7.ensures (next _ _ _ _ _ _ _ c.in_order-8.ensures c.mix_round-v-8.ensures (next _ _ _ _ _ _ _ c.in_order-9.ensures c.mix_round-v-9.ensures (next _ _ _ _ _ _ _ c.in_order-10.ensures c.mix_round.ensures (done _ _))))))))))
