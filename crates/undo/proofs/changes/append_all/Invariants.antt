use Rattle.std.proofs.Common.{◌≡◌, ◌++◌, map, take, drop, Some}
use Rattle.undo.proofs.changes.append_all.Given as goal

abbrev pub invariant-loop-coin : goal.invariant-loop-coin
invariant-loop-coin g l =
    let limit = g.K.Keeper.limit l.initial.keeper in
    (g.K.Keeper.limit l.keeper ≡ limit)
    × (take limit (g.K.Keeper.slots l.keeper ++ map (λ c. Some c) (drop l.coin-index l.coins)) ≡ take limit (g.K.Keeper.slots l.initial.keeper ++ map (λ c. Some c) l.coins))
