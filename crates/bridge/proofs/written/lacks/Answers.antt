use Rattle.std.proofs.Common.{not, is_some, ap, ◌∙◌}
use Rattle.bridge.proofs.Writing.{lacks_so, turned}
use Rattle.bridge.proofs.written.lacks.Goals as goal

pub returns : goal.returns
returns g c =
    turned c.coin_having.result c.is_none.result c.is_none.ensures ∙ ap (λ o. not (is_some o)) c.coin_having.ensures
    ∙ lacks_so g.C.Compression.image (g.K.Keeper.slots c.args.keeper.now) c.args.position.number
