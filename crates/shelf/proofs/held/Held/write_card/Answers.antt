use Rattle.std.proofs.Common.{[], ◌∷◌, ap, ◌∙◌}
use Rattle.utreexo.specs.Checks.{compose}
use Rattle.shelf.proofs.held.Held.write_card.Goals as goal

pub returns-clause-answer : goal.returns-clause-answer
returns-clause-answer c =
    c.compose.ensures.answer ∙ ap (λ hs. compose (c.args.position.number ∷ []) (c.args.self.now.coin ∷ []) hs [] c.args.out.now) c.path.ensures
