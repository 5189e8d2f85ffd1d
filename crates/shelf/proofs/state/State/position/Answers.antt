use Rattle.std.proofs.Common.{map, length, slice_get, ap, sym, ◌∙◌, arith}
use Rattle.std.proofs.lemmas.Bool.{ltb-true}
use Rattle.utreexo.specs.Wallet.{position_of}
use Rattle.place.specs.Nodes.{position_at}
use Rattle.shelf.specs.Held.{astray}
use Rattle.shelf.proofs.Carded.{position_in}
use Rattle.shelf.proofs.state.State.position.Goals as goal

pub returns : goal.returns
returns c =
    let s = c.args.self.now in
    let rs = c.as_slice.result.now in
    let r = c.in_ok-held.held.now in
    let found = c.in_ok-held.ensures.lookup in
    c.position_of.ensures ∙ ap (position_at s.count) c.node.ensures
    ∙ position_in s.count (omega arith) rs c.args.index r (ap (astray s.count) c.as_slice.ensures ∙ s.standing) (ltb-true c.args.index (length rs) (sym found.0)) found.1
    ∙ ap (λ hs. slice_get (map (position_of s.count) hs) c.args.index) c.as_slice.ensures
