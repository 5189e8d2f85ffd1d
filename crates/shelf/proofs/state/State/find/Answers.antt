use Rattle.std.proofs.Common.{sym, ◌∙◌, ap, arith}
use Rattle.place.specs.Nodes.{node_of, node_in}
use Rattle.shelf.specs.Finding.{has_position, is_at}
use Rattle.shelf.specs.Held.{shelf_of}
use Rattle.shelf.proofs.Standing.{index_same, index_nowhere, position_at_node, position_of_none}
use Rattle.shelf.proofs.state.State.find.Goals as goal

pub returns-in_err-node : goal.returns-in_err-node
returns-in_err-node c =
    let s = c.args.self.now in
    let p = c.args.position.number in
    c.from_residual.ensures
    ∙ sym (index_nowhere s.count (has_position s.count p) (position_of_none s.count (omega arith) p (sym c.locate.ensures.value ∙ ap node_in (c.in_err-node.was))) (shelf_of s.shelf) s.standing)

pub returns : goal.returns
returns c =
    let s = c.args.self.now in
    let p = c.args.position.number in
    let d = node_of c.in_ok-node.node in
    c.find.ensures
    ∙ index_same s.count (is_at d) (has_position s.count p) (position_at_node s.count (omega arith) p d (sym c.locate.ensures.value ∙ ap node_in (c.in_ok-node.was))) (shelf_of s.shelf) s.standing
