use Rattle.std.proofs.Common.{ap, sym, ◌∙◌}
use Rattle.utreexo.specs.Wallet.{with_shelf}
use Rattle.shelf.specs.Held.{shelf_of, astray}
use Rattle.shelf.specs.Finding.{has_position}
use Rattle.shelf.specs.Views.{view_of}
use Rattle.shelf.proofs.Finding.{dropped, with}
use Rattle.shelf.proofs.Carded.{gone, gone_none, astray_remove}
use Rattle.shelf.proofs.state.State.let_go.Goals as goal

pub returns-in_default-clause-answer : goal.returns-in_default-clause-answer
returns-in_default-clause-answer c =
    let s = c.args.self.now in
    gone_none (has_position s.count c.args.position.number) (shelf_of s.shelf) (sym c.in_default.ensures)

pub remove-requires : goal.remove-requires
remove-requires c =
    let s = c.args.self.now in
    (with (has_position s.count c.args.position.number) (shelf_of s.shelf) c.in-Some.index (sym c.in-Some.ensures)).within

pub invariant_of-self : goal.invariant_of-self
invariant_of-self c =
    let s = c.args.self.now in
    record {
      rows = s.rows;
      standing = ap (astray s.count) c.remove.ensures ∙ astray_remove s.count (shelf_of s.shelf) c.in-Some.index s.standing;
    }

pub returns-clause-answer : goal.returns-clause-answer
returns-clause-answer c =
    let s = c.args.self.now in
    let q = has_position s.count c.args.position.number in (
      gone q (shelf_of s.shelf) c.in-Some.index (sym c.in-Some.ensures),
      ap (with_shelf (view_of s)) (c.remove.ensures ∙ sym (dropped q (shelf_of s.shelf) c.in-Some.index (sym c.in-Some.ensures))),
    )
