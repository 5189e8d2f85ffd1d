use Rattle.std.proofs.Common.{get_or, sym, ◌∙◌, subst, arith}
use Rattle.utreexo.specs.Outcomes.{Writes}
use Rattle.shelf.specs.Held.{held_of}
use Rattle.shelf.specs.Finding.{has_position}
use Rattle.shelf.specs.Views.{view_of}
use Rattle.shelf.proofs.Carded.{shown_none, index_low, coin_first, shown_card, card_shown, path_few}
use Rattle.shelf.proofs.state.State.show.Goals as goal

pub returns-in_default-clause-answer : goal.returns-in_default-clause-answer
returns-in_default-clause-answer c = shown_none (view_of c.args.self.now) c.args.position.number c.args.out.now (sym c.in_default.ensures)

pub offset_bounds-self-index : goal.offset_bounds-self-index
offset_bounds-self-index c =
    let s = c.args.self.now in
    let l = index_low s.shelf (has_position s.count c.args.position.number) c.in-Some.index (sym c.in-Some.ensures) in
    let f = s.shelf.few in
    omega arith

pub listed : goal.listed
listed c =
    let s = c.args.self.now in
    let l = index_low s.shelf (has_position s.count c.args.position.number) c.in-Some.index (sym c.in-Some.ensures) in
    let f = s.shelf.few in
    let e = s.shelf.eight in
    omega arith

pub bounds-self-index : goal.bounds-self-index
bounds-self-index c =
    let s = c.args.self.now in
    let l = index_low s.shelf (has_position s.count c.args.position.number) c.in-Some.index (sym c.in-Some.ensures) in
    let f = s.shelf.few in
    omega arith

pub returns-clause-answer : goal.returns-clause-answer
returns-clause-answer c =
    let s = c.args.self.now in
    let p = c.args.position.number in
    let i = c.in-Some.index in
    let r = get_or s.shelf.coins i c.index-self-index.result in
    let e = coin_first s.shelf (has_position s.count p) i (sym c.in-Some.ensures) c.index-self-index.result in
    c.write_card.ensures.answer ∙ shown_card (view_of s) p c.args.out.now (held_of r) e (path_few r)

pub returns-clause-left : goal.returns-clause-left
returns-clause-left c =
    let s = c.args.self.now in
    let p = c.args.position.number in
    let i = c.in-Some.index in
    let r = get_or s.shelf.coins i c.index-self-index.result in
    let e = coin_first s.shelf (has_position s.count p) i (sym c.in-Some.ensures) c.index-self-index.result in
    subst (λ b. Writes b c.args.out.now c.write_card.new.out c.write_card.result) (card_shown (view_of s) p (held_of r) e) c.write_card.ensures.left
