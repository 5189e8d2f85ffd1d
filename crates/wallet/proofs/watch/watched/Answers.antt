use Rattle.std.proofs.Common.{◌≡◌, List, [], ◌∷◌, ◌++◌, None, ap, sym, ◌∙◌, arith}
use Rattle.refusal.specs.Numbers.{number}
use Rattle.utreexo.specs.Blocks.{entries}
use Rattle.utreexo.specs.Wallet.{Held, watch_causes, with_shelf, held_from}
use Rattle.shelf.specs.declared.state.State.{State}
use Rattle.shelf.specs.Held.{shelf_of, astray}
use Rattle.shelf.specs.Views.{view_of}
use Rattle.proof.proofs.Chain.{passed}
use Rattle.wallet.proofs.Watching.{standing_pushed, not_judged, on_it, not_on_it, refused_full, coin_stands, path_short, coin_held}
use Rattle.wallet.proofs.watch.watched.Goals as goal

pub returns-in_err-target : goal.returns-in_err-target
returns-in_err-target g c =
    let image = g.C.Compression.image in
    let v = view_of c.args.state in
    let b = c.args.bytes.now in
    let own = c.in_ok-card.card.bytes.now in
    let e = c.in_err-target.field-0.0 in
    passed (watch_causes image v b) (λ (s : State). view_of s ≡ with_shelf v (v.shelf ++ held_from v.count (entries b))) c.from_residual-in_err-target.result e c.from_residual-in_err-target.ensures.1
    (not_judged image v b own c.in_ok-card.ensures.1 c.in_ok-card.ensures.0 (number e) c.in_err-target.ensures)

pub returns-in_default : goal.returns-in_default
returns-in_default g c =
    let v = view_of c.args.state in
    let judged = c.in_ok-target.ensures in
    on_it g.C.Compression.image v c.args.bytes.now c.in_ok-card.card.bytes.now c.in_ok-card.ensures.1 c.in_ok-card.ensures.0 judged.0 (omega arith) c.in_ok-target.target judged.1
    c.args.state.standing c.in_default.field-0 (sym c.in_default.ensures)

pub coin_of-requires : goal.coin_of-requires
coin_of-requires g c =
    let v = view_of c.args.state in
    let judged = c.in_ok-target.ensures in
    path_short g.C.Compression.image v c.args.bytes.now c.in_ok-card.card.bytes.now c.in_ok-card.ensures.1 c.in_ok-card.ensures.0 judged.0 (omega arith) c.in_ok-target.target judged.1
    c.hashes.result.now c.hashes.ensures

pub returns-in_default-push : goal.returns-in_default-push
returns-in_default-push g c =
    let v = view_of c.args.state in
    let judged = c.in_ok-target.ensures in
    refused_full g.C.Compression.image v c.args.bytes.now c.in_ok-card.card.bytes.now c.in_ok-card.ensures.1 c.in_ok-card.ensures.0 judged.0 (omega arith) c.in_ok-target.target judged.1
    c.args.state.standing (sym c.in-None.ensures) (number c.in_default-push.field-0) c.in_default-push.ensures.answer

pub invariant_of-next : goal.invariant_of-next
invariant_of-next g c =
    let s = c.args.state in
    let v = view_of s in
    let judged = c.in_ok-target.ensures in
    let stands =
    coin_stands g.C.Compression.image v c.args.bytes.now c.in_ok-card.card.bytes.now c.in_ok-card.ensures.1 c.in_ok-card.ensures.0 judged.0 (omega arith) c.in_ok-target.target judged.1
    c.hashes.result.now c.hashes.ensures in
    record {
      rows = s.rows;
      standing = ap (astray s.count) (c.in-Ok.ensures.answer.1 ∙ ap (λ (h : Held). shelf_of s.shelf ++ (h ∷ [])) c.coin_of.ensures) ∙ standing_pushed s.count (shelf_of s.shelf) _ s.standing stands;
    }

pub returns : goal.returns
returns g c =
    let image = g.C.Compression.image in
    let s = c.args.state in
    let v = view_of s in
    let b = c.args.bytes.now in
    let own = c.in_ok-card.card.bytes.now in
    let judged = c.in_ok-target.ensures in
    let coin = coin_held image v b own c.in_ok-card.ensures.1 c.in_ok-card.ensures.0 judged.0 (omega arith) c.in_ok-target.target judged.1 c.hashes.result.now c.hashes.ensures in (
      not_on_it image v b own c.in_ok-card.ensures.1 c.in_ok-card.ensures.0 judged.0 (omega arith) c.in_ok-target.target judged.1 s.standing (sym c.in-None.ensures) None c.in-Ok.ensures.answer.0,
      ap (with_shelf v) (c.in-Ok.ensures.answer.1 ∙ ap (λ (h : Held). shelf_of s.shelf ++ (h ∷ [])) c.coin_of.ensures ∙ ap (λ (hs : List Held). shelf_of s.shelf ++ hs) coin),
    )
