-- Each call as a step of the definitions' wallet, from what the code's parts say.
use Rattle.std.proofs.Common.{◌≡◌, ℕ, not, List, [], ◌∷◌, ◌++◌, map, Some, None, Option, Ok, Err, Result, IfErr, sym, refl, ap, ◌∙◌}
use Rattle.std.proofs.lemmas.List.{take-map}
use Rattle.refusal.specs.declared.Refusal.{Refusal}
use Rattle.refusal.specs.Numbers.{number}
use Rattle.utreexo.specs.Bytes.{Bytes}
use Rattle.utreexo.specs.Values.{Image}
use Rattle.utreexo.specs.Blocks.{entries}
use Rattle.utreexo.specs.Checks.{Cause, cause, refusal, granted, refused, step, when_granted, push}
use Rattle.utreexo.specs.Outcomes.{answer_of, Judged}
use Rattle.utreexo.specs.Wallet.{View, Wallet, take_causes, watch_causes, view_after, with_view, with_shelf, held_from, on_shelf, drop_first}
use Rattle.utreexo.specs.Wallet.{take_block, check_block, watch, let_go, take_back, wallet_step}
use Rattle.laws.proofs.Logic.{never, some_inj}
use Rattle.history.specs.Stack.{newest_of, older}
use Rattle.shelf.specs.declared.state.State.{State}
use Rattle.shelf.specs.Finding.{has_position}
use Rattle.shelf.specs.Views.{view_of}

-- granted, and refused
pub granted_step : {S : Type 0} (d : Option ℕ) (new old : S) → d ≡ None → when_granted d new old ≡ step (granted []) new
granted_step d new old e = ap (λ d. when_granted d new old) e

pub refused_step : {S : Type 0} (d : Option ℕ) (n : ℕ) (new old : S) → d ≡ Some n → when_granted d new old ≡ step (refused n) old
refused_step d n new old e = ap (λ d. when_granted d new old) e

module _ (image : Image) (w : Wallet) where
  pub taken_step : (b : Bytes) (room : ℕ) (v : View) (marks : List View) → refusal (take_causes image w.view b) ≡ None → room ≡ w.room → v ≡ view_after image b w.view
      → marks ≡ push w.room w.view w.marks → wallet_step image (take_block b) w ≡ step (granted []) (record { room = room; view = v; marks = marks })
  taken_step b room v marks e r q m =
      granted_step (refusal (take_causes image w.view b)) (record { room = w.room; view = view_after image b w.view; marks = push w.room w.view w.marks }) w e
      ∙ (λ i. step (granted []) (record { room = sym r i; view = sym q i; marks = sym m i }))

  pub checked_step : (b : Bytes) (r : Result (Unit {0}) Refusal) → Judged (take_causes image w.view b) (λ _. Unit {0}) r → wallet_step image (check_block b) w ≡ step (answer_of r) w
  checked_step b (Ok u) j = granted_step (refusal (take_causes image w.view b)) w w j.0
  checked_step b (Err e) j = refused_step (refusal (take_causes image w.view b)) (number e) w w j

  -- the wallet with a card's coin on the shelf
  abbrev watching : Bytes → View
  watching b = with_shelf w.view (w.view.shelf ++ held_from w.view.count (entries b))

  pub watched_step : (b : Bytes) (v : View) → refusal (watch_causes image w.view b) ≡ None → v ≡ watching b → wallet_step image (watch b) w ≡ step (granted []) (with_view w v)
  watched_step b v e q = granted_step (refusal (watch_causes image w.view b)) (with_view w (watching b)) w e ∙ ap (λ v. step (granted []) (with_view w v)) (sym q)

  -- the causes to refuse letting go, and the wallet without the coin
  abbrev let_go_causes : ℕ → List Cause
  let_go_causes p = cause 15 (not (on_shelf w.view.count w.view.shelf p)) ∷ []

  abbrev without : ℕ → View
  without p = with_shelf w.view (drop_first (has_position w.view.count p) w.view.shelf)

  pub let_go_step : (p : ℕ) (v : View) (r : Result (Unit {0}) Refusal) → Judged (let_go_causes p) (λ _. v ≡ without p) r → IfErr r (λ _. v ≡ w.view)
      → wallet_step image (let_go p) w ≡ step (answer_of r) (with_view w v)
  let_go_step p v (Ok u) (e, q) k = granted_step (refusal (let_go_causes p)) (with_view w (without p)) w e ∙ ap (λ v. step (granted []) (with_view w v)) (sym q)
  let_go_step p v (Err e) j k =
      refused_step (refusal (let_go_causes p)) (number e) (with_view w (without p)) w j ∙ ap (λ v. step (refused (number e)) (with_view w v)) (sym k)

-- the marks as views, with one more
pub marks_pushed : (room : ℕ) (s : State) (ms : List State) → map view_of (push room s ms) ≡ push room (view_of s) (map view_of ms)
marks_pushed room s ms = sym (take-map view_of room (s ∷ ms))

-- a state that a refusal left is seen as before
pub view_kept : (new old : State) (r : Result (Unit {0}) Refusal) → IfErr r (λ _. new ≡ old) → IfErr r (λ _. view_of new ≡ view_of old)
view_kept new old (Ok u) k = k
view_kept new old (Err e) k = ap view_of k

-- taking back, by the marks
module _ (image : Image) (room : ℕ) (v : View) where
  abbrev wallet_with : List View → Wallet
  wallet_with ms = record { room = room; view = v; marks = ms }

  pub no_mark_step : (ms : List State) → newest_of ms ≡ None → wallet_step image take_back (wallet_with (map view_of ms)) ≡ step (refused 14) (wallet_with (map view_of ms))
  no_mark_step [] e = refl
  no_mark_step (m ∷ ms) e = absurd (never m (sym e))

  pub back_step : (ms after : List State) (s : State) → newest_of ms ≡ Some s → after ≡ older ms
      → wallet_step image take_back (wallet_with (map view_of ms)) ≡ step (granted []) (record { room = room; view = view_of s; marks = map view_of after })
  back_step [] after s e q = absurd (never s e)
  back_step (m ∷ ms) after s e q =
      let x = some_inj m s e in λ i. step (granted []) (record { room = room; view = view_of (x i); marks = map view_of (sym q i) })
