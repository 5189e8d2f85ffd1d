-- A live slot's record, and its card.
use Rattle.std.proofs.Common.{◌≡◌, ℕ, ◌^◌, ◌<◌, ◌≤◌, true, false, cond, not, [], ◌∷◌, length, get_or, is_some, Some, None, Option, ◌||◌, ap₂, sym, refl, ap, ◌∙◌, arith}
use Rattle.std.proofs.lemmas.Bool.{le-ltb}
use Rattle.utreexo.specs.declared.types.Coin.{Coin}
use Rattle.utreexo.specs.declared.types.Position.{Position}
use Rattle.utreexo.specs.Bytes.{Bytes}
use Rattle.utreexo.specs.Values.{Image}
use Rattle.utreexo.specs.Forest.{Slots, at_node, Struck, slot_struck}
use Rattle.utreexo.specs.Checks.{cause, output, compose}
use Rattle.utreexo.specs.Wallet.{Held, position_of, card_of}
use Rattle.utreexo.specs.Collection.{held_at, slot_held, card, card_bytes}
use Rattle.laws.proofs.Logic.{never}
use Rattle.laws.proofs.Positions.{over_tree}
use Rattle.laws.proofs.Forest.{row_of_tree}
use Rattle.laws.proofs.Live.{live_over, slot_held_live_at}
use Rattle.place.specs.Nodes.{inside, number_of, position_at}

-- the record of a live slot
pub held_found : (image : Image) (s : Slots) (i : ℕ) (c : Coin) (k : Struck) → get_or s i None ≡ Some c → k ≡ slot_struck image s i
    → held_at image s i ≡ record { coin = c; row = k.row; place = k.place; path = k.path } ∷ []
held_found image s i c k e f =
    let h : held_at image s i ≡ slot_held image s i c ∷ [] = cc in
    h ∙ ap (λ (u : Struck). record { coin = c; row = u.row; place = u.place; path = u.path } ∷ []) (sym f)

module _ (image : Image) (s : Slots) (i : ℕ) (h : Held) (e : held_at image s i ≡ h ∷ []) where
  slot_live : (c : Coin) × (get_or s i None ≡ Some c) × (slot_held image s i c ≡ h)
  slot_live = go (get_or s i None) refl e
    where
      go : (x : Option Coin) → get_or s i None ≡ x → elim x [ None ↦ [] | Some c ↦ slot_held image s i c ∷ [] ] ≡ h ∷ []
          → (c : Coin) × (get_or s i None ≡ Some c) × (slot_held image s i c ≡ h)
      go None q f = absurd (let z : ⊥ = cc in z)
      go (Some c) q f = (c, q, cc)

  -- its position is in the forest
  pub card_inside : length s < 2 ^ 32 → inside (length s) (at_node h.row h.place) ≡ true
  card_inside small = go slot_live
    where
      go : (c : Coin) × (get_or s i None ≡ Some c) × (slot_held image s i c ≡ h) → inside (length s) (at_node h.row h.place) ≡ true
      go (c, q, f) =
          let g = slot_held image s i c in
          let a = live_over image s small g.row g.place i c (slot_held_live_at image s small i c q) in
          ap (λ (u : Held). inside (length s) (at_node u.row u.place)) (sym f)
          ∙ ap is_some (over_tree (length s) g.row g.place (row_of_tree (length s) i) small a)

  pub card_number : length s < 2 ^ 32 → (p : Option Position) → number_of p ≡ position_at (length s) (at_node h.row h.place) → number_of p ≡ Some (position_of (length s) h)
  card_number small p q = q ∙ ap (λ b. cond b (Some (position_of (length s) h)) None) (card_inside small)

  pub number_none : length s < 2 ^ 32 → (p : Option Position) → number_of p ≡ position_at (length s) (at_node h.row h.place) → p ≡ None → ⊥
  number_none small p q none = never (position_of (length s) h) (ap number_of (sym none) ∙ card_number small p q)

  -- what compose writes of it is its card
  pub card_composed : length h.path ≤ 32 → (out : Bytes) → compose (position_of (length s) h ∷ []) (h.coin ∷ []) h.path [] out ≡ card image s i out
  card_composed few out =
      ap (λ b. output (cause 2 (b || false) ∷ cause 3 false ∷ []) (card_of (length s) h) out) (le-ltb 992 (length h.path) (omega arith))
      ∙ sym (ap₂ (λ b hs. output (cause 16 (not b) ∷ []) (card_bytes (length s) hs) out) live e)
    where
      live : is_some (get_or s i None) ≡ true
      live = ap is_some slot_live.1
