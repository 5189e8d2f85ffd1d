-- The shelf and the watched slots, read by position.
use Rattle.std.proofs.Common.{◌≡◌, ℕ, suc, ◌^◌, ◌<◌, Bool, true, false, cond, not, ◌||◌, eqb, List, [], ◌∷◌, ◌++◌, length, get_or, is_some, Some, None, Option, sym, refl, ap, ◌∙◌, subst, ap₂, inl, inr}
use Rattle.std.proofs.lemmas.Bool.{cases_Bool, eqb-true, eq-eqb}
use Rattle.utreexo.specs.declared.types.Coin.{Coin}
use Rattle.utreexo.specs.Bytes.{Bytes}
use Rattle.utreexo.specs.Lists.{any, first, filter}
use Rattle.utreexo.specs.Values.{Image}
use Rattle.utreexo.specs.Forest.{Slots}
use Rattle.utreexo.specs.Checks.{cause, Answer, refused, output}
use Rattle.utreexo.specs.Wallet.{Held, position_of, card_of, on_shelf, drop_first, shown}
use Rattle.utreexo.specs.Collection.{held_at, all_held, view_of, card_bytes, card}
use Rattle.utreexo.specs.Register.{has_position}
use Rattle.laws.proofs.Logic.{or_false}
use Rattle.laws.proofs.Order.{Mem}
use Rattle.laws.proofs.Members.{first_only, any_append, filter_mem, any_ext, mem_append, filter_all}
use Rattle.laws.proofs.Slots.{Lives}
use Rattle.laws.proofs.Forest.{row_of_tree}
use Rattle.laws.proofs.Positions.{same_position}
use Rattle.laws.proofs.Live.{held_live, live_over, live_once, held_of, live_at, slot_row, slot_place}

-- no number twice
abbrev pub Once : List ℕ → Type 0
Once [] = Unit {0}
Once (w ∷ ws) = (Mem w ws → ⊥) × Once ws

-- so of a filtered list, and of one with a new number at its end
pub once_filter : (p : ℕ → Bool) (ws : List ℕ) → Once ws → Once (filter p ws)
once_filter p [] o = tt
once_filter p (w ∷ ws) o = go (p w) (once_filter p ws o.1)
  where
    go : (b : Bool) → Once (filter p ws) → Once (cond b (w ∷ filter p ws) (filter p ws))
    go true i = (λ m. o.0 (filter_mem p ws w m).0, i)
    go false i = i

pub once_snoc : (ws : List ℕ) (i : ℕ) → Once ws → (Mem i ws → ⊥) → Once (ws ++ i ∷ [])
once_snoc [] i o n = (λ m. m, tt)
once_snoc (w ∷ ws) i o n =
    (λ m. elim (mem_append ws (i ∷ []) w m) [ inl x ↦ o.0 x | inr (inl e) ↦ n (inl (sym e)) | inr (inr x) ↦ x ], once_snoc ws i o.1 (λ m. n (inr m)))

-- what is shown of a record, and of a slot
abbrev held_answer : ℕ → Bytes → Option Held → Answer
held_answer n out z = elim z [ None ↦ refused 15 | Some h ↦ output [] (card_of n h) out ]

abbrev slot_answer : Image → Slots → Bytes → Option ℕ → Answer
slot_answer image s out z = elim z [ None ↦ refused 15 | Some w ↦ card image s w out ]

module _ (image : Image) (s : Slots) where
  -- a record has the position p
  abbrev is_at : ℕ → Held → Bool
  is_at p h = eqb (position_of (length s) h) p

  -- the slots that have not
  abbrev others : ℕ → List ℕ → List ℕ
  others p ws = filter (λ w. not (has_position image s p w)) ws

  -- the shelf has a position exactly if a watched slot has it
  pub shelf_has : (p : ℕ) (ws : List ℕ) → on_shelf (length s) (all_held image s ws) p ≡ any (has_position image s p) ws
  shelf_has p [] = refl
  shelf_has p (w ∷ ws) =
      any_append (is_at p) (held_at image s w) (all_held image s ws) ∙ ap (λ b. has_position image s p w || b) (shelf_has p ws)

  pub shelf_all : (ps ws : List ℕ) → any (on_shelf (length s) (all_held image s ws)) ps ≡ any (λ p. any (has_position image s p) ws) ps
  shelf_all ps ws = any_ext (on_shelf (length s) (all_held image s ws)) (λ p. any (has_position image s p) ws) ps (λ p m. shelf_has p ws)

  module _ (small : length s < 2 ^ 32) where
    -- a record for each watched slot
    pub shelf_length : (ws : List ℕ) → Lives s ws → length (all_held image s ws) ≡ length ws
    shelf_length [] live = refl
    shelf_length (w ∷ ws) live =
        let (c, e) = live w (inl refl) in
        ap (λ xs. length (xs ++ all_held image s ws)) (held_live image s small w c e) ∙ ap suc (shelf_length ws (λ x m. live x (inr m)))

    -- the position of a live slot
    pub has_live : (p w : ℕ) (c : Coin) → get_or s w None ≡ Some c → has_position image s p w ≡ eqb (position_of (length s) (held_of image s w c)) p
    has_live p w c e =
        ap (any (is_at p)) (held_live image s small w c e) ∙ or_false (eqb (position_of (length s) (held_of image s w c)) p)

    -- two live slots have two positions
    position_once : (p w w' : ℕ) (c c' : Coin) → get_or s w None ≡ Some c → get_or s w' None ≡ Some c'
        → has_position image s p w ≡ true → has_position image s p w' ≡ true → w ≡ w'
    position_once p w w' c c' e e' h h' =
        let a = live_at s w c e in
        let b = live_at s w' c' e' in
        let x = eqb-true (position_of (length s) (held_of image s w c)) p (sym (has_live p w c e) ∙ h) in
        let y = eqb-true (position_of (length s) (held_of image s w' c')) p (sym (has_live p w' c' e') ∙ h') in
        let (r, o) = same_position (length s) small (slot_row s w) (slot_place s w) (row_of_tree (length s) w)
        (slot_row s w') (slot_place s w') (row_of_tree (length s) w')
        (live_over image s small (slot_row s w) (slot_place s w) w c a) (live_over image s small (slot_row s w') (slot_place s w') w' c' b)
        (x ∙ sym y) in
        live_once image s small (slot_row s w') (slot_place s w') w w' c c' (record { live = e; row = r; at = o }) b

    -- letting go drops one from both
    pub shelf_drop : (p : ℕ) (ws : List ℕ) → Lives s ws → Once ws
        → drop_first (is_at p) (all_held image s ws) ≡ all_held image s (others p ws)
    shelf_drop p [] live o = refl
    shelf_drop p (w ∷ ws) live o = go (live w (inl refl)) (shelf_drop p ws (λ x m. live x (inr m)) o.1)
      where
        go : (c : Coin) × (get_or s w None ≡ Some c)
            → drop_first (is_at p) (all_held image s ws) ≡ all_held image s (others p ws)
            → drop_first (is_at p) (all_held image s (w ∷ ws)) ≡ all_held image s (others p (w ∷ ws))
        go (c, e) ih =
            ap (λ xs. drop_first (is_at p) (xs ++ all_held image s ws)) (held_live image s small w c e)
            ∙ ap (λ b. cond b (all_held image s ws) (held_of image s w c ∷ drop_first (is_at p) (all_held image s ws))) (sym (has_live p w c e))
            ∙ two (has_position image s p w) refl
          where
            two : (b : Bool) → has_position image s p w ≡ b
                → cond b (all_held image s ws) (held_of image s w c ∷ drop_first (is_at p) (all_held image s ws))
                ≡ all_held image s (cond (not b) (w ∷ others p ws) (others p ws))
            two true q =
                sym (ap (all_held image s) (filter_all (λ w. not (has_position image s p w)) ws
                (λ x m. let (c', e') = live x (inr m) in
                elim (cases_Bool (has_position image s p x)) [
                  | inl h ↦ absurd (o.0 (subst (λ z. Mem z ws) (position_once p x w c' c e' e h q) m))
                  | inr h ↦ ap not h
                ])))
            two false q =
                ap (λ xs. held_of image s w c ∷ xs) ih
                ∙ sym (ap (λ xs. xs ++ all_held image s (others p ws)) (held_live image s small w c e))

    -- the card of a live slot
    card_output : (w : ℕ) (c : Coin) (out : Bytes) → get_or s w None ≡ Some c
        → card image s w out ≡ output [] (card_of (length s) (held_of image s w c)) out
    card_output w c out e =
        ap₂ (λ b hs. output (cause 16 (not b) ∷ []) (card_bytes (length s) hs) out) (ap is_some e) (held_live image s small w c e)

    -- the shelf shows the card of the watched slot
    pub shelf_show : (p : ℕ) (out : Bytes) (ws : List ℕ) → Lives s ws
        → held_answer (length s) out (first (is_at p) (all_held image s ws)) ≡ slot_answer image s out (first (has_position image s p) ws)
    shelf_show p out [] live = refl
    shelf_show p out (w ∷ ws) live = go (live w (inl refl)) (shelf_show p out ws (λ x m. live x (inr m)))
      where
        go : (c : Coin) × (get_or s w None ≡ Some c)
            → held_answer (length s) out (first (is_at p) (all_held image s ws)) ≡ slot_answer image s out (first (has_position image s p) ws)
            → held_answer (length s) out (first (is_at p) (all_held image s (w ∷ ws))) ≡ slot_answer image s out (first (has_position image s p) (w ∷ ws))
        go (c, e) ih =
            ap (λ xs. held_answer (length s) out (first (is_at p) (xs ++ all_held image s ws))) (held_live image s small w c e)
            ∙ ap (λ b. held_answer (length s) out (cond b (Some (held_of image s w c)) (first (is_at p) (all_held image s ws)))) (sym (has_live p w c e))
            ∙ two (has_position image s p w)
          where
            two : (b : Bool) → held_answer (length s) out (cond b (Some (held_of image s w c)) (first (is_at p) (all_held image s ws)))
                ≡ slot_answer image s out (cond b (Some w) (first (has_position image s p) ws))
            two true = sym (card_output w c out e)
            two false = ih

    -- the card that the bridge writes of a watched slot is what the wallet of that view shows
    pub card_shown : (ws : List ℕ) → Lives s ws → (w : ℕ) (h : Held) (out : Bytes) → Mem w ws → held_at image s w ≡ h ∷ []
        → shown (view_of image s ws) (position_of (length s) h) out ≡ card image s w out
    card_shown ws live w h out m e =
        let p = position_of (length s) h in
        let here : has_position image s p w ≡ true = ap (any (is_at p)) e ∙ ap (λ b. b || false) (eq-eqb p p refl) in
        let (c, l) = live w m in
        shelf_show p out ws live
        ∙ ap (slot_answer image s out) (first_only (has_position image s p) ws w m here
        (λ y n q. let (c', l') = live y n in position_once p y w c' c l' l q here))
