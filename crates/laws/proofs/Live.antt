-- Which live slot has a position, by the theory and by the definitions.
use Rattle.std.proofs.Common.{◌≡◌, ℕ, ◌+◌, ◌^◌, ◌<◌, true, false, ◌||◌, [], ◌∷◌, length, get_or, Some, None, Option, sym, refl, ap, ◌∙◌, subst, arith}
use Rattle.utreexo.specs.declared.types.Coin.{Coin}
use Rattle.utreexo.specs.Lists.{any, below}
use Rattle.utreexo.specs.Values.{Image, same_coin}
use Rattle.utreexo.specs.Forest.{Slots, at_node, slot_struck, strike, siblings_of}
use Rattle.utreexo.specs.Claims.{Target, same_node}
use Rattle.utreexo.specs.Wallet.{Held}
use Rattle.utreexo.specs.Collection.{slot_held, held_at, slot_has, slot_at, target_live, coin_at}
use Rattle.laws.proofs.Logic.{never, true_false, or_false}
use Rattle.laws.proofs.Members.{first_some, first_only}
use Rattle.laws.proofs.Ranges.{below_mem}
use Rattle.laws.proofs.Place.{up}
use Rattle.laws.proofs.Same.{coin_eq, eq_coin}
use Rattle.laws.proofs.Slots.{slot_low}
use Rattle.laws.proofs.Tree.{Tree, coin, grow, subtree, struck, depth, place}
use Rattle.laws.proofs.Value.{path}
use Rattle.laws.proofs.Forest.{slot_of, Top, row_of_tree}
use Rattle.laws.proofs.Where.{above_some, coin_there, CoinSlot, rows_split, place_up}
use Rattle.laws.proofs.Tops.{Over, top_row, tree_row_is, one_slot}
use Rattle.laws.proofs.Strikes.{img, struck_run, strike_slot}
use Rattle.laws.proofs.Positions.{over_row, over_once}
use Rattle.laws.proofs.Claiming.{node_eq, eq_node}

-- the tree of a slot
pub over_slot : (n i : ℕ) → i < n → Over n 0 i (row_of_tree n i)
over_slot n i l = top_row n 0 i n n refl l (omega arith)

pub over_whole : (n i k : ℕ) → Over n 0 i k → Top n k (up k i)
over_whole n i k v = let e : v.rows ≡ k = omega (arith, v.sum) in subst (λ r. Top n k (up r i)) e v.top

pub slot_top : (n i : ℕ) → i < n → Top n (row_of_tree n i) (up (row_of_tree n i) i)
slot_top n i l = over_whole n i (row_of_tree n i) (over_slot n i l)

-- a place below the top of a tree lies in it
pub top_over : (n k p d r o : ℕ) → Top n k p → d + r ≡ k → up d o ≡ p → Over n r o k
top_over n k p d r o t e q = record { rows = d; sum = e; top = subst (λ x. Top n k x) (sym q) t }

-- a slot's position lies in the tree of the slot
pub over_place : (slot : ℕ → Option Coin) (n i k : ℕ) → Over n 0 i k → Over n (struck slot 0 i k) (place slot 0 i k) k
over_place slot n i k v =
    let s = rows_split slot k 0 i in
    record { rows = depth slot 0 i k; sum = omega arith; top = subst (λ p. Top n k p) (sym (place_up slot k 0 i)) (over_whole n i k v) }

-- the record of slot i, in a tree of row k, by the theory
abbrev pub held_in : Image → (ℕ → Option Coin) → ℕ → ℕ → Coin → Held
held_in image slot k i c = record { coin = c; row = struck slot 0 i k; place = place slot 0 i k; path = path (img image) slot 0 i k }

-- the row and the place of a live slot, and its record
abbrev pub slot_row : Slots → ℕ → ℕ
slot_row s i = struck (slot_of s) 0 i (row_of_tree (length s) i)

abbrev pub slot_place : Slots → ℕ → ℕ
slot_place s i = place (slot_of s) 0 i (row_of_tree (length s) i)

abbrev pub held_of : Image → Slots → ℕ → Coin → Held
held_of image s i c = held_in image (slot_of s) (row_of_tree (length s) i) i c

-- slot i is live with coin c, at row r and place o
pub record LiveAt (s : Slots) (r o i : ℕ) (c : Coin) : Type 0 where
  pub live : get_or s i None ≡ Some c
  pub row : slot_row s i ≡ r
  pub at : slot_place s i ≡ o

-- a live slot is so at its own row and place
pub live_at : (s : Slots) (i : ℕ) (c : Coin) → get_or s i None ≡ Some c → LiveAt s (slot_row s i) (slot_place s i) i c
live_at s i c e = record { live = e; row = refl; at = refl }

module _ (image : Image) (s : Slots) (small : length s < 2 ^ 32) where
  -- the definitions give a slot the record that the theory does
  pub slot_held_at : (i k : ℕ) (c : Coin) → Over (length s) 0 i k → slot_held image s i c ≡ held_in image (slot_of s) k i c
  slot_held_at i k c v =
      let e = over_row (length s) i k small v in
      let q : slot_struck image s i ≡ struck_run image (slot_of s) 0 i k = ap (λ x. strike (siblings_of image s i x) i) e ∙ strike_slot image s i k in
      ap (λ u. record { coin = c; row = u.row; place = u.place; path = u.path }) q

  -- so of a live slot
  pub slot_held_live : (i : ℕ) (c : Coin) → get_or s i None ≡ Some c → slot_held image s i c ≡ held_of image s i c
  slot_held_live i c e = slot_held_at i (row_of_tree (length s) i) c (over_slot (length s) i (slot_low s i c e))

  -- what the definitions list of a slot, live or blank
  pub held_live : (i : ℕ) (c : Coin) → get_or s i None ≡ Some c → held_at image s i ≡ held_of image s i c ∷ []
  held_live i c e = let h : held_at image s i ≡ slot_held image s i c ∷ [] = cc in h ∙ ap (λ x. x ∷ []) (slot_held_live i c e)

  pub held_blank : (i : ℕ) → get_or s i None ≡ None → held_at image s i ≡ []
  held_blank i e = cc

  -- a live slot has the position of its record
  pub slot_held_live_at : (i : ℕ) (c : Coin) → get_or s i None ≡ Some c → LiveAt s (slot_held image s i c).row (slot_held image s i c).place i c
  slot_held_live_at i c e = record { live = e; row = sym (ap (λ h. h.row) (slot_held_live i c e)); at = sym (ap (λ h. h.place) (slot_held_live i c e)) }

  -- its position lies in the tree of the slot
  pub live_over : (r o i : ℕ) (c : Coin) → LiveAt s r o i c → Over (length s) r o (row_of_tree (length s) i)
  live_over r o i c a =
      let v = over_place (slot_of s) (length s) i (row_of_tree (length s) i) (over_slot (length s) i (slot_low s i c a.live)) in
      subst (λ x. Over (length s) r x (row_of_tree (length s) i)) a.at (subst (λ x. Over (length s) x (slot_place s i) (row_of_tree (length s) i)) a.row v)

  -- the test that a slot has a position, both ways
  pub slot_has_make : (r o i : ℕ) (c : Coin) → LiveAt s r o i c → slot_has image s (at_node r o) i ≡ true
  slot_has_make r o i c a =
      ap (any (λ h. same_node (at_node h.row h.place) (at_node r o))) (held_live i c a.live)
      ∙ ap (λ b. b || false) (eq_node (at_node (slot_row s i) (slot_place s i)) (at_node r o) a.row a.at)

  pub slot_has_is : (r o i : ℕ) → slot_has image s (at_node r o) i ≡ true → (c : Coin) × LiveAt s r o i c
  slot_has_is r o i e = go (get_or s i None) refl
    where
      go : (z : Option Coin) → get_or s i None ≡ z → (c : Coin) × LiveAt s r o i c
      go None q = absurd (true_false false (sym (ap (any (λ h. same_node (at_node h.row h.place) (at_node r o))) (held_blank i q)) ∙ e) refl)
      go (Some c) q =
          let f = sym (ap (any (λ h. same_node (at_node h.row h.place) (at_node r o))) (held_live i c q)) ∙ e in
          let g = node_eq (at_node (slot_row s i) (slot_place s i)) (at_node r o)
          (sym (or_false (same_node (at_node (slot_row s i) (slot_place s i)) (at_node r o))) ∙ f) in
          (c, record { live = q; row = ap (λ d. d.row) g; at = ap (λ d. d.place) g })

  -- one live slot has a position
  pub live_once : (r o i i' : ℕ) (c c' : Coin) → LiveAt s r o i c → LiveAt s r o i' c' → i ≡ i'
  live_once r o i i' c c' a b =
      one_slot (slot_of s) (length s) (row_of_tree (length s) i) (up (row_of_tree (length s) i) i) i (row_of_tree (length s) i') (up (row_of_tree (length s) i') i') i' c c'
      (slot_top (length s) i (slot_low s i c a.live)) refl a.live
      (slot_top (length s) i' (slot_low s i' c' b.live)) refl b.live
      (a.row ∙ sym b.row) (a.at ∙ sym b.at)

  -- the slot that the definitions find there
  pub slot_make : (r o i : ℕ) (c : Coin) → LiveAt s r o i c → slot_at image s (at_node r o) ≡ Some i
  slot_make r o i c a =
      first_only (slot_has image s (at_node r o)) (below (length s)) i (below_mem (length s) i (slot_low s i c a.live)) (slot_has_make r o i c a)
      (λ j m e. let (x, b) = slot_has_is r o j e in live_once r o j i x c b a)

  pub slot_is : (r o i : ℕ) → slot_at image s (at_node r o) ≡ Some i → (c : Coin) × LiveAt s r o i c
  slot_is r o i e = slot_has_is r o i (first_some (slot_has image s (at_node r o)) (below (length s)) i e).1

  -- the coin that they find there
  pub coin_make : (r o i : ℕ) (c : Coin) → LiveAt s r o i c → coin_at image s (at_node r o) ≡ Some c
  coin_make r o i c a = let e = slot_make r o i c a in let f = a.live in cc

  pub coin_is : (r o : ℕ) (c : Coin) → coin_at image s (at_node r o) ≡ Some c → (i : ℕ) × LiveAt s r o i c
  coin_is r o c e = go (slot_at image s (at_node r o)) refl e
    where
      go : (z : Option ℕ) → slot_at image s (at_node r o) ≡ z → elim z [ None ↦ None | Some w ↦ get_or s w None ] ≡ Some c → (i : ℕ) × LiveAt s r o i c
      go None q e = absurd (never c e)
      go (Some i) q e = let (x, a) = slot_is r o i q in (i, record { live = e; row = a.row; at = a.at })

  -- the test that a target is live, both ways
  pub target_make : (t : Target) (i : ℕ) → LiveAt s t.node.row t.node.place i t.coin → target_live image s t ≡ true
  target_make t i a =
      let e = slot_make t.node.row t.node.place i t.coin a in
      let f = a.live in
      let g : target_live image s t ≡ same_coin t.coin t.coin = cc in
      g ∙ eq_coin t.coin t.coin refl

  pub target_is : (t : Target) → target_live image s t ≡ true → (i : ℕ) × LiveAt s t.node.row t.node.place i t.coin
  target_is t e = go (slot_at image s t.node) refl e
    where
      fin : (i : ℕ) → slot_at image s t.node ≡ Some i → (z : Option Coin) → get_or s i None ≡ z
          → elim z [ None ↦ false | Some c ↦ same_coin c t.coin ] ≡ true
          → (i : ℕ) × LiveAt s t.node.row t.node.place i t.coin
      fin i q None f e = absurd (true_false false e refl)
      fin i q (Some c) f e =
          let (x, a) = slot_is t.node.row t.node.place i q in
          (i, record { live = f ∙ ap (λ c. Some c) (coin_eq c t.coin e); row = a.row; at = a.at })

      go : (z : Option ℕ) → slot_at image s t.node ≡ z
          → elim z [ None ↦ false | Some w ↦ (elim (get_or s w None) [ None ↦ false | Some c ↦ same_coin c t.coin ]) ] ≡ true
          → (i : ℕ) × LiveAt s t.node.row t.node.place i t.coin
      go None q e = absurd (true_false false e refl)
      go (Some i) q e = fin i q (get_or s i None) refl e

  -- In the tree (k, p).
  module _ (k p : ℕ) (top : Top (length s) k p) where
    -- a coin of the tree is a live slot's, and its position is the slot's
    pub coin_slot_live : (r o i : ℕ) (c : Coin) → CoinSlot (slot_of s) k p r o i c → LiveAt s r o i c
    coin_slot_live r o i c a =
        let e = tree_row_is (length s) k p i top a.within in
        record { live = a.live; row = ap (λ k. struck (slot_of s) 0 i k) e ∙ a.row; at = ap (λ k. place (slot_of s) 0 i k) e ∙ a.at }

    -- a live slot with a position of the tree is a slot of the tree
    pub live_within : (d r o i : ℕ) (c : Coin) → d + r ≡ k → up d o ≡ p → LiveAt s r o i c
        → (row_of_tree (length s) i ≡ k) × (up k i ≡ p)
    live_within d r o i c e q a =
        let v = live_over r o i c a in
        let w = over_once (length s) r o (row_of_tree (length s) i) k v (top_over (length s) k p d r o top e q) in
        let t = slot_top (length s) i (slot_low s i c a.live) in
        let t' : Top (length s) k (up k i) = subst (λ k. Top (length s) k (up k i)) w t in
        let x = t'.count in
        let y = top.count in
        (w, omega arith)

    -- its coin is in the tree, at its position
    pub live_there : (t : Tree Coin) → grow (slot_of s) k p ≡ Some t → (d r o i : ℕ) (c : Coin) → d + r ≡ k → up d o ≡ p → LiveAt s r o i c
        → subtree t d o ≡ Some (coin i c)
    live_there t root d r o i c e q a =
        let (w, x) = live_within d r o i c e q a in
        let f = coin_there (slot_of s) k p t root i c a.live x in
        let g = rows_split (slot_of s) k 0 i in
        let row : struck (slot_of s) 0 i k ≡ r = ap (λ k. struck (slot_of s) 0 i k) (sym w) ∙ a.row in
        let at : place (slot_of s) 0 i k ≡ o = ap (λ k. place (slot_of s) 0 i k) (sym w) ∙ a.at in
        let deep : depth (slot_of s) 0 i k ≡ d = omega arith in
        cc

    -- and the tree is not blank
    pub live_root : (d r o i : ℕ) (c : Coin) → d + r ≡ k → up d o ≡ p → LiveAt s r o i c → (t : Tree Coin) × (grow (slot_of s) k p ≡ Some t)
    live_root d r o i c e q a =
        let (w, x) = live_within d r o i c e q a in
        above_some (slot_of s) k 0 i k p (coin i c) (omega arith) x (let l = a.live in cc)
