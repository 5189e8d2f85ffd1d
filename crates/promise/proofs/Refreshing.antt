-- What is on the shelf after a genuine block: the paths refreshed, the spent ones gone.
use Rattle.std.proofs.Common.{◌≡◌, ℕ, zero, suc, ◌+◌, ◌/◌, ◌%◌, ◌^◌, ◌<◌, Bool, true, false, cond, not, List, [], ◌∷◌, ◌++◌, map, length, get_or, Some, None, Option, sym, refl, ap, ◌∙◌, subst, ap₂, inl, inr, add-one, arith}
use Rattle.std.proofs.lemmas.Bool.{or_left}
use Rattle.utreexo.specs.declared.types.Coin.{Coin}
use Rattle.utreexo.specs.declared.types.Value.{Value}
use Rattle.utreexo.specs.Lists.{any, filter}
use Rattle.utreexo.specs.Values.{Image}
use Rattle.utreexo.specs.Forest.{Slots, Node, at_node, sibling, keep_bit, strike}
use Rattle.utreexo.specs.Claims.{Target, beneath, covered, Proof, proof_of, claim_at, after}
use Rattle.utreexo.specs.Wallet.{leaves_shelf, renewed, moved, refreshed, Held}
use Rattle.utreexo.specs.Collection.{held_at, all_held, slot_has, spent_slot}
use Rattle.laws.proofs.Logic.{never, or_split, iff_bool}
use Rattle.laws.proofs.Order.{Mem}
use Rattle.laws.proofs.Members.{any_mem, mem_any}
use Rattle.laws.proofs.Place.{up, sib}
use Rattle.laws.proofs.Places.{up_add}
use Rattle.laws.proofs.Slots.{slot_low, left, length_left, left_at}
use Rattle.laws.proofs.Tree.{Tree, coin, grow, child, subtree, count_struck, with_bit}
use Rattle.laws.proofs.Value.{push_o, path}
use Rattle.laws.proofs.Claim.{claim, newer, refresh, rise, shift}
use Rattle.laws.proofs.Forest.{slot_of, row_of_tree}
use Rattle.laws.proofs.Where.{child_of, fork_at}
use Rattle.laws.proofs.Tops.{Over}
use Rattle.laws.proofs.Block.{Watched, watched}
use Rattle.laws.proofs.Strikes.{img, sibling_sib}
use Rattle.laws.proofs.Claiming.{beneath_up, up_beneath, tgt, tgt_some, tgt_there, cover_same, claim_is, after_same}
use Rattle.laws.proofs.Live.{held_in, held_live, LiveAt, live_over, slot_has_make, slot_has_is, live_there, live_root, slot_row, slot_top, slot_place, held_of}
use Rattle.laws.proofs.Live.{live_at}
use Rattle.laws.proofs.Needed.{hash_of}
use Rattle.laws.proofs.Genuine.{apart, target_live_at, Placed, RightProof}
use Rattle.promise.proofs.Spending.{remains_of, left_slots, roots_match}

-- below a coin there is no tree
no_below : (t : Tree Coin) (e d D o i : ℕ) (c : Coin) (u : Tree Coin)
    → subtree t d (up (suc e) o) ≡ Some (coin i c) → D ≡ suc e + d → subtree t D o ≡ Some u → ⊥
no_below t e d zero o i c u a q b = omega arith
no_below t zero d (suc D) o i c u a q b =
    let w : D ≡ d = omega arith in
    let x : subtree t D (o / 2) ≡ Some (coin i c) = ap (λ z. subtree t z (o / 2)) w ∙ a in
    never u (sym (ap (child (o % 2)) x) ∙ b)
no_below t (suc e) d (suc D) o i c u a q b =
    let (v, w) = child_of (o % 2) (subtree t D (o / 2)) u b in
    no_below t e d D (o / 2) i c (fork_at (o % 2) u v) a (omega arith) w

module _ (image : Image) (p : Proof) where
  -- the theory's row, place and path of a renewed path
  abbrev risen : ℕ → ℕ → List Value → ℕ
  risen = rise (img image) (tgt p.targets) p.hash

  abbrev shifted : ℕ → ℕ → List Value → ℕ
  shifted = shift (img image) (tgt p.targets) p.hash

  abbrev refreshed_path : ℕ → ℕ → List Value → List Value
  refreshed_path = refresh (img image) (tgt p.targets) p.hash

  -- striking a renewed path gives them
  strike_renewed : (vs : List Value) (r o : ℕ) → strike (renewed image p r o vs) o
      ≡ record { row = risen r o vs; place = shifted r o vs; path = refreshed_path r o vs }
  strike_renewed [] r o = refl
  strike_renewed (v ∷ vs) r o =
      ap₂ (keep_bit o) new (ap (λ x. strike (renewed image p x (o / 2) vs) (o / 2)) (add-one r) ∙ strike_renewed vs (suc r) (o / 2))
      ∙ go (newer (img image) (claim (tgt p.targets) p.hash r (sib o)) v)
    where
      new : cond (covered p.targets (at_node r (sibling o))) (after image (claim_at p r (sibling o))) (Some v)
          ≡ newer (img image) (claim (tgt p.targets) p.hash r (sib o)) v
      new =
          ap (λ h. cond (covered p.targets (at_node r h)) (after image (claim_at p r h)) (Some v)) (sibling_sib o)
          ∙ ap₂ (λ b x. cond b x (Some v)) (cover_same p.targets p.hash r (sib o))
          (ap (after image) (claim_is p r (sib o)) ∙ after_same image (claim (tgt p.targets) p.hash r (sib o)))

      go : (x : Option Value)
          → keep_bit o x (record { row = risen (suc r) (o / 2) vs; place = shifted (suc r) (o / 2) vs; path = refreshed_path (suc r) (o / 2) vs })
          ≡ record {
            row = count_struck x (risen (suc r) (o / 2) vs);
            place = with_bit x (shifted (suc r) (o / 2) vs) (o % 2);
            path = push_o x (refreshed_path (suc r) (o / 2) vs);
          }
      go None =
          ap (λ n. record { row = n; place = shifted (suc r) (o / 2) vs; path = refreshed_path (suc r) (o / 2) vs })
          (add-one (risen (suc r) (o / 2) vs))
      go (Some w) = refl

module _ (image : Image) (s : Slots) (small : length s < 2 ^ 32) where
  -- no live slot lies beneath another
  live_apart : (r o i r' o' i' e : ℕ) (c c' : Coin) → LiveAt s r o i c → LiveAt s r' o' i' c'
      → r + suc e ≡ r' → up (suc e) o ≡ o' → ⊥
  live_apart r o i r' o' i' e c c' a b w q = go (row_of_tree (length s) i') (live_over image s small r' o' i' c' b)
    where
      go : (k : ℕ) → Over (length s) r' o' k → ⊥
      go k v = fin (live_root image s small k (up v.rows o') v.top v.rows r' o' i' c' v.sum refl b)
        where
          fin : (t : Tree Coin) × (grow (slot_of s) k (up v.rows o') ≡ Some t) → ⊥
          fin (t, root) =
              let x = live_there image s small k (up v.rows o') v.top t root v.rows r' o' i' c' v.sum refl b in
              let y = live_there image s small k (up v.rows o') v.top t root (suc e + v.rows) r o i c
              (omega (arith, v.sum)) (up_add (suc e) v.rows (suc e + v.rows) o refl ∙ ap (up v.rows) q) a in
              no_below t e v.rows (suc e + v.rows) o i' c' (coin i c) (ap (λ z. subtree t v.rows z) q ∙ x) refl y

module _ (image : Image) (s : Slots) (small : length s < 2 ^ 32) (ts : List Target) (hs : List Value)
    (placed : Placed (length s) ts) (right : RightProof image s ts hs) where
  abbrev hash : ℕ → ℕ → Value
  hash = hash_of (length s) ts hs

  abbrev proof : Proof
  proof = proof_of (length s) ts hs

  -- the watched slots that are not spent, and the records that stay on the shelf
  abbrev unspent : List ℕ → List ℕ
  unspent ws = filter (λ w. not (spent_slot image s ts w)) ws

  abbrev staying : List Held → List Held
  staying shelf = filter (λ h. not (leaves_shelf ts h)) shelf

  -- a live slot's record leaves the shelf exactly if the slot is spent
  leaves_spent : (i : ℕ) (c : Coin) → get_or s i None ≡ Some c → leaves_shelf ts (held_of image s i c) ≡ spent_slot image s ts i
  leaves_spent i c l =
      iff_bool (leaves_shelf ts (held_of image s i c)) (spent_slot image s ts i) to from
    where
      here : Node
      here = at_node (slot_row s i) (slot_place s i)

      -- a target at the slot's position
      same : (r o : ℕ) (c' : Coin) → tgt ts r o ≡ Some c' → r ≡ slot_row s i → o ≡ slot_place s i → spent_slot image s ts i ≡ true
      same r o c' e a b =
          let (t, m, w, _) = tgt_some ts r o c' e in
          mem_any (λ t. slot_has image s t.node i) ts t m
          (subst (λ (d : Node). slot_has image s d i ≡ true) (sym w) (slot_has_make image s small r o i c (record { live = l; row = sym a; at = sym b })))

      low : (f : ℕ) (r o : ℕ) (c' : Coin) → tgt ts r o ≡ Some c' → r + f ≡ slot_row s i → up f o ≡ slot_place s i → spent_slot image s ts i ≡ true
      low zero r o c' e a b = same r o c' e (omega arith) b
      low (suc f) r o c' e a b =
          let (j, x) = target_live_at image s small ts hs placed right r o c' e in
          absurd (live_apart image s small r o j (slot_row s i) (slot_place s i) i f c' c x (live_at s i c l) a b)

      high : (f : ℕ) (r o : ℕ) (c' : Coin) → tgt ts r o ≡ Some c' → slot_row s i + f ≡ r → up f (slot_place s i) ≡ o → spent_slot image s ts i ≡ true
      high zero r o c' e a b = same r o c' e (omega arith) (sym b)
      high (suc f) r o c' e a b =
          let (j, x) = target_live_at image s small ts hs placed right r o c' e in
          absurd (live_apart image s small (slot_row s i) (slot_place s i) i r o j f c c' (live_at s i c l) x a b)

      to : leaves_shelf ts (held_of image s i c) ≡ true → spent_slot image s ts i ≡ true
      to e =
          elim (or_split (covered ts here) (any (λ t. beneath here t.node) ts) e) [
            | inl a ↦ (let (t, m, b) = any_mem (λ t. beneath t.node here) ts a in
                let (f, x, y) = beneath_up t.node here b in
                let (c', w) = tgt_there ts t m in
                low f t.node.row t.node.place c' w x y)
            | inr a ↦ (let (t, m, b) = any_mem (λ t. beneath here t.node) ts a.1 in
                let (f, x, y) = beneath_up here t.node b in
                let (c', w) = tgt_there ts t m in
                high f t.node.row t.node.place c' w x y)
          ]

      from : spent_slot image s ts i ≡ true → leaves_shelf ts (held_of image s i c) ≡ true
      from e =
          let (t, m, b) = any_mem (λ t. slot_has image s t.node i) ts e in
          let (c', a) = slot_has_is image s small t.node.row t.node.place i b in
          or_left (covered ts here) (any (λ t. beneath here t.node) ts)
          (mem_any (λ t. beneath t.node here) ts t m (up_beneath t.node here 0 (let x = a.row in omega arith) (sym a.at)))

  -- the record of a slot that stays is the refreshed one
  refreshed_live : (i : ℕ) (c : Coin) → get_or s i None ≡ Some c → spent_slot image s ts i ≡ false
      → held_at image (left image s ts) i ≡ refreshed image proof (held_of image s i c) ∷ []
  refreshed_live i c l e =
      let low = slot_low s i c l in
      let g : get_or (left image s ts) i None ≡ Some c = left_at image s ts i low ∙ ap₂ (λ b z. cond b None z) e l in
      let k = (length_left image s ts) in
      held_live image (left image s ts) (omega arith) i c g
      ∙ ap (λ h. h ∷ []) (ap₂ (λ f n. held_in image f (row_of_tree n i) i c) (left_slots image s small ts hs placed right) k ∙ fin
      (watched (img image) (slot_of s) (length s) (tgt ts) hash (roots_match image s small ts hs placed right) (apart image s small ts hs placed)
      (row_of_tree (length s) i) (up (row_of_tree (length s) i) i) i (slot_row s i) c
      (slot_top (length s) i low) refl l refl))
    where
      fin : Watched (img image) (slot_of s) (length s) (tgt ts) hash
          (roots_match image s small ts hs placed right) (apart image s small ts hs placed) (row_of_tree (length s) i) i (slot_row s i)
          → held_in image (remains_of image s small ts hs) (row_of_tree (length s) i) i c ≡ refreshed image proof (held_of image s i c)
      fin w =
          (λ j. record { coin = c; row = w.row j; place = w.at j; path = w.hashes j })
          ∙ sym (ap (moved (held_of image s i c))
          (strike_renewed image proof (path (img image) (slot_of s) 0 i (row_of_tree (length s) i)) (slot_row s i) (slot_place s i)))

  -- and so the whole shelf
  pub shelf_left : (ws : List ℕ) → ((w : ℕ) → Mem w ws → (c : Coin) × (get_or s w None ≡ Some c))
      → map (refreshed image proof) (staying (all_held image s ws)) ≡ all_held image (left image s ts) (unspent ws)
  shelf_left [] live = refl
  shelf_left (w ∷ ws) live = go (live w (inl refl)) (shelf_left ws (λ x m. live x (inr m)))
    where
      go : (c : Coin) × (get_or s w None ≡ Some c)
          → map (refreshed image proof) (staying (all_held image s ws)) ≡ all_held image (left image s ts) (unspent ws)
          → map (refreshed image proof) (staying (all_held image s (w ∷ ws))) ≡ all_held image (left image s ts) (unspent (w ∷ ws))
      go (c, l) ih =
          ap (λ hs'. map (refreshed image proof) (staying (hs' ++ all_held image s ws))) (held_live image s small w c l)
          ∙ ap (λ b. map (refreshed image proof) (cond (not b) (held_of image s w c ∷ staying (all_held image s ws)) (staying (all_held image s ws))))
          (leaves_spent w c l)
          ∙ two (spent_slot image s ts w) refl
        where
          two : (b : Bool) → spent_slot image s ts w ≡ b
              → map (refreshed image proof) (cond (not b) (held_of image s w c ∷ staying (all_held image s ws)) (staying (all_held image s ws)))
              ≡ all_held image (left image s ts) (cond (not b) (w ∷ unspent ws) (unspent ws))
          two true e = ih
          two false e =
              ap (λ xs. refreshed image proof (held_of image s w c) ∷ xs) ih
              ∙ sym (ap (λ xs. xs ++ all_held image (left image s ts) (unspent ws)) (refreshed_live w c l e))
