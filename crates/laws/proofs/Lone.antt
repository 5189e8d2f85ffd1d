-- A genuine block of one target: its hashes are the path of the target's slot.
use Rattle.std.proofs.Common.{◌≡◌, ℕ, zero, suc, ◌+◌, ◌-◌, ◌*◌, ◌/◌, ◌%◌, ◌^◌, ◌<◌, ◌≤◌, Bool, true, false, ◌||◌, List, [], ◌∷◌, map, length, Some, sym, refl, ap, ◌∙◌, subst, ap₂, inl, inr, arith}
use Rattle.std.proofs.lemmas.Bool.{cases_Bool}
use Rattle.utreexo.specs.declared.types.Coin.{Coin}
use Rattle.utreexo.specs.declared.types.Value.{Value}
use Rattle.utreexo.specs.Lists.{below, filter}
use Rattle.utreexo.specs.Values.{Image}
use Rattle.utreexo.specs.Forest.{Slots, at_node, position}
use Rattle.utreexo.specs.Claims.{Target, beneath, needed}
use Rattle.utreexo.specs.Collection.{slot_has, held_at, fresh, fresh_value, spent_slot, slot_held}
use Rattle.laws.specs.Laws.{PathsFresh}
use Rattle.laws.proofs.Logic.{or_false}
use Rattle.laws.proofs.Order.{Mem, From}
use Rattle.laws.proofs.Members.{filter_mem, mem_filter}
use Rattle.laws.proofs.Ordered.{same_list, filter_from}
use Rattle.laws.proofs.Ranges.{below_mem, below_from}
use Rattle.laws.proofs.Place.{up, sib}
use Rattle.laws.proofs.Places.{up_suc, sib_half, sib_sib, sib_mod, up_add}
use Rattle.laws.proofs.Slots.{slot_low}
use Rattle.laws.proofs.Tree.{map_o, Tree, coin, grow, subtree, struck, depth, place}
use Rattle.laws.proofs.Value.{push_o, value, path, sibs}
use Rattle.laws.proofs.Claim.{covers, claim, Assertion}
use Rattle.laws.proofs.Forest.{slot_of, Top, row_of_tree}
use Rattle.laws.proofs.Where.{child_of, fork_at, rows_split}
use Rattle.laws.proofs.Path.{path_sibs, other_subtree}
use Rattle.laws.proofs.Tops.{Over}
use Rattle.laws.proofs.Strikes.{img}
use Rattle.laws.proofs.Positions.{over_once, position_higher}
use Rattle.laws.proofs.Claiming.{beneath_up, up_beneath, tgt, cover_same}
use Rattle.laws.proofs.Live.{top_over, held_live, LiveAt, live_over, slot_has_make, slot_has_is, live_once, live_within, live_there, live_root, slot_held_live}
use Rattle.laws.proofs.Live.{slot_held_live_at}
use Rattle.laws.proofs.Needed.{hash_of, needed_mem, Needed, needed_is, value_there, needed_from}

-- the numbers of the siblings of (r, o) and of the d - 1 positions above it
abbrev sib_positions : ℕ → ℕ → ℕ → ℕ → List ℕ
sib_positions n r o zero = []
sib_positions n r o (suc d) = position n r (sib o) ∷ sib_positions n (suc r) (o / 2) d

length_sibs : (n r o d : ℕ) → length (sib_positions n r o d) ≡ d
length_sibs n r o zero = refl
length_sibs n r o (suc d) = ap suc (length_sibs n (suc r) (o / 2) d)

-- a sibling is another place
pub sib_other : (o : ℕ) → ¬ (sib o ≡ o)
sib_other o e = let a = sib_mod o in let b : sib o % 2 ≡ o % 2 = ap (λ x. x % 2) e in omega arith

-- the members of that list
sib_mem : (n r o d f : ℕ) → f < d → Mem (position n (r + f) (sib (up f o))) (sib_positions n r o d)
sib_mem n r o zero f l = absurd (omega arith)
sib_mem n r o (suc d) zero l = inl (ap (λ x. position n x (sib o)) (let e : r + 0 ≡ r = omega arith in e))
sib_mem n r o (suc d) (suc f) l =
    let e : suc r + f ≡ r + suc f = omega arith in
    inr (subst (λ x. Mem (position n x (sib (up f (o / 2)))) (sib_positions n (suc r) (o / 2) d)) e (sib_mem n (suc r) (o / 2) d f (omega arith)))

mem_sib : (n r o d q : ℕ) → Mem q (sib_positions n r o d) → (f : ℕ) × (f < d) × (q ≡ position n (r + f) (sib (up f o)))
mem_sib n r o zero q m = absurd m
mem_sib n r o (suc d) q (inl e) = (0, omega arith, e ∙ ap (λ x. position n x (sib o)) (let w : r ≡ r + 0 = omega arith in w))
mem_sib n r o (suc d) q (inr m) =
    let (f, l, e) = mem_sib n (suc r) (o / 2) d q m in
    (suc f, omega arith, e ∙ ap (λ x. position n x (sib (up f (o / 2)))) (let w : suc r + f ≡ r + suc f = omega arith in w))

module _ (image : Image) (s : Slots) (small : length s < 2 ^ 32) (k p : ℕ) (top : Top (length s) k p) where
  -- these siblings are in the forest, and their numbers ascend
  sib_over : (d r o : ℕ) → suc d + r ≡ k → up (suc d) o ≡ p → Over (length s) r (sib o) k
  sib_over d r o e q = top_over (length s) k p (suc d) r (sib o) top e (ap (up d) (sib_half o) ∙ q)

  sib_from : (d r o a : ℕ) → d + r ≡ k → up d o ≡ p → (0 < d → a ≤ position (length s) r (sib o)) → From a (sib_positions (length s) r o d)
  sib_from zero r o a e q l = tt
  sib_from (suc d) r o a e q l = (
    l (omega arith),
    sib_from d (suc r) (o / 2) (suc (position (length s) r (sib o))) (omega arith) q
        (λ g. position_higher (length s) small r (sib o) k (suc r) (sib (o / 2)) (sib_over d r o e q) (omega arith)),
  )

  module _ (t : Tree Coin) (root : grow (slot_of s) k p ≡ Some t) (ts : List Target) (hs : List Value) where
    -- the fresh values there are those of the sibling trees
    fresh_sibs : (d r o : ℕ) (x : Tree Coin) → d + r ≡ k → up d o ≡ p → subtree t d o ≡ Some x
        → map (fresh_value image s) (sib_positions (length s) r o d) ≡ sibs (img image) t d o
    fresh_sibs zero r o x e q f = refl
    fresh_sibs (suc d) r o x e q f = go (child_of (o % 2) (subtree t d (o / 2)) x f) (λ w. fresh_sibs d (suc r) (o / 2) w (omega arith) q)
      where
        go : (y : Tree Coin) × (subtree t d (o / 2) ≡ Some (fork_at (o % 2) x y))
            → ((w : Tree Coin) → subtree t d (o / 2) ≡ Some w
            → map (fresh_value image s) (sib_positions (length s) (suc r) (o / 2) d) ≡ sibs (img image) t d (o / 2))
            → map (fresh_value image s) (sib_positions (length s) r o (suc d)) ≡ sibs (img image) t (suc d) o
        go (y, w) ih =
            let z : 2 * (o / 2) + o % 2 ≡ o = omega arith in
            let a : subtree t (suc d) (sib o) ≡ Some y = subst (λ u. subtree t (suc d) (sib u) ≡ Some y) z (other_subtree t d (o / 2) o x y w) in
            let b = value_there image s small ts hs k p top t y root (suc d) r (sib o) e (ap (up d) (sib_half o) ∙ q) a in
            ap₂ (λ u v. u ∷ v) b (ih (fork_at (o % 2) x y) w) ∙ sym (ap (λ z. push_o (map_o (value (img image)) z) (sibs (img image) t d (o / 2))) a)

module _ (image : Image) (s : Slots) (small : length s < 2 ^ 32) (t : Target) (hs : List Value) where
  abbrev r₀ : ℕ
  r₀ = t.node.row

  abbrev o₀ : ℕ
  o₀ = t.node.place

  abbrev hash : ℕ → ℕ → Value
  hash = hash_of (length s) (t ∷ []) hs

  abbrev claims : ℕ → ℕ → Assertion Coin Value
  claims = claim (tgt (t ∷ [])) hash

  -- the positions beside the target's own and the d - 1 above it
  abbrev beside : ℕ → List ℕ
  beside d = sib_positions (length s) r₀ o₀ d

  -- a position is covered exactly if the target lies at it or beneath it
  cover_one : (r o : ℕ) → covers (claims r o) ≡ beneath t.node (at_node r o)
  cover_one r o = sym (cover_same (t ∷ []) hash r o) ∙ or_false (beneath t.node (at_node r o))

  -- the needed positions are those beside the target and the positions above it, up to the root
  needed_one : (k p d : ℕ) → Top (length s) k p → d + r₀ ≡ k → up d o₀ ≡ p → needed (length s) (t ∷ []) ≡ beside d
  needed_one k p d top e q =
      same_list 0 0 (needed (length s) (t ∷ [])) (beside d) (needed_from (length s) (t ∷ []))
      (sib_from image s small k p top d r₀ o₀ 0 e q (λ g. omega arith)) to from
    where
      to : (z : ℕ) → Mem z (needed (length s) (t ∷ [])) → Mem z (beside d)
      to z m =
          let a = needed_is image s small (t ∷ []) hs z m in
          let (f, x, y) = beneath_up t.node (at_node a.row (sib a.place)) (sym (cover_one a.row (sib a.place)) ∙ a.beside) in
          go a f x y
        where
          go : (a : Needed image s small (t ∷ []) hs z) (f : ℕ) → r₀ + f ≡ a.row → up f o₀ ≡ sib a.place → Mem z (beside d)
          go a f x y =
              let v = top_over (length s) k p d r₀ o₀ top e q in
              let u : Over (length s) r₀ o₀ a.tree =
              top_over (length s) a.tree (up a.above.rows (a.place / 2)) (suc f + a.above.rows) r₀ o₀ a.above.top
              (omega (arith, a.above.sum)) (up_add (suc f) a.above.rows (suc f + a.above.rows) o₀ refl
              ∙ ap (up a.above.rows) (up_suc f o₀ ∙ ap (λ z. z / 2) y ∙ sib_half a.place)) in
              let w = over_once (length s) r₀ o₀ k a.tree v u in
              let l : f < d = omega (arith, a.above.sum) in
              let g : position (length s) (r₀ + f) (sib (up f o₀)) ≡ z =
              ap₂ (position (length s)) x (ap sib y ∙ sib_sib a.place) ∙ a.number in
              subst (λ z. Mem z (beside d)) g (sib_mem (length s) r₀ o₀ d f l)

      from : (z : ℕ) → Mem z (beside d) → Mem z (needed (length s) (t ∷ []))
      from z m =
          let (f, l, g) = mem_sib (length s) r₀ o₀ d z m in
          go f l g
        where
          go : (f : ℕ) → f < d → z ≡ position (length s) (r₀ + f) (sib (up f o₀)) → Mem z (needed (length s) (t ∷ []))
          go f l g =
              let x : beneath t.node (at_node (r₀ + f) (up f o₀)) ≡ true = up_beneath t.node (at_node (r₀ + f) (up f o₀)) f refl refl in
              let c : covers (claims (r₀ + f) (sib (sib (up f o₀)))) ≡ true
              = ap (λ h. covers (claims (r₀ + f) h)) (sib_sib (up f o₀)) ∙ cover_one (r₀ + f) (up f o₀) ∙ x in
              let n : covers (claims (r₀ + f) (sib (up f o₀))) ≡ false
              = cover_one (r₀ + f) (sib (up f o₀)) ∙ away f in
              subst (λ z. Mem z (needed (length s) (t ∷ []))) (sym g)
              (needed_mem image s small (t ∷ []) hs k p (d - suc f) (r₀ + f) (sib (up f o₀)) top (omega arith)
              (ap (up (d - suc f)) (sib_half (up f o₀) ∙ sym (up_suc f o₀)) ∙ sym (up_add (suc f) (d - suc f) d o₀ (omega arith)) ∙ q) n c)
            where
              away : (f : ℕ) → beneath t.node (at_node (r₀ + f) (sib (up f o₀))) ≡ false
              away f = elim (cases_Bool (beneath t.node (at_node (r₀ + f) (sib (up f o₀))))) [
                | inl b ↦ (let (f', x, y) = beneath_up t.node (at_node (r₀ + f) (sib (up f o₀))) b in
                    let w : f' ≡ f = omega arith in
                    absurd (sib_other (up f o₀) (sym y ∙ ap (λ f. up f o₀) w)))
                | inr b ↦ b
              ]

  -- so there is one for each row below the root
  pub needed_count : (k p d : ℕ) → Top (length s) k p → d + r₀ ≡ k → up d o₀ ≡ p → length (needed (length s) (t ∷ [])) ≡ d
  needed_count k p d top e q = ap length (needed_one k p d top e q) ∙ length_sibs (length s) r₀ o₀ d

  -- the path of the target's slot is the hashes of a genuine proof
  pub fresh_path : (i : ℕ) → LiveAt s r₀ o₀ i t.coin
      → fresh image s (t ∷ []) ≡ path (img image) (slot_of s) 0 i (row_of_tree (length s) i)
  fresh_path i a = go (row_of_tree (length s) i) refl (live_over image s small r₀ o₀ i t.coin a)
    where
      go : (k : ℕ) → row_of_tree (length s) i ≡ k → Over (length s) r₀ o₀ k → fresh image s (t ∷ []) ≡ path (img image) (slot_of s) 0 i k
      go k w v = fin (live_root image s small k (up v.rows o₀) v.top v.rows r₀ o₀ i t.coin v.sum refl a)
        where
          fin : (x : Tree Coin) × (grow (slot_of s) k (up v.rows o₀) ≡ Some x) → fresh image s (t ∷ []) ≡ path (img image) (slot_of s) 0 i k
          fin (x, root) =
              let there = live_there image s small k (up v.rows o₀) v.top x root v.rows r₀ o₀ i t.coin v.sum refl a in
              let (_, within) = live_within image s small k (up v.rows o₀) v.top v.rows r₀ o₀ i t.coin v.sum refl a in
              let split = rows_split (slot_of s) k 0 i in
              let row : struck (slot_of s) 0 i k ≡ r₀ = ap (struck (slot_of s) 0 i) (sym w) ∙ a.row in
              let at : place (slot_of s) 0 i k ≡ o₀ = ap (place (slot_of s) 0 i) (sym w) ∙ a.at in
              let deep : depth (slot_of s) 0 i k ≡ v.rows = omega (arith, v.sum) in
              let l = a.live in
              ap (map (fresh_value image s)) (needed_one k (up v.rows o₀) v.rows v.top v.sum refl)
              ∙ fresh_sibs image s small k (up v.rows o₀) v.top x root (t ∷ []) hs v.rows r₀ o₀ (coin i t.coin) v.sum refl there
              ∙ sym (path_sibs (img image) (slot_of s) k 0 i k (up v.rows o₀) x (coin i t.coin) root (omega arith) within (ap (map_o (coin i)) l)
              ∙ ap₂ (sibs (img image) x) deep at)

  -- the one slot that the target names
  abbrev spent : ℕ → Bool
  spent = spent_slot image s (t ∷ [])

  pub named_one : (i : ℕ) → LiveAt s r₀ o₀ i t.coin → filter spent (below (length s)) ≡ i ∷ []
  named_one i a =
      same_list 0 0 (filter spent (below (length s))) (i ∷ [])
      (filter_from spent 0 (below (length s)) (below_from (length s))) (omega arith, tt) to from
    where
      to : (z : ℕ) → Mem z (filter spent (below (length s))) → Mem z (i ∷ [])
      to z m =
          let (_, e) = filter_mem spent (below (length s)) z m in
          let (c, b) = slot_has_is image s small r₀ o₀ z (sym (or_false (slot_has image s t.node z)) ∙ e) in
          inl (live_once image s small r₀ o₀ z i c t.coin b a)

      from : (z : ℕ) → Mem z (i ∷ []) → Mem z (filter spent (below (length s)))
      from z (inl e) =
          subst (λ z. Mem z (filter spent (below (length s)))) (sym e)
          (mem_filter spent (below (length s)) i (below_mem (length s) i (slot_low s i t.coin a.live))
          (ap (λ b. b || false) (slot_has_make image s small r₀ o₀ i t.coin a)))
      from z (inr m) = absurd m

  -- the slot as the shelf has it
  pub held_one : (i : ℕ) → LiveAt s r₀ o₀ i t.coin → hs ≡ fresh image s (t ∷ [])
      → held_at image s i ≡ record { coin = t.coin; row = t.node.row; place = t.node.place; path = hs } ∷ []
  held_one i a e =
      let q = e ∙ fresh_path i a in
      let x = a.row in
      let y = a.at in
      held_live image s small i t.coin a.live ∙ (λ j. record { coin = t.coin; row = x j; place = y j; path = sym q j } ∷ [])

-- the path of a live slot is the fresh proof for its position alone
pub path_fresh : PathsFresh (2 ^ 32)
path_fresh image s small i c e =
    let h = slot_held image s i c in
    let t : Target = record { node = at_node h.row h.place; coin = c } in
    ap (λ h. h.path) (slot_held_live image s small i c e) ∙ sym (fresh_path image s small t [] i (slot_held_live_at image s small i c e))
