-- Each place of a forest is in one tree; what a block leaves of each tree; and one coin more.
use Rattle.std.proofs.Common.{◌≡◌, ℕ, zero, suc, ◌+◌, ◌-◌, ◌/◌, ◌%◌, ◌^◌, ◌<◌, ◌≤◌, Bool, true, false, cond, ◌&&◌, eqb, Some, None, Option, sym, refl, ap, ◌∙◌, inl, inr, arith}
use native.Mathlib.Decide.{dec_lt}
use Rattle.laws.proofs.Logic.{eqb_cases, EqbCases}
use Rattle.laws.proofs.Place.{up}
use Rattle.laws.proofs.Places.{up_suc, up_add, up_lt, up_nil, up_small}
use Rattle.laws.proofs.Tree.{map_o, Preimage, Tree, coin, grow, struck, depth, place}
use Rattle.laws.proofs.Value.{blank, prune, value_under, value}
use Rattle.laws.proofs.Claim.{covers, claim, after_value, Matches}
use Rattle.laws.proofs.Forest.{Top, top_row_of, row_of_tree, spends, renew, put}
use Rattle.laws.proofs.Where.{above_some, rows_split, place_up, coin_there}
use Rattle.laws.proofs.After.{prune_o, grow_blank, value_grow, spent_by, clear, after_matches}
use Rattle.laws.proofs.Append.{grow_same}

-- two trees over one place are one
pub top_once : (n r o d d' k k' p p' : ℕ) → Top n k p → Top n k' p' → d + r ≡ k → up d o ≡ p → d' + r ≡ k' → up d' o ≡ p' → d < d' → ⊥
top_once n r o d d' k k' p p' a b e q e' q' l =
    let g = d' - suc d in
    let x = up_add d (suc g) d' o (omega arith) in
    let y = up_add k (suc g) k' n (omega arith) in
    let h : suc p / 2 ≡ p / 2 = omega (arith, a.even) in
    let w : up g (suc p / 2) ≡ up g (p / 2) = ap (up g) h in
    let c = a.count in
    let c' = b.count in
    let v : suc p' ≡ p' = cc in
    omega (arith, v)

-- the tree over a place: its row is found within as many rows as there are runs
pub record Over (n r o k : ℕ) : Type 0 where
  pub rows : ℕ
  pub sum : rows + r ≡ k
  pub top : Top n k (up rows o)

-- the search finds it
pub top_row : (f r o m n : ℕ) → up r n ≡ m → o < m → m ≤ f → Over n r o (top_row_of f r o m)
top_row zero r o m n e l b = absurd (omega arith)
top_row (suc f) r o m n e l b = go (eqb_cases m (suc o)) (eqb_cases (o % 2) 0) (top_row f (suc r) (o / 2) (m / 2) n (up_suc r n ∙ ap (λ x. x / 2) e))
  where
    next : (o / 2 < m / 2 → m / 2 ≤ f → Over n (suc r) (o / 2) (top_row_of f (suc r) (o / 2) (m / 2)))
        → o / 2 < m / 2 → Over n r o (top_row_of f (suc r) (o / 2) (m / 2))
    next ih l' =
        let v = ih l' (omega arith) in
        record { rows = suc v.rows; sum = omega arith; top = v.top }

    go : EqbCases m (suc o)
        → EqbCases (o % 2) 0
        → (o / 2 < m / 2 → m / 2 ≤ f → Over n (suc r) (o / 2) (top_row_of f (suc r) (o / 2) (m / 2)))
        → Over n r o (cond (eqb m (suc o) && eqb (o % 2) 0) r (top_row_of f (suc r) (o / 2) (m / 2)))
    go (inl u) (inl v) ih = rw (u.0, v.0) (record { rows = 0; sum = omega arith; top = record { count = e ∙ u.1; even = v.1 } })
    go (inl u) (inr v) ih = rw (u.0, v.0) (next ih (omega arith))
    go (inr u) v ih = rw u.0 (next ih (omega arith))

-- the tree of a slot is the one whose run holds it
pub tree_row_is : (n k p i : ℕ) → Top n k p → up k i ≡ p → row_of_tree n i ≡ k
tree_row_is n k p i a q =
    let c = a.count in
    let l : i < n = up_lt k i n (omega arith) in
    let v = top_row n 0 i n n refl l (omega arith) in
    go (row_of_tree n i) v
  where
    go : (h : ℕ) → Over n 0 i h → h ≡ k
    go h v =
        let x : ¬ (v.rows < k) = top_once n 0 i v.rows k h k (up v.rows i) p v.top a v.sum refl (omega arith) q in
        let y : ¬ (k < v.rows) = top_once n 0 i k v.rows k h p (up v.rows i) a v.top (omega arith) q v.sum refl in
        omega arith

module _ {C V : Type 0} (image : Preimage C V → V) (slot : ℕ → Option C) (n : ℕ) (tgt : ℕ → ℕ → Option C) (hash : ℕ → ℕ → V) where
  -- the slots after the block's targets are spent
  abbrev pub remains : ℕ → Option C
  remains = blank (spends slot n tgt) slot

  -- within a tree these are the slots whose own positions are not targets, and so is the value over it
  pub remains_inside : (k p i : ℕ) → Top n k p → up k i ≡ p → remains i ≡ blank (spent_by slot tgt k) slot i
  remains_inside k p i a q = rw (tree_row_is n k p i a q)

  pub value_remains : (k p : ℕ) → Top n k p → value_under image remains k p ≡ value_under image (blank (spent_by slot tgt k) slot) k p
  value_remains k p a =
      value_grow image remains k p ∙ ap (map_o (value image)) (grow_same remains (blank (spent_by slot tgt k) slot) k p (λ i q. remains_inside k p i a q))
      ∙ sym (value_grow image (blank (spent_by slot tgt k) slot) k p)

  -- a tree's claim matches if the tree is covered
  abbrev pub RootMatches : ℕ → ℕ → Type 0
  RootMatches k p = (t : Tree C) → grow slot k p ≡ Some t → covers (claim tgt hash k p) ≡ true → Matches image (claim tgt hash k p) t

  -- the root that is left is the renewed one
  pub root_renewed : (k p : ℕ) → Top n k p → RootMatches k p → value_under image remains k p ≡ renew image tgt hash k p (value_under image slot k p)
  root_renewed k p a good =
      value_remains k p a ∙ value_grow image (blank (spent_by slot tgt k) slot) k p ∙ ap (map_o (value image)) (grow_blank (spent_by slot tgt k) slot k p)
      ∙ go (grow slot k p) refl ∙ ap (renew image tgt hash k p) (sym (value_grow image slot k p))
    where
      go : (x : Option (Tree C)) → grow slot k p ≡ x → map_o (value image) (prune_o (spent_by slot tgt k) x) ≡ renew image tgt hash k p (map_o (value image) x)
      go None e = refl
      go (Some t) e = two (covers (claim tgt hash k p)) refl
        where
          two : (b : Bool) → covers (claim tgt hash k p) ≡ b
              → map_o (value image) (prune (spent_by slot tgt k) t) ≡ cond b (after_value image (claim tgt hash k p)) (Some (value image t))
          two true c = sym (after_matches image slot tgt hash k p t e k 0 p t (omega arith) refl refl (good t e c))
          two false c = ap (map_o (value image)) (clear image slot tgt hash k p t e k 0 p t (omega arith) refl refl c)

-- one coin appended
pub put_below : {C : Type 0} (slot : ℕ → Option C) (n : ℕ) (c : C) (i : ℕ) → i < n → slot i ≡ put slot n c i
put_below slot n c i l = elim (eqb_cases i n) [ inl e ↦ absurd (omega arith) | inr e ↦ rw e.0 ]

pub put_here : {C : Type 0} (slot : ℕ → Option C) (n : ℕ) (c : C) → put slot n c n ≡ Some c
put_here slot n c = elim (eqb_cases n n) [ inl e ↦ rw e.0 | inr e ↦ absurd (e.1 refl) ]

-- two live slots have two positions
pub one_slot : {C : Type 0} (slot : ℕ → Option C) (n k p i k' p' i' : ℕ) (c c' : C)
    → Top n k p → up k i ≡ p → slot i ≡ Some c → Top n k' p' → up k' i' ≡ p' → slot i' ≡ Some c'
    → struck slot 0 i k ≡ struck slot 0 i' k' → place slot 0 i k ≡ place slot 0 i' k' → i ≡ i'
one_slot {C} slot n k p i k' p' i' c c' a q l a' q' l' e f = same d≡
  where
    s : struck slot 0 i k + depth slot 0 i k ≡ k
    s = rows_split slot k 0 i

    s' : struck slot 0 i' k' + depth slot 0 i' k' ≡ k'
    s' = rows_split slot k' 0 i'

    x : ¬ (depth slot 0 i k < depth slot 0 i' k')
    x = top_once n (struck slot 0 i k) (place slot 0 i k) (depth slot 0 i k) (depth slot 0 i' k') k k' p p' a a'
        (omega (arith, s)) (place_up slot k 0 i ∙ q)
        (omega (arith, s')) (ap (up (depth slot 0 i' k')) f ∙ place_up slot k' 0 i' ∙ q')

    y : ¬ (depth slot 0 i' k' < depth slot 0 i k)
    y = top_once n (struck slot 0 i' k') (place slot 0 i' k') (depth slot 0 i' k') (depth slot 0 i k) k' k p' p a' a
        (omega (arith, s')) (place_up slot k' 0 i' ∙ q')
        (omega (arith, s)) (ap (up (depth slot 0 i k)) (sym f) ∙ place_up slot k 0 i ∙ q)

    d≡ : depth slot 0 i k ≡ depth slot 0 i' k'
    d≡ = omega (arith, x, y)

    same : depth slot 0 i k ≡ depth slot 0 i' k' → i ≡ i'
    same w = go (above_some slot k 0 i k p (coin i c) (omega arith) q (rw l))
      where
        kk : k ≡ k'
        kk = omega (arith, s, s')

        q'' : up k i' ≡ p
        q'' = let z = a.count in let z' = a'.count in let v = kk in let y : suc p ≡ suc p' = cc in let y' : p ≡ p' = omega arith in cc

        go : (t : Tree C) × (grow slot k p ≡ Some t) → i ≡ i'
        go (t, root) =
            let u = coin_there slot k p t root i c l q in
            let u' = coin_there slot k p t root i' c' l' q'' in
            let v = kk in
            cc

-- the trees of fewer than 2 ^ f slots have rows below f
pub top_low : (n k p f : ℕ) → Top n k p → n < 2 ^ f → k < f
top_low n k p f top l = elim (dec_lt k f) [ yes h ↦ h | no h ↦ absurd (go (omega arith)) ]
  where
    go : f ≤ k → ⊥
    go h =
        let g = k - f in
        let x = up_add f g k n (omega arith) in
        let y = ap (up g) (up_small f n l) in
        let z = up_nil g in
        let c = top.count in
        omega arith
