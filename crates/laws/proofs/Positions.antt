-- The tree over a place, and the position of a place, as the definitions compute them.
use Rattle.std.proofs.Common.{◌≡◌, ℕ, zero, suc, ◌+◌, ◌-◌, ◌*◌, ◌/◌, ◌%◌, ◌^◌, ◌<◌, ◌≤◌, Bool, true, false, cond, ◌&&◌, eqb, ltb, leb, is_some, Some, None, Option, sym, refl, ap, ◌∙◌, subst, ap₂, inl, inr, arith, pow_pos, pow_mono}
use native.Mathlib.Nat.{sub-zero}
use Rattle.std.proofs.lemmas.Bool.{eq-eqb, eqb-true, le-leb, leb-true, lt-ltb, le-ltb, and_parts, and_from}
use Rattle.utreexo.specs.Lists.{below}
use Rattle.utreexo.specs.Forest.{Node, at_node, bit, tree_place, in_tree, tree_of, least_from, rows, position, row_from, if_inside, locate, tree_row}
use Rattle.laws.proofs.Logic.{never, true_false, eqb_cases, some_inj}
use Rattle.laws.proofs.Members.{first_some, first_only}
use Rattle.laws.proofs.Ranges.{below_mem}
use Rattle.laws.proofs.Place.{up}
use Rattle.laws.proofs.Places.{up_lt, up_add, up_shr, up_nil}
use Rattle.laws.proofs.Forest.{Top}
use Rattle.laws.proofs.Tops.{Over, top_once, top_low}

-- bit k of the count is one: there is a tree of row k
pub bit_top : (n k : ℕ) → bit n k ≡ true → Top n k (tree_place n k)
bit_top n k e =
    let a = eqb-true ((n / 2 ^ k) % 2) 1 e in
    let b = up_shr k n in
    record { count = omega arith; even = omega arith }

pub top_bit : (n k p : ℕ) → Top n k p → (bit n k ≡ true) × (tree_place n k ≡ p)
top_bit n k p t =
    let b = up_shr k n in
    let c = t.count in
    let d = t.even in
    let e : n / 2 ^ k ≡ suc p = sym b ∙ c in
    (eq-eqb ((n / 2 ^ k) % 2) 1 (omega arith), omega arith)

-- the test of a tree over a place, both ways
pub in_over : (n r o k : ℕ) → in_tree n (at_node r o) k ≡ true → Over n r o k
in_over n r o k e =
    let (b, f) = and_parts (bit n k) (leb r k && eqb (o / 2 ^ (k - r)) (tree_place n k)) e in
    let (l, g) = and_parts (leb r k) (eqb (o / 2 ^ (k - r)) (tree_place n k)) f in
    let h = leb-true r k l in
    let q = eqb-true (o / 2 ^ (k - r)) (tree_place n k) g in
    record { rows = k - r; sum = omega arith; top = subst (λ p. Top n k p) (sym (up_shr (k - r) o ∙ q)) (bit_top n k b) }

pub over_in : (n r o k : ℕ) → Over n r o k → in_tree n (at_node r o) k ≡ true
over_in n r o k v =
    let (b, q) = top_bit n k (up v.rows o) v.top in
    let w : v.rows ≡ k - r = omega (arith, v.sum) in
    and_from (bit n k) (leb r k && eqb (o / 2 ^ (k - r)) (tree_place n k)) b
    (and_from (leb r k) (eqb (o / 2 ^ (k - r)) (tree_place n k)) (le-leb r k (omega (arith, v.sum)))
    (eq-eqb (o / 2 ^ (k - r)) (tree_place n k) (sym (up_shr (k - r) o) ∙ ap (λ x. up x o) (sym w) ∙ sym q)))

-- one tree is over a place, and its row is below 32
pub over_once : (n r o k k' : ℕ) → Over n r o k → Over n r o k' → k ≡ k'
over_once n r o k k' v w =
    let x : ¬ (v.rows < w.rows) = top_once n r o v.rows w.rows k k' (up v.rows o) (up w.rows o) v.top w.top v.sum refl w.sum refl in
    let y : ¬ (w.rows < v.rows) = top_once n r o w.rows v.rows k' k (up w.rows o) (up v.rows o) w.top v.top w.sum refl v.sum refl in
    omega (arith, v.sum, w.sum)

pub over_low : (n r o k : ℕ) → n < 2 ^ 32 → Over n r o k → k < 32
over_low n r o k l v = top_low n k (up v.rows o) 32 v.top l

-- the tree that the definitions find is the one over the place
pub tree_over : (n r o k : ℕ) → tree_of n (at_node r o) ≡ Some k → Over n r o k
tree_over n r o k e = in_over n r o k (first_some (in_tree n (at_node r o)) (below 32) k e).1

-- and the one over the place is found
pub over_tree : (n r o k : ℕ) → n < 2 ^ 32 → Over n r o k → tree_of n (at_node r o) ≡ Some k
over_tree n r o k l v =
    first_only (in_tree n (at_node r o)) (below 32) k (below_mem 32 k (over_low n r o k l v)) (over_in n r o k v)
    (λ h m e. over_once n r o h k (in_over n r o h e) v)

-- so is the row of the tree of a slot
pub over_row : (n i k : ℕ) → n < 2 ^ 32 → Over n 0 i k → tree_row n i ≡ k
over_row n i k l v = let e = over_tree n 0 i k l v in cc

-- a place in the forest's rows
pub over_in_row : (n r o k : ℕ) → Over n r o k → o < up r n
over_in_row n r o k v =
    let c = v.top.count in
    let e = up_add r v.rows k n (omega (arith, v.sum)) in
    up_lt v.rows o (up r n) (omega arith)

-- a place of the forest fits in the rows
pub in_rows : (r R o n : ℕ) → n ≤ 2 ^ R → o < up r n → (r ≤ R) × (o < 2 ^ (R - r))
in_rows zero R o n b l = (omega arith, rw sub-zero (omega arith))
in_rows (suc r) zero o n b l =
    let e : n / 2 ≡ 0 = omega arith in
    let f : up r (n / 2) ≡ 0 = ap (up r) e ∙ up_nil r in
    absurd (omega arith)
in_rows (suc r) (suc R) o n b l =
    let (x, y) = in_rows r R o (n / 2) (omega arith) l in
    let e : suc R - suc r ≡ R - r = omega arith in
    (omega arith, rw e y)

-- the rows are enough for the count
least_ok : (fuel k n : ℕ) → n ≤ 2 ^ (k + fuel) → n ≤ 2 ^ least_from fuel k n
least_ok zero k n l = let e : k + 0 ≡ k = omega arith in rw e at l
least_ok (suc fuel) k n l = go (leb n (2 ^ k)) refl (least_ok fuel (suc k) n (let e : k + suc fuel ≡ suc k + fuel = omega arith in rw e at l))
  where
    go : (b : Bool) → leb n (2 ^ k) ≡ b → n ≤ 2 ^ least_from fuel (suc k) n → n ≤ 2 ^ cond b k (least_from fuel (suc k) n)
    go true e ih = leb-true n (2 ^ k) e
    go false e ih = ih

pub rows_ok : (n : ℕ) → n < 2 ^ 32 → n ≤ 2 ^ rows n
rows_ok n l = least_ok 33 0 n (omega arith)

-- and no fewer are
least_low : (fuel k n m : ℕ) → k ≤ m → n ≤ 2 ^ m → least_from fuel k n ≤ m
least_low zero k n m l e = l
least_low (suc fuel) k n m l e = go (leb n (2 ^ k)) refl (λ h. least_low fuel (suc k) n m h e)
  where
    higher : leb n (2 ^ k) ≡ false → suc k ≤ m
    higher f = elim (eqb_cases k m) [
      | inl q ↦ let w : n ≤ 2 ^ k = (let z = q.1 in rw z e) in absurd (true_false (leb n (2 ^ k)) (le-leb n (2 ^ k) w) f)
      | inr q ↦ let z = q.1 in omega arith
    ]

    go : (b : Bool) → leb n (2 ^ k) ≡ b → (suc k ≤ m → least_from fuel (suc k) n ≤ m) → cond b k (least_from fuel (suc k) n) ≤ m
    go true f ih = l
    go false f ih = ih (higher f)

pub rows_low : (n k : ℕ) → n ≤ 2 ^ k → rows n ≤ k
rows_low n k e = least_low 33 0 n k (omega arith) e

-- the number of the first place of row r, of R rows above the slots
abbrev base : ℕ → ℕ → ℕ
base R r = 2 ^ (R + 1) - 2 ^ (R + 1 - r)

base_mono : (R a b : ℕ) → a ≤ b → base R a ≤ base R b
base_mono R a b l = let h : 2 ^ (R + 1 - b) ≤ 2 ^ (R + 1 - a) = pow_mono (let e : R + 1 - b ≤ R + 1 - a = omega arith in e) in omega arith

base_next : (R r : ℕ) → r ≤ R → base R (r + 1) ≡ base R r + 2 ^ (R - r)
base_next R r l =
    let a : R + 1 - r ≡ suc (R - r) = omega arith in
    let b : R + 1 - (r + 1) ≡ R - r = omega arith in
    let c : 2 ^ suc (R - r) ≡ 2 * 2 ^ (R - r) = omega arith in
    let d : 2 ^ suc (R - r) ≤ 2 ^ (R + 1) = pow_mono (let e : suc (R - r) ≤ R + 1 = omega arith in e) in
    rw (a, b) (omega arith)

row_found : (n e o fuel r : ℕ) → e ≤ rows n → o < 2 ^ (rows n - e) → r ≤ e → e < r + fuel → row_from n (position n e o) fuel r ≡ Some (at_node e o)
row_found n e o zero r le lo l h = absurd (omega arith)
row_found n e o (suc fuel) r le lo l h =
    elim (eqb_cases r e) [
      | inl q ↦ here q.1
      | inr q ↦ rw (there q.1) (row_found n e o fuel (r + 1) le lo (omega arith) (omega arith))
    ]
  where
    here : r ≡ e → row_from n (position n e o) (suc fuel) r ≡ Some (at_node e o)
    here q =
        let lo' : o < 2 ^ (rows n - r) = rw (← q) at lo in
        let b = base_next (rows n) r (omega arith) in
        let p : leb (position n r 0) (position n e o) ≡ true = rw q (le-leb (position n e 0) (position n e o) (omega arith)) in
        let p' : ltb (position n e o) (position n (r + 1) 0) ≡ true = rw (← q) (lt-ltb (position n r o) (position n (r + 1) 0) (omega (arith, lo'))) in
        let z : position n e o - position n r 0 ≡ o = rw q (omega arith) in
        rw (p, p') (ap₂ (λ x y. Some (at_node x y)) q z)

    there : ¬ (r ≡ e) → (leb (position n r 0) (position n e o) && ltb (position n e o) (position n (r + 1) 0)) ≡ false
    there q =
        let b = base_mono (rows n) (r + 1) e (omega arith) in
        let p : ltb (position n e o) (position n (r + 1) 0) ≡ false = le-ltb (position n e o) (position n (r + 1) 0) (omega arith) in
        rw p (two (leb (position n r 0) (position n e o)))
      where
        two : (b : Bool) → (b && false) ≡ false
        two true = refl
        two false = refl

row_is : (n p fuel r : ℕ) (d : Node) → row_from n p fuel r ≡ Some d → position n d.row d.place ≡ p
row_is n p zero r d e = absurd (never d e)
row_is n p (suc fuel) r d e = go (leb (position n r 0) p && ltb p (position n (r + 1) 0)) refl e (row_is n p fuel (r + 1) d)
  where
    go : (b : Bool) → (leb (position n r 0) p && ltb p (position n (r + 1) 0)) ≡ b
        → cond b (Some (at_node r (p - position n r 0))) (row_from n p fuel (r + 1)) ≡ Some d
        → (row_from n p fuel (r + 1) ≡ Some d → position n d.row d.place ≡ p) → position n d.row d.place ≡ p
    go true q e ih =
        let (a, b) = and_parts (leb (position n r 0) p) (ltb p (position n (r + 1) 0)) q in
        let l = leb-true (position n r 0) p a in
        let z : at_node r (p - position n r 0) ≡ d = some_inj (at_node r (p - position n r 0)) d e in
        let w : position n r (p - position n r 0) ≡ p = omega arith in
        subst (λ d. position n d.row d.place ≡ p) z w
    go false q e ih = ih e

module _ (n : ℕ) (small : n < 2 ^ 32) where
  -- a place of the forest is found by its number
  pub locate_at : (r o k : ℕ) → Over n r o k → locate n (position n r o) ≡ Some (at_node r o)
  locate_at r o k v =
      let (l, w) = in_rows r (rows n) o n (rows_ok n small) (over_in_row n r o k v) in
      let e = row_found n r o (rows n + 1) 0 l w (omega arith) (omega arith) in
      let t = over_tree n r o k small v in
      rw e (rw t)

  -- numbers are below the count of positions
  pub position_low : (r o k : ℕ) → Over n r o k → position n r o < 2 ^ (rows n + 1) - 1
  position_low r o k v =
      let (l, w) = in_rows r (rows n) o n (rows_ok n small) (over_in_row n r o k v) in
      let b = base_next (rows n) r l in
      let c : R + 1 - (r + 1) ≡ R - r = omega arith in
      let d : base R (r + 1) ≡ 2 ^ (R + 1) - 2 ^ (R - r) = rw c in
      let p = pow_pos (R - r) in
      let q : 2 ^ (R - r) ≤ 2 ^ (R + 1) = pow_mono (let e : R - r ≤ R + 1 = omega arith in e) in
      omega arith
    where
      R : ℕ
      R = rows n

  -- two places of one number are one
  pub same_position : (r o k r' o' k' : ℕ) → Over n r o k → Over n r' o' k' → position n r o ≡ position n r' o' → (r ≡ r') × (o ≡ o')
  same_position r o k r' o' k' v w e =
      let a = locate_at r o k v in
      let b = locate_at r' o' k' w in
      let c : at_node r o ≡ at_node r' o' = some_inj (at_node r o) (at_node r' o') (sym a ∙ ap (locate n) e ∙ b) in
      (ap (λ d. d.row) c, ap (λ d. d.place) c)

-- what a position of the forest numbers
pub record Located (n p : ℕ) (d : Node) : Type 0 where
  pub number : position n d.row d.place ≡ p
  pub top : ℕ
  pub over : Over n d.row d.place top

-- and a number that is found is a place's
pub locate_is : (n p : ℕ) (d : Node) → locate n p ≡ Some d → Located n p d
locate_is n p d e = go (row_from n p (rows n + 1) 0) refl e
  where
    fin : (d' : Node) → row_from n p (rows n + 1) 0 ≡ Some d' → (z : Option ℕ) → tree_of n d' ≡ z → cond (is_some z) (Some d') None ≡ Some d → Located n p d
    fin d' q None t e = absurd (never d e)
    fin d' q (Some k) t e =
        let w : d' ≡ d = some_inj d' d e in
        subst (Located n p) w (record { number = row_is n p (rows n + 1) 0 d' q; top = k; over = tree_over n d'.row d'.place k t })

    go : (z : Option Node) → row_from n p (rows n + 1) 0 ≡ z → if_inside n z ≡ Some d → Located n p d
    go None q e = absurd (never d e)
    go (Some d') q e = fin d' q (tree_of n d') refl e

-- a higher row has higher numbers
pub position_higher : (n : ℕ) → n < 2 ^ 32 → (r o k r' o' : ℕ) → Over n r o k → r < r' → position n r o < position n r' o'
position_higher n small r o k r' o' v l =
    let (a, w) = in_rows r (rows n) o n (rows_ok n small) (over_in_row n r o k v) in
    let b = base_next (rows n) r a in
    let c = base_mono (rows n) (r + 1) r' (omega arith) in
    omega arith
