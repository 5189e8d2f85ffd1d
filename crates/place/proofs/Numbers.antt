-- The place that a number is the position of.
use Rattle.std.proofs.Common.{◌≡◌, ℕ, ◌+◌, ◌-◌, ◌*◌, ◌%◌, ◌^◌, ◌<◌, ◌≤◌, true, false, is_some, Some, None, Option, sym, refl, ap, ◌∙◌, ap₂, arith, pow_mono}
use Rattle.utreexo.specs.Forest.{Node, at_node, tree_of, rows, position, locate}
use Rattle.laws.proofs.Logic.{true_false}
use Rattle.laws.proofs.Positions.{tree_over, over_tree, over_in_row, in_rows, rows_ok, locate_at, locate_is, Located}
use Rattle.place.proofs.Powers.{pow_next, pow_less, length_once, double_shl}

-- place o of row r, of R rows above the slots and d above that row, has the number p
pub record Numbered (R p r o d : ℕ) : Type 0 where
  pub depth : r + d ≡ R
  pub small : o < 2 ^ d
  pub wide : 2 ^ d ≤ 2 ^ R
  pub sum : p + 2 * 2 ^ d ≡ 2 * 2 ^ R + o

position_is : (n R p r o d : ℕ) → R ≡ rows n → Numbered R p r o d → position n r o ≡ p
position_is n R p r o d e s =
    let a = s.depth in
    let b = s.sum in
    let w = s.wide in
    let f : 2 ^ (R + 1 - r) ≡ 2 * 2 ^ d = ap (λ x. 2 ^ x) (let k : R + 1 - r ≡ d + 1 = omega arith in k) ∙ pow_next d in
    ap (λ x. 2 ^ (x + 1) - 2 ^ (x + 1 - r) + o) (sym e) ∙ (let q : 2 ^ (R + 1) - 2 ^ (R + 1 - r) + o ≡ p = omega (arith, pow_next R) in q)

-- a place of the forest fits in the rows
numbered : (n R p : ℕ) (d : Node) → n < 2 ^ 32 → R ≡ rows n → Located n p d → Numbered R p d.row d.place (R - d.row)
numbered n R p d small e f = go d.row d.place f.number (in_rows d.row R d.place n (rw e (rows_ok n small)) (over_in_row n d.row d.place f.top f.over))
  where
    go : (r o : ℕ) → position n r o ≡ p → (r ≤ R) × (o < 2 ^ (R - r)) → Numbered R p r o (R - r)
    go r o q (l, w) =
        let q' : 2 ^ (R + 1) - 2 ^ (R + 1 - r) + o ≡ p = ap (λ x. 2 ^ (x + 1) - 2 ^ (x + 1 - r) + o) e ∙ q in
        let k : R + 1 - r ≡ R - r + 1 = omega arith in
        let g : 2 ^ (R + 1 - r) ≡ 2 * 2 ^ (R - r) = ap (λ x. 2 ^ x) k ∙ pow_next (R - r) in
        let h : 2 ^ (R - r) ≤ 2 ^ R = pow_mono (let m : R - r ≤ R = omega arith in m) in
        record { depth = omega arith; small = w; wide = h; sum = omega (arith, pow_next R) }

-- one place at most has the number
once : (R p r o d r' o' d' : ℕ) → Numbered R p r o d → Numbered R p r' o' d' → (r ≡ r') × (o ≡ o')
once R p r o d r' o' d' s t =
    let a = s.sum in
    let b = s.small in
    let w = s.wide in
    let a' = t.sum in
    let b' = t.small in
    let w' = t.wide in
    let e : d ≡ d' = length_once (2 * 2 ^ R - 1 - p) d d' (omega arith) (omega arith) (omega arith) (omega arith) in
    let f = ap (λ x. 2 ^ x) e in
    let h = s.depth in
    let h' = t.depth in
    (omega arith, omega arith)

-- the place with the number is located there if it is in the forest
pub found : (n R p r o d : ℕ) → n < 2 ^ 32 → R ≡ rows n → Numbered R p r o d → is_some (tree_of n (at_node r o)) ≡ true → locate n p ≡ Some (at_node r o)
found n R p r o d small e s t = go (tree_of n (at_node r o)) refl t
  where
    go : (x : Option ℕ) → tree_of n (at_node r o) ≡ x → is_some x ≡ true → locate n p ≡ Some (at_node r o)
    go None q t = absurd (true_false false t refl)
    go (Some k) q t = ap (locate n) (sym (position_is n R p r o d e s)) ∙ locate_at n small r o k (tree_over n r o k q)

-- and nothing is if it is not
pub not_found : (n R p r o d : ℕ) → n < 2 ^ 32 → R ≡ rows n → Numbered R p r o d → is_some (tree_of n (at_node r o)) ≡ false → locate n p ≡ None
not_found n R p r o d small e s t = go (locate n p) refl
  where
    go : (x : Option Node) → locate n p ≡ x → x ≡ None
    go None q = refl
    go (Some h) q =
        let f = locate_is n p h q in
        let (a, b) = once R p h.row h.place (R - h.row) r o d (numbered n R p h small e f) s in
        let v = ap is_some (over_tree n h.row h.place f.top small f.over) in
        absurd (true_false (is_some (tree_of n (at_node r o))) (ap₂ (λ x y. is_some (tree_of n (at_node x y))) (sym a) (sym b) ∙ v) t)

-- nothing is located past the last number
pub past_end : (n R p : ℕ) → n < 2 ^ 32 → R ≡ rows n → 2 * 2 ^ R - 1 ≤ p → locate n p ≡ None
past_end n R p small e l = go (locate n p) refl
  where
    go : (x : Option Node) → locate n p ≡ x → x ≡ None
    go None q = refl
    go (Some h) q =
        let s = numbered n R p h small e (locate_is n p h q) in
        let a = s.sum in
        let b = s.small in
        let w = s.wide in
        absurd (omega arith)

-- The number p counted back from the end, which is 2 ^ (R + 1) - 1, has its highest bit at D.
pub record Counted (R p D : ℕ) : Type 0 where
  pub row : D ≤ R
  pub all : (2 * 2 ^ R) % 2 ^ 64 ≡ 2 * 2 ^ R
  pub part : (2 * 2 ^ D) % 2 ^ 64 ≡ 2 * 2 ^ D
  pub before : p < 2 * 2 ^ R - 1
  pub low : 2 ^ D ≤ 2 * 2 ^ R - 1 - p
  pub high : 2 * 2 ^ R - 1 - p < 2 * 2 ^ D
  pub wide : 2 ^ D ≤ 2 ^ R
  pub most : 2 ^ R ≤ 2 ^ 32

pub counted : (R p D : ℕ) → R ≤ 32 → p < (2 * 2 ^ R) % 2 ^ 64 - 1 → 2 ^ D ≤ (2 * 2 ^ R) % 2 ^ 64 - 1 - p → (2 * 2 ^ R) % 2 ^ 64 - 1 - p < 2 * 2 ^ D → Counted R p D
counted R p D l b low high =
    let all = double_shl R l in
    let d : D < R + 1 = pow_less D (R + 1) (omega (arith, pow_next R)) in
    let wide : 2 ^ D ≤ 2 ^ R = pow_mono (omega arith) in
    record { row = omega arith; all = all; part = double_shl D (omega arith); before = omega arith; low = omega arith; high = omega arith; wide = wide; most = pow_mono l }

-- its place
pub counted_numbered : (R p D : ℕ) → R ≤ 32 → p < (2 * 2 ^ R) % 2 ^ 64 - 1 → 2 ^ D ≤ (2 * 2 ^ R) % 2 ^ 64 - 1 - p → (2 * 2 ^ R) % 2 ^ 64 - 1 - p < 2 * 2 ^ D
    → Numbered R p (R - D) ((2 * 2 ^ D) % 2 ^ 64 - 1 - ((2 * 2 ^ R) % 2 ^ 64 - 1 - p)) D
counted_numbered R p D small b low high =
    let k = counted R p D small b low high in
    let all = k.all in
    let part = k.part in
    let row = k.row in
    record { depth = omega arith; small = omega arith; wide = k.wide; sum = omega arith }
