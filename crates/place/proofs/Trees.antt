-- Which places a forest has, and the tree over each.
use Rattle.std.proofs.Common.{◌≡◌, ℕ, ◌+◌, ◌-◌, ◌*◌, ◌/◌, ◌%◌, ◌^◌, ◌<◌, ◌≤◌, true, false, not, ◌&&◌, eqb, ltb, ◌⊎◌, is_some, Some, None, Option, sym, refl, ap, ◌∙◌, subst, ap₂, inl, inr, div-one, arith, pow_pos, shr-shr}
use native.Mathlib.Nat.{div-eq_of_lt}
use lib.Bits.{bit_xor, xor_add_and, and_le_l, and_le_r, xor_shr, xor_self}
use lib.Pow.{shr_mono}
use Rattle.std.proofs.lemmas.Nat.{le-div}
use Rattle.std.proofs.lemmas.Bool.{cases_lt, cases_eq, lt-ltb, le-ltb, eq-eqb, ne_eqb, eqb-true, and_parts, and_from}
use Rattle.utreexo.specs.Forest.{at_node, bit, tree_place, tree_of}
use Rattle.laws.proofs.Logic.{true_false, iff_bool}
use Rattle.laws.proofs.Place.{up}
use Rattle.laws.proofs.Forest.{Top}
use Rattle.laws.proofs.Places.{up_shr}
use Rattle.laws.proofs.Positions.{bit_top, top_bit, tree_over, over_tree, over_low}
use Rattle.laws.proofs.Laws.{inside_exactly}
use Rattle.place.specs.Nodes.{inside, is_root, below_root}
use Rattle.place.proofs.Powers.{pow_next}

-- Inside ------------------------------------------------------------------------------

-- a place at or past the last whole run of its row is in no tree
pub outside : (n r o : ℕ) → n < 2 ^ 32 → n / 2 ^ r ≤ o → tree_of n (at_node r o) ≡ None
outside n r o small l = go (tree_of n (at_node r o)) refl
  where
    go : (x : Option ℕ) → tree_of n (at_node r o) ≡ x → x ≡ None
    go None e = refl
    go (Some k) e =
        absurd (true_false (is_some (tree_of n (at_node r o))) (ap is_some e) (inside_exactly n r o small ∙ le-ltb o (n / 2 ^ r) l))

-- a slot is in a tree exactly if it is below the count
pub slot_inside : (n i : ℕ) → n < 2 ^ 32 → inside n (at_node 0 i) ≡ ltb i n
slot_inside n i small = inside_exactly n 0 i small ∙ ap (λ x. ltb i x) (div-one n)

-- The tree over a place ---------------------------------------------------------------

xor_zero : (a b : ℕ) → bit_xor a b ≡ 0 → a ≡ b
xor_zero a b e = omega (arith, xor_add_and a b, and_le_l a b, and_le_r a b)

-- at the highest bit j in which o < m differ, o has 0 and m has 1
record Parts (o m j : ℕ) : Type 0 where
  zero_bit : o / 2 ^ j ≡ 2 * (m / 2 ^ (j + 1))
  one_bit : m / 2 ^ j ≡ 2 * (m / 2 ^ (j + 1)) + 1

parts : (o m j : ℕ) → o < m → 2 ^ j ≤ bit_xor o m → bit_xor o m < 2 * 2 ^ j → Parts o m j
parts o m j lt low high =
    let gone : bit_xor o m / 2 ^ (j + 1) ≡ 0 = div-eq_of_lt (omega (arith, pow_next j)) in
    let same = xor_zero (o / 2 ^ (j + 1)) (m / 2 ^ (j + 1)) (sym (xor_shr o m (j + 1)) ∙ gone) in
    let some = le-div 1 (bit_xor o m) (2 ^ j) (pow_pos j) (omega arith) in
    let differ : o / 2 ^ j ≡ m / 2 ^ j → ⊥ =
    λ e. let z : bit_xor o m / 2 ^ j ≡ 0 = xor_shr o m j ∙ ap (λ x. bit_xor x (m / 2 ^ j)) e ∙ xor_self (m / 2 ^ j) in omega arith in
    let order : o / 2 ^ j ≤ m / 2 ^ j = shr_mono j (omega arith) in
    let p : o / 2 ^ j / 2 ≡ o / 2 ^ (j + 1) = shr-shr o j 1 in
    let q : m / 2 ^ j / 2 ≡ m / 2 ^ (j + 1) = shr-shr m j 1 in
    record { zero_bit = omega arith; one_bit = omega arith }

-- that bit is the tree's
pub tree_found : (n r o m j : ℕ) → n < 2 ^ 32 → m ≡ n / 2 ^ r → o < m → 2 ^ j ≤ bit_xor o m → bit_xor o m < 2 * 2 ^ j → tree_of n (at_node r o) ≡ Some (r + j)
tree_found n r o m j small e lt low high =
    let p = parts o m j lt low high in
    let a : up (r + j) n ≡ m / 2 ^ j = up_shr (r + j) n ∙ sym (shr-shr n r j) ∙ ap (λ x. x / 2 ^ j) (sym e) in
    let b = up_shr j o in
    let z = p.zero_bit in
    let w = p.one_bit in
    over_tree n r o (r + j) small (record { rows = j; sum = omega arith; top = record { count = omega arith; even = omega arith } })

-- the row of a tree is that of the place or above, and below 32
pub tree_range : (n r o k : ℕ) → n < 2 ^ 32 → tree_of n (at_node r o) ≡ Some k → (r ≤ k) × (k < 32)
tree_range n r o k small e = let v = tree_over n r o k e in (omega (arith, v.sum), over_low n r o k small v)

-- Roots ---------------------------------------------------------------------------------

-- a root is the place of the tree of its row
pub root_is : (n r o : ℕ) → n < 2 ^ 32 → (bit n r && eqb o (tree_place n r)) ≡ is_root n (at_node r o)
root_is n r o small = iff_bool ((bit n r && eqb o (tree_place n r))) (is_root n (at_node r o)) to (from (tree_of n (at_node r o)) refl)
  where
    to : (bit n r && eqb o (tree_place n r)) ≡ true → is_root n (at_node r o) ≡ true
    to t =
        let (b, q) = and_parts (bit n r) (eqb o (tree_place n r)) t in
        let top = subst (Top n r) (sym (eqb-true o (tree_place n r) q)) (bit_top n r b) in
        let e = over_tree n r o r small (record { rows = 0; sum = omega arith; top = top }) in
        ap (λ x. elim x [ None ↦ false | Some k ↦ eqb k r ]) e ∙ eq-eqb r r refl

    from : (x : Option ℕ) → tree_of n (at_node r o) ≡ x → elim x [ None ↦ false | Some k ↦ eqb k r ] ≡ true → (bit n r && eqb o (tree_place n r)) ≡ true
    from None e t = absurd (true_false false t refl)
    from (Some k) e t =
        let v = tree_over n r o k e in
        let q = eqb-true k r t in
        let z : v.rows ≡ 0 = omega (arith, v.sum) in
        let top = subst (λ j. Top n j o) q (subst (λ x. Top n k (up x o)) z v.top) in
        let (b, p) = top_bit n r o top in
        and_from (bit n r) (eqb o (tree_place n r)) b (eq-eqb o (tree_place n r) (sym p))

-- Below a root --------------------------------------------------------------------------

half_below : (o w : ℕ) → ltb (o / 2) (w / 2) ≡ (ltb o w && not (eqb (w % 2) 1 && eqb o (w - 1)))
half_below o w = go (cases_lt o w) (cases_eq (w % 2) 1) (cases_eq o (w - 1))
  where
    go : (o < w) ⊎ (w ≤ o) → (w % 2 ≡ 1) ⊎ (w % 2 ≡ 1 → ⊥) → (o ≡ w - 1) ⊎ (o ≡ w - 1 → ⊥) → ltb (o / 2) (w / 2) ≡ (ltb o w && not (eqb (w % 2) 1 && eqb o (w - 1)))
    go (inr a) b c = rw (le-ltb o w a) (le-ltb (o / 2) (w / 2) (omega arith))
    go (inl a) (inr b) c = rw (lt-ltb o w a, ne_eqb (w % 2) 1 b) (lt-ltb (o / 2) (w / 2) (omega arith))
    go (inl a) (inl b) (inr c) = rw (lt-ltb o w a, eq-eqb (w % 2) 1 b, ne_eqb o (w - 1) c) (lt-ltb (o / 2) (w / 2) (omega arith))
    go (inl a) (inl b) (inl c) = rw (lt-ltb o w a, eq-eqb (w % 2) 1 b, eq-eqb o (w - 1) c) (le-ltb (o / 2) (w / 2) (omega arith))

-- half the place against half the runs: a place below a root
pub below_is : (n r o : ℕ) → n < 2 ^ 32 → ltb (o / 2) (n / 2 ^ r / 2) ≡ below_root n (at_node r o)
below_is n r o small = half_below o (n / 2 ^ r) ∙ ap₂ (λ a b. a && not b) (sym (inside_exactly n r o small)) (root_is n r o small)
