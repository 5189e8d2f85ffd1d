-- Striking the bits of a slot's number, from the row of its tree down.
use Rattle.std.proofs.Common.{◌≡◌, ℕ, suc, ◌+◌, ◌-◌, ◌*◌, ◌/◌, ◌%◌, ◌^◌, ◌<◌, ◌≤◌, List, [], ◌∷◌, length, drop, Some, None, Option, sym, refl, ap, ◌∙◌, arith, add-one, length-drop}
use Rattle.std.proofs.lemmas.List.{drop_more, drop_all}
use Rattle.utreexo.specs.declared.types.Value.{Value}
use Rattle.utreexo.specs.Values.{Image}
use Rattle.utreexo.specs.Forest.{Slots, at_node, tree_of, value_over, sibling, Struck, keep_bit, strike, siblings_of}
use Rattle.laws.proofs.Place.{up}
use Rattle.laws.proofs.Places.{sib_half, up_add, up_shr}
use Rattle.laws.proofs.Ranges.{length_map_below, get_or_below}
use Rattle.laws.proofs.Strikes.{sibling_sib, shr_next}
use Rattle.laws.proofs.Tops.{Over}
use Rattle.laws.proofs.Positions.{tree_over, over_in_row}
use Rattle.laws.proofs.Live.{over_whole, top_over}

-- the place is no larger than the number, and each bit is struck out or kept
bit_low : (x : Option Value) (o : ℕ) (k : Struck) → k.place ≤ o / 2 → (keep_bit o x k).place ≤ o
bit_low None o k l = omega arith
bit_low (Some v) o k l = omega arith

pub strike_low : (xs : List (Option Value)) (o : ℕ) → (strike xs o).place ≤ o
strike_low [] o = omega arith
strike_low (x ∷ xs) o = bit_low x o (strike xs (o / 2)) (strike_low xs (o / 2))

bit_long : (x : Option Value) (o : ℕ) (k : Struck) (n : ℕ) → k.row + length k.path ≡ n → (keep_bit o x k).row + length (keep_bit o x k).path ≡ suc n
bit_long None o k n e = omega arith
bit_long (Some v) o k n e = omega arith

pub strike_long : (xs : List (Option Value)) (o : ℕ) → (strike xs o).row + length (strike xs o).path ≡ length xs
strike_long [] o = refl
strike_long (x ∷ xs) o = bit_long x o (strike xs (o / 2)) (length xs) (strike_long xs (o / 2))

module _ (image : Image) (s : Slots) (slot tree : ℕ) where
  abbrev sibs : List (Option Value)
  sibs = siblings_of image s slot tree

  length_sibs : length sibs ≡ tree
  length_sibs = length_map_below (λ j. value_over image s j (sibling (slot / 2 ^ j))) tree

  -- what the bits from row j up are struck to
  abbrev pub struck_from : ℕ → Struck
  struck_from j = strike (drop j sibs) (slot / 2 ^ j)

  -- at the tree's own row no bit is struck
  pub struck_top : struck_from tree ≡ record { row = 0; place = slot / 2 ^ tree; path = [] }
  struck_top = ap (λ z. strike z (slot / 2 ^ tree)) (drop_all tree sibs (omega (arith, length_sibs)))

  -- one bit more
  pub struck_next : (j : ℕ) → j < tree → struck_from j ≡ keep_bit (slot / 2 ^ j) (value_over image s j (sibling (slot / 2 ^ j))) (struck_from (j + 1))
  struck_next j l =
      ap (λ z. strike z (slot / 2 ^ j)) (drop_more sibs j None (omega (arith, length_sibs)))
      ∙ ap (λ z. keep_bit (slot / 2 ^ j) z (strike (drop (j + 1) sibs) (slot / 2 ^ j / 2))) (get_or_below (λ j. value_over image s j (sibling (slot / 2 ^ j))) None tree j l)
      ∙ ap (λ o. keep_bit (slot / 2 ^ j) (value_over image s j (sibling (slot / 2 ^ j))) (strike (drop (j + 1) sibs) o)) (rw add-one (sym (shr_next slot j (slot / 2 ^ j) refl)))

  -- how large the parts are, the bits below row j + 1 being left
  pub struck_bounds : (j row place : ℕ) (path : List Value) → j < tree → struck_from (j + 1) ≡ record { row = row; place = place; path = path }
      → (2 * place + slot / 2 ^ j % 2 ≤ slot / 2 ^ j) × (row + length path + (j + 1) ≡ tree)
  struck_bounds j row place path l e =
      let a : (struck_from (j + 1)).place ≡ place = ap (λ k. k.place) e in
      let b : (struck_from (j + 1)).row + length (struck_from (j + 1)).path ≡ row + length path = ap (λ k. k.row + length k.path) e in
      let c = strike_low (drop (j + 1) sibs) (slot / 2 ^ (j + 1)) in
      let d = strike_long (drop (j + 1) sibs) (slot / 2 ^ (j + 1)) in
      let f = length-drop (j + 1) sibs in
      let h : slot / 2 ^ (j + 1) ≡ slot / 2 ^ j / 2 = rw add-one (shr_next slot j (slot / 2 ^ j) refl) in
      (omega arith, omega (arith, length_sibs))

  -- in the end the slot's own
  pub struck_whole : struck_from 0 ≡ strike sibs slot
  struck_whole = ap (strike sibs) (omega arith)

-- a sibling run of a slot below the row of its tree lies within the count
pub sibling_within : (n i k j : ℕ) → tree_of n (at_node 0 i) ≡ Some k → j < k → sibling (i / 2 ^ j) < n / 2 ^ j
sibling_within n i k j e l =
    let v : Over n 0 i k = tree_over n 0 i k e in
    let d = k - (j + 1) in
    let q : up (suc d) (sibling (i / 2 ^ j)) ≡ up k i =
    ap (up d) (ap (λ x. x / 2) (sibling_sib (i / 2 ^ j)) ∙ sib_half (i / 2 ^ j)) ∙ ap (λ x. up (suc d) x) (sym (up_shr j i)) ∙ sym (up_add j (suc d) k i (omega arith)) in
    let w : Over n j (sibling (i / 2 ^ j)) k = top_over n k (up k i) (suc d) j (sibling (i / 2 ^ j)) (over_whole n i k v) (omega arith) q in
    let h = over_in_row n j (sibling (i / 2 ^ j)) k w in
    let z = up_shr j n in omega arith
