-- Striking keeps the root that a coin's path goes up to, and the places beside the path are in the forest.
use Rattle.std.proofs.Common.{◌≡◌, ℕ, suc, ◌+◌, ◌*◌, ◌/◌, ◌%◌, ◌^◌, ◌<◌, Bool, true, false, not, ◌&&◌, eqb, List, [], ◌∷◌, map, length, Some, None, Option, refl, sym, ap, ◌∙◌, arith}
use Rattle.std.proofs.lemmas.Nat.{shr-shr}
use Rattle.std.proofs.lemmas.Bool.{and_parts, eqb-true}
use Rattle.utreexo.specs.declared.types.Value.{Value}
use Rattle.utreexo.specs.Lists.{filter}
use Rattle.utreexo.specs.Forest.{bit, tree_place, sibling, strike}
use Rattle.utreexo.specs.Wallet.{Held}
use Rattle.laws.proofs.Members.{map_mem, filter_mem, any_none, none_any}
use Rattle.laws.proofs.Places.{with_bit_half, sib_half, up_lt, up_shr}
use Rattle.laws.proofs.Strikes.{sibling_sib}
use Rattle.shelf.specs.Held.{in_its_tree, astray}
use Rattle.refresh.specs.Refreshed.{Lookup, renewed_by, refreshed_by}

half : (o n : ℕ) → o / 2 / 2 ^ n ≡ o / 2 ^ suc n
half o n = let e : 1 + n ≡ suc n = omega arith in shr-shr o 1 n ∙ ap (λ (x : ℕ). o / 2 ^ x) e

-- the rows that a coin rises are the hashes that its path loses
strike_rows : (xs : List (Option Value)) (o : ℕ) → (strike xs o).row + length (strike xs o).path ≡ length xs
strike_rows [] o = refl
strike_rows (None ∷ xs) o = let e = strike_rows xs (o / 2) in omega arith
strike_rows (Some v ∷ xs) o = let e = strike_rows xs (o / 2) in omega arith

-- the place of the root stays
strike_top : (xs : List (Option Value)) (o : ℕ) → (strike xs o).place / 2 ^ length (strike xs o).path ≡ o / 2 ^ length xs
strike_top [] o = refl
strike_top (None ∷ xs) o = strike_top xs (o / 2) ∙ half o (length xs)
strike_top (Some v ∷ xs) o =
    let k = strike xs (o / 2) in
    sym (half (2 * k.place + o % 2) (length k.path)) ∙ ap (λ (x : ℕ). x / 2 ^ length k.path) (with_bit_half k.place o)
    ∙ strike_top xs (o / 2) ∙ half o (length xs)

length_renewed : (f : Lookup) (r o : ℕ) (vs : List Value) → length (renewed_by f r o vs) ≡ length vs
length_renewed f r o [] = refl
length_renewed f r o (v ∷ vs) = ap (λ (x : ℕ). suc x) (length_renewed f (r + 1) (o / 2) vs)

-- a coin that stands in a tree does so refreshed
pub stands_on : (n : ℕ) (f : Lookup) (h : Held) → in_its_tree n (refreshed_by f h) ≡ in_its_tree n h
stands_on n f h =
    let xs = renewed_by f h.row h.place h.path in
    let K = strike xs h.place in
    let long = length_renewed f h.row h.place h.path in
    let rows = strike_rows xs h.place in
    let level : h.row + K.row + length K.path ≡ h.row + length h.path = omega arith in
    let top = strike_top xs h.place ∙ ap (λ (x : ℕ). h.place / 2 ^ x) long in
    ap (λ (k : ℕ). bit n k && eqb (K.place / 2 ^ length K.path) (tree_place n k)) level
    ∙ ap (λ (x : ℕ). bit n (h.row + length h.path) && eqb x (tree_place n (h.row + length h.path))) top

-- so after spending no coin is astray, if none was
pub none_astray : (n : ℕ) (f : Lookup) (q : Held → Bool) (hs : List Held) → astray n hs ≡ false → astray n (map (refreshed_by f) (filter q hs)) ≡ false
none_astray n f q hs e =
    none_any _ _ (λ x m.
    let (h, from, is) = map_mem (refreshed_by f) (filter q hs) x m in
    let (held, _) = filter_mem q hs h from in
    ap (λ y. not (in_its_tree n y)) is ∙ ap not (stands_on n f h) ∙ any_none _ hs h e held)

-- the place of the tree's root is one of its row's
pub below_top : (n : ℕ) (h : Held) → in_its_tree n h ≡ true → h.place / 2 ^ length h.path < n / 2 ^ (h.row + length h.path)
below_top n h e =
    let k = h.row + length h.path in
    let (odd, top) = and_parts (bit n k) (eqb (h.place / 2 ^ length h.path) (tree_place n k)) e in
    let a = eqb-true (n / 2 ^ k % 2) 1 odd in
    let b = eqb-true (h.place / 2 ^ length h.path) (tree_place n k) top in
    omega arith

-- so a place beside the way up to it is one of its row's too
pub beside_inside : (n r o l : ℕ) → o / 2 ^ suc l < n / 2 ^ (r + suc l) → sibling o < n / 2 ^ r
beside_inside n r o l e =
    let left = up_shr (suc l) (sibling o) ∙ sym (half (sibling o) l) ∙ ap (λ (x : ℕ). x / 2 ^ l) (ap (λ (x : ℕ). x / 2) (sibling_sib o) ∙ sib_half o) ∙ half o l in
    let right = up_shr (suc l) (n / 2 ^ r) ∙ shr-shr n r (suc l) in
    up_lt (suc l) (sibling o) (n / 2 ^ r) (rw (left, right) e)

pub one_up : (n r o l : ℕ) → o / 2 ^ suc l < n / 2 ^ (r + suc l) → o / 2 / 2 ^ l < n / 2 ^ (r + 1 + l)
one_up n r o l e = let s : r + 1 + l ≡ r + suc l = omega arith in rw (half o l, s) e
