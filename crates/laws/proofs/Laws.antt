-- The laws that the functions of this crate state.
use Rattle.std.proofs.Common.{◌≡◌, ℕ, ◌/◌, ◌^◌, ◌≤◌, false, ltb, [], length, is_some, Some, None, Option, sym, refl, ap, ◌∙◌, inl, inr, arith}
use Rattle.utreexo.specs.declared.types.Coin.{Coin}
use Rattle.utreexo.specs.Forest.{at_node, tree_of, tree_place}
use Rattle.utreexo.specs.Claims.{no_value}
use Rattle.utreexo.specs.Wallet.{Held}
use Rattle.utreexo.specs.Collection.{slot_held, image_of}
use Rattle.laws.specs.Laws.{RowsLeast, OnePosition, InsideExactly, LivePositions, RootValues, NeededFew}
use Rattle.laws.proofs.Logic.{ltb_cases, LtbCases}
use Rattle.laws.proofs.Place.{up}
use Rattle.laws.proofs.Places.{up_shr}
use Rattle.laws.proofs.Tree.{Tree, coin, fork, map_o, grow, subtree_o}
use Rattle.laws.proofs.Value.{value, input_of}
use Rattle.laws.proofs.Forest.{top_row_of, row_of_tree, slot_of}
use Rattle.laws.proofs.After.{value_grow}
use Rattle.laws.proofs.Tops.{Over, top_row}
use Rattle.laws.proofs.Strikes.{inp, img, value_same}
use Rattle.laws.proofs.Positions.{rows_ok, rows_low, bit_top, tree_over, over_tree, over_in_row, locate_at, locate_is, same_position}
use Rattle.laws.proofs.Live.{LiveAt, slot_held_live_at, live_over, live_once, slot_make}
use Rattle.laws.proofs.Own.{own_same}
use Rattle.laws.proofs.Count.{needed_few}

-- R is least
pub rows_least : RowsLeast (2 ^ 32)
rows_least n small = (rows_ok n small, rows_low n)

-- a place is found by its position, and what is found there has that position
pub one_position : OnePosition (2 ^ 32)
one_position = (λ n r o k small e. locate_at n small r o k (tree_over n r o k e), λ n p d e. (locate_is n p d e).number)

-- a place is in the forest exactly if it is below n / 2 ^ row
pub inside_exactly : InsideExactly (2 ^ 32)
inside_exactly n r o small = go (ltb_cases o (n / 2 ^ r))
  where
    outside : (x : Option ℕ) → tree_of n (at_node r o) ≡ x → n / 2 ^ r ≤ o → is_some x ≡ false
    outside None e l = refl
    outside (Some k) e l = let q = over_in_row n r o k (tree_over n r o k e) in let u = up_shr r n in absurd (omega arith)

    go : LtbCases o (n / 2 ^ r) → is_some (tree_of n (at_node r o)) ≡ ltb o (n / 2 ^ r)
    go (inl (t, l)) =
        let u = up_shr r n in
        let over : Over n r o (top_row_of (up r n) r o (up r n)) = top_row (up r n) r o (up r n) n refl (omega arith) (omega arith) in
        ap is_some (over_tree n r o (top_row_of (up r n) r o (up r n)) small over) ∙ sym t
    go (inr (t, l)) = outside (tree_of n (at_node r o)) refl l ∙ sym t

-- a live slot has a position, is found there, and no other live slot has it
pub live_positions : LivePositions (2 ^ 32)
live_positions image s small i c live = (
  locate_at (length s) small h.row h.place (row_of_tree (length s) i) (live_over image s small h.row h.place i c here),
  slot_make image s small h.row h.place i c here,
  λ j e other same. (
      let there = slot_held_live_at image s small j e other in
      let g = slot_held image s j e in
      let (row, at) = same_position (length s) small g.row g.place (row_of_tree (length s) j) h.row h.place (row_of_tree (length s) i)
      (live_over image s small g.row g.place j e there) (live_over image s small h.row h.place i c here) same in
      live_once image s small h.row h.place j i e c (record { live = other; row = there.row ∙ row; at = there.at ∙ at }) here),
)
  where
    h : Held
    h = slot_held image s i c

    here : LiveAt s (slot_held image s i c).row (slot_held image s i c).place i c
    here = slot_held_live_at image s small i c live

-- the value at a root position is the value over the tree
pub root_values : RootValues (2 ^ 32)
root_values image s small k b =
    let p = tree_place (length s) k in
    ap (image_of image) (own_same image s small k p (bit_top (length s) k b) (grow (slot_of s) k p) refl k 0 p (omega arith) refl)
    ∙ same p (grow (slot_of s) k p) ∙ sym (value_grow (img image) (slot_of s) k p) ∙ sym (value_same image s k p)
  where
    same : (p : ℕ) (x : Option (Tree Coin)) → image_of image (map_o inp (map_o (input_of (img image)) (subtree_o x 0 p))) ≡ map_o (value (img image)) x
    same p None = refl
    same p (Some (coin i c)) = refl
    same p (Some (fork l r)) = refl

-- a proof needs at most 31 hashes for each target
pub needed_count : NeededFew 31
needed_count s small ts = needed_few (λ i. no_value) s small ts []
