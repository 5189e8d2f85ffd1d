-- The own input that the definitions find at a position is that of the tree there.
use Rattle.std.proofs.Common.{◌≡◌, ℕ, zero, suc, ◌+◌, ◌*◌, ◌^◌, ◌<◌, length, Some, None, Option, sym, refl, ap, ◌∙◌, arith}
use Rattle.utreexo.specs.declared.types.Coin.{Coin}
use Rattle.utreexo.specs.declared.types.Input.{Input}
use Rattle.utreexo.specs.Values.{Image}
use Rattle.utreexo.specs.Forest.{Slots, at_node}
use Rattle.utreexo.specs.Collection.{coin_at, own_input}
use Rattle.laws.proofs.Logic.{never}
use Rattle.laws.proofs.Place.{up}
use Rattle.laws.proofs.Places.{half_even, half_odd, mod_even, mod_odd}
use Rattle.laws.proofs.Tree.{map_o, Tree, coin, fork, grow, child, subtree_o}
use Rattle.laws.proofs.Value.{input_of}
use Rattle.laws.proofs.Forest.{slot_of, Top}
use Rattle.laws.proofs.Where.{coin_slot, fork_high}
use Rattle.laws.proofs.Evidence.{value_input}
use Rattle.laws.proofs.Strikes.{inp, img}
use Rattle.laws.proofs.Live.{LiveAt, coin_make, coin_is, coin_slot_live, live_there, live_root}

-- the trees at the two children of a position
sub_even : (x : Option (Tree Coin)) (d o : ℕ) → subtree_o x (suc d) (2 * o) ≡ child 0 (subtree_o x d o)
sub_even None d o = refl
sub_even (Some t) d o = rw (mod_even, half_even)

sub_odd : (x : Option (Tree Coin)) (d o : ℕ) → subtree_o x (suc d) (2 * o + 1) ≡ child 1 (subtree_o x d o)
sub_odd None d o = refl
sub_odd (Some t) d o = rw (mod_odd, half_odd)

no_coin_fork : (i : ℕ) (c : Coin) (a b : Tree Coin) → Some (fork a b) ≡ Some (coin i c) → ⊥
no_coin_fork i c a b e = let z : ◌≡◌ {A = ℕ} 0 1 = cc in omega arith

-- A tree (k, p) of the forest, and the position (r, o), d rows below its top.
module _ (image : Image) (s : Slots) (small : length s < 2 ^ 32) (k p : ℕ) (top : Top (length s) k p) where
  -- the input of a tree, as the definitions have it
  abbrev input : Option (Tree Coin) → Option Input
  input x = map_o inp (map_o (input_of (img image)) x)

  module _ (x : Option (Tree Coin)) (root : grow (slot_of s) k p ≡ x) where
    -- the coin at a position is that of a leaf at it, if there is one
    sub_coin : (d r o i : ℕ) (c : Coin) → d + r ≡ k → up d o ≡ p → subtree_o x d o ≡ Some (coin i c) → coin_at image s (at_node r o) ≡ Some c
    sub_coin d r o i c e q f = go x root f
      where
        go : (x : Option (Tree Coin)) → grow (slot_of s) k p ≡ x → subtree_o x d o ≡ Some (coin i c) → coin_at image s (at_node r o) ≡ Some c
        go None g f = absurd (never (coin i c) f)
        go (Some t) g f = coin_make image s small r o i c (coin_slot_live image s small k p top r o i c (coin_slot (slot_of s) k p t g d r o i c e q f))

    sub_other : (d r o : ℕ) → d + r ≡ k → up d o ≡ p → ((i : ℕ) (c : Coin) → subtree_o x d o ≡ Some (coin i c) → ⊥) → coin_at image s (at_node r o) ≡ None
    sub_other d r o e q non = go (coin_at image s (at_node r o)) refl
      where
        fin : (i : ℕ) (c : Coin) → LiveAt s r o i c → (t : Tree Coin) × (grow (slot_of s) k p ≡ Some t) → ⊥
        fin i c a (t, g) = non i c (ap (λ z. subtree_o z d o) (sym root ∙ g) ∙ live_there image s small k p top t g d r o i c e q a)

        go : (z : Option Coin) → coin_at image s (at_node r o) ≡ z → z ≡ None
        go None f = refl
        go (Some c) f = let (i, a) = coin_is image s small r o c f in absurd (fin i c a (live_root image s small k p top d r o i c e q a))

    -- in row 0 there is no fork
    no_high : (d o : ℕ) (a b : Tree Coin) → d + 0 ≡ k → up d o ≡ p → subtree_o x d o ≡ Some (fork a b) → ⊥
    no_high d o a b e q f = go x root f
      where
        go : (x : Option (Tree Coin)) → grow (slot_of s) k p ≡ x → subtree_o x d o ≡ Some (fork a b) → ⊥
        go None g f = never (fork a b) f
        go (Some t) g f = omega (arith, fork_high (slot_of s) k p t g d o a b q f)

    -- the own input is that of the tree
    pub own_same : (r d o : ℕ) → d + r ≡ k → up d o ≡ p → own_input image s r o ≡ input (subtree_o x d o)
    own_same zero d o e q = go (subtree_o x d o) refl
      where
        go : (z : Option (Tree Coin)) → subtree_o x d o ≡ z → own_input image s 0 o ≡ input z
        go None f = let g = sub_other d 0 o e q (λ i c h. never (coin i c) (sym f ∙ h)) in cc
        go (Some (coin i c)) f = let g = sub_coin d 0 o i c e q f in cc
        go (Some (fork a b)) f = absurd (no_high d o a b e q f)
    own_same (suc r) d o e q =
        go (subtree_o x d o) refl
        (own_same r (suc d) (2 * o) (omega arith) (ap (up d) (half_even o) ∙ q) ∙ ap input (sub_even x d o))
        (own_same r (suc d) (2 * o + 1) (omega arith) (ap (up d) (half_odd o) ∙ q) ∙ ap input (sub_odd x d o))
      where
        go : (z : Option (Tree Coin)) → subtree_o x d o ≡ z
            → own_input image s r (2 * o) ≡ input (child 0 (subtree_o x d o))
            → own_input image s r (2 * o + 1) ≡ input (child 1 (subtree_o x d o))
            → own_input image s (suc r) o ≡ input z
        go None f l h =
            let g = sub_other d (suc r) o e q (λ i c h. never (coin i c) (sym f ∙ h)) in
            let l' : own_input image s r (2 * o) ≡ None = cc in
            cc
        go (Some (coin i c)) f l h = let g = sub_coin d (suc r) o i c e q f in cc
        go (Some (fork a b)) f l h =
            let g = sub_other d (suc r) o e q (λ i c h. no_coin_fork i c a b (sym f ∙ h)) in
            let l' : own_input image s r (2 * o) ≡ Some (inp (input_of (img image) a)) = cc in
            let h' : own_input image s r (2 * o + 1) ≡ Some (inp (input_of (img image) b)) = cc in
            let v = value_input (img image) a in
            let w = value_input (img image) b in
            cc
