-- Going down the runs of a tree to what stands at a node.
use Rattle.std.proofs.Common.{◌≡◌, ℕ, zero, suc, ◌+◌, ◌-◌, ◌*◌, ◌/◌, ◌%◌, ◌^◌, ◌<◌, ◌≤◌, false, ltb, length, get_or, is_some, Some, None, Option, sym, refl, ap, ◌∙◌, arith}
use Rattle.std.proofs.lemmas.Bool.{ltb-false}
use Rattle.utreexo.specs.declared.types.Coin.{Coin}
use Rattle.utreexo.specs.declared.types.Input.TheVariants.{Leaf as LeafInput, Pair as PairInput}
use Rattle.utreexo.specs.declared.types.Value.{Value}
use Rattle.utreexo.specs.Values.{Image}
use Rattle.utreexo.specs.Forest.{Slots, at_node, value_over, tree_of, tree_place}
use Rattle.utreexo.specs.Collection.{slot_at, coin_at, own_input, paired, image_of}
use Rattle.laws.proofs.Logic.{never, some_inj}
use Rattle.laws.proofs.Place.{up}
use Rattle.laws.proofs.Places.{up_shr}
use Rattle.laws.proofs.Tree.{map_o, Tree, coin, fork, merge, grow, subtree, subtree_o}
use Rattle.laws.proofs.Value.{value, input_of}
use Rattle.laws.proofs.Forest.{slot_of, row_of_tree, Top}
use Rattle.laws.proofs.Where.{coin_slot}
use Rattle.laws.proofs.After.{value_grow}
use Rattle.laws.proofs.Strikes.{inp, img, value_same}
use Rattle.laws.proofs.Positions.{tree_over, over_tree, top_bit}
use Rattle.laws.proofs.Live.{LiveAt, slot_is, slot_make, coin_make, coin_slot_live, live_there, live_root, live_over}
use Rattle.laws.proofs.Own.{own_same}
use Rattle.laws.proofs.Laws.{inside_exactly}
use Rattle.place.proofs.Trees.{outside}
use Rattle.keeper.proofs.Runs.{run_up}
use Rattle.own.specs.declared.Own.TheVariants.{Leaf, Pair}
use Rattle.own.specs.Answers.{Stands}
use Rattle.own.proofs.Halves.{half, fork_half, coin_end}

-- Place o of row r lies in the tree (k, p), d rows below its top; and the tree there stands b rows below the top of the tree over the
-- run (j, i), at the same low bits of the place.
pub record Down (s : Slots) (r o j i b : ℕ) : Type 0 where
  pub k : ℕ
  pub p : ℕ
  pub d : ℕ
  pub top : Top (length s) k p
  pub rows : d + r ≡ k
  pub above : up d o ≡ p
  pub same : subtree_o (grow (slot_of s) j i) b o ≡ subtree_o (grow (slot_of s) k p) d o

-- at the root of the tree over the place
pub down_start : (s : Slots) (r o k : ℕ) → tree_of (length s) (at_node r o) ≡ Some k → Down s r o k (tree_place (length s) k) (k - r)
down_start s r o k e =
    let v = tree_over (length s) r o k e in
    let (_, q) = top_bit (length s) k (up v.rows o) v.top in
    let w : v.rows ≡ k - r = omega (arith, v.sum) in
    record {
      k = k;
      p = up v.rows o;
      d = v.rows;
      top = v.top;
      rows = v.sum;
      above = refl;
      same = rw (q, w);
    }

-- whose run is within the slots
pub start_within : (n r o k : ℕ) → tree_of n (at_node r o) ≡ Some k → tree_place n k < n / 2 ^ k
start_within n r o k e =
    let v = tree_over n r o k e in
    let (_, q) = top_bit n k (up v.rows o) v.top in
    let c = v.top.count in
    let u = up_shr k n in
    omega arith

-- A value over a run tells whether its tree is blank.
module _ (image : Image) (s : Slots) where
  pub run_value : (j i : ℕ) → value_over image s j i ≡ map_o (value (img image)) (grow (slot_of s) j i)
  run_value j i = value_same image s j i ∙ value_grow (img image) (slot_of s) j i

  pub blank_run : (j i : ℕ) → value_over image s j i ≡ None → grow (slot_of s) j i ≡ None
  blank_run j i e = go (grow (slot_of s) j i) refl
    where
      go : (x : Option (Tree Coin)) → grow (slot_of s) j i ≡ x → x ≡ None
      go None f = refl
      go (Some t) f = absurd (never (value (img image) t) (sym e ∙ run_value j i ∙ ap (map_o (value (img image))) f))

  pub live_run : (j i : ℕ) (v : Value) → value_over image s j i ≡ Some v → (t : Tree Coin) × (grow (slot_of s) j i ≡ Some t) × (value (img image) t ≡ v)
  live_run j i v e = go (grow (slot_of s) j i) refl
    where
      go : (x : Option (Tree Coin)) → grow (slot_of s) j i ≡ x → (t : Tree Coin) × (x ≡ Some t) × (value (img image) t ≡ v)
      go None f = absurd (never v (sym (ap (map_o (value (img image))) f) ∙ sym (run_value j i) ∙ e))
      go (Some t) f = (t, refl, some_inj (value (img image) t) v (sym (ap (map_o (value (img image))) f) ∙ sym (run_value j i) ∙ e))

-- A step down: to the half that is not blank, or to the half that the next bit tells.
pub down_right : (image : Image) (s : Slots) (r o j i b : ℕ) → value_over image s j (2 * i) ≡ None → Down s r o (suc j) i b → Down s r o j (2 * i + 1) b
down_right image s r o j i b e a =
    let f = blank_run image s j (2 * i) e in
    let g : grow (slot_of s) (suc j) i ≡ grow (slot_of s) j (2 * i + 1) = ap (λ x. merge x (grow (slot_of s) j (2 * i + 1))) f in
    record { k = a.k; p = a.p; d = a.d; top = a.top; rows = a.rows; above = a.above; same = ap (λ x. subtree_o x b o) (sym g) ∙ a.same }

pub down_left : (image : Image) (s : Slots) (r o j i b : ℕ) (v : Value) → value_over image s j (2 * i) ≡ Some v → value_over image s j (2 * i + 1) ≡ None
    → Down s r o (suc j) i b → Down s r o j (2 * i) b
down_left image s r o j i b v l e a =
    let f = blank_run image s j (2 * i + 1) e in
    let (t, h, _) = live_run image s j (2 * i) v l in
    let g : grow (slot_of s) (suc j) i ≡ grow (slot_of s) j (2 * i) = ap (merge (grow (slot_of s) j (2 * i))) f ∙ ap (λ x. merge x None) h ∙ sym h in
    record { k = a.k; p = a.p; d = a.d; top = a.top; rows = a.rows; above = a.above; same = ap (λ x. subtree_o x b o) (sym g) ∙ a.same }

pub down_half : (image : Image) (s : Slots) (r o j i b : ℕ) (v w : Value) → value_over image s j (2 * i) ≡ Some v → value_over image s j (2 * i + 1) ≡ Some w
    → Down s r o (suc j) i (suc b) → Down s r o j (2 * i + o / 2 ^ b % 2) b
down_half image s r o j i b v w e f a =
    let (x, g, _) = live_run image s j (2 * i) v e in
    let (y, h, _) = live_run image s j (2 * i + 1) w f in
    let q : grow (slot_of s) (suc j) i ≡ Some (fork x y) = ap (λ z. merge z (grow (slot_of s) j (2 * i + 1))) g ∙ ap (merge (Some x)) h in
    record {
      k = a.k;
      p = a.p;
      d = a.d;
      top = a.top;
      rows = a.rows;
      above = a.above;
      same = pick x y g h (o / 2 ^ b % 2) refl ∙ sym (fork_half x y b o) ∙ ap (λ z. subtree_o z (suc b) o) (sym q) ∙ a.same;
    }
  where
    pick : (x y : Tree Coin) → grow (slot_of s) j (2 * i) ≡ Some x → grow (slot_of s) j (2 * i + 1) ≡ Some y → (m : ℕ) → o / 2 ^ b % 2 ≡ m
        → subtree_o (grow (slot_of s) j (2 * i + m)) b o ≡ subtree (half m x y) b o
    pick x y g h zero e = let q : 2 * i + 0 ≡ 2 * i = omega arith in ap (λ z. subtree_o (grow (slot_of s) j z) b o) q ∙ ap (λ z. subtree_o z b o) g
    pick x y g h (suc m) e =
        let q : 2 * i + suc m ≡ 2 * i + 1 = omega arith in
        ap (λ z. subtree_o (grow (slot_of s) j z) b o) q ∙ ap (λ z. subtree_o z b o) h

-- Where the way down ends.
module _ (image : Image) (s : Slots) (small : length s < 2 ^ 32) where
  coin_none : (r o : ℕ) → slot_at image s (at_node r o) ≡ None → coin_at image s (at_node r o) ≡ None
  coin_none r o e = ap (λ z. elim z [ None ↦ None | Some w ↦ get_or s w None ]) e

  own_there : (r o j i b : ℕ) (x : Option (Tree Coin)) → Down s r o j i b → subtree_o (grow (slot_of s) j i) b o ≡ x
      → own_input image s r o ≡ map_o inp (map_o (input_of (img image)) x)
  own_there r o j i b x a e =
      own_same image s small a.k a.p a.top (grow (slot_of s) a.k a.p) refl r a.d o a.rows a.above
      ∙ ap (λ z. map_o inp (map_o (input_of (img image)) z)) (sym a.same ∙ e)

  -- a slot that has the place has its coin there
  slot_there : (r o j i b : ℕ) (x : Option (Tree Coin)) → Down s r o j i b → subtree_o (grow (slot_of s) j i) b o ≡ x
      → ((w : ℕ) (c : Coin) → x ≡ Some (coin w c) → ⊥) → slot_at image s (at_node r o) ≡ None
  slot_there r o j i b x a e bare = go (slot_at image s (at_node r o)) refl
    where
      fin : (w : ℕ) (c : Coin) → LiveAt s r o w c → (t : Tree Coin) × (grow (slot_of s) a.k a.p ≡ Some t) → ⊥
      fin w c l (t, g) =
          bare w c (sym e ∙ a.same ∙ ap (λ z. subtree_o z a.d o) g ∙ live_there image s small a.k a.p a.top t g a.d r o w c a.rows a.above l)

      go : (z : Option ℕ) → slot_at image s (at_node r o) ≡ z → z ≡ None
      go None f = refl
      go (Some w) f =
          let (c, l) = slot_is image s small r o w f in
          absurd (fin w c l (live_root image s small a.k a.p a.top a.d r o w c a.rows a.above l))

  none_there : (r o j i b : ℕ) → Down s r o j i b → subtree_o (grow (slot_of s) j i) b o ≡ None → Stands image s r o None
  none_there r o j i b a e =
      let f = slot_there r o j i b None a e (λ w c. never (coin w c)) in
      record { input = own_there r o j i b None a e; slot = f; coin = coin_none r o f }

  -- over a blank run nothing stands
  pub blank_there : (r o j i b : ℕ) → Down s r o j i b → value_over image s j i ≡ None → Stands image s r o None
  blank_there r o j i b a e = none_there r o j i b a (ap (λ z. subtree_o z b o) (blank_run image s j i e))

  -- nor does anything beneath a coin
  pub below_coin : (r o i b : ℕ) → Down s r o 0 i (suc b) → Stands image s r o None
  below_coin r o i b a = none_there r o 0 i (suc b) a (go (slot_of s i))
    where
      go : (z : Option Coin) → subtree_o (map_o (coin i) z) (suc b) o ≡ None
      go None = refl
      go (Some c) = coin_end i c b o

  -- a pair, where both halves are not blank and no bit is left
  pub pair_there : (r o j i : ℕ) (v w : Value) → Down s r o (suc j) i 0 → value_over image s j (2 * i) ≡ Some v → value_over image s j (2 * i + 1) ≡ Some w
      → Stands image s r o (Some (Pair v w))
  pair_there r o j i v w a e f =
      let (x, g, q) = live_run image s j (2 * i) v e in
      let (y, h, u) = live_run image s j (2 * i + 1) w f in
      let l : grow (slot_of s) (suc j) i ≡ Some (fork x y) = ap (λ z. merge z (grow (slot_of s) j (2 * i + 1))) g ∙ ap (merge (Some x)) h in
      let m : subtree_o (grow (slot_of s) (suc j) i) 0 o ≡ Some (fork x y) = ap (λ z. subtree_o z 0 o) l in
      let k = slot_there r o (suc j) i 0 (Some (fork x y)) a m (no_leaf x y) in
      record {
        input = own_there r o (suc j) i 0 (Some (fork x y)) a m ∙ ap (λ z. Some (PairInput z (value (img image) y))) q ∙ ap (λ z. Some (PairInput v z)) u;
        slot = k;
        coin = coin_none r o k;
      }
    where
      no_leaf : (x y : Tree Coin) (w : ℕ) (c : Coin) → Some (fork x y) ≡ Some (coin w c) → ⊥
      no_leaf x y w c e = let z : ◌≡◌ {A = ℕ} 0 1 = cc in omega arith

  -- a coin, at a slot, where no bit is left
  pub leaf_there : (r o i : ℕ) (c : Coin) → Down s r o 0 i 0 → get_or s i None ≡ Some c → Stands image s r o (Some (Leaf (record { number = i }) c))
  leaf_there r o i c a e =
      let l : subtree_o (grow (slot_of s) 0 i) 0 o ≡ Some (coin i c) = ap (λ z. subtree_o (map_o (coin i) z) 0 o) e in
      let w = live l (live_top a l) in
      record { input = own_there r o 0 i 0 (Some (coin i c)) a l; slot = slot_make image s small r o i c w; coin = coin_make image s small r o i c w }
    where
      live_top : (a : Down s r o 0 i 0) → subtree_o (grow (slot_of s) 0 i) 0 o ≡ Some (coin i c) → (t : Tree Coin) × (grow (slot_of s) a.k a.p ≡ Some t)
      live_top a l = go (grow (slot_of s) a.k a.p) refl
        where
          go : (z : Option (Tree Coin)) → grow (slot_of s) a.k a.p ≡ z → (t : Tree Coin) × (z ≡ Some t)
          go None f = absurd (never (coin i c) (ap (λ z. subtree_o z a.d o) (sym f) ∙ sym a.same ∙ l))
          go (Some t) f = (t, refl)

      live : subtree_o (grow (slot_of s) 0 i) 0 o ≡ Some (coin i c) → (t : Tree Coin) × (grow (slot_of s) a.k a.p ≡ Some t) → LiveAt s r o i c
      live l (t, g) =
          coin_slot_live image s small a.k a.p a.top r o i c
          (coin_slot (slot_of s) a.k a.p t g a.d r o i c a.rows a.above (ap (λ z. subtree_o z a.d o) (sym g) ∙ sym a.same ∙ l))

  -- Outside the forest nothing stands.
  slot_outside : (r o : ℕ) → tree_of (length s) (at_node r o) ≡ None → slot_at image s (at_node r o) ≡ None
  slot_outside r o e = go (slot_at image s (at_node r o)) refl
    where
      go : (z : Option ℕ) → slot_at image s (at_node r o) ≡ z → z ≡ None
      go None f = refl
      go (Some w) f =
          let (c, l) = slot_is image s small r o w f in
          let v = live_over image s small r o w c l in
          absurd (never (row_of_tree (length s) w) (sym e ∙ over_tree (length s) r o (row_of_tree (length s) w) small v))

  own_outside : (r o : ℕ) → length s / 2 ^ r ≤ o → own_input image s r o ≡ None
  own_outside zero o l = let f = coin_none 0 o (slot_outside 0 o (outside (length s) 0 o small l)) in cc
  own_outside (suc r) o l =
      let f = coin_none (suc r) o (slot_outside (suc r) o (outside (length s) (suc r) o small l)) in
      let q = run_up (length s) r in
      let h = own_outside r (2 * o + 1) (omega arith) in
      ap (λ z. elim z [ None ↦ paired (image_of image (own_input image s r (2 * o))) (image_of image (own_input image s r (2 * o + 1))) | Some c ↦ Some (LeafInput c) ]) f
      ∙ ap (λ z. paired (image_of image (own_input image s r (2 * o))) (image_of image z)) h ∙ lone (image_of image (own_input image s r (2 * o)))
    where
      lone : (z : Option Value) → paired z None ≡ None
      lone None = refl
      lone (Some v) = refl

  pub none_outside : (r o : ℕ) → tree_of (length s) (at_node r o) ≡ None → Stands image s r o None
  none_outside r o e =
      let f = slot_outside r o e in
      let g = inside_exactly (length s) r o small in
      let l : ltb o (length s / 2 ^ r) ≡ false = sym g ∙ ap is_some e in
      record { input = own_outside r o (ltb-false o (length s / 2 ^ r) l); slot = f; coin = coin_none r o f }
