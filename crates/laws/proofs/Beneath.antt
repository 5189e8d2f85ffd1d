-- Which live slots' positions lie at a position or beneath it: none of two beneath the other's, and some exactly where there is an own input.
use Rattle.std.proofs.Common.{◌≡◌, ℕ, zero, suc, ◌+◌, ◌-◌, ◌*◌, ◌/◌, ◌%◌, ◌^◌, ◌<◌, ◌≤◌, true, length, get_or, is_some, Some, None, Option, sym, refl, ap, ◌∙◌, subst, arith}
use Rattle.utreexo.specs.declared.types.Coin.{Coin}
use Rattle.utreexo.specs.declared.types.Input.{Input}
use Rattle.utreexo.specs.Values.{Image}
use Rattle.utreexo.specs.Forest.{Slots, at_node}
use Rattle.utreexo.specs.Claims.{beneath}
use Rattle.utreexo.specs.Collection.{slot_held, own_input}
use Rattle.laws.specs.Laws.{where_is, PositionsApart, InputsOverCoins}
use Rattle.laws.proofs.Logic.{never}
use Rattle.laws.proofs.Place.{up}
use Rattle.laws.proofs.Places.{up_add, up_suc, half_even, mod_even}
use Rattle.laws.proofs.Tree.{Tree, coin, fork, map_o, grow, subtree, subtree_o}
use Rattle.laws.proofs.Value.{input_of}
use Rattle.laws.proofs.Forest.{Top, row_of_tree, slot_of}
use Rattle.laws.proofs.Where.{fork_at, child_of, coin_slot, fork_high}
use Rattle.laws.proofs.Tops.{Over}
use Rattle.laws.proofs.Strikes.{inp, img}
use Rattle.laws.proofs.Positions.{tree_over}
use Rattle.laws.proofs.Claiming.{beneath_up, up_beneath}
use Rattle.laws.proofs.Live.{LiveAt, slot_held_live_at, live_over, live_once, live_there, live_root, coin_slot_live}
use Rattle.laws.proofs.Own.{own_same}

-- Trees -----------------------------------------------------------------------------------

module _ {C : Type 0} where
  not_fork : (b i : ℕ) (x : C) (u v : Tree C) → Some (coin i x) ≡ Some (fork_at b u v) → ⊥
  not_fork zero i x u v e = let z : ◌≡◌ {A = ℕ} 0 1 = cc in omega arith
  not_fork (suc b) i x u v e = let z : ◌≡◌ {A = ℕ} 0 1 = cc in omega arith

  module _ (t : Tree C) where
    -- above a subtree there is one
    sub_above : (m d D o : ℕ) (u : Tree C) → m + d ≡ D → subtree t D o ≡ Some u → (v : Tree C) × (subtree t d (up m o) ≡ Some v)
    sub_above zero d D o u q e = let z : D ≡ d = omega arith in (u, subst (λ k. subtree t k o ≡ Some u) z e)
    sub_above (suc m) d zero o u q e = absurd (omega arith)
    sub_above (suc m) d (suc D) o u q e =
        let (w, g) = child_of (o % 2) (subtree t D (o / 2)) u e in
        sub_above m d D (o / 2) (fork_at (o % 2) u w) (omega arith) g

    -- at a coin and beneath it there is no fork
    no_fork_beneath : (m d D o i b : ℕ) (x : C) (u v : Tree C) → m + d ≡ D
        → subtree t d (up m o) ≡ Some (coin i x) → subtree t D o ≡ Some (fork_at b u v) → ⊥
    no_fork_beneath zero d D o i b x u v q e f =
        let z : D ≡ d = omega arith in not_fork b i x u v (sym e ∙ subst (λ k. subtree t k o ≡ Some (fork_at b u v)) z f)
    no_fork_beneath (suc m) d zero o i b x u v q e f = absurd (omega arith)
    no_fork_beneath (suc m) d (suc D) o i b x u v q e f =
        let (w, g) = child_of (o % 2) (subtree t D (o / 2)) (fork_at b u v) f in
        no_fork_beneath m d D (o / 2) i (o % 2) x (fork_at b u v) w (omega arith) e g

    -- so a coin at a coin or beneath it is at its place
    coin_beneath : (m d D o i j : ℕ) (x y : C) → m + d ≡ D → subtree t d (up m o) ≡ Some (coin j y) → subtree t D o ≡ Some (coin i x) → m ≡ 0
    coin_beneath zero d D o i j x y q e f = refl
    coin_beneath (suc m) d zero o i j x y q e f = absurd (omega arith)
    coin_beneath (suc m) d (suc D) o i j x y q e f =
        let (w, g) = child_of (o % 2) (subtree t D (o / 2)) (coin i x) f in
        absurd (no_fork_beneath m d D (o / 2) j (o % 2) y (coin i x) w (omega arith) e g)

-- a coin at the subtree d rows below the top, at place o, or beneath it
record SomeCoin {C : Type 0} (k : ℕ) (t : Tree C) (d o : ℕ) : Type 0 where
  lower : ℕ
  deep : ℕ
  spot : ℕ
  slot : ℕ
  what : C
  rows : lower + d ≡ deep
  low : deep ≤ k
  above : up lower spot ≡ o
  there : subtree t deep spot ≡ Some (coin slot what)

-- each subtree has one
module _ {C : Type 0} (slot : ℕ → Option C) (k p : ℕ) (t : Tree C) (root : grow slot k p ≡ Some t) where
  some_coin : (u : Tree C) (d o : ℕ) → d ≤ k → up d o ≡ p → subtree t d o ≡ Some u → SomeCoin k t d o
  some_coin (coin i c) d o l q e = record { lower = 0; deep = d; spot = o; slot = i; what = c; rows = omega arith; low = l; above = refl; there = e }
  some_coin (fork x y) d o l q e =
      let h = fork_high slot k p t root d o x y q e in
      from_child (some_coin x (suc d) (2 * o) (omega arith) (ap (up d) (half_even o) ∙ q) (rw (mod_even, half_even, e) refl))
    where
      from_child : SomeCoin k t (suc d) (2 * o) → SomeCoin k t d o
      from_child s =
          let r = s.rows in
          record {
            lower = suc s.lower;
            deep = s.deep;
            spot = s.spot;
            slot = s.slot;
            what = s.what;
            rows = omega arith;
            low = s.low;
            above = up_suc s.lower s.spot ∙ ap (λ x. x / 2) s.above ∙ half_even o;
            there = s.there;
          }

-- Slots -----------------------------------------------------------------------------------

module _ (image : Image) (s : Slots) (small : length s < 2 ^ 32) where
  -- both are in one tree
  apart : (r o q p m i j : ℕ) (c e : Coin) → LiveAt s r o i c → LiveAt s q p j e → r + m ≡ q → up m o ≡ p → i ≡ j
  apart r o q p m i j c e a b rows place_is = go (live_root image s small k top_place over.top over.rows q p j e over.sum refl b)
    where
      over : Over (length s) q p (row_of_tree (length s) j)
      over = live_over image s small q p j e b

      k : ℕ
      k = row_of_tree (length s) j

      top_place : ℕ
      top_place = up over.rows p

      up_there : up (m + over.rows) o ≡ top_place
      up_there = up_add m over.rows (m + over.rows) o refl ∙ ap (up over.rows) place_is

      go : (t : Tree Coin) × (grow (slot_of s) k top_place ≡ Some t) → i ≡ j
      go (t, root) =
          let at_j = live_there image s small k top_place over.top t root over.rows q p j e over.sum refl b in
          let at_i = live_there image s small k top_place over.top t root (m + over.rows) r o i c (omega (arith, over.sum)) up_there a in
          let none = coin_beneath t m over.rows (m + over.rows) o i j c e refl (subst (λ z. subtree t over.rows z ≡ Some (coin j e)) (sym place_is) at_j) at_i in
          let level : r ≡ q = omega arith in
          let same : o ≡ p = ap (λ z. up z o) (sym none) ∙ place_is in
          live_once image s small q p i j c e (record { live = a.live; row = a.row ∙ level; at = a.at ∙ same }) b

-- no live slot's position is above another's
pub positions_apart : PositionsApart (2 ^ 32)
positions_apart image s small i j c e live other t =
    let h = slot_held image s i c in
    let g = slot_held image s j e in
    let (m, rows, place_is) = beneath_up (at_node h.row h.place) (at_node g.row g.place) t in
    apart image s small h.row h.place g.row g.place m i j c e (slot_held_live_at image s small i c live) (slot_held_live_at image s small j e other) rows place_is

-- The tree (k, p) over the place (r, o), d rows below its top.
module _ (image : Image) (s : Slots) (small : length s < 2 ^ 32) (k p : ℕ) (top : Top (length s) k p) (d r o : ℕ) (sum : d + r ≡ k) (over : up d o ≡ p) where
  abbrev input : Option (Tree Coin) → Option Input
  input x = map_o inp (map_o (input_of (img image)) x)

  own_is : (x : Option (Tree Coin)) → grow (slot_of s) k p ≡ x → own_input image s r o ≡ input (subtree_o x d o)
  own_is x root = own_same image s small k p top x root r d o sum over

  -- an input is that of a subtree, and there is a coin in it
  input_coin : (t : Tree Coin) → grow (slot_of s) k p ≡ Some t → (u : Tree Coin) → subtree t d o ≡ Some u
      → (i : ℕ) × (c : Coin) × (get_or s i None ≡ Some c) × (beneath (where_is image s i c) (at_node r o) ≡ true)
  input_coin t root u e =
      let f = some_coin (slot_of s) k p t root u d o (omega arith) over e in
      let lie = f.rows in
      let low = f.low in
      let a =
      coin_slot_live image s small k p top (k - f.deep) f.spot f.slot f.what
      (coin_slot (slot_of s) k p t root f.deep (k - f.deep) f.spot f.slot f.what (omega arith) (up_add f.lower d f.deep f.spot f.rows ∙ ap (up d) f.above ∙ over) f.there) in
      let h = slot_held_live_at image s small f.slot f.what a.live in
      let row = sym h.row ∙ a.row in (
        f.slot,
        f.what,
        a.live,
        up_beneath (at_node (slot_held image s f.slot f.what).row (slot_held image s f.slot f.what).place) (at_node r o) f.lower (omega arith) (ap (up f.lower) (sym h.at ∙ a.at) ∙ f.above),
      )

  has_coin : (x : Input) → own_input image s r o ≡ Some x
      → (i : ℕ) × (c : Coin) × (get_or s i None ≡ Some c) × (beneath (where_is image s i c) (at_node r o) ≡ true)
  has_coin x e = tree (grow (slot_of s) k p) refl
    where
      sub : (t : Tree Coin) → grow (slot_of s) k p ≡ Some t → (z : Option (Tree Coin)) → subtree t d o ≡ z → input z ≡ Some x
          → (i : ℕ) × (c : Coin) × (get_or s i None ≡ Some c) × (beneath (where_is image s i c) (at_node r o) ≡ true)
      sub t root None f g = absurd (never x g)
      sub t root (Some u) f g = input_coin t root u f

      tree : (z : Option (Tree Coin)) → grow (slot_of s) k p ≡ z
          → (i : ℕ) × (c : Coin) × (get_or s i None ≡ Some c) × (beneath (where_is image s i c) (at_node r o) ≡ true)
      tree None root = absurd (never x (sym (own_is None root) ∙ e))
      tree (Some t) root = sub t root (subtree t d o) refl (sym (own_is (Some t) root) ∙ e)

  -- a coin lies in a subtree, and that has an input
  has_input : (i : ℕ) (c : Coin) → get_or s i None ≡ Some c
      → beneath (where_is image s i c) (at_node r o) ≡ true → is_some (own_input image s r o) ≡ true
  has_input i c live b = go (live_root image s small k p top (m + d) q w i c reach there a)
    where
      q : ℕ
      q = (slot_held image s i c).row

      w : ℕ
      w = (slot_held image s i c).place

      a : LiveAt s q w i c
      a = slot_held_live_at image s small i c live

      below : (f : ℕ) × (q + f ≡ r) × (up f w ≡ o)
      below = beneath_up (at_node q w) (at_node r o) b

      m : ℕ
      m = below.0

      reach : (m + d) + q ≡ k
      reach = let x = below.1 in omega arith

      there : up (m + d) w ≡ p
      there = up_add m d (m + d) w refl ∙ ap (up d) below.2 ∙ over

      go : (t : Tree Coin) × (grow (slot_of s) k p ≡ Some t) → is_some (own_input image s r o) ≡ true
      go (t, root) =
          let e = live_there image s small k p top t root (m + d) q w i c reach there a in
          let (v, f) = sub_above t m d (m + d) w (coin i c) refl e in
          let g : subtree t d o ≡ Some v = subst (λ z. subtree t d z ≡ Some v) below.2 f in
          ap is_some (own_is (Some t) root ∙ ap input g)

-- a place has an own input exactly if a coin lies there or beneath
pub inputs_over_coins : InputsOverCoins (2 ^ 32)
inputs_over_coins image s small r o k e =
    let v = tree_over (length s) r o k e in (
      has_coin image s small k (up v.rows o) v.top v.rows r o v.sum refl,
      has_input image s small k (up v.rows o) v.top v.rows r o v.sum refl,
    )
