-- One coin carried, row by row: the view at each stage, and a row with a tree.
use Rattle.std.proofs.Common.{◌≡◌, ℕ, suc, ◌+◌, ◌-◌, ◌*◌, ◌/◌, ◌%◌, ◌^◌, ◌<◌, Bool, true, false, cond, eqb, ltb, List, map, length, set, None, Option, sym, ap, ◌∙◌, subst, ap₂, inl, inr, arith}
use mathlib.Core.List.{map-map}
use Rattle.std.proofs.lemmas.Bool.{eq-eqb, ne_eqb, lt-ltb, le-ltb}
use Rattle.utreexo.specs.declared.types.Coin.{Coin}
use Rattle.utreexo.specs.declared.types.Value.{Value}
use Rattle.utreexo.specs.Lists.{below}
use Rattle.utreexo.specs.Values.{Image, join}
use Rattle.utreexo.specs.Forest.{Slots, bit, tree_place, root_of, value_over}
use Rattle.utreexo.specs.Wallet.{Held, View, tree_joined}
use Rattle.laws.proofs.Logic.{true_false, eqb_cases, ltb_cases, EqbCases, LtbCases}
use Rattle.laws.proofs.Order.{Mem}
use Rattle.laws.proofs.Members.{map_ext}
use Rattle.laws.proofs.Ranges.{set_below}
use Rattle.laws.proofs.Place.{up, sib}
use Rattle.laws.proofs.Places.{up_suc, sib_even, sib_odd, up_add, up_shr}
use Rattle.laws.proofs.Slots.{slot_low, slot_coin, Lives}
use Rattle.laws.proofs.Value.{value_under}
use Rattle.laws.proofs.Forest.{slot_of, Top, row_of_tree, put}
use Rattle.laws.proofs.Append.{value_below}
use Rattle.laws.proofs.Tops.{tree_row_is, put_below}
use Rattle.laws.proofs.Strikes.{img, value_same, join_same}
use Rattle.laws.proofs.Positions.{top_bit, bit_top}
use Rattle.laws.proofs.Live.{held_in, slot_top}
use Rattle.promise.proofs.Adding.{join_up, join_not}

-- the row of slot w's tree when k rows have been carried
abbrev pub row_at : ℕ → ℕ → ℕ → ℕ
row_at n k w = cond (eqb (up k w) (up k n)) k (row_of_tree n w)

-- the run that is carried, and any other slot
pub row_here : (n k w : ℕ) → up k w ≡ up k n → row_at n k w ≡ k
row_here n k w e = ap (λ b. cond b k (row_of_tree n w)) (eq-eqb (up k w) (up k n) e)

pub row_else : (n k w : ℕ) → ¬ (up k w ≡ up k n) → row_at n k w ≡ row_of_tree n w
row_else n k w e = ap (λ b. cond b k (row_of_tree n w)) (ne_eqb (up k w) (up k n) e)

-- the bits of the count
pub bit_odd : (n k : ℕ) → bit n k ≡ true → up k n ≡ 2 * (up k n / 2) + 1
bit_odd n k e = let t = bit_top n k e in let a = t.count in let b = t.even in omega arith

pub bit_even : (n k : ℕ) → bit n k ≡ false → up k n % 2 ≡ 0
bit_even n k e =
    elim (eqb_cases ((n / 2 ^ k) % 2) 1) [
      | inl h ↦ absurd (true_false (bit n k) h.0 e)
      | inr h ↦ (let u = up_shr k n in let x : (n / 2 ^ k) % 2 ≡ 0 = omega (arith, h.1) in ap (λ z. z % 2) u ∙ x)
    ]

-- counts that agree from row k on
pub bit_same : (n m k : ℕ) → up k n ≡ up k m → bit n k ≡ bit m k
bit_same n m k e = ap (λ z. eqb (z % 2) 1) (sym (up_shr k n) ∙ e ∙ up_shr k m)

pub place_same : (n m k : ℕ) → up k n ≡ up k m → tree_place n k ≡ tree_place m k
place_same n m k e = ap (λ z. z - 1) (sym (up_shr k n) ∙ e ∙ up_shr k m)

pub up_all : (j k d w n : ℕ) → j + d ≡ k → up j w ≡ up j n → up k w ≡ up k n
up_all j k d w n e q = up_add j d k w e ∙ ap (up d) q ∙ sym (up_add j d k n e)

-- the slots with the coin put
abbrev pub next : Slots → Coin → ℕ → Option Coin
next s c = put (slot_of s) (length s) c

-- The view when k rows have been carried: their roots are blank, and what was in their trees is in the run that is carried.
module _ (image : Image) (s : Slots) (c : Coin) where
  -- the value over that run
  abbrev pub run_value : ℕ → Option Value
  run_value k = value_under (img image) (next s c) k (up k (length s))

  abbrev pub stage_root : ℕ → ℕ → Option Value
  stage_root k j = cond (ltb j k) None (root_of image s j)

  abbrev pub stage_roots : ℕ → List (Option Value)
  stage_roots k = map (stage_root k) (below 32)

  abbrev pub stage_held : ℕ → ℕ → Held
  stage_held k w = held_in image (next s c) (row_at (length s) k w) w (slot_coin s w)

  abbrev pub stage_shelf : List ℕ → ℕ → List Held
  stage_shelf ws k = map (stage_held k) ws

  abbrev pub stage : List ℕ → ℕ → View
  stage ws k = record { count = length s; roots = stage_roots k; shelf = stage_shelf ws k }

  -- the view once the run is joined with the tree of row k, whose root is l
  abbrev pub stage_joined : List ℕ → ℕ → Option Value → View
  stage_joined ws k l = record { count = length s; roots = set (stage_roots k) k None; shelf = map (tree_joined k l (run_value k)) (stage_shelf ws k) }

  -- the view once it has become the tree of row k
  abbrev pub stage_ended : List ℕ → ℕ → View
  stage_ended ws k = record { count = length s + 1; roots = set (stage_roots k) k (run_value k); shelf = stage_shelf ws k }

module _ (image : Image) (s : Slots) (c : Coin) (small : suc (length s) < 2 ^ 32) (ws : List ℕ) (live : Lives s ws) where
  pub low : (w : ℕ) → Mem w ws → w < length s
  low w m = let (x, e) = live w m in slot_low s w x e

  -- a row with a tree: it is joined
  module _ (k : ℕ) (b : bit (length s) k ≡ true) where
    -- half the place of the run that is carried: the tree is its left child, the run its right one
    abbrev h : ℕ
    h = up k (length s) / 2

    abbrev root : Option Value
    root = root_of image s k

    odd : up k (length s) ≡ 2 * h + 1
    odd = bit_odd (length s) k b

    top : Top (length s) k (2 * h)
    top = let o = odd in record { count = omega arith; even = omega arith }

    left_root : root ≡ value_under (img image) (next s c) k (2 * h)
    left_root =
        let (x, q) = top_bit (length s) k (2 * h) top in
        ap (λ b. cond b (value_over image s k (tree_place (length s) k)) None) b ∙ ap (value_over image s k) q ∙ value_same image s k (2 * h)
        ∙ value_below (img image) (slot_of s) (next s c) (length s) (put_below (slot_of s) (length s) c) k (2 * h) (let o = odd in omega arith)

    -- the run that is carried, joined with the tree
    pub carried : join image root (run_value image s c k) ≡ run_value image s c (suc k)
    carried =
        ap₂ (join image) left_root (ap (value_under (img image) (next s c) k) odd)
        ∙ join_same image (value_under (img image) (next s c) k (2 * h)) (value_under (img image) (next s c) k (2 * h + 1))
        ∙ ap (value_under (img image) (next s c) (suc k)) (sym (up_suc k (length s)))

    set_root : set (stage_roots image s c k) k None ≡ stage_roots image s c (suc k)
    set_root =
        set_below (stage_root image s c k) None 32 k
        ∙ map_ext (λ j. cond (eqb j k) None (stage_root image s c k j)) (stage_root image s c (suc k)) (below 32)
        (λ j m. go j (eqb_cases j k) (ltb_cases j k))
      where
        blank : {t : Bool} (j : ℕ) → ltb j (suc k) ≡ t → stage_root image s c (suc k) j ≡ cond t None (root_of image s j)
        blank j e = ap (λ b. cond b None (root_of image s j)) e

        go : (j : ℕ) → EqbCases j k → LtbCases j k
            → cond (eqb j k) None (stage_root image s c k j) ≡ stage_root image s c (suc k) j
        go j (inl e) l =
            ap (λ b. cond b None (stage_root image s c k j)) e.0 ∙ sym (blank j (lt-ltb j (suc k) (omega (arith, e.1))))
        go j (inr e) (inl l) =
            ap₂ (λ b d. cond b None (cond d None (root_of image s j))) e.0 l.0 ∙ sym (blank j (lt-ltb j (suc k) (omega (arith, l.1))))
        go j (inr e) (inr l) =
            ap₂ (λ b d. cond b None (cond d None (root_of image s j))) e.0 l.0 ∙ sym (blank j (le-ltb j (suc k) (omega (arith, l.1, e.1))))

    -- a record of the shelf, in one of the two trees joined or in neither
    shelf_one : (w : ℕ) → w < length s → tree_joined k root (run_value image s c k) (stage_held image s c k w) ≡ stage_held image s c (suc k) w
    shelf_one w l = go (eqb_cases (up k w) (up k (length s))) (eqb_cases (up k w) (2 * h))
      where
        above : up k w / 2 ≡ h → row_at (length s) (suc k) w ≡ suc k
        above e = row_here (length s) (suc k) w (up_suc k w ∙ e ∙ sym (up_suc k (length s)))

        inside : row_at (length s) k w ≡ k → row_at (length s) (suc k) w ≡ suc k
            → cond (eqb (up k w % 2) 0) (run_value image s c k) root ≡ value_under (img image) (next s c) k (sib (up k w))
            → tree_joined k root (run_value image s c k) (stage_held image s c k w) ≡ stage_held image s c (suc k) w
        inside a a' e =
            ap (λ r. tree_joined k root (run_value image s c k) (held_in image (next s c) r w (slot_coin s w))) a
            ∙ join_up image (next s c) k w (slot_coin s w) root (run_value image s c k) e
            ∙ ap (λ r. held_in image (next s c) r w (slot_coin s w)) (sym a')

        go : EqbCases (up k w) (up k (length s))
            → EqbCases (up k w) (2 * h)
            → tree_joined k root (run_value image s c k) (stage_held image s c k w) ≡ stage_held image s c (suc k) w
        go (inl e) f =
            let o = odd in
            let u : up k w ≡ 2 * h + 1 = e.1 ∙ o in
            inside (row_here (length s) k w e.1) (above (ap (λ z. z / 2) e.1))
            (ap (λ b. cond b (run_value image s c k) root) (ne_eqb (up k w % 2) 0 (omega arith))
            ∙ left_root ∙ ap (value_under (img image) (next s c) k) (sym (ap sib u ∙ sib_odd h)))
        go (inr e) (inl f) =
            let o = odd in
            inside (row_else (length s) k w e.1 ∙ tree_row_is (length s) k (2 * h) w top f.1) (above (omega (arith, f.1)))
            (ap (λ b. cond b (run_value image s c k) root) (eq-eqb (up k w % 2) 0 (omega (arith, f.1)))
            ∙ ap (value_under (img image) (next s c) k) (o ∙ sym (ap sib f.1 ∙ sib_even h)))
        go (inr e) (inr f) =
            let o = odd in
            let t = slot_top (length s) w l in
            let other : ¬ (row_of_tree (length s) w ≡ k) = λ q. f.1
            (let t' : Top (length s) k (up k w) = subst (λ r. Top (length s) r (up r w)) q t in let x = t'.count in omega arith) in
            let later : ¬ (up (suc k) w ≡ up (suc k) (length s)) = λ q.
            (let x = up_suc k w in let y = up_suc k (length s) in omega (arith, e.1, f.1)) in
            ap (λ r. tree_joined k root (run_value image s c k) (held_in image (next s c) r w (slot_coin s w))) (row_else (length s) k w e.1)
            ∙ join_not image (next s c) (row_of_tree (length s) w) w (slot_coin s w) k root (run_value image s c k) other
            ∙ ap (λ r. held_in image (next s c) r w (slot_coin s w)) (sym (row_else (length s) (suc k) w later))

    shelf_joined : map (tree_joined k root (run_value image s c k)) (stage_shelf image s c ws k) ≡ stage_shelf image s c ws (suc k)
    shelf_joined =
        map-map (tree_joined k root (run_value image s c k)) (stage_held image s c k) ws
        ∙ map_ext (λ w. tree_joined k root (run_value image s c k) (stage_held image s c k w)) (stage_held image s c (suc k)) ws
        (λ w m. shelf_one w (low w m))

    -- so one stage follows the other
    pub stage_next : stage_joined image s c ws k root ≡ stage image s c ws (suc k)
    stage_next = λ i. record { count = length s; roots = set_root i; shelf = shelf_joined i }
