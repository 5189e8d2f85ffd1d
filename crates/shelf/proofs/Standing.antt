-- A coin that is in a tree of the forest has a position of its own.
use Rattle.std.proofs.Common.{◌≡◌, ℕ, ◌+◌, ◌/◌, ◌^◌, ◌<◌, Bool, true, false, cond, not, eqb, List, [], ◌∷◌, length, Some, None, sym, refl, ap, ◌∙◌, subst, ap₂, arith}
use Rattle.std.proofs.lemmas.Bool.{eq-eqb, eqb-true, and_parts, and_from, or_parts, not-false}
use Rattle.utreexo.specs.Lists.{any}
use Rattle.utreexo.specs.Forest.{Node, at_node, bit, tree_place, position, locate}
use Rattle.utreexo.specs.Wallet.{Held, position_of}
use Rattle.laws.proofs.Logic.{iff_bool, never}
use Rattle.laws.proofs.Places.{up_shr}
use Rattle.laws.proofs.Tops.{Over}
use Rattle.laws.proofs.Forest.{Top}
use Rattle.laws.proofs.Positions.{bit_top, locate_at, locate_is, same_position}
use Rattle.shelf.specs.Held.{in_its_tree, astray}
use Rattle.shelf.specs.Finding.{index_of, next_index, is_at, has_position}

-- the tree that it is in
pub standing_over : (n : ℕ) (h : Held) → in_its_tree n h ≡ true → Over n h.row h.place (h.row + length h.path)
standing_over n h e =
    let k = h.row + length h.path in
    let (b, p) = and_parts (bit n k) (eqb (h.place / 2 ^ length h.path) (tree_place n k)) e in
    let q = eqb-true (h.place / 2 ^ length h.path) (tree_place n k) p in
    record { rows = length h.path; sum = omega arith; top = subst (λ p. Top n k p) (sym (up_shr (length h.path) h.place ∙ q)) (bit_top n k b) }

module _ (n : ℕ) (small : n < 2 ^ 32) (p : ℕ) where
  -- it has the position if it is at the node that is located there
  pub position_at_node : (d : Node) → locate n p ≡ Some d → (h : Held) → in_its_tree n h ≡ true → is_at d h ≡ has_position n p h
  position_at_node d e h s = iff_bool (is_at d h) (has_position n p h) to from
    where
      to : is_at d h ≡ true → has_position n p h ≡ true
      to t =
          let (a, b) = and_parts (eqb h.row d.row) (eqb h.place d.place) t in
          eq-eqb (position_of n h) p (ap₂ (position n) (eqb-true h.row d.row a) (eqb-true h.place d.place b) ∙ (locate_is n p d e).number)

      from : has_position n p h ≡ true → is_at d h ≡ true
      from t =
          let f = locate_is n p d e in
          let (a, b) = same_position n small h.row h.place (h.row + length h.path) d.row d.place f.top (standing_over n h s) f.over
          (eqb-true (position_of n h) p t ∙ sym f.number) in
          and_from (eqb h.row d.row) (eqb h.place d.place) (eq-eqb h.row d.row a) (eq-eqb h.place d.place b)

  -- and not if none is
  pub position_of_none : locate n p ≡ None → (h : Held) → in_its_tree n h ≡ true → has_position n p h ≡ false
  position_of_none e h s = go (has_position n p h) refl
    where
      go : (b : Bool) → has_position n p h ≡ b → b ≡ false
      go true t =
          let l = locate_at n small h.row h.place (h.row + length h.path) (standing_over n h s) in
          absurd (never (at_node h.row h.place) (sym e ∙ ap (locate n) (sym (eqb-true (position_of n h) p t)) ∙ l))
      go false t = refl

-- tests that agree on coins that stand find the same
pub index_same : (n : ℕ) (p q : Held → Bool) → ((h : Held) → in_its_tree n h ≡ true → p h ≡ q h) → (hs : List Held) → astray n hs ≡ false
    → index_of p hs ≡ index_of q hs
index_same n p q f [] e = refl
index_same n p q f (h ∷ hs) e =
    let (a, b) = or_parts (not (in_its_tree n h)) (any (λ h. not (in_its_tree n h)) hs) e in
    ap₂ (λ b z. cond b (Some 0) (next_index z)) (f h (not-false (in_its_tree n h) a)) (index_same n p q f hs b)

pub index_nowhere : (n : ℕ) (p : Held → Bool) → ((h : Held) → in_its_tree n h ≡ true → p h ≡ false) → (hs : List Held) → astray n hs ≡ false
    → index_of p hs ≡ None
index_nowhere n p f [] e = refl
index_nowhere n p f (h ∷ hs) e =
    let (a, b) = or_parts (not (in_its_tree n h)) (any (λ h. not (in_its_tree n h)) hs) e in
    ap₂ (λ b z. cond b (Some 0) (next_index z)) (f h (not-false (in_its_tree n h) a)) (index_nowhere n p f hs b)
