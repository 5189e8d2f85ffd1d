-- How many positions the targets of a block need.
use Rattle.std.proofs.Common.{◌≡◌, ℕ, suc, ◌-◌, ◌*◌, ◌/◌, ◌^◌, ◌<◌, ◌≤◌, cond, eqb, List, [], ◌∷◌, ◌++◌, map, length, sym, refl, ap, ◌∙◌, subst, inl, inr, arith, length-append}
use Rattle.std.proofs.lemmas.Bool.{cases_eq, eq-eqb, ne_eqb}
use Rattle.utreexo.specs.declared.types.Value.{Value}
use Rattle.utreexo.specs.Lists.{below}
use Rattle.utreexo.specs.Values.{Image}
use Rattle.utreexo.specs.Forest.{Slots, at_node, position}
use Rattle.utreexo.specs.Claims.{Target, beneath, needed}
use Rattle.laws.proofs.Order.{Mem, From}
use Rattle.laws.proofs.Members.{append_mem_left, append_mem_right, any_mem, mem_map}
use Rattle.laws.proofs.Ordered.{from_mem}
use Rattle.laws.proofs.Ranges.{below_mem, length_map_below}
use Rattle.laws.proofs.Place.{up, sib}
use Rattle.laws.proofs.Places.{sib_sib}
use Rattle.laws.proofs.Positions.{over_low}
use Rattle.laws.proofs.Claiming.{beneath_up, cover_same}
use Rattle.laws.proofs.Needed.{hash_of, needed_is, needed_from}

-- a list without the first x in it
abbrev remove : ℕ → List ℕ → List ℕ
remove x [] = []
remove x (y ∷ ys) = cond (eqb x y) ys (y ∷ remove x ys)

length_remove : (x : ℕ) (ys : List ℕ) → Mem x ys → suc (length (remove x ys)) ≡ length ys
length_remove x [] m = absurd m
length_remove x (y ∷ ys) m = elim (cases_eq x y) [
  | inl e ↦ rw (eq-eqb x y e)
  | inr n ↦ rw (ne_eqb x y n) (ap suc (length_remove x ys (elim m [ inl e ↦ absurd (n e) | inr l ↦ l ])))
]

mem_remove : (x z : ℕ) (ys : List ℕ) → Mem z ys → (z ≡ x → ⊥) → Mem z (remove x ys)
mem_remove x z [] m n = absurd m
mem_remove x z (y ∷ ys) m n = elim (cases_eq x y) [
  | inl e ↦ subst (λ b. Mem z (cond b ys (y ∷ remove x ys))) (sym (eq-eqb x y e)) (elim m [ inl q ↦ absurd (n (q ∙ sym e)) | inr l ↦ l ])
  | inr k ↦ subst (λ b. Mem z (cond b ys (y ∷ remove x ys))) (sym (ne_eqb x y k)) (keep m (mem_remove x z ys))
]
  where
    keep : Mem z (y ∷ ys) → (Mem z ys → (z ≡ x → ⊥) → Mem z (remove x ys)) → Mem z (y ∷ remove x ys)
    keep (inl q) ih = inl q
    keep (inr l) ih = inr (ih l n)

-- an ascending list whose members another has is no longer than that
no_more : (a : ℕ) (xs ys : List ℕ) → From a xs → ((z : ℕ) → Mem z xs → Mem z ys) → length xs ≤ length ys
no_more a [] ys f h = omega arith
no_more a (x ∷ xs) ys f h =
    let e = length_remove x ys (h x (inl refl)) in
    let r = no_more (suc x) xs (remove x ys) f.1 (λ z m. mem_remove x z ys (h z (inr m)) (λ q. omega (arith, from_mem (suc x) xs z f.1 m))) in
    omega arith

-- what a target may need: a position for each row; and what targets may need
abbrev may_need : ℕ → Target → List ℕ
may_need n x = map (λ r. position n r (sib (up (r - x.node.row) x.node.place))) (below 31)

abbrev may_need_all : ℕ → List Target → List ℕ
may_need_all n [] = []
may_need_all n (x ∷ ts) = may_need n x ++ may_need_all n ts

length_may_need : (n : ℕ) (ts : List Target) → length (may_need_all n ts) ≡ 31 * length ts
length_may_need n [] = refl
length_may_need n (x ∷ ts) =
    let a = length-append (may_need n x) (may_need_all n ts) in
    let b : length (may_need n x) ≡ 31 = length_map_below (λ r. position n r (sib (up (r - x.node.row) x.node.place))) 31 in
    let c = length_may_need n ts in
    omega arith

mem_may_need : (n z : ℕ) (x : Target) (ts : List Target) → Mem x ts → Mem z (may_need n x) → Mem z (may_need_all n ts)
mem_may_need n z x [] m h = absurd m
mem_may_need n z x (y ∷ ts) (inl e) h = append_mem_left (may_need n y) (may_need_all n ts) z (subst (λ w. Mem z (may_need n w)) e h)
mem_may_need n z x (y ∷ ts) (inr m) h = append_mem_right (may_need n y) (may_need_all n ts) z (mem_may_need n z x ts m h)

module _ (image : Image) (s : Slots) (small : length s < 2 ^ 32) (ts : List Target) (hs : List Value) where
  -- and it needs no other
  needed_may_need : (q : ℕ) → Mem q (needed (length s) ts) → Mem q (may_need_all (length s) ts)
  needed_may_need q m =
      let a = needed_is image s small ts hs q m in
      let (t, k, b) = any_mem (λ t. beneath t.node (at_node a.row (sib a.place))) ts
      (cover_same ts (hash_of (length s) ts hs) a.row (sib a.place) ∙ a.beside) in
      let (f, e, u) = beneath_up t.node (at_node a.row (sib a.place)) b in
      let l = over_low (length s) (suc a.row) (a.place / 2) a.tree small a.above in
      let lt : a.row < 31 = omega (arith, a.above.sum) in
      let g : f ≡ a.row - t.node.row = omega arith in
      let o : sib (up (a.row - t.node.row) t.node.place) ≡ a.place = ap (λ z. sib (up z t.node.place)) (sym g) ∙ ap sib u ∙ sib_sib a.place in
      mem_may_need (length s) q t ts k (subst (λ z. Mem z (may_need (length s) t)) (ap (position (length s) a.row) o ∙ a.number)
      (mem_map (λ r. position (length s) r (sib (up (r - t.node.row) t.node.place))) (below 31) a.row (below_mem 31 a.row lt)))

  -- at most 31 needed positions for each target
  pub needed_few : length (needed (length s) ts) ≤ 31 * length ts
  needed_few =
      let a = no_more 0 (needed (length s) ts) (may_need_all (length s) ts) (needed_from (length s) ts) needed_may_need in
      let b = length_may_need (length s) ts in
      omega arith
