-- The siblings that are missing, row by row, are the needed positions in order. Assumes nothing.
use Rattle.std.proofs.Common.{◌≡◌, ℕ, zero, suc, ◌+◌, ◌-◌, ◌*◌, ◌/◌, ◌%◌, ◌^◌, ◌<◌, ◌≤◌, Bool, true, false, not, ◌&&◌, ◌⊎◌, List, [], ◌∷◌, map, is_some, Some, None, Option, sym, refl, ap, ◌∙◌, subst, inl, inr, arith}
use Rattle.std.proofs.lemmas.Bool.{and_parts, and_from, cases_eq, not-true, not_from_false, eq-eqb, ne_eqb, both_ways}
use Rattle.laws.proofs.Order.{Mem, From}
use Rattle.utreexo.specs.Lists.{below}
use Rattle.utreexo.specs.Forest.{Node, at_node, tree_of, locate, position, rows, sibling}
use Rattle.utreexo.specs.Claims.{Target, covered, is_needed, needed_at, needed}
use Rattle.targets.proofs.Valid.{Valid}
use Rattle.climb.specs.Rows.{sib}
use Rattle.climb.proofs.Folded.{full, absent, numbers, wanted}
use Rattle.laws.proofs.Ordered.{same_list, from_weaker, filter_from}
use Rattle.climb.proofs.Lists.{from_append}
use Rattle.laws.proofs.Members.{filter_mem, mem_filter, mem_append, append_mem_left, append_mem_right, map_mem, mem_map}
use Rattle.laws.proofs.Ranges.{below_from, below_mem}
use Rattle.climb.proofs.Walk.{lones_from, lones_mem, mem_lones, not_top, top_not}
use Rattle.targets.proofs.Inside.{half_row, tree_inside, inside_tree, row_low, number_next, number_up, number_low, locates, located}
use Rattle.climb.proofs.Covers.{Under, covered_under, under_covered}
use Rattle.climb.proofs.Full.{is}

pub sibling_is : (o : ℕ) → sibling o ≡ sib o
sibling_is o = go (cases_eq (o % 2) 0)
  where
    go : (o % 2 ≡ 0) ⊎ (o % 2 ≡ 0 → ⊥) → sibling o ≡ sib o
    go (inl e) = let t = eq-eqb (o % 2) 0 e in rw t (omega arith)
    go (inr e) = let t = ne_eqb (o % 2) 0 e in rw t (omega arith)

from_map : (n r a : ℕ) (xs : List ℕ) → From a xs → From (position n r a) (map (position n r) xs)
from_map n r a [] f = tt
from_map n r a (x ∷ xs) f = let l = f.0 in (omega arith, from_weaker (suc (position n r x)) (position n r (suc x)) (map (position n r) xs) (omega arith) (from_map n r (suc x) xs f.1))

module _ {n : ℕ} {ts : List Target} (v : Valid n ts) where
  pub record Lacks (r q : ℕ) : Type 0 where
    pub beside : Under ts r (sib q)
    pub clear : covered ts (at_node r q) ≡ false
    pub parent : q / 2 < n / 2 ^ suc r

  pub absent_is : (r q : ℕ) → Mem q (absent n ts r) → Lacks r q
  absent_is r q m =
      let i = is v r in
      let h = lones_mem (n / 2 ^ r) q 0 (full n ts r) i.ascends (λ z k. (i.sound z k).inside) m in
      let s = i.sound (sib q) h.there in
      let l = not_top (n / 2 ^ r) (sib q) s.inside h.low in
      let p : q / 2 < n / 2 ^ suc r = omega (arith, half_row n r) in
      record { beside = s.under; clear = go p h.gone (covered ts (at_node r q)) refl; parent = p }
    where
      go : q / 2 < n / 2 ^ suc r → (Mem q (full n ts r) → ⊥) → (b : Bool) → covered ts (at_node r q) ≡ b → covered ts (at_node r q) ≡ false
      go p g true e = absurd (g ((is v r).whole q (covered_under ts r q e) (omega (arith, half_row n r))))
      go p g false e = e

  pub is_absent : (r q : ℕ) → Lacks r q → Mem q (absent n ts r)
  is_absent r q k =
      let i = is v r in
      let p = k.parent in
      let w = half_row n r in
      let m = i.whole (sib q) k.beside (omega arith) in
      let back : sib (sib q) ≡ q = omega arith in
      subst (λ x. Mem x (absent n ts r)) back (mem_lones (n / 2 ^ r) (sib q) 0 (full n ts r) i.ascends m (top_not (n / 2 ^ r) (sib q) (omega arith))
      (λ j. both_ways (covered ts (at_node r q)) k.clear (under_covered ts r q (subst (λ x. Under ts r x) back (i.sound (sib (sib q)) j).under))))

  pub lacks_in : (r q : ℕ) → Lacks r q → q < n / 2 ^ r
  lacks_in r q k = let p = k.parent in omega (arith, half_row n r)

  -- needed, by the definition
  pub needed_lacks : (r q : ℕ) → is_needed n ts (at_node r q) ≡ true → Lacks r q
  needed_lacks r q e =
      let (a, b) = and_parts (is_some (tree_of n (at_node (r + 1) (q / 2)))) (not (covered ts (at_node r q)) && covered ts (at_node r (sibling q))) e in
      let (c, d) = and_parts (not (covered ts (at_node r q))) (covered ts (at_node r (sibling q))) b in
      let l = tree_inside n (r + 1) (q / 2) v.small a in
      let s : n / 2 ^ (r + 1) ≡ n / 2 ^ suc r = ap (λ x. n / 2 ^ x) (plus r) in
      record { beside = subst (λ x. Under ts r x) (sibling_is q) (covered_under ts r (sibling q) d); clear = not-true (covered ts (at_node r q)) c; parent = omega arith }
    where
      plus : (r : ℕ) → r + 1 ≡ suc r
      plus r = omega arith

  pub lacks_needed : (r q : ℕ) → Lacks r q → is_needed n ts (at_node r q) ≡ true
  lacks_needed r q k =
      let s : n / 2 ^ (r + 1) ≡ n / 2 ^ suc r = ap (λ x. n / 2 ^ x) (plus r) in
      let p = k.parent in
      and_from (is_some (tree_of n (at_node (r + 1) (q / 2)))) (not (covered ts (at_node r q)) && covered ts (at_node r (sibling q))) (inside_tree n (r + 1) (q / 2) v.small (omega arith))
      (and_from (not (covered ts (at_node r q))) (covered ts (at_node r (sibling q))) (not_from_false (covered ts (at_node r q)) k.clear)
      (under_covered ts r (sibling q) (subst (λ x. Under ts r x) (sym (sibling_is q)) k.beside)))
    where
      plus : (r : ℕ) → r + 1 ≡ suc r
      plus r = omega arith

  -- a number's row and place
  pub record Numbered (r f z : ℕ) : Type 0 where
    pub row : ℕ
    pub place : ℕ
    pub from : r ≤ row
    pub to : row < r + f
    pub lacks : Lacks row place
    pub here : z ≡ position n row place

  numbers_is : (r z : ℕ) → Mem z (numbers n ts r) → (q : ℕ) × Lacks r q × (z ≡ position n r q)
  numbers_is r z m = go (map_mem (position n r) (absent n ts r) z m)
    where
      go : (q : ℕ) × Mem q (absent n ts r) × (z ≡ position n r q) → (q : ℕ) × Lacks r q × (z ≡ position n r q)
      go (q, k, e) = (q, absent_is r q k, e)

  pub wanted_mem : (f r z : ℕ) → Mem z (wanted n ts r f) → Numbered r f z
  wanted_mem zero r z m = absurd m
  wanted_mem (suc f) r z m = go (mem_append (numbers n ts r) (wanted n ts (suc r) f) z m) (wanted_mem f (suc r) z)
    where
      here : (q : ℕ) × Lacks r q × (z ≡ position n r q) → Numbered r (suc f) z
      here (q, k, e) = record { row = r; place = q; from = omega arith; to = omega arith; lacks = k; here = e }

      later : Numbered (suc r) f z → Numbered r (suc f) z
      later x = let a = x.from in let b = x.to in record { row = x.row; place = x.place; from = omega arith; to = omega arith; lacks = x.lacks; here = x.here }

      go : Mem z (numbers n ts r) ⊎ Mem z (wanted n ts (suc r) f) → (Mem z (wanted n ts (suc r) f) → Numbered (suc r) f z) → Numbered r (suc f) z
      go (inl k) ih = here (numbers_is r z k)
      go (inr k) ih = later (ih k)

  pub mem_wanted : (f r s q : ℕ) → r ≤ s → s < r + f → Lacks s q → Mem (position n s q) (wanted n ts r f)
  mem_wanted zero r s q a b k = absurd (omega arith)
  mem_wanted (suc f) r s q a b k = go (s - r) refl (λ c d. mem_wanted f (suc r) s q c d k)
    where
      go : (d : ℕ) → s - r ≡ d → (suc r ≤ s → s < suc r + f → Mem (position n s q) (wanted n ts (suc r) f)) → Mem (position n s q) (wanted n ts r (suc f))
      go zero e ih =
          let same : s ≡ r = omega arith in
          append_mem_left (numbers n ts r) (wanted n ts (suc r) f) (position n s q)
          (subst (λ x. Mem (position n s q) (numbers n ts x)) same (mem_map (position n s) (absent n ts s) q (is_absent s q k)))
      go (suc d) e ih = append_mem_right (numbers n ts r) (wanted n ts (suc r) f) (position n s q) (ih (omega arith) (omega arith))

  pub wanted_from : (f r : ℕ) → From (position n r 0) (wanted n ts r f)
  wanted_from zero r = tt
  wanted_from (suc f) r =
      from_append (position n r 0) (position n (suc r) 0) (numbers n ts r) (wanted n ts (suc r) f) (number_up n r (suc r) (omega arith))
      (from_weaker (position n r 0) (position n r (2 * (0 / 2))) (numbers n ts r) (omega arith) (from_map n r (2 * (0 / 2)) (absent n ts r) (lones_from (n / 2 ^ r) 0 (full n ts r) (is v r).ascends)))
      (λ z m. low (numbers_is r z m)) (wanted_from f (suc r))
    where
      low : {z : ℕ} → (q : ℕ) × Lacks r q × (z ≡ position n r q) → z < position n (suc r) 0
      low (q, k, e) = let h = number_next n r q v.small (lacks_in r q k) in omega arith

  at_number : (r q : ℕ) → q < n / 2 ^ r → is_needed n ts (at_node r q) ≡ true → needed_at n ts (position n r q) ≡ true
  at_number r q l e = ap (λ (x : Option Node). elim x [ None ↦ false | Some d ↦ is_needed n ts d ]) (locates n r q v.small l) ∙ e

  number_at : (z : ℕ) → needed_at n ts z ≡ true → Numbered 0 32 z
  number_at z e = go (locate n z) refl e
    where
      go : (x : Option Node) → locate n z ≡ x → elim x [ None ↦ false | Some d ↦ is_needed n ts d ] ≡ true → Numbered 0 32 z
      go None f t = let y : ◌≡◌ {A = ℕ} 0 1 = cc in absurd (omega arith)
      go (Some d) f t =
          let s = located n z d f in
          let h = row_low n d.row d.place v.small s.inside in
          record { row = d.row; place = d.place; from = omega arith; to = omega arith; lacks = needed_lacks d.row d.place t; here = sym s.here }

  pub needed_is : needed n ts ≡ wanted n ts 0 32
  needed_is =
      same_list 0 (position n 0 0) (needed n ts) (wanted n ts 0 32) (filter_from (needed_at n ts) 0 (below top_number) (below_from top_number)) (wanted_from 32 0)
      (λ z m. into (number_at z (filter_mem (needed_at n ts) (below top_number) z m).1)) (λ z m. back (wanted_mem 32 0 z m))
    where
      top_number : ℕ
      top_number = 2 ^ (rows n + 1) - 1

      into : {z : ℕ} → Numbered 0 32 z → Mem z (wanted n ts 0 32)
      into {z} x = subst (λ y. Mem y (wanted n ts 0 32)) (sym x.here) (mem_wanted 32 0 x.row x.place x.from x.to x.lacks)

      back : {z : ℕ} → Numbered 0 32 z → Mem z (needed n ts)
      back {z} x =
          let l = lacks_in x.row x.place x.lacks in
          subst (λ y. Mem y (needed n ts)) (sym x.here)
          (mem_filter (needed_at n ts) (below top_number) (position n x.row x.place) (below_mem top_number (position n x.row x.place) (number_low n x.row x.place v.small l))
          (at_number x.row x.place l (lacks_needed x.row x.place x.lacks)))
