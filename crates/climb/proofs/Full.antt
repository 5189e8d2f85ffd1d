-- The places that the fold has in a row are the covered ones of the forest, ascending. Assumes nothing.
use Rattle.std.proofs.Common.{◌≡◌, ℕ, zero, suc, ◌-◌, ◌/◌, ◌^◌, ◌<◌, ◌≤◌, ltb, ◌⊎◌, List, map, sym, ap, ◌∙◌, subst, inl, inr, arith}
use Rattle.laws.proofs.Order.{Mem, From}
use Rattle.utreexo.specs.Lists.{below}
use Rattle.utreexo.specs.Forest.{at_node}
use Rattle.utreexo.specs.Claims.{Target, covered}
use Rattle.targets.proofs.Valid.{Valid}
use Rattle.climb.specs.Rows.{front}
use Rattle.climb.proofs.Folded.{pasts, spot, full, ups}
use Rattle.climb.specs.After.{covered_places}
use Rattle.laws.proofs.Members.{map_mem, mem_map, mem_filter, filter_mem}
use Rattle.laws.proofs.Ordered.{from_weaker, filter_from, same_list}
use Rattle.laws.proofs.Ranges.{below_from, below_mem, mem_below}
use Rattle.climb.proofs.Walk.{ups_from, ups_mem, mem_ups, not_top, top_not}
use Rattle.targets.proofs.Inside.{half_row}
use Rattle.climb.proofs.Merged.{mem_merge, merge_mem, merge_from}
use Rattle.climb.proofs.Covers.{Under, covered_under, under_covered, is_beneath, under_up, up_place, under_at, same_row, Beneath, under_parts, at_row_mem, mem_at_row, at_row_from}

module _ {n : ℕ} {ts : List Target} (v : Valid n ts) where
  -- the places that have a target beneath, in the row above row r
  abbrev pub risen : ℕ → List ℕ
  risen r = ups (n / 2 ^ r) (full n ts r)

  pub record Holds (r o : ℕ) : Type 0 where
    pub under : Under ts r o
    pub inside : o < n / 2 ^ r

  pub record Is (r : ℕ) : Type 0 where
    pub ascends : From 0 (full n ts r)
    pub sound : (o : ℕ) → Mem o (full n ts r) → Holds r o
    pub whole : (o : ℕ) → Under ts r o → o < n / 2 ^ r → Mem o (full n ts r)

  at_holds : (r o : ℕ) → Mem o (map spot (front r (pasts r ts))) → (t : Target) × Mem t ts × (t.node.row ≡ r) × (o ≡ spot t)
  at_holds r o m = go (map_mem spot (front r (pasts r ts)) o m)
    where
      go : (t : Target) × Mem t (front r (pasts r ts)) × (o ≡ spot t) → (t : Target) × Mem t ts × (t.node.row ≡ r) × (o ≡ spot t)
      go (t, k, e) = let (a, b) = at_row_mem ts v.sorted r t k in (t, a, b, e)

  tgt_holds : (r o : ℕ) → (t : Target) × Mem t ts × (t.node.row ≡ r) × (o ≡ spot t) → Holds r o
  tgt_holds r o (t, m, b, e) =
      let u = under_at ts t m in
      record {
        under = subst (λ x. Under ts x o) b (subst (λ x. Under ts t.node.row x) (sym e) u);
        inside = subst (λ x. o < n / 2 ^ x) b (subst (λ x. x < n / 2 ^ t.node.row) (sym e) (v.inside t m));
      }

  tgt_there : (r o : ℕ) (t : Target) → Mem t ts → t.node.row ≡ r → t.node.place ≡ o → Mem o (map spot (front r (pasts r ts)))
  tgt_there r o t m a b = subst (λ x. Mem x (map spot (front r (pasts r ts)))) b (mem_map spot (front r (pasts r ts)) t (mem_at_row ts v.sorted r t m a))

  module _ (r : ℕ) (ih : Is r) where
    pub risen_mem : (o : ℕ) → Mem o (risen r) → Beneath ts r o × (o < n / 2 ^ suc r)
    risen_mem o m =
        let b = ups_mem (n / 2 ^ r) o 0 (full n ts r) ih.ascends m in
        let h = ih.sound b.place b.there in
        let l = not_top (n / 2 ^ r) b.place h.inside b.low in
        let e = b.half in
        (record { place = b.place; half = e; under = h.under }, omega (arith, half_row n r))

    pub mem_risen : (o : ℕ) → Beneath ts r o → o < n / 2 ^ suc r → Mem o (risen r)
    mem_risen o b l =
        let e = b.half in
        let w = half_row n r in
        let m = ih.whole b.place b.under (omega arith) in
        subst (λ x. Mem x (risen r)) e (mem_ups (n / 2 ^ r) b.place 0 (full n ts r) ih.ascends m (top_not (n / 2 ^ r) b.place (omega arith)))

    -- a place above a target is none itself
    pub parted : (o : ℕ) → Mem o (risen r) → Mem o (map spot (front (suc r) (pasts (suc r) ts))) → ⊥
    parted o m k = go (at_holds (suc r) o k)
      where
        go : (t : Target) × Mem t ts × (t.node.row ≡ suc r) × (o ≡ spot t) → ⊥
        go (t, i, a, e) =
            let b = (risen_mem o m).0 in
            let u = b.under.tgt in
            let place : u.node.place / 2 ^ (suc r - u.node.row) ≡ t.node.place = up_place ts r b.place b.under ∙ b.half ∙ e in
            let row : u.node.row ≤ t.node.row = let l = b.under.low in omega arith in
            let place' : u.node.place / 2 ^ (t.node.row - u.node.row) ≡ t.node.place = ap (λ x. u.node.place / 2 ^ (x - u.node.row)) a ∙ place in
            let same = v.apart t u i b.under.there (is_beneath u.node t.node.row t.node.place row place') in
            let l = b.under.low in
            omega arith

  pub is : (r : ℕ) → Is r
  is zero =
      record {
        ascends = at_row_from ts v.sorted 0;
        sound = λ o m. tgt_holds 0 o (at_holds 0 o m);
        whole = λ o u l. let low = u.low in let e : u.tgt.node.row ≡ 0 = omega arith in tgt_there 0 o u.tgt u.there e (same_row u.tgt 0 o e u.up);
      }
  is (suc r) = next (is r)
    where
      next : Is r → Is (suc r)
      next ih =
          record {
            ascends = merge_from 0 (risen r) (map spot (front (suc r) (pasts (suc r) ts))) (from_weaker 0 (0 / 2) (risen r) (omega arith) (ups_from (n / 2 ^ r) 0 (full n ts r) ih.ascends)) (at_row_from ts v.sorted (suc r)) (parted r ih);
            sound = λ o m. either o (mem_merge ltb o (risen r) (map spot (front (suc r) (pasts (suc r) ts))) m);
            whole = λ o u l. merge_mem ltb o (risen r) (map spot (front (suc r) (pasts (suc r) ts))) (part o u l (under_parts ts r o u));
          }
        where
          either : (o : ℕ) → Mem o (risen r) ⊎ Mem o (map spot (front (suc r) (pasts (suc r) ts))) → Holds (suc r) o
          either o (inl m) = let (b, l) = risen_mem r ih o m in record { under = subst (λ x. Under ts (suc r) x) b.half (under_up ts r b.place b.under); inside = l }
          either o (inr m) = tgt_holds (suc r) o (at_holds (suc r) o m)

          part : (o : ℕ) (u : Under ts (suc r) o) → o < n / 2 ^ suc r → ((u.tgt.node.row ≡ suc r) × (u.tgt.node.place ≡ o)) ⊎ Beneath ts r o
              → Mem o (risen r) ⊎ Mem o (map spot (front (suc r) (pasts (suc r) ts)))
          part o u l (inl (a, b)) = inr (tgt_there (suc r) o u.tgt u.there a b)
          part o u l (inr b) = inl (mem_risen r ih o b l)

  -- by the definitions
  pub full_is : (r : ℕ) → full n ts r ≡ covered_places n ts r
  full_is r =
      same_list 0 0 (full n ts r) (covered_places n ts r) (is r).ascends (filter_from (λ o. covered ts (at_node r o)) 0 (below (n / 2 ^ r)) (below_from (n / 2 ^ r))) into back
    where
      into : (o : ℕ) → Mem o (full n ts r) → Mem o (covered_places n ts r)
      into o m =
          let h = (is r).sound o m in
          mem_filter (λ o. covered ts (at_node r o)) (below (n / 2 ^ r)) o (below_mem (n / 2 ^ r) o h.inside) (under_covered ts r o h.under)

      back : (o : ℕ) → Mem o (covered_places n ts r) → Mem o (full n ts r)
      back o m =
          let (k, e) = filter_mem (λ o. covered ts (at_node r o)) (below (n / 2 ^ r)) o m in
          (is r).whole o (covered_under ts r o e) (mem_below (n / 2 ^ r) o k)
