-- Row by row, the fold has the claims of the definitions. Assumes nothing.
use Rattle.std.proofs.Common.{◌≡◌, ℕ, zero, suc, ◌+◌, ◌/◌, ◌%◌, ◌^◌, ◌<◌, Bool, true, false, cond, not, ◌&&◌, ◌||◌, ltb, List, [], ◌∷◌, ◌++◌, map, get_or, Some, None, Option, sym, refl, ap, ◌∙◌, subst, inl, inr, arith}
use Rattle.std.proofs.lemmas.Bool.{and_parts, and_from, eqb-true, eq-eqb, both_ways}
use Rattle.utreexo.specs.declared.types.Value.{Value}
use Rattle.climb.specs.declared.item.Item.{Item}
use Rattle.laws.proofs.Order.{Mem}
use Rattle.utreexo.specs.Values.{Image, same_value}
use Rattle.utreexo.specs.Lists.{below, any}
use Rattle.utreexo.specs.Forest.{at_node, bit, tree_place}
use Rattle.utreexo.specs.Claims.{Target, covered, target_at, Proof, proof_of, given, claim_at, claimed, after, root_claim, root_covered, fits_root, root_after}
use Rattle.targets.proofs.Valid.{Valid}
use Rattle.climb.specs.Rows.{stepped, top, front, merge, left_of, spent_item, step, met, renew}
use Rattle.climb.proofs.Folded.{pasts, spot, full, carried, used, absent}
use Rattle.laws.proofs.Members.{mem_map}
use Rattle.climb.proofs.Walk.{top_is, is_top, mem_ups}
use Rattle.climb.proofs.Merged.{merge_map}
use Rattle.climb.proofs.Covers.{Under, covered_under, under_covered, under_up, mem_at_row, at_row_mem}
use Rattle.climb.proofs.Full.{is, parted}
use Rattle.climb.proofs.Wanted.{absent_is}
use Rattle.climb.proofs.Picked.{Fits, row_fits}
use Rattle.climb.specs.Entries.{entry}
use Rattle.climb.proofs.Claimed.{item_spent, no_target, clear_target, at_target, claim_spent, claim_given, claim_both}
use Rattle.climb.proofs.Steps.{seen, Given, Both, step_is, seen_some, seen_none}

module _ (image : Image) {n : ℕ} {ts : List Target} (v : Valid n ts) (hs : List Value) where
  abbrev pub the_proof : Proof
  the_proof = proof_of n ts hs

  abbrev pub items_at : ℕ → List ℕ → List Item
  items_at r = map (entry image the_proof r)

  -- a target of row r, as the fold has it
  spent_is : (r : ℕ) (t : Target) → Mem t ts → t.node.row ≡ r → spent_item image t ≡ entry image the_proof r (spot t)
  spent_is r t m e =
      sym (item_spent image the_proof t (claim_at the_proof r (spot t)) (spot t) refl
      (claim_spent the_proof r (spot t) t (subst (λ x. target_at ts (at_node x (spot t)) ≡ Some t) e (at_target ts v.sorted t m))))

  spents : (r : ℕ) (us : List Target) → ((t : Target) → Mem t us → Mem t ts × (t.node.row ≡ r)) → map (spent_item image) us ≡ items_at r (map spot us)
  spents r [] h = refl
  spents r (u ∷ us) h =
      let e = spent_is r u (h u (inl refl)).0 (h u (inl refl)).1 in
      let f = spents r us (λ t m. h t (inr m)) in
      ap (λ (x : Item). x ∷ map (spent_item image) us) e ∙ ap (λ (l : List Item). entry image the_proof r (spot u) ∷ l) f

  full_merge : (r : ℕ) → merge ltb (carried n ts r) (map spot (front r (pasts r ts))) ≡ full n ts r
  full_merge zero = refl
  full_merge (suc r) = refl

  -- (1) the row once the targets are merged in
  pub row_merged : (r : ℕ) → merge left_of (items_at r (carried n ts r)) (map (spent_item image) (front r (pasts r ts))) ≡ items_at r (full n ts r)
  row_merged r =
      ap (λ (l : List Item). merge left_of (items_at r (carried n ts r)) l) (spents r (front r (pasts r ts)) (λ t m. at_row_mem ts v.sorted r t m))
      ∙ merge_map (entry image the_proof r) ltb left_of (λ x y. refl) (carried n ts r) (map spot (front r (pasts r ts)))
      ∙ ap (items_at r) (full_merge r)

  above : (r z : ℕ) → Mem z (full n ts r) → Both image the_proof hs r (n / 2 ^ r) z
  above r z m t =
      let i = is v r in
      let up = mem_ups (n / 2 ^ r) z 0 (full n ts r) i.ascends m t in
      claim_both the_proof r (z / 2)
      (no_target ts (suc r) (z / 2) (λ u k a b. parted v r i (z / 2) up (subst (λ x. Mem x (map spot (front (suc r) (pasts (suc r) ts)))) b (mem_map spot (front (suc r) (pasts (suc r) ts)) u (mem_at_row ts v.sorted (suc r) u k a)))))
      (under_covered ts (suc r) (z / 2) (under_up ts r z (i.sound z m).under))

  hash_given : (r k : ℕ) (qs : List ℕ) → ((q : ℕ) → Mem q qs → Mem q (absent n ts r)) → Fits the_proof hs r k qs → Given image the_proof hs r (n / 2 ^ r) k qs
  hash_given r k [] h f = tt
  hash_given r k (q ∷ qs) h f =
      let c = (absent_is v r q (h q (inl refl))).clear in
      (claim_given the_proof r q (clear_target ts r q c) c ∙ ap given f.0, hash_given r (k + 1) qs (λ x m. h x (inr m)) f.1)

  -- (2) the step up
  pub row_stepped : (r : ℕ) → r < 32 → step image hs (n / 2 ^ r) (used n ts r) None (items_at r (full n ts r))
      ≡ stepped (items_at (suc r) (carried n ts (suc r))) (seen image the_proof hs r (n / 2 ^ r) None (full n ts r)) (used n ts (suc r))
  row_stepped r l =
      step_is image the_proof hs r (n / 2 ^ r) 0 (full n ts r) (is v r).ascends (used n ts r) None (above r)
      (hash_given r (used n ts r) (absent n ts r) (λ q m. m) (row_fits v hs r l))

  -- (3) what is set aside
  abbrev pub set_aside : ℕ → Option Item
  set_aside r = cond (root_covered image the_proof r) (Some (entry image the_proof r (tree_place n r))) None

  pub row_aside : (r : ℕ) → seen image the_proof hs r (n / 2 ^ r) None (full n ts r) ≡ set_aside r
  row_aside r = go (root_covered image the_proof r) refl
    where
      w : ℕ
      w = n / 2 ^ r

      go : (b : Bool) → root_covered image the_proof r ≡ b → seen image the_proof hs r (n / 2 ^ r) None (full n ts r) ≡ cond b (Some (entry image the_proof r (tree_place n r))) None
      go true e =
          let (a, c) = and_parts (bit n r) (covered ts (at_node r (tree_place n r))) e in
          let odd = eqb-true (n / 2 ^ r % 2) 1 a in
          let m = (is v r).whole (tree_place n r) (covered_under ts r (tree_place n r) c) (omega arith) in
          seen_some image the_proof hs r (n / 2 ^ r) None (tree_place n r) (is_top (n / 2 ^ r) (tree_place n r) odd (omega arith)) (full n ts r) m
      go false e = seen_none image the_proof hs r (n / 2 ^ r) None (full n ts r) (λ z m. low z m (top (n / 2 ^ r) z) refl)
        where
          low : (z : ℕ) → Mem z (full n ts r) → (t : Bool) → top (n / 2 ^ r) z ≡ t → t ≡ false
          low z m true t =
              let (a, b) = top_is (n / 2 ^ r) z t in
              let q : z ≡ tree_place n r = omega arith in
              let u = ((is v r).sound z m).under in
              let c = and_from (bit n r) (covered ts (at_node r (tree_place n r))) (eq-eqb (n / 2 ^ r % 2) 1 a) (under_covered ts r (tree_place n r) (subst (λ x. Under ts r x) q u)) in
              absurd (both_ways (root_covered image the_proof r) e c)
          low z m false t = refl

  -- (4) the root of the row, by the definitions
  pub row_fits_root : (roots : List (Option Value)) (r : ℕ) → fits_root image the_proof roots r ≡ met (set_aside r) (get_or roots r None)
  row_fits_root roots r = go (root_covered image the_proof r) (get_or roots r None)
    where
      go : (b : Bool) (x : Option Value)
          → elim b [ false ↦ true | true ↦ (elim x [ None ↦ false | Some u ↦ same_value u (claimed image (root_claim image the_proof r)) ]) ]
          ≡ met (cond b (Some (entry image the_proof r (tree_place n r))) None) x
      go true None = refl
      go true (Some u) = refl
      go false x = refl

  pub row_root_after : (roots : List (Option Value)) (r : ℕ) → root_after image the_proof roots r ≡ renew (set_aside r) (get_or roots r None)
  row_root_after roots r = go (root_covered image the_proof r)
    where
      go : (b : Bool) → cond b (after image (root_claim image the_proof r)) (get_or roots r None) ≡ renew (cond b (Some (entry image the_proof r (tree_place n r))) None) (get_or roots r None)
      go true = refl
      go false = refl

  -- (5) fitting, root by root
  abbrev pub fits_below : List (Option Value) → ℕ → Bool
  fits_below roots r = not (any (λ k. not (fits_root image the_proof roots k)) (below r))

  pub fits_more : (roots : List (Option Value)) (r : ℕ) → fits_below roots (suc r) ≡ fits_below roots r && fits_root image the_proof roots r
  fits_more roots r = ap not (any_snoc (λ k. not (fits_root image the_proof roots k)) (below r) r) ∙ go (any (λ k. not (fits_root image the_proof roots k)) (below r)) (fits_root image the_proof roots r)
    where
      any_snoc : (p : ℕ → Bool) (xs : List ℕ) (x : ℕ) → any p (xs ++ (x ∷ [])) ≡ any p xs || p x
      any_snoc p [] x = last (p x)
        where
          last : (b : Bool) → (b || false) ≡ b
          last true = refl
          last false = refl
      any_snoc p (y ∷ ys) x = head (p y) (any_snoc p ys x)
        where
          head : (b : Bool) → any p (ys ++ (x ∷ [])) ≡ any p ys || p x → (b || any p (ys ++ (x ∷ []))) ≡ (b || any p ys) || p x
          head true e = refl
          head false e = e

      go : (a b : Bool) → not (a || not b) ≡ not a && b
      go true b = refl
      go false true = refl
      go false false = refl
