-- One row's step takes the claims of a row to those of the row above. Assumes nothing.
use Rattle.std.proofs.Common.{◌≡◌, ℕ, suc, ◌+◌, ◌*◌, ◌/◌, ◌%◌, Bool, true, false, cond, not, ◌⊎◌, List, [], ◌∷◌, map, length, get_or, Some, Option, sym, refl, ap, ◌∙◌, subst, inl, inr, arith}
use Rattle.std.proofs.lemmas.Bool.{cases_eq}
use Rattle.utreexo.specs.declared.types.Value.{Value}
use Rattle.climb.specs.declared.item.Item.{Item}
use Rattle.laws.proofs.Order.{Mem, From}
use Rattle.utreexo.specs.Values.{Image}
use Rattle.utreexo.specs.Claims.{Proof, no_value, given, both, claim_at}
use Rattle.climb.specs.Rows.{top, beside, lones, sib, Stepped, stepped, before, twin, lone, step}
use Rattle.climb.proofs.Folded.{ups}
use Rattle.climb.proofs.Walk.{walk, alone, beside_is, top_is, ups_root, ups_pair, ups_lone, lones_root, lones_pair, lones_lone}
use Rattle.climb.specs.Entries.{entry}
use Rattle.climb.specs.Held.{alone_item}
use Rattle.climb.proofs.Claimed.{item_both, item_left, item_right}

module _ (image : Image) (hs : List Value) (w : ℕ) where
  pub step_root : (k : ℕ) (a : Option Item) (x : Item) (xs : List Item) → top w x.place ≡ true → step image hs w k a (x ∷ xs) ≡ step image hs w k (Some x) xs
  step_root k a x [] e = rw e
  step_root k a x (y ∷ ys) e = rw e

  pub step_pair : (k : ℕ) (a : Option Item) (x y : Item) (ys : List Item) → top w x.place ≡ false → beside x.place y.place ≡ true
      → step image hs w k a (x ∷ (y ∷ ys)) ≡ before (twin image x y) (step image hs w k a ys)
  step_pair k a x y ys e f = rw (e, f)

  pub step_lone : (k : ℕ) (a : Option Item) (x : Item) (xs : List Item) → top w x.place ≡ false → alone_item x xs ≡ true
      → step image hs w k a (x ∷ xs) ≡ before (lone image x (get_or hs k no_value)) (step image hs w (k + 1) a xs)
  step_lone k a x [] e f = rw e
  step_lone k a x (y ∷ ys) e f = rw e (go (beside x.place y.place) f)
    where
      go : (b : Bool) → not b ≡ true → cond b (before (twin image x y) (step image hs w k a ys)) (before (lone image x (get_or hs k no_value)) (step image hs w (k + 1) a (y ∷ ys)))
          ≡ before (lone image x (get_or hs k no_value)) (step image hs w (k + 1) a (y ∷ ys))
      go true n = let z : ◌≡◌ {A = ℕ} 0 1 = cc in absurd (omega arith)
      go false n = refl

module _ (image : Image) (p : Proof) (hs : List Value) (r w : ℕ) where
  -- the root of the row, if it is there
  abbrev pub seen : Option Item → List ℕ → Option Item
  seen a [] = a
  seen a (x ∷ xs) = cond (top w x) (seen (Some (entry image p r x)) xs) (seen a xs)

  abbrev pub Given : ℕ → List ℕ → Type 0
  Given k [] = Unit {0}
  Given k (q ∷ qs) = (claim_at p r q ≡ given (get_or hs k no_value)) × Given (k + 1) qs

  abbrev pub Both : ℕ → Type 0
  Both z = top w z ≡ false → claim_at p (suc r) (z / 2) ≡ both (claim_at p r (2 * (z / 2))) (claim_at p r (2 * (z / 2) + 1))

  abbrev result : ℕ → Option Item → List ℕ → Stepped
  result k a xs = stepped (map (entry image p (suc r)) (ups w xs)) (seen a xs) (k + length (lones w xs))

  alone_map : (x : ℕ) (xs : List ℕ) → alone x xs ≡ true → alone_item (entry image p r x) (map (entry image p r) xs) ≡ true
  alone_map x [] e = refl
  alone_map x (y ∷ ys) e = e

  seen_root : (a : Option Item) (x : ℕ) (xs : List ℕ) → top w x ≡ true → seen a (x ∷ xs) ≡ seen (Some (entry image p r x)) xs
  seen_root a x xs e = rw e

  seen_more : (a : Option Item) (x : ℕ) (xs : List ℕ) → top w x ≡ false → seen a (x ∷ xs) ≡ seen a xs
  seen_more a x xs e = rw e

  -- the item above two siblings
  above_two : (x y : ℕ) → x % 2 ≡ 0 → y ≡ x + 1 → claim_at p (suc r) (x / 2) ≡ both (claim_at p r (2 * (x / 2))) (claim_at p r (2 * (x / 2) + 1))
      → entry image p (suc r) (x / 2) ≡ twin image (entry image p r x) (entry image p r y)
  above_two x y m s e =
      let even : 2 * (x / 2) ≡ x = omega arith in
      let f : claim_at p (suc r) (x / 2) ≡ both (claim_at p r x) (claim_at p r (x + 1)) = e ∙ ap (λ z. both (claim_at p r z) (claim_at p r (z + 1))) even in
      item_both image p (claim_at p (suc r) (x / 2)) (claim_at p r x) (claim_at p r (x + 1)) x (x / 2) f refl
      ∙ ap (λ z. twin image (entry image p r x) (entry image p r z)) (sym s)

  -- the item above one with a hash at its side
  above_one : (x : ℕ) (g : Value) → claim_at p r (sib x) ≡ given g → claim_at p (suc r) (x / 2) ≡ both (claim_at p r (2 * (x / 2))) (claim_at p r (2 * (x / 2) + 1))
      → entry image p (suc r) (x / 2) ≡ lone image (entry image p r x) g
  above_one x g h e = go (cases_eq (x % 2) 0)
    where
      go : (x % 2 ≡ 0) ⊎ (x % 2 ≡ 0 → ⊥) → entry image p (suc r) (x / 2) ≡ lone image (entry image p r x) g
      go (inl m) =
          let even : 2 * (x / 2) ≡ x = omega arith in
          let side : 2 * (x / 2) + 1 ≡ sib x = omega arith in
          item_left image p (claim_at p (suc r) (x / 2)) (claim_at p r x) (claim_at p r (sib x)) x g m
          (e ∙ ap (λ z. both (claim_at p r z) (claim_at p r (2 * (x / 2) + 1))) even ∙ ap (λ z. both (claim_at p r x) (claim_at p r z)) side) h
      go (inr m) =
          let odd : 2 * (x / 2) + 1 ≡ x = omega arith in
          let side : 2 * (x / 2) ≡ sib x = omega arith in
          item_right image p (claim_at p (suc r) (x / 2)) (claim_at p r (sib x)) (claim_at p r x) x g m
          (e ∙ ap (λ z. both (claim_at p r z) (claim_at p r (2 * (x / 2) + 1))) side ∙ ap (λ z. both (claim_at p r (sib x)) (claim_at p r z)) odd) h

  odd_not : (x y : ℕ) → beside x y ≡ true → top w y ≡ false
  odd_not x y b = go (top w y) refl
    where
      go : (t : Bool) → top w y ≡ t → t ≡ false
      go true e = let (m, s) = beside_is x y b in let (c, d) = top_is w y e in absurd (omega arith)
      go false e = refl

  pub step_is : (a : ℕ) (xs : List ℕ) → From a xs → (k : ℕ) (s : Option Item) → ((z : ℕ) → Mem z xs → Both z) → Given k (lones w xs)
      → step image hs w k s (map (entry image p r) xs) ≡ result k s xs
  step_is =
      walk w (λ a xs. (k : ℕ) (s : Option Item) → ((z : ℕ) → Mem z xs → Both z) → Given k (lones w xs) → step image hs w k s (map (entry image p r) xs) ≡ result k s xs)
      (λ a k s b g. ap (λ (x : ℕ). stepped [] s x) (zero_more k))
      (λ a x xs l t f ih k s b g.
      step_root image hs w k s (entry image p r x) (map (entry image p r) xs) t
      ∙ ih k (Some (entry image p r x)) (λ z m. b z (inr m)) (subst (λ (q : List ℕ). Given k q) (lones_root w x xs t) g)
      ∙ sym (same k (ups_root w x xs t) (seen_root s x xs t) (lones_root w x xs t)))
      (λ a x y ys l t c f ih k s b g.
      step_pair image hs w k s (entry image p r x) (entry image p r y) (map (entry image p r) ys) t c
      ∙ ap (before (twin image (entry image p r x) (entry image p r y))) (ih k s (λ z m. b z (inr (inr m))) (subst (λ (q : List ℕ). Given k q) (lones_pair w x y ys t c) g))
      ∙ ap (λ (i : Item). before i (result k s ys)) (sym (above_two x y (beside_is x y c).0 (beside_is x y c).1 (b x (inl refl) t)))
      ∙ sym (same k (ups_pair w x y ys t c) (seen_more s x (y ∷ ys) t ∙ seen_more s y ys (odd_not x y c)) (lones_pair w x y ys t c)))
      (λ a x xs l t c f ih k s b g.
      let g' : Given k (sib x ∷ lones w xs) = subst (λ (q : List ℕ). Given k q) (lones_lone w x xs t c) g in
      step_lone image hs w k s (entry image p r x) (map (entry image p r) xs) t (alone_map x xs c)
      ∙ ap (before (lone image (entry image p r x) (get_or hs k no_value))) (ih (k + 1) s (λ z m. b z (inr m)) g'.1)
      ∙ ap (λ (i : Item). before i (result (k + 1) s xs)) (sym (above_one x (get_or hs k no_value) g'.0 (b x (inl refl) t)))
      ∙ ap (λ (j : ℕ). stepped (map (entry image p (suc r)) (x / 2 ∷ ups w xs)) (seen s xs) j) (one_more k (length (lones w xs)))
      ∙ sym (same k (ups_lone w x xs t c) (seen_more s x xs t) (lones_lone w x xs t c)))
    where
      zero_more : (k : ℕ) → k ≡ k + 0
      zero_more k = omega arith

      one_more : (k m : ℕ) → k + 1 + m ≡ k + suc m
      one_more k m = omega arith

      same : (k : ℕ) {us us' : List ℕ} {s s' : Option Item} {ls ls' : List ℕ} → us ≡ us' → s ≡ s' → ls ≡ ls'
          → stepped (map (entry image p (suc r)) us) s (k + length ls) ≡ stepped (map (entry image p (suc r)) us') s' (k + length ls')
      same k e f g = cc

  pub seen_same : (o : ℕ) → top w o ≡ true → (xs : List ℕ) → seen (Some (entry image p r o)) xs ≡ Some (entry image p r o)
  seen_same o t [] = refl
  seen_same o t (x ∷ xs) = go (top w x) refl (seen_same o t xs)
    where
      go : (b : Bool) → top w x ≡ b → seen (Some (entry image p r o)) xs ≡ Some (entry image p r o) → cond b (seen (Some (entry image p r x)) xs) (seen (Some (entry image p r o)) xs) ≡ Some (entry image p r o)
      go true e ih = let (a, b) = top_is w o t in let (c, d) = top_is w x e in let q : x ≡ o = omega arith in ap (λ z. seen (Some (entry image p r z)) xs) q ∙ ih
      go false e ih = ih

  pub seen_some : (a : Option Item) (o : ℕ) → top w o ≡ true → (xs : List ℕ) → Mem o xs → seen a xs ≡ Some (entry image p r o)
  seen_some a o t [] m = absurd m
  seen_some a o t (x ∷ xs) (inl e) = rw (ap (top w) (sym e) ∙ t) (ap (λ z. seen (Some (entry image p r z)) xs) (sym e) ∙ seen_same o t xs)
  seen_some a o t (x ∷ xs) (inr m) = go (top w x) (λ s. seen_some s o t xs m)
    where
      go : (b : Bool) → ((s : Option Item) → seen s xs ≡ Some (entry image p r o)) → cond b (seen (Some (entry image p r x)) xs) (seen a xs) ≡ Some (entry image p r o)
      go true ih = ih (Some (entry image p r x))
      go false ih = ih a

  pub seen_none : (a : Option Item) (xs : List ℕ) → ((z : ℕ) → Mem z xs → top w z ≡ false) → seen a xs ≡ a
  seen_none a [] h = refl
  seen_none a (x ∷ xs) h = rw (h x (inl refl)) (seen_none a xs (λ z m. h z (inr m)))
