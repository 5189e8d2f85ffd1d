-- Two ascending lists in one. Assumes nothing.
use Rattle.std.proofs.Common.{◌≡◌, ℕ, suc, ◌+◌, ◌≤◌, Bool, true, false, cond, ltb, ◌⊎◌, List, [], ◌∷◌, map, length, refl, ap, inl, inr, arith}
use Rattle.std.proofs.lemmas.Bool.{ltb-true, ltb-false, cases_eq}
use Rattle.laws.proofs.Order.{Mem, From}
use Rattle.climb.specs.Rows.{weave, merge}

module _ {A : Type 0} (less : A → A → Bool) where
  mem_weave : (z x : A) (xs : List A) (k : List A → List A) → ((l : List A) → Mem z (k l) → Mem z xs ⊎ Mem z l) → (ys : List A) → Mem z (weave less x k ys) → Mem z (x ∷ xs) ⊎ Mem z ys
  mem_weave z x xs k ih [] (inl e) = inl (inl e)
  mem_weave z x xs k ih [] (inr m) = elim (ih [] m) [ inl h ↦ inl (inr h) | inr h ↦ absurd h ]
  mem_weave z x xs k ih (y ∷ ys) m = go (less x y) m (mem_weave z x xs k ih ys)
    where
      go : (b : Bool) → Mem z (cond b (x ∷ k (y ∷ ys)) (y ∷ weave less x k ys)) → (Mem z (weave less x k ys) → Mem z (x ∷ xs) ⊎ Mem z ys) → Mem z (x ∷ xs) ⊎ Mem z (y ∷ ys)
      go true (inl e) r = inl (inl e)
      go true (inr n) r = elim (ih (y ∷ ys) n) [ inl h ↦ inl (inr h) | inr h ↦ inr h ]
      go false (inl e) r = inr (inl e)
      go false (inr n) r = elim (r n) [ inl h ↦ inl h | inr h ↦ inr (inr h) ]

  pub mem_merge : (z : A) (xs ys : List A) → Mem z (merge less xs ys) → Mem z xs ⊎ Mem z ys
  mem_merge z [] ys m = inr m
  mem_merge z (x ∷ xs) ys m = mem_weave z x xs (λ l. merge less xs l) (λ l. mem_merge z xs l) ys m

  weave_mem : (z x : A) (xs : List A) (k : List A → List A) → ((l : List A) → Mem z xs ⊎ Mem z l → Mem z (k l)) → (ys : List A) → Mem z (x ∷ xs) ⊎ Mem z ys → Mem z (weave less x k ys)
  weave_mem z x xs k ih [] (inl (inl e)) = inl e
  weave_mem z x xs k ih [] (inl (inr m)) = inr (ih [] (inl m))
  weave_mem z x xs k ih [] (inr m) = absurd m
  weave_mem z x xs k ih (y ∷ ys) m = go (less x y) m (weave_mem z x xs k ih ys)
    where
      go : (b : Bool) → Mem z (x ∷ xs) ⊎ Mem z (y ∷ ys) → (Mem z (x ∷ xs) ⊎ Mem z ys → Mem z (weave less x k ys)) → Mem z (cond b (x ∷ k (y ∷ ys)) (y ∷ weave less x k ys))
      go true (inl (inl e)) r = inl e
      go true (inl (inr n)) r = inr (ih (y ∷ ys) (inl n))
      go true (inr n) r = inr (ih (y ∷ ys) (inr n))
      go false (inl n) r = inr (r (inl n))
      go false (inr (inl e)) r = inl e
      go false (inr (inr n)) r = inr (r (inr n))

  pub merge_mem : (z : A) (xs ys : List A) → Mem z xs ⊎ Mem z ys → Mem z (merge less xs ys)
  merge_mem z [] ys (inl m) = absurd m
  merge_mem z [] ys (inr m) = m
  merge_mem z (x ∷ xs) ys m = weave_mem z x xs (λ l. merge less xs l) (λ l. merge_mem z xs l) ys m

  length_weave : (x : A) (xs : List A) (k : List A → List A) → ((l : List A) → length (k l) ≡ length xs + length l) → (ys : List A) → length (weave less x k ys) ≡ suc (length xs) + length ys
  length_weave x xs k ih [] = let e = ih [] in omega arith
  length_weave x xs k ih (y ∷ ys) = go (less x y) (length_weave x xs k ih ys) (ih (y ∷ ys))
    where
      go : (b : Bool) → length (weave less x k ys) ≡ suc (length xs) + length ys → length (k (y ∷ ys)) ≡ length xs + suc (length ys) → length (cond b (x ∷ k (y ∷ ys)) (y ∷ weave less x k ys)) ≡ suc (length xs) + suc (length ys)
      go true e f = omega arith
      go false e f = omega arith

  pub length_merge : (xs ys : List A) → length (merge less xs ys) ≡ length xs + length ys
  length_merge [] ys = omega arith
  length_merge (x ∷ xs) ys = length_weave x xs (λ l. merge less xs l) (λ l. length_merge xs l) ys

weave_from : (x : ℕ) (xs : List ℕ) (k : List ℕ → List ℕ)
    → ((b : ℕ) (l : List ℕ) → From b xs → From b l → ((z : ℕ) → Mem z xs → Mem z l → ⊥) → From b (k l))
    → (a : ℕ) (ys : List ℕ) → From a (x ∷ xs) → From a ys → ((z : ℕ) → Mem z (x ∷ xs) → Mem z ys → ⊥) → From a (weave ltb x k ys)
weave_from x xs k ih a [] f g d = (f.0, ih (suc x) [] f.1 tt (λ z m n. n))
weave_from x xs k ih a (y ∷ ys) f g d = go (ltb x y) refl (λ h. weave_from x xs k ih (suc y) ys (h, f.1) g.1 (λ z m n. d z m (inr n)))
  where
    go : (b : Bool) → ltb x y ≡ b → (suc y ≤ x → From (suc y) (weave ltb x k ys)) → From a (cond b (x ∷ k (y ∷ ys)) (y ∷ weave ltb x k ys))
    go true e r = let l = ltb-true x y e in (f.0, ih (suc x) (y ∷ ys) f.1 (omega arith, g.1) (λ z m n. d z (inr m) n))
    go false e r =
        let l = ltb-false x y e in
        elim (cases_eq x y) [ inl q ↦ absurd (d x (inl refl) (inl q)) | inr q ↦ (g.0, r (omega arith)) ]

pub merge_from : (a : ℕ) (xs ys : List ℕ) → From a xs → From a ys → ((z : ℕ) → Mem z xs → Mem z ys → ⊥) → From a (merge ltb xs ys)
merge_from a [] ys f g d = g
merge_from a (x ∷ xs) ys f g d = weave_from x xs (λ l. merge ltb xs l) (λ b l. merge_from b xs l) a ys f g d

-- what is done to each of both lists is done to each of the one
module _ {A B : Type 0} (f : A → B) (less : A → A → Bool) (less' : B → B → Bool) (same : (x y : A) → less' (f x) (f y) ≡ less x y) where
  weave_map : (x : A) (xs : List A) (k : List A → List A) (k' : List B → List B) → ((l : List A) → k' (map f l) ≡ map f (k l)) → (ys : List A)
      → weave less' (f x) k' (map f ys) ≡ map f (weave less x k ys)
  weave_map x xs k k' ih [] = ap (λ l. f x ∷ l) (ih [])
  weave_map x xs k k' ih (y ∷ ys) = rw (same x y) (go (less x y) (weave_map x xs k k' ih ys))
    where
      go : (b : Bool) → weave less' (f x) k' (map f ys) ≡ map f (weave less x k ys)
          → cond b (f x ∷ k' (f y ∷ map f ys)) (f y ∷ weave less' (f x) k' (map f ys)) ≡ map f (cond b (x ∷ k (y ∷ ys)) (y ∷ weave less x k ys))
      go true r = ap (λ l. f x ∷ l) (ih (y ∷ ys))
      go false r = ap (λ l. f y ∷ l) r

  pub merge_map : (xs ys : List A) → merge less' (map f xs) (map f ys) ≡ map f (merge less xs ys)
  merge_map [] ys = refl
  merge_map (x ∷ xs) ys = weave_map x xs (λ l. merge less xs l) (λ l. merge less' (map f xs) l) (λ l. merge_map xs l) ys
