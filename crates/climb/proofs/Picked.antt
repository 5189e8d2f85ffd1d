-- The hash of a needed position is the one that the fold takes there. Assumes nothing.
use Rattle.std.proofs.Common.{◌≡◌, ℕ, zero, suc, ◌+◌, ◌-◌, ◌<◌, List, [], ◌∷◌, ◌++◌, map, length, get_or, sym, refl, ap, ◌∙◌, subst, inl, inr, arith, length-append}
use Rattle.std.proofs.lemmas.List.{append_assoc, append-nil}
use Rattle.std.proofs.lemmas.Bool.{eq-eqb, ne_eqb}
use Rattle.utreexo.specs.declared.types.Value.{Value}
use Rattle.laws.proofs.Order.{Mem, From}
use Rattle.utreexo.specs.Forest.{position}
use Rattle.utreexo.specs.Claims.{Target, needed, pick, no_value, Proof, proof_of}
use Rattle.targets.proofs.Valid.{Valid}
use Rattle.climb.proofs.Folded.{used, absent, numbers, wanted}
use Rattle.laws.proofs.Ordered.{from_mem}
use Rattle.climb.proofs.Wanted.{wanted_from, needed_is}

pub pick_at : (A B : List ℕ) (hs : List Value) (q : ℕ) → (Mem q A → ⊥) → pick (A ++ (q ∷ B)) hs q ≡ get_or hs (length A) no_value
pick_at [] B [] q g = refl
pick_at [] B (h ∷ hs) q g = let e = eq-eqb q q refl in rw e
pick_at (x ∷ A) B [] q g = refl
pick_at (x ∷ A) B (h ∷ hs) q g = let e = ne_eqb q x (λ s. g (inl s)) in rw e (pick_at A B hs q (λ m. g (inr m)))

-- what stands before a place of an ascending list is another
pub before_not : (a : ℕ) (A B : List ℕ) (q : ℕ) → From a (A ++ (q ∷ B)) → Mem q A → ⊥
before_not a [] B q f m = m
before_not a (x ∷ A) B q f (inl e) = let h = from_mem (suc x) (A ++ (q ∷ B)) q f.1 (mid A B q) in omega arith
  where
    mid : (A B : List ℕ) (q : ℕ) → Mem q (A ++ (q ∷ B))
    mid [] B q = inl refl
    mid (x ∷ A) B q = inr (mid A B q)
before_not a (x ∷ A) B q f (inr m) = before_not (suc x) A B q f.1 m

-- the hashes from number k on are those of the places qs of row r
abbrev pub Fits : Proof → List Value → ℕ → ℕ → List ℕ → Type 0
Fits p hs r k [] = Unit {0}
Fits p hs r k (q ∷ qs) = (p.hash r q ≡ get_or hs k no_value) × Fits p hs r (k + 1) qs

length-map : {A B : Type 0} (f : A → B) (xs : List A) → length (map f xs) ≡ length xs
length-map f [] = refl
length-map f (x ∷ xs) = ap suc (length-map f xs)

module _ {n : ℕ} {ts : List Target} (v : Valid n ts) (hs : List Value) where
  abbrev proof : Proof
  proof = proof_of n ts hs

  fits_from : (r k : ℕ) (A qs B : List ℕ) → k ≡ length A → needed n ts ≡ A ++ (map (position n r) qs ++ B) → Fits proof hs r k qs
  fits_from r k A [] B l e = tt
  fits_from r k A (q ∷ qs) B l e =
      let z : ℕ = position n r q in
      let f : From 0 (A ++ (z ∷ (map (position n r) qs ++ B))) = subst (λ x. From 0 x) (sym (needed_is v) ∙ e) (low (wanted_from v 32 0)) in
      let here : pick (needed n ts) hs z ≡ get_or hs k no_value = ap (λ x. pick x hs z) e ∙ pick_at A (map (position n r) qs ++ B) hs z (before_not 0 A (map (position n r) qs ++ B) z f) ∙ ap (λ x. get_or hs x no_value) (sym l) in
      let more : needed n ts ≡ (A ++ (z ∷ [])) ++ (map (position n r) qs ++ B) = e ∙ sym (append_assoc A (z ∷ []) (map (position n r) qs ++ B)) in
      (here, fits_from r (k + 1) (A ++ (z ∷ [])) qs B (let s = length-append A (z ∷ []) in omega arith) more)
    where
      low : From (position n 0 0) (wanted n ts 0 32) → From 0 (wanted n ts 0 32)
      low f = weak (position n 0 0) (wanted n ts 0 32) f
        where
          weak : (a : ℕ) (xs : List ℕ) → From a xs → From 0 xs
          weak a [] f = tt
          weak a (x ∷ xs) f = (omega arith, f.1)

  -- the needed positions of the rows below row r
  abbrev done : ℕ → List ℕ
  done zero = []
  done (suc r) = done r ++ numbers n ts r

  pub done_wanted : (r f : ℕ) → r + f ≡ 32 → done r ++ wanted n ts r f ≡ wanted n ts 0 32
  done_wanted zero f e = let s : f ≡ 32 = omega arith in ap (λ x. wanted n ts 0 x) s
  done_wanted (suc r) f e = append_assoc (done r) (numbers n ts r) (wanted n ts (suc r) f) ∙ done_wanted r (suc f) (omega arith)

  pub done_length : (r : ℕ) → used n ts r ≡ length (done r)
  done_length zero = refl
  done_length (suc r) = let a = length-append (done r) (numbers n ts r) in let b = length-map (position n r) (absent n ts r) in let c = done_length r in omega arith

  -- the k-th hash is that of the k-th needed position, row by row
  pub row_fits : (r : ℕ) → r < 32 → Fits proof hs r (used n ts r) (absent n ts r)
  row_fits r l =
      let e : needed n ts ≡ done r ++ (numbers n ts r ++ wanted n ts (suc r) (31 - r)) = needed_is v ∙ sym (done_wanted r (suc (31 - r)) (omega arith)) in
      fits_from r (used n ts r) (done r) (absent n ts r) (wanted n ts (suc r) (31 - r)) (done_length r) e

  -- the number of hashes
  pub used_all : used n ts 32 ≡ length (needed n ts)
  used_all = done_length 32 ∙ ap length (sym (append-nil (done 32)) ∙ done_wanted 32 0 (omega arith) ∙ sym (needed_is v))
