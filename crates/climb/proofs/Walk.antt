-- A row of ascending places, from the left: its root, two siblings, or one place alone. Assumes nothing.
use Rattle.std.proofs.Common.{◌≡◌, ℕ, suc, ◌+◌, ◌*◌, ◌/◌, ◌%◌, ◌<◌, ◌≤◌, Bool, true, false, cond, not, eqb, ◌⊎◌, List, [], ◌∷◌, sym, refl, ap, ◌∙◌, subst, inl, inr, arith}
use Rattle.std.proofs.lemmas.Bool.{eqb-true, eqb-false, eq-eqb, and_parts, and_cases, and_from, cases_eq}
use Rattle.laws.proofs.Order.{Mem, From}
use Rattle.climb.specs.Rows.{top, beside, lones, sib}
use Rattle.climb.proofs.Folded.{ups}
use Rattle.laws.proofs.Ordered.{from_mem, from_weaker}

-- the place after x and its right sibling
abbrev pub next : ℕ → ℕ
next x = 2 * (x / 2) + 2

-- no right sibling of x stands in front
abbrev pub alone : ℕ → List ℕ → Bool
alone x [] = true
alone x (y ∷ ys) = not (beside x y)

pub top_is : (w o : ℕ) → top w o ≡ true → (w % 2 ≡ 1) × (o + 1 ≡ w)
top_is w o e = let (a, b) = and_parts (eqb (w % 2) 1) (eqb (o + 1) w) e in (eqb-true (w % 2) 1 a, eqb-true (o + 1) w b)

pub is_top : (w o : ℕ) → w % 2 ≡ 1 → o + 1 ≡ w → top w o ≡ true
is_top w o a b = and_from (eqb (w % 2) 1) (eqb (o + 1) w) (eq-eqb (w % 2) 1 a) (eq-eqb (o + 1) w b)

-- a place of the row that is no root has its parent in the row above
pub not_top : (w o : ℕ) → o < w → top w o ≡ false → o / 2 < w / 2
not_top w o l e = elim (and_cases (eqb (w % 2) 1) (eqb (o + 1) w) e) [ inl h ↦ (let g = eqb-false (w % 2) 1 h in go g (cases_eq (w % 2) 1)) | inr h ↦ go₂ (eqb-false (o + 1) w h) (cases_eq (o + 1) w) ]
  where
    go : (w % 2 ≡ 1 → ⊥) → (w % 2 ≡ 1) ⊎ (w % 2 ≡ 1 → ⊥) → o / 2 < w / 2
    go g (inl e) = absurd (g e)
    go g (inr e) = omega arith

    go₂ : (o + 1 ≡ w → ⊥) → (o + 1 ≡ w) ⊎ (o + 1 ≡ w → ⊥) → o / 2 < w / 2
    go₂ g (inl e) = absurd (g e)
    go₂ g (inr e) = omega arith

pub top_not : (w o : ℕ) → o / 2 < w / 2 → top w o ≡ false
top_not w o l = go (top w o) refl
  where
    go : (b : Bool) → top w o ≡ b → top w o ≡ false
    go true e = let (a, b) = top_is w o e in absurd (omega arith)
    go false e = e

pub beside_is : (x y : ℕ) → beside x y ≡ true → (x % 2 ≡ 0) × (y ≡ x + 1)
beside_is x y e = let (a, b) = and_parts (eqb (x % 2) 0) (eqb y (x + 1)) e in (eqb-true (x % 2) 0 a, eqb-true y (x + 1) b)

pub beside_not : (x y : ℕ) → beside x y ≡ false → x % 2 ≡ 0 → y ≡ x + 1 → ⊥
beside_not x y e f g = let h = and_from (eqb (x % 2) 0) (eqb y (x + 1)) (eq-eqb (x % 2) 0 f) (eq-eqb y (x + 1) g) in let w : ◌≡◌ {A = Bool} true false = sym h ∙ e in let z : ◌≡◌ {A = ℕ} 0 1 = cc in omega arith

module _ (w : ℕ) where
  pub ups_root : (x : ℕ) (xs : List ℕ) → top w x ≡ true → ups w (x ∷ xs) ≡ ups w xs
  ups_root x [] e = rw e
  ups_root x (y ∷ ys) e = rw e

  pub ups_pair : (x y : ℕ) (ys : List ℕ) → top w x ≡ false → beside x y ≡ true → ups w (x ∷ (y ∷ ys)) ≡ x / 2 ∷ ups w ys
  ups_pair x y ys e f = rw (e, f)

  pub ups_lone : (x : ℕ) (xs : List ℕ) → top w x ≡ false → alone x xs ≡ true → ups w (x ∷ xs) ≡ x / 2 ∷ ups w xs
  ups_lone x [] e f = rw e
  ups_lone x (y ∷ ys) e f = rw e (go (beside x y) f)
    where
      go : (b : Bool) → not b ≡ true → cond b (x / 2 ∷ ups w ys) (x / 2 ∷ ups w (y ∷ ys)) ≡ x / 2 ∷ ups w (y ∷ ys)
      go true n = let z : ◌≡◌ {A = ℕ} 0 1 = cc in absurd (omega arith)
      go false n = refl

  pub lones_root : (x : ℕ) (xs : List ℕ) → top w x ≡ true → lones w (x ∷ xs) ≡ lones w xs
  lones_root x [] e = rw e
  lones_root x (y ∷ ys) e = rw e

  pub lones_pair : (x y : ℕ) (ys : List ℕ) → top w x ≡ false → beside x y ≡ true → lones w (x ∷ (y ∷ ys)) ≡ lones w ys
  lones_pair x y ys e f = rw (e, f)

  pub lones_lone : (x : ℕ) (xs : List ℕ) → top w x ≡ false → alone x xs ≡ true → lones w (x ∷ xs) ≡ sib x ∷ lones w xs
  lones_lone x [] e f = rw e
  lones_lone x (y ∷ ys) e f = rw e (go (beside x y) f)
    where
      go : (b : Bool) → not b ≡ true → cond b (lones w ys) (sib x ∷ lones w (y ∷ ys)) ≡ sib x ∷ lones w (y ∷ ys)
      go true n = let z : ◌≡◌ {A = ℕ} 0 1 = cc in absurd (omega arith)
      go false n = refl

-- to prove something of each ascending row, prove it of the four ways that one begins
module _ (w : ℕ) (P : ℕ → List ℕ → Type 0) (none : (a : ℕ) → P a [])
    (root : (a x : ℕ) (xs : List ℕ) → a ≤ x → top w x ≡ true → From (suc x) xs → P (suc x) xs → P a (x ∷ xs))
    (pairs : (a x y : ℕ) (ys : List ℕ) → a ≤ x → top w x ≡ false → beside x y ≡ true → From (next x) ys → P (next x) ys → P a (x ∷ (y ∷ ys)))
    (lone : (a x : ℕ) (xs : List ℕ) → a ≤ x → top w x ≡ false → alone x xs ≡ true → From (next x) xs → P (next x) xs → P a (x ∷ xs)) where
  pub walk : (a : ℕ) (xs : List ℕ) → From a xs → P a xs
  walk a [] f = none a
  walk a (x ∷ []) f = go (top w x) refl
    where
      go : (b : Bool) → top w x ≡ b → P a (x ∷ [])
      go true e = root a x [] f.0 e tt (none (suc x))
      go false e = lone a x [] f.0 e refl tt (none (next x))
  walk a (x ∷ (y ∷ ys)) f = go (top w x) refl (walk (suc x) (y ∷ ys) f.1) (λ g. walk (next x) (y ∷ ys) g) (λ g. walk (next x) ys g)
    where
      split : (b : Bool) → top w x ≡ false → beside x y ≡ b → (From (next x) (y ∷ ys) → P (next x) (y ∷ ys)) → (From (next x) ys → P (next x) ys) → P a (x ∷ (y ∷ ys))
      split true e g ih₁ ih₂ =
          let (even, next_is) = beside_is x y g in
          let low : From (next x) ys = from_weaker (next x) (suc y) ys (omega arith) f.1.1 in
          pairs a x y ys f.0 e g low (ih₂ low)
      split false e g ih₁ ih₂ =
          let step : next x ≤ y = far (cases_eq (x % 2) 0) (cases_eq y (x + 1)) in
          let low : From (next x) (y ∷ ys) = (step, f.1.1) in
          lone a x (y ∷ ys) f.0 e (rw g) low (ih₁ low)
        where
          far : (x % 2 ≡ 0) ⊎ (x % 2 ≡ 0 → ⊥) → (y ≡ x + 1) ⊎ (y ≡ x + 1 → ⊥) → next x ≤ y
          far (inl p) (inl q) = absurd (beside_not x y g p q)
          far (inl p) (inr q) = let l = f.1.0 in omega arith
          far (inr p) q = let l = f.1.0 in omega arith

      go : (b : Bool) → top w x ≡ b → P (suc x) (y ∷ ys) → (From (next x) (y ∷ ys) → P (next x) (y ∷ ys)) → (From (next x) ys → P (next x) ys) → P a (x ∷ (y ∷ ys))
      go true e ih ih₁ ih₂ = root a x (y ∷ ys) f.0 e f.1 ih
      go false e ih ih₁ ih₂ = split (beside x y) e refl ih₁ ih₂

module _ (w : ℕ) where
  -- the places above ascend
  pub ups_from : (a : ℕ) (xs : List ℕ) → From a xs → From (a / 2) (ups w xs)
  ups_from =
      walk w (λ a xs. From (a / 2) (ups w xs)) (λ a. tt)
      (λ a x xs l t f ih. rw (ups_root w x xs t) (from_weaker (a / 2) (suc x / 2) (ups w xs) (omega arith) ih))
      (λ a x y ys l t b f ih. rw (ups_pair w x y ys t b) (omega arith, subst (λ z. From z (ups w ys)) (omega arith) ih))
      (λ a x xs l t b f ih. rw (ups_lone w x xs t b) (omega arith, subst (λ z. From z (ups w xs)) (omega arith) ih))

  -- they are the halves of those that are no root
  pub record Below (xs : List ℕ) (q : ℕ) : Type 0 where
    pub place : ℕ
    pub there : Mem place xs
    pub half : place / 2 ≡ q
    pub low : top w place ≡ false

  below_more : (x : ℕ) (xs : List ℕ) (q : ℕ) → Below xs q → Below (x ∷ xs) q
  below_more x xs q b = record { place = b.place; there = inr b.there; half = b.half; low = b.low }

  pub ups_mem : (q a : ℕ) (xs : List ℕ) → From a xs → Mem q (ups w xs) → Below xs q
  ups_mem q =
      walk w (λ a xs. Mem q (ups w xs) → Below xs q) (λ a m. absurd m)
      (λ a x xs l t f ih m. below_more x xs q (ih (rw (ups_root w x xs t) at m)))
      (λ a x y ys l t b f ih m. two x y ys t ih (rw (ups_pair w x y ys t b) at m))
      (λ a x xs l t b f ih m. one x xs t ih (rw (ups_lone w x xs t b) at m))
    where
      one : (x : ℕ) (xs : List ℕ) → top w x ≡ false → (Mem q (ups w xs) → Below xs q) → Mem q (x / 2 ∷ ups w xs) → Below (x ∷ xs) q
      one x xs t ih (inl e) = record { place = x; there = inl refl; half = sym e; low = t }
      one x xs t ih (inr m) = below_more x xs q (ih m)

      two : (x y : ℕ) (ys : List ℕ) → top w x ≡ false → (Mem q (ups w ys) → Below ys q) → Mem q (x / 2 ∷ ups w ys) → Below (x ∷ (y ∷ ys)) q
      two x y ys t ih (inl e) = record { place = x; there = inl refl; half = sym e; low = t }
      two x y ys t ih (inr m) = below_more x (y ∷ ys) q (below_more y ys q (ih m))

  pub mem_ups : (o a : ℕ) (xs : List ℕ) → From a xs → Mem o xs → top w o ≡ false → Mem (o / 2) (ups w xs)
  mem_ups o =
      walk w (λ a xs. Mem o xs → top w o ≡ false → Mem (o / 2) (ups w xs)) (λ a m e. absurd m)
      (λ a x xs l t f ih m e. rw (ups_root w x xs t) (past x xs t e ih m))
      (λ a x y ys l t b f ih m e. rw (ups_pair w x y ys t b) (two x y ys (beside_is x y b) (λ n. ih n e) m))
      (λ a x xs l t b f ih m e. rw (ups_lone w x xs t b) (one x xs (λ n. ih n e) m))
    where
      past : (x : ℕ) (xs : List ℕ) → top w x ≡ true → top w o ≡ false → (Mem o xs → top w o ≡ false → Mem (o / 2) (ups w xs)) → Mem o (x ∷ xs) → Mem (o / 2) (ups w xs)
      past x xs t e ih (inl q) = let z : ◌≡◌ {A = Bool} true false = sym t ∙ ap (top w) (sym q) ∙ e in let y : ◌≡◌ {A = ℕ} 0 1 = cc in absurd (omega arith)
      past x xs t e ih (inr m) = ih m e

      one : (x : ℕ) (xs : List ℕ) → (Mem o xs → Mem (o / 2) (ups w xs)) → Mem o (x ∷ xs) → Mem (o / 2) (x / 2 ∷ ups w xs)
      one x xs ih (inl q) = inl (ap (λ z. z / 2) q)
      one x xs ih (inr m) = inr (ih m)

      two : (x y : ℕ) (ys : List ℕ) → (x % 2 ≡ 0) × (y ≡ x + 1) → (Mem o ys → Mem (o / 2) (ups w ys)) → Mem o (x ∷ (y ∷ ys)) → Mem (o / 2) (x / 2 ∷ ups w ys)
      two x y ys (p, s) ih (inl q) = inl (ap (λ z. z / 2) q)
      two x y ys (p, s) ih (inr (inl q)) = inl (omega arith)
      two x y ys (p, s) ih (inr (inr m)) = inr (ih m)

  -- the siblings that are not there, in order
  pub lones_from : (a : ℕ) (xs : List ℕ) → From a xs → From (2 * (a / 2)) (lones w xs)
  lones_from =
      walk w (λ a xs. From (2 * (a / 2)) (lones w xs)) (λ a. tt)
      (λ a x xs l t f ih. rw (lones_root w x xs t) (from_weaker (2 * (a / 2)) (2 * (suc x / 2)) (lones w xs) (omega arith) ih))
      (λ a x y ys l t b f ih. rw (lones_pair w x y ys t b) (from_weaker (2 * (a / 2)) (2 * (next x / 2)) (lones w ys) (omega arith) ih))
      (λ a x xs l t b f ih. rw (lones_lone w x xs t b) (omega arith, from_weaker (suc (sib x)) (2 * (next x / 2)) (lones w xs) (omega arith) ih))

  pub record Missing (xs : List ℕ) (q : ℕ) : Type 0 where
    pub there : Mem (sib q) xs
    pub gone : Mem q xs → ⊥
    pub low : top w (sib q) ≡ false

  pub lones_mem : (q a : ℕ) (xs : List ℕ) → From a xs → ((z : ℕ) → Mem z xs → z < w) → Mem q (lones w xs) → Missing xs q
  lones_mem q =
      walk w (λ a xs. ((z : ℕ) → Mem z xs → z < w) → Mem q (lones w xs) → Missing xs q) (λ a u m. absurd m)
      (λ a x xs l t f ih u m. last x xs t f u (rw (lones_root w x xs t) at m))
      (λ a x y ys l t b f ih u m. two x y ys (beside_is x y b) f (rw (lones_pair w x y ys t b) at m) (ih (λ z n. u z (inr (inr n))) (rw (lones_pair w x y ys t b) at m)))
      (λ a x xs l t b f ih u m. one x xs t f (ih (λ z n. u z (inr n))) (rw (lones_lone w x xs t b) at m))
    where
      last : (x : ℕ) (xs : List ℕ) → top w x ≡ true → From (suc x) xs → ((z : ℕ) → Mem z (x ∷ xs) → z < w) → Mem q (lones w xs) → Missing (x ∷ xs) q
      last x [] t f u m = absurd m
      last x (y ∷ ys) t f u m = let (a, b) = top_is w x t in let c = u y (inr (inl refl)) in let d = f.0 in absurd (omega arith)

      two : (x y : ℕ) (ys : List ℕ) → (x % 2 ≡ 0) × (y ≡ x + 1) → From (next x) ys → Mem q (lones w ys) → Missing ys q → Missing (x ∷ (y ∷ ys)) q
      two x y ys (p, s) f m h = record { there = inr (inr h.there); gone = no_more; low = h.low }
        where
          no_more : Mem q (x ∷ (y ∷ ys)) → ⊥
          no_more (inl e) = omega (arith, from_mem (2 * (next x / 2)) (lones w ys) q (lones_from (next x) ys f) m)
          no_more (inr (inl e)) = omega (arith, from_mem (2 * (next x / 2)) (lones w ys) q (lones_from (next x) ys f) m)
          no_more (inr (inr n)) = h.gone n

      one : (x : ℕ) (xs : List ℕ) → top w x ≡ false → From (next x) xs → (Mem q (lones w xs) → Missing xs q) → Mem q (sib x ∷ lones w xs) → Missing (x ∷ xs) q
      one x xs t f ih (inl e) = record { there = inl back; gone = no_more; low = ap (top w) back ∙ t }
        where
          back : sib q ≡ x
          back = omega arith

          no_more : Mem q (x ∷ xs) → ⊥
          no_more (inl g) = omega arith
          no_more (inr n) = omega (arith, from_mem (next x) xs q f n)
      one x xs t f ih (inr m) = record { there = inr (ih m).there; gone = no_more; low = (ih m).low }
        where
          no_more : Mem q (x ∷ xs) → ⊥
          no_more (inl g) = omega (arith, from_mem (2 * (next x / 2)) (lones w xs) q (lones_from (next x) xs f) m)
          no_more (inr n) = (ih m).gone n

  pub mem_lones : (o a : ℕ) (xs : List ℕ) → From a xs → Mem o xs → top w o ≡ false → (Mem (sib o) xs → ⊥) → Mem (sib o) (lones w xs)
  mem_lones o =
      walk w (λ a xs. Mem o xs → top w o ≡ false → (Mem (sib o) xs → ⊥) → Mem (sib o) (lones w xs)) (λ a m e g. absurd m)
      (λ a x xs l t f ih m e g. rw (lones_root w x xs t) (past x xs t e (λ n. ih n e (λ k. g (inr k))) m))
      (λ a x y ys l t b f ih m e g. rw (lones_pair w x y ys t b) (two x y ys (beside_is x y b) g (λ n. ih n e (λ k. g (inr (inr k)))) m))
      (λ a x xs l t b f ih m e g. rw (lones_lone w x xs t b) (one x xs (λ n. ih n e (λ k. g (inr k))) m))
    where
      past : (x : ℕ) (xs : List ℕ) → top w x ≡ true → top w o ≡ false → (Mem o xs → Mem (sib o) (lones w xs)) → Mem o (x ∷ xs) → Mem (sib o) (lones w xs)
      past x xs t e ih (inl q) = let z : ◌≡◌ {A = Bool} true false = sym t ∙ ap (top w) (sym q) ∙ e in let y : ◌≡◌ {A = ℕ} 0 1 = cc in absurd (omega arith)
      past x xs t e ih (inr m) = ih m

      one : (x : ℕ) (xs : List ℕ) → (Mem o xs → Mem (sib o) (lones w xs)) → Mem o (x ∷ xs) → Mem (sib o) (sib x ∷ lones w xs)
      one x xs ih (inl q) = inl (ap sib q)
      one x xs ih (inr m) = inr (ih m)

      two : (x y : ℕ) (ys : List ℕ) → (x % 2 ≡ 0) × (y ≡ x + 1) → (Mem (sib o) (x ∷ (y ∷ ys)) → ⊥) → (Mem o ys → Mem (sib o) (lones w ys)) → Mem o (x ∷ (y ∷ ys)) → Mem (sib o) (lones w ys)
      two x y ys (p, s) g ih (inl q) = absurd (g (inr (inl (omega arith))))
      two x y ys (p, s) g ih (inr (inl q)) = absurd (g (inl (omega arith)))
      two x y ys (p, s) g ih (inr (inr m)) = ih m
