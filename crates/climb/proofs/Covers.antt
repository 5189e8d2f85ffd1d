-- Which places are covered, row by row; and the targets by row. Assumes nothing.
use Rattle.std.proofs.Common.{◌≡◌, ℕ, zero, suc, ◌+◌, ◌-◌, ◌/◌, ◌^◌, ◌<◌, ◌≤◌, Bool, true, false, cond, eqb, leb, ◌⊎◌, List, [], ◌∷◌, map, sym, refl, ap, ◌∙◌, inl, inr, div-one, arith, shr-shr}
use Rattle.std.proofs.lemmas.Bool.{eqb-true, eqb-false, eq-eqb, le-leb, leb-true, and_parts, and_from, cases_lt, cases_eq}
use Rattle.laws.proofs.Order.{Mem, From}
use Rattle.utreexo.specs.Forest.{Node, at_node}
use Rattle.utreexo.specs.Claims.{Target, beneath, covered}
use Rattle.targets.proofs.Valid.{Later, Sorted}
use Rattle.climb.specs.Rows.{front, past}
use Rattle.climb.proofs.Folded.{pasts, spot}
use Rattle.laws.proofs.Members.{mem_any, any_mem}

-- a target at or beneath the place
pub record Under (ts : List Target) (r o : ℕ) : Type 0 where
  pub tgt : Target
  pub there : Mem tgt ts
  pub low : tgt.node.row ≤ r
  pub up : tgt.node.place / 2 ^ (r - tgt.node.row) ≡ o

pub beneath_is : (d : Node) (r o : ℕ) → beneath d (at_node r o) ≡ true → (d.row ≤ r) × (d.place / 2 ^ (r - d.row) ≡ o)
beneath_is d r o e =
    let (a, b) = and_parts (leb d.row r) (eqb (d.place / 2 ^ (r - d.row)) o) e in
    (leb-true d.row r a, eqb-true (d.place / 2 ^ (r - d.row)) o b)

pub is_beneath : (d : Node) (r o : ℕ) → d.row ≤ r → d.place / 2 ^ (r - d.row) ≡ o → beneath d (at_node r o) ≡ true
is_beneath d r o a b = and_from (leb d.row r) (eqb (d.place / 2 ^ (r - d.row)) o) (le-leb d.row r a) (eq-eqb (d.place / 2 ^ (r - d.row)) o b)

pub covered_under : (ts : List Target) (r o : ℕ) → covered ts (at_node r o) ≡ true → Under ts r o
covered_under ts r o e = go (any_mem (λ t. beneath t.node (at_node r o)) ts e)
  where
    go : (t : Target) × Mem t ts × (beneath t.node (at_node r o) ≡ true) → Under ts r o
    go (t, m, b) = let (l, u) = beneath_is t.node r o b in record { tgt = t; there = m; low = l; up = u }

pub under_covered : (ts : List Target) (r o : ℕ) → Under ts r o → covered ts (at_node r o) ≡ true
under_covered ts r o u = mem_any (λ t. beneath t.node (at_node r o)) ts u.tgt u.there (is_beneath u.tgt.node r o u.low u.up)

pub up_place : (ts : List Target) (r o : ℕ) (u : Under ts r o) → u.tgt.node.place / 2 ^ (suc r - u.tgt.node.row) ≡ o / 2
up_place ts r o u =
    let l = u.low in
    let s : suc r - u.tgt.node.row ≡ r - u.tgt.node.row + 1 = omega arith in
    ap (λ x. u.tgt.node.place / 2 ^ x) s ∙ sym (shr-shr u.tgt.node.place (r - u.tgt.node.row) 1) ∙ ap (λ x. x / 2) u.up

pub under_up : (ts : List Target) (r o : ℕ) → Under ts r o → Under ts (suc r) (o / 2)
under_up ts r o u = let l = u.low in record { tgt = u.tgt; there = u.there; low = omega arith; up = up_place ts r o u }

-- the target is at the place itself
pub same_row : (t : Target) (r o : ℕ) → t.node.row ≡ r → t.node.place / 2 ^ (r - t.node.row) ≡ o → t.node.place ≡ o
same_row t r o e u = let z : r - t.node.row ≡ 0 = omega arith in sym (ap (λ x. t.node.place / 2 ^ x) z ∙ div-one t.node.place) ∙ u

pub under_at : (ts : List Target) (t : Target) → Mem t ts → Under ts t.node.row t.node.place
under_at ts t m = let z : t.node.row - t.node.row ≡ 0 = omega arith in record { tgt = t; there = m; low = omega arith; up = ap (λ x. t.node.place / 2 ^ x) z ∙ div-one t.node.place }

pub record Beneath (ts : List Target) (r o : ℕ) : Type 0 where
  pub place : ℕ
  pub half : place / 2 ≡ o
  pub under : Under ts r place

pub under_parts : (ts : List Target) (r o : ℕ) (u : Under ts (suc r) o) → ((u.tgt.node.row ≡ suc r) × (u.tgt.node.place ≡ o)) ⊎ Beneath ts r o
under_parts ts r o u = elim (cases_lt u.tgt.node.row (suc r)) [ inl h ↦ inr (deep h) | inr h ↦ (let l = u.low in let e : u.tgt.node.row ≡ suc r = omega arith in inl (e, same_row u.tgt (suc r) o e u.up)) ]
  where
    deep : u.tgt.node.row < suc r → Beneath ts r o
    deep h =
        let s : suc r - u.tgt.node.row ≡ r - u.tgt.node.row + 1 = omega arith in
        record {
          place = u.tgt.node.place / 2 ^ (r - u.tgt.node.row);
          half = shr-shr u.tgt.node.place (r - u.tgt.node.row) 1 ∙ ap (λ x. u.tgt.node.place / 2 ^ x) (sym s) ∙ u.up;
          under = record { tgt = u.tgt; there = u.there; low = omega arith; up = refl };
        }

-- the targets by row -----------------------------------------------------------

abbrev pub High : ℕ → List Target → Type 0
High r us = (t : Target) → Mem t us → r ≤ t.node.row

pub past_mem : (r : ℕ) (us : List Target) (t : Target) → Mem t (past r us) → Mem t us
past_mem r [] t m = m
past_mem r (u ∷ us) t m = go (eqb u.node.row r) m (past_mem r us t)
  where
    go : (b : Bool) → Mem t (cond b (past r us) (u ∷ us)) → (Mem t (past r us) → Mem t us) → Mem t (u ∷ us)
    go true n ih = inr (ih n)
    go false n ih = n

pub mem_past : (r : ℕ) (us : List Target) (t : Target) → Mem t us → suc r ≤ t.node.row → Mem t (past r us)
mem_past r [] t m l = m
mem_past r (u ∷ us) t m l = go (eqb u.node.row r) refl m (λ n. mem_past r us t n l)
  where
    go : (b : Bool) → eqb u.node.row r ≡ b → Mem t (u ∷ us) → (Mem t us → Mem t (past r us)) → Mem t (cond b (past r us) (u ∷ us))
    go true e (inl q) ih = let f = eqb-true u.node.row r e in let g = ap (λ (x : Target). x.node.row) q in absurd (omega arith)
    go true e (inr n) ih = ih n
    go false e n ih = n

later_row : (t u : Target) → Later t u → t.node.row ≤ u.node.row
later_row t u (inl h) = omega arith
later_row t u (inr h) = let e = h.0 in omega arith

head_high : (r : ℕ) (u : Target) (us : List Target) → Sorted (u ∷ us) → High r (u ∷ us) → eqb u.node.row r ≡ false → High (suc r) (u ∷ us)
head_high r u us s h e t m =
    let l = h u (inl refl) in
    let k : suc r ≤ u.node.row = elim (cases_eq u.node.row r) [ inl q ↦ absurd (eqb-false u.node.row r e q) | inr q ↦ omega arith ] in
    go k m
  where
    go : suc r ≤ u.node.row → Mem t (u ∷ us) → suc r ≤ t.node.row
    go k (inl q) = let g = ap (λ (x : Target). x.node.row) q in omega arith
    go k (inr n) = let g = later_row u t (s.0 t n) in omega arith

pub past_high : (r : ℕ) (us : List Target) → Sorted us → High r us → High (suc r) (past r us)
past_high r [] s h = λ t m. absurd m
past_high r (u ∷ us) s h = go (eqb u.node.row r) refl (past_high r us s.1 (λ t m. h t (inr m)))
  where
    go : (b : Bool) → eqb u.node.row r ≡ b → High (suc r) (past r us) → High (suc r) (cond b (past r us) (u ∷ us))
    go true e ih = ih
    go false e ih = head_high r u us s h e

pub past_sorted : (r : ℕ) (us : List Target) → Sorted us → Sorted (past r us)
past_sorted r [] s = tt
past_sorted r (u ∷ us) s = go (eqb u.node.row r) (past_sorted r us s.1)
  where
    go : (b : Bool) → Sorted (past r us) → Sorted (cond b (past r us) (u ∷ us))
    go true ih = ih
    go false ih = s

pub front_mem : (r : ℕ) (us : List Target) (t : Target) → Mem t (front r us) → Mem t us × (t.node.row ≡ r)
front_mem r [] t m = absurd m
front_mem r (u ∷ us) t m = go (eqb u.node.row r) refl m (front_mem r us t)
  where
    go : (b : Bool) → eqb u.node.row r ≡ b → Mem t (cond b (u ∷ front r us) []) → (Mem t (front r us) → Mem t us × (t.node.row ≡ r)) → Mem t (u ∷ us) × (t.node.row ≡ r)
    go true e (inl q) ih = (inl q, ap (λ (x : Target). x.node.row) q ∙ eqb-true u.node.row r e)
    go true e (inr n) ih = let k = ih n in (inr k.0, k.1)
    go false e n ih = absurd n

pub mem_front : (r : ℕ) (us : List Target) → Sorted us → High r us → (t : Target) → Mem t us → t.node.row ≡ r → Mem t (front r us)
mem_front r [] s h t m q = m
mem_front r (u ∷ us) s h t m q = go (eqb u.node.row r) refl m (λ n. mem_front r us s.1 (λ t m. h t (inr m)) t n q)
  where
    go : (b : Bool) → eqb u.node.row r ≡ b → Mem t (u ∷ us) → (Mem t us → Mem t (front r us)) → Mem t (cond b (u ∷ front r us) [])
    go true e (inl n) ih = inl n
    go true e (inr n) ih = inr (ih n)
    go false e n ih = let k = head_high r u us s h e t n in absurd (omega arith)

pub front_from : (r a : ℕ) (us : List Target) → Sorted us → ((t : Target) → Mem t us → t.node.row ≡ r → a ≤ spot t) → From a (map spot (front r us))
front_from r a [] s l = tt
front_from r a (u ∷ us) s l = go (eqb u.node.row r) refl (front_from r (suc (spot u)) us s.1)
  where
    after : (t : Target) → Later u t → u.node.row ≡ r → t.node.row ≡ r → suc (spot u) ≤ spot t
    after t (inl k) p q = absurd (omega arith)
    after t (inr k) p q = let c = k.1 in omega arith

    go : (b : Bool) → eqb u.node.row r ≡ b → (((t : Target) → Mem t us → t.node.row ≡ r → suc (spot u) ≤ spot t) → From (suc (spot u)) (map spot (front r us))) → From a (map spot (cond b (u ∷ front r us) []))
    go true e ih = let p = eqb-true u.node.row r e in (l u (inl refl) p, ih (λ t m q. after t (s.0 t m) p q))
    go false e ih = tt

module _ (ts : List Target) (s : Sorted ts) where
  pub pasts_sorted : (r : ℕ) → Sorted (pasts r ts)
  pasts_sorted zero = s
  pasts_sorted (suc r) = past_sorted r (pasts r ts) (pasts_sorted r)

  pub pasts_high : (r : ℕ) → High r (pasts r ts)
  pasts_high zero = λ t m. omega arith
  pasts_high (suc r) = past_high r (pasts r ts) (pasts_sorted r) (pasts_high r)

  pub pasts_mem : (r : ℕ) (t : Target) → Mem t (pasts r ts) → Mem t ts
  pasts_mem zero t m = m
  pasts_mem (suc r) t m = pasts_mem r t (past_mem r (pasts r ts) t m)

  pub mem_pasts : (r : ℕ) (t : Target) → Mem t ts → r ≤ t.node.row → Mem t (pasts r ts)
  mem_pasts zero t m l = m
  mem_pasts (suc r) t m l = mem_past r (pasts r ts) t (mem_pasts r t m (omega arith)) l

  -- the targets of row r are those that the code finds in front
  pub at_row_mem : (r : ℕ) (t : Target) → Mem t (front r (pasts r ts)) → Mem t ts × (t.node.row ≡ r)
  at_row_mem r t m = let (a, b) = front_mem r (pasts r ts) t m in (pasts_mem r t a, b)

  pub mem_at_row : (r : ℕ) (t : Target) → Mem t ts → t.node.row ≡ r → Mem t (front r (pasts r ts))
  mem_at_row r t m e = mem_front r (pasts r ts) (pasts_sorted r) (pasts_high r) t (mem_pasts r t m (omega arith)) e

  pub at_row_from : (r : ℕ) → From 0 (map spot (front r (pasts r ts)))
  at_row_from r = front_from r 0 (pasts r ts) (pasts_sorted r) (λ t m e. omega arith)
