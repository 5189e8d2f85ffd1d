-- Lists of causes: those of which none holds, and two lists that differ in one cause.
use Rattle.std.proofs.Common.{◌≡◌, ℕ, Bool, true, false, not, ◌⊎◌, List, [], ◌∷◌, ◌++◌, Some, None, Option, sym, refl, ap, ◌∙◌, inl, inr, arith}
use Rattle.utreexo.specs.Checks.{Cause, refusal, cause}
use Rattle.laws.proofs.Logic.{true_false, never}

-- no cause of the list holds
abbrev pub Free : List Cause → Type 0
Free [] = Unit {0}
Free (c ∷ cs) = (c.holds ≡ false) × Free cs

-- then there is no refusal, and the other way round
pub freed : (cs : List Cause) → Free cs → refusal cs ≡ None
freed [] f = refl
freed (c ∷ cs) f = let h = f.0 in rw h (freed cs f.1)

pub free : (cs : List Cause) → refusal cs ≡ None → Free cs
free [] e = tt
free (c ∷ cs) e = go c.holds refl (free cs)
  where
    go : (t : Bool) → c.holds ≡ t → (refusal cs ≡ None → Free cs) → (c.holds ≡ false) × Free cs
    go true h ih = let w : Some c.number ≡ None = (rw h at e) in let z : ◌≡◌ {A = ℕ} 0 1 = cc in absurd (omega arith)
    go false h ih = (h, ih (rw h at e))

-- the causes of the front of a list, and those of its rest
pub free_left : (xs ys : List Cause) → Free (xs ++ ys) → Free xs
free_left [] ys d = tt
free_left (x ∷ xs) ys d = (d.0, free_left xs ys d.1)

pub free_right : (xs ys : List Cause) → Free (xs ++ ys) → Free ys
free_right [] ys d = d
free_right (x ∷ xs) ys d = free_right xs ys d.1

pub free_append : (xs ys : List Cause) → Free xs → Free ys → Free (xs ++ ys)
free_append [] ys d e = e
free_append (x ∷ xs) ys d e = (d.0, free_append xs ys d.1 e)

-- the same front before another rest
pub free_front : (xs ys zs : List Cause) → Free (xs ++ ys) → (Free ys → Free zs) → Free (xs ++ zs)
free_front xs ys zs f g = free_append xs zs (free_left xs ys f) (g (free_right xs ys f))

-- the first cause that holds is found before what follows; where none holds, what follows decides
pub refusal_some : (cs rest : List Cause) (k : ℕ) → refusal cs ≡ Some k → refusal (cs ++ rest) ≡ Some k
refusal_some [] rest k e = absurd (never k e)
refusal_some (c ∷ cs) rest k e = go c.holds e (refusal_some cs rest k)
  where
    go : (b : Bool) → elim b [ true ↦ Some c.number | false ↦ refusal cs ] ≡ Some k → (refusal cs ≡ Some k → refusal (cs ++ rest) ≡ Some k)
        → elim b [ true ↦ Some c.number | false ↦ refusal (cs ++ rest) ] ≡ Some k
    go true e ih = e
    go false e ih = ih e

pub refusal_none : (cs rest : List Cause) → refusal cs ≡ None → refusal (cs ++ rest) ≡ refusal rest
refusal_none cs rest e = go cs (free cs e)
  where
    go : (cs : List Cause) → Free cs → refusal (cs ++ rest) ≡ refusal rest
    go [] f = refl
    go (c ∷ cs) f = let h = f.0 in rw h (go cs f.1)

-- a lone cause holds if it is the refusal
pub lone_cause : (n : ℕ) (t : Bool) (k : ℕ) → refusal (cause n t ∷ []) ≡ Some k → t ≡ true
lone_cause n true k e = refl
lone_cause n false k e = absurd (never k e)

-- the first cause that holds is the refusal
pub first_cause : (before : List Cause) (c : Cause) (rest : List Cause) → Free before → c.holds ≡ true → refusal (before ++ c ∷ rest) ≡ Some c.number
first_cause [] c rest f e = rw e
first_cause (b ∷ bs) c rest f e = let h = f.0 in rw h (first_cause bs c rest f.1 e)

-- Two lists of causes that differ in cause 10 alone, f in one where the other has g, and g implies f: the refusals are the same, or no
-- cause comes before, f holds and g does not.
pub refusals : (pre post post' : List Cause) (f g : Bool) → post ≡ post' → (refusal pre ≡ None → g ≡ true → f ≡ true)
    → (refusal (pre ++ cause 10 (not f) ∷ post) ≡ refusal (pre ++ cause 10 (not g) ∷ post'))
    ⊎ ((refusal pre ≡ None) × (f ≡ true) × (g ≡ false))
refusals pre post post' f g e h = go (refusal pre) refl f g h
  where
    go : (z : Option ℕ) → refusal pre ≡ z → (f g : Bool) → (refusal pre ≡ None → g ≡ true → f ≡ true)
        → (refusal (pre ++ cause 10 (not f) ∷ post) ≡ refusal (pre ++ cause 10 (not g) ∷ post'))
        ⊎ ((refusal pre ≡ None) × (f ≡ true) × (g ≡ false))
    go (Some k) q f g h = inl (refusal_some pre (cause 10 (not f) ∷ post) k q ∙ sym (refusal_some pre (cause 10 (not g) ∷ post') k q))
    go None q true true h = inl (ap (λ z. refusal (pre ++ cause 10 false ∷ z)) e)
    go None q true false h = inr (q, refl, refl)
    go None q false true h = absurd (true_false false (h q refl) refl)
    go None q false false h = inl (ap (λ z. refusal (pre ++ cause 10 true ∷ z)) e)
