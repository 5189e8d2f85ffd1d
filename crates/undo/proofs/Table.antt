-- The table of a mark, and the marks in their places.
use Rattle.std.proofs.Common.{sym, ◌≡◌, ℕ, zero, suc, ◌+◌, ◌<◌, ◌≤◌, List, [], ◌∷◌, map, get_or, take, None, Option, inl, inr, refl, ap, ◌∙◌, subst, arith, ap₂, add-one}
use Rattle.std.proofs.lemmas.List.{take-map}
use Rattle.std.proofs.lemmas.List.FromFn.{fill_by_all}
use Rattle.std.proofs.lemmas.Bool.{cases_lt}
use Rattle.std.specs.List.{range_with_len, slice_get}
use Rattle.std.specs.Array.{IsFromFnResult, IsFromFnResultFrom}
use Rattle.std.specs.Fn.{Called}
use denote.Param.Members.{Mut}
use Rattle.utreexo.specs.Checks.{push}
use Rattle.history.specs.Stack.{stack, room}
use Rattle.undo.specs.declared.mark.Mark.{Mark}
use Rattle.undo.specs.declared.marks.Marks.{Marks}
use Rattle.undo.specs.Marks.{present, undo_of, marks_of}

-- an array of which each element is made by a closure, from its number
module _ {F A : Type 0} (g : Mut F (ℕ × Unit {0}) A) (f : F) (v : ℕ → A) (d : A)
    (gives : (i : ℕ) (r : A) (f' : F) → Called g f (i, tt) r f' → (r ≡ v i) × (f' ≡ f)) (ys : List A) where
  each : (n i : ℕ) → IsFromFnResultFrom g f ys i n → (k : ℕ) → i ≤ k → k < i + n → get_or ys k d ≡ v k
  each zero i all k low high = absurd (omega arith)
  each (suc n) i (q, y, at, call, rest) k low high =
      let got : (y ≡ v i) × (q ≡ f) = gives i y q call in
      let later : IsFromFnResultFrom g f ys (i + 1) n = subst (λ p. IsFromFnResultFrom g p ys (i + 1) n) got.1 rest in
      elim (cases_lt i k) [
        | inl more ↦ each n (i + 1) later k (omega arith) (omega arith)
        | inr less ↦ let same : k ≡ i = omega arith in rw same (at.1 d ∙ got.0)
      ]

  made : (n : ℕ) → IsFromFnResult g f ys n → ys ≡ map v (range_with_len 0 n)
  made n all = fill_by_all v ys n d all.long (λ k h. each n 0 all.each k (omega arith) (omega arith))

-- the elements of a list in so many places, absent where it has fewer
module _ {A : Type 0} where
  none_left : (a n : ℕ) → present (map (λ k. slice_get {X = A} [] k) (range_with_len a n)) ≡ []
  none_left a zero = refl
  none_left a (suc n) = none_left (a + 1) n

  shifted : (x : A) (xs : List A) (a n : ℕ) → map (λ k. slice_get (x ∷ xs) k) (range_with_len (a + 1) n) ≡ map (λ k. slice_get xs k) (range_with_len a n)
  shifted x xs a zero = refl
  shifted x xs a (suc n) = ap₂ (λ y ys. y ∷ ys) (rw add-one refl) (shifted x xs (a + 1) n)

  pub in_places : (xs : List A) (n : ℕ) → present (map (λ k. slice_get xs k) (range_with_len 0 n)) ≡ take n xs
  in_places xs zero = refl
  in_places [] (suc n) = none_left 1 n
  in_places (x ∷ xs) (suc n) = ap (λ z. x ∷ present z) (shifted x xs 0 n) ∙ ap (λ z. x ∷ z) (in_places xs n)

  -- so of a table that is made so
  pub table : {F : Type 0} (g : Mut F (ℕ × Unit {0}) (Option A)) (f : F) (xs : List A)
      (gives : (i : ℕ) (r : Option A) (f' : F) → Called g f (i, tt) r f' → (r ≡ slice_get xs i) × (f' ≡ f)) (ys : List (Option A)) (n : ℕ)
      → IsFromFnResult g f ys n → present ys ≡ take n xs
  table g f xs gives ys n all = ap present (made g f (λ k. slice_get xs k) None gives ys n all) ∙ in_places xs n

-- a ring that holds none, and one that takes a mark
pub none_held : (u : Marks) → u.ring.held ≡ 0 → marks_of u ≡ []
unfolding stack
none_held u e = rw e

pub one_pushed : (old new : Marks) (r : Mark) → room old.places ≡ 64 → stack new.places new.ring ≡ push (room old.places) r (stack old.places old.ring)
    → marks_of new ≡ push 64 (undo_of r) (marks_of old)
one_pushed old new r long e = ap (map undo_of) (e ∙ ap (λ n. push n r (stack old.places old.ring)) long) ∙ sym (take-map undo_of 64 (r ∷ stack old.places old.ring))
