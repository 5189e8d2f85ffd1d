-- Arrays as lists: what `array::from_fn` gives, and an array's list as its elements.
use Rattle.std.proofs.Common.{◌≡◌, ℕ, zero, suc, ◌+◌, ◌<◌, ◌≤◌, List, length, map, get_or, inl, inr, refl, ◌∙◌, subst, arith, nat_lt, IsTrue}
use Rattle.std.proofs.lemmas.List.FromFn.{fill_by_all}
use Rattle.std.proofs.lemmas.Bool.{cases_lt}
use Rattle.std.proofs.lemmas.Bool.Decides.{nat_tests}
use Rattle.std.proofs.lemmas.List.Folds.{list_all_at}
use Rattle.std.specs.List.{range_with_len, list_all}
use Rattle.std.specs.Array.{IsFromFnResult, IsFromFnResultFrom}
use Rattle.std.specs.Fn.{Called}
use denote.Param.Members.{Mut}

-- a list of n numbers
pub elements : (xs : List ℕ) (n : ℕ) → length xs ≡ n → xs ≡ map (λ k. get_or xs k 0) (range_with_len 0 n)
elements xs n long = fill_by_all (λ k. get_or xs k 0) xs n 0 long (λ k h. refl)

module _ {F : Type 0} (g : Mut F (ℕ × Unit {0}) ℕ) (f : F) (v : ℕ → ℕ) (gives : (i r : ℕ) (f' : F) → Called g f (i, tt) r f' → (r ≡ v i) × (f' ≡ f)) (ys : List ℕ) where
  each : (n i : ℕ) → IsFromFnResultFrom g f ys i n → (k : ℕ) → i ≤ k → k < i + n → get_or ys k 0 ≡ v k
  each zero i all k low high = absurd (omega arith)
  each (suc n) i (q, y, at, call, rest) k low high =
      let got : (y ≡ v i) × (q ≡ f) = gives i y q call in
      let later : IsFromFnResultFrom g f ys (i + 1) n = subst (λ p. IsFromFnResultFrom g p ys (i + 1) n) got.1 rest in
      elim (cases_lt i k) [
        | inl more ↦ each n (i + 1) later k (omega arith) (omega arith)
        | inr less ↦ let same : k ≡ i = omega arith in rw same (at.1 0 ∙ got.0)
      ]

  -- each call of the closure gives v of the index
  pub made : (n : ℕ) → IsFromFnResult g f ys n → ys ≡ map v (range_with_len 0 n)
  made n all = fill_by_all v ys n 0 all.long (λ k h. each n 0 all.each k (omega arith) (omega arith))

-- each index in a list that passes the test is below n
pub within : (n : ℕ) (s : List ℕ) → IsTrue (list_all (λ k. nat_lt k n) s) → (i : ℕ) → i < length s → get_or s i 0 < n
within n s pass i inside = grind (arith, nat_tests, list_all_at (λ k. nat_lt k n) s i 0 inside)
