-- What `array::from_fn` gives, as a list.
use Rattle.std.proofs.Common.{◌≡◌, ℕ, zero, suc, ◌+◌, ◌<◌, ◌≤◌, List, map, get_or, inl, inr, ◌∙◌, subst, arith}
use Rattle.std.proofs.lemmas.List.FromFn.{fill_by_all}
use Rattle.std.proofs.lemmas.Bool.{cases_lt}
use Rattle.std.specs.List.{range_with_len}
use Rattle.std.specs.Array.{IsFromFnResult, IsFromFnResultFrom}
use Rattle.std.specs.Fn.{Called}
use denote.Param.Members.{Mut}

module _ {F X : Type 0} (g : Mut F (ℕ × Unit {0}) X) (f : F) (v : ℕ → X) (gives : (i : ℕ) (r : X) (f' : F) → Called g f (i, tt) r f' → (r ≡ v i) × (f' ≡ f)) (ys : List X) where
  each : (n i : ℕ) → IsFromFnResultFrom g f ys i n → (k : ℕ) (d : X) → i ≤ k → k < i + n → get_or ys k d ≡ v k
  each zero i all k d low high = absurd (omega arith)
  each (suc n) i (q, y, at, call, rest) k d low high =
      let got : (y ≡ v i) × (q ≡ f) = gives i y q call in
      let later : IsFromFnResultFrom g f ys (i + 1) n = subst (λ p. IsFromFnResultFrom g p ys (i + 1) n) got.1 rest in
      elim (cases_lt i k) [
        | inl more ↦ each n (i + 1) later k d (omega arith) (omega arith)
        | inr less ↦ let same : k ≡ i = omega arith in rw same (at.1 d ∙ got.0)
      ]

  -- each call of the closure gives v of the index
  pub made : (n : ℕ) (d : X) → IsFromFnResult g f ys n → ys ≡ map v (range_with_len 0 n)
  made n d all = fill_by_all v ys n d all.long (λ k h. each n 0 all.each k d (omega arith) (omega arith))
