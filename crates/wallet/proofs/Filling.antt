-- What `array::from_fn` gives, and a path made by it.
use Rattle.std.proofs.Common.{◌≡◌, ℕ, zero, suc, ◌+◌, ◌*◌, ◌/◌, ◌<◌, ◌≤◌, List, length, map, get_or, take, inl, inr, sym, refl, ap, ◌∙◌, subst, arith}
use Rattle.std.proofs.lemmas.Bool.{cases_lt}
use Rattle.std.proofs.lemmas.List.FromFn.{fill_by_all, take-map-range_with_len}
use Rattle.std.specs.List.{range_with_len}
use Rattle.std.specs.Array.{IsFromFnResult, IsFromFnResultFrom}
use Rattle.std.specs.Fn.{Called}
use denote.Param.Members.{Mut}
use Rattle.utreexo.specs.declared.types.Value.{Value}
use Rattle.utreexo.specs.Bytes.{Bytes, part, value_in}
use Rattle.utreexo.specs.Claims.{no_value}
use Rattle.laws.proofs.Ranges.{length_map_below}
use Rattle.climb.specs.Held.{hashes_in}

module _ {F A : Type 0} (g : Mut F (ℕ × Unit {0}) A) (f : F) (v : ℕ → A) (d : A) (gives : (i : ℕ) (r : A) (f' : F) → Called g f (i, tt) r f' → (r ≡ v i) × (f' ≡ f)) (ys : List A) where
  each : (n i : ℕ) → IsFromFnResultFrom g f ys i n → (k : ℕ) → i ≤ k → k < i + n → get_or ys k d ≡ v k
  each zero i all k low high = absurd (omega arith)
  each (suc n) i (q, y, at, call, rest) k low high =
      let got : (y ≡ v i) × (q ≡ f) = gives i y q call in
      let later : IsFromFnResultFrom g f ys (i + 1) n = subst (λ (p : F). IsFromFnResultFrom g p ys (i + 1) n) got.1 rest in
      elim (cases_lt i k) [
        | inl more ↦ each n (i + 1) later k (omega arith) (omega arith)
        | inr less ↦ let same : k ≡ i = omega arith in rw same (at.1 d ∙ got.0)
      ]

  -- each call of the closure gives v of the index
  pub made : (n : ℕ) → IsFromFnResult g f ys n → ys ≡ map v (range_with_len 0 n)
  made n all = fill_by_all v ys n d all.long (λ k h. each n 0 all.each k (omega arith) (omega arith))

-- the hashes that bytes stand for, in front of an array that has them by number
pub hashes_first : (bytes : Bytes) (path : List Value) → length bytes / 32 ≤ 31 → path ≡ map (λ i. get_or (hashes_in bytes) i no_value) (range_with_len 0 31)
    → take (length bytes / 32) path ≡ hashes_in bytes
hashes_first bytes path few e =
    let n = length bytes / 32 in
    let f : ℕ → Value = λ i. get_or (hashes_in bytes) i no_value in
    ap (take n) e ∙ take-map-range_with_len f 0 31 n few
    ∙ sym (fill_by_all f (hashes_in bytes) n no_value (length_map_below (λ i. value_in (part (32 * i) 32 bytes)) n) (λ k h. refl))
