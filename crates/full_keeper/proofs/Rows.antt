-- The R of a count.
use Rattle.std.proofs.Common.{◌≡◌, ℕ, zero, suc, ◌+◌, ◌^◌, ◌<◌, ◌≤◌, leb, sym, refl, subst, ⊎_elim, arith, pow_mono}
use Rattle.std.proofs.lemmas.Bool.{cases_lt, cond_both, leb-false}
use Rattle.utreexo.specs.Forest.{least_from, rows}
use Rattle.laws.proofs.Positions.{rows_ok}

least_low : (f k n j : ℕ) → k ≤ j → n ≤ 2 ^ j → least_from f k n ≤ j
least_low zero k n j h g = h
least_low (suc f) k n j h g =
    cond_both (leb n (2 ^ k)) k (least_from f (suc k) n) (λ x. x ≤ j) (λ e. h)
    (λ e. least_low f (suc k) n j (⊎_elim (λ y. y) (λ (z : j ≤ k). absurd (omega (arith, pow_mono z, leb-false n (2 ^ k) e))) (cases_lt k j)) g)

-- more slots have as many rows or more
rows_up : (n l : ℕ) → n ≤ l → l < 2 ^ 32 → rows n ≤ rows l
rows_up n l h g = least_low 33 0 n (rows l) (omega arith) (omega (arith, rows_ok l g))

-- a table for more slots has room for fewer
pub room : (n l len size : ℕ) → n ≤ l → l < 2 ^ 32 → size ≡ len → 2 ^ (rows l + 1) ≤ len → 2 ^ (rows n + 1) ≤ size
room n l len size h g e r = let low = rows_up n l h g in omega (arith, pow_mono {i = rows n + 1} {j = rows l + 1} (omega arith))

-- what a table with room for l slots gives the runs within n, by the R of m
pub record Fitting (n R len : ℕ) : Type 0 where
  pub high : n ≤ 2 ^ R
  pub room : 2 ^ (R + 1) ≤ len

pub fitting : (n m l R len : ℕ) → n ≤ m → m ≤ l → l < 2 ^ 32 → R ≡ rows m → 2 ^ (rows l + 1) ≤ len → Fitting n R len
fitting n m l R len h k g e r =
    let a = rows_ok m (omega arith) in
    subst (λ x. Fitting n x len) (sym e) (record { high = omega arith; room = room m l len len k g refl r })
