-- Runs within a count, and the values over them.
use Rattle.std.proofs.Common.{◌≡◌, ℕ, zero, suc, ◌+◌, ◌-◌, ◌*◌, ◌/◌, ◌^◌, ◌<◌, ◌≤◌, true, false, ltb, sym, ap, ◌∙◌, ⊎_elim, mul-le-mul_right, div-mul-le_self, arith, pow_pos, pow_mono, shr-shr}
use Rattle.std.proofs.lemmas.Nat.{le-div}
use Rattle.std.proofs.lemmas.Bool.{cases_lt, lt-ltb, le-ltb, le-leb, lt-leb, ltb-true, ltb-false}
use Rattle.utreexo.specs.Values.{Image, join}
use Rattle.utreexo.specs.Forest.{Slots, value_over}
use Rattle.keeper.specs.Calls.{run_within}

pub run_up : (n r : ℕ) → n / 2 ^ r / 2 ≡ n / 2 ^ suc r
run_up n r = shr-shr n r 1 ∙ ap (λ x. n / 2 ^ x) (omega arith)

-- both halves of a run within n are within n
pub halves : (n r o : ℕ) → 0 < r → o < n / 2 ^ r → 2 * o + 1 < n / 2 ^ (r - 1)
halves n zero o p h = absurd (omega arith)
halves n (suc r) o p h = let e : suc r - 1 ≡ r = omega arith in rw e (let u = run_up n r in omega arith)

-- a run is within n exactly if its place is below the number of whole runs
pub run_in : (n r o : ℕ) → (o + 1) * 2 ^ r ≤ n → o < n / 2 ^ r
run_in n r o h = le-div (suc o) n (2 ^ r) (pow_pos r) (omega arith)

pub run_out : (n r o : ℕ) → o < n / 2 ^ r → (o + 1) * 2 ^ r ≤ n
run_out n r o h =
    let span : (o + 1) * 2 ^ r ≤ n / 2 ^ r * 2 ^ r = mul-le-mul_right (2 ^ r) (omega arith) in
    omega (arith, div-mul-le_self n (2 ^ r))

run_past : (n r o : ℕ) → n / 2 ^ r ≤ o → n < (o + 1) * 2 ^ r
run_past n r o h = ⊎_elim (λ l. l) (λ (g : (o + 1) * 2 ^ r ≤ n). absurd (let i = run_in n r o g in omega arith)) (cases_lt n ((o + 1) * 2 ^ r))

pub run_test : (n r o : ℕ) → ltb o (n / 2 ^ r) ≡ run_within n r o
run_test n r o =
    ⊎_elim (λ (h : o < n / 2 ^ r). lt-ltb o (n / 2 ^ r) h ∙ sym (le-leb ((o + 1) * 2 ^ r) n (run_out n r o h)))
    (λ (h : n / 2 ^ r ≤ o). le-ltb o (n / 2 ^ r) h ∙ sym (lt-leb ((o + 1) * 2 ^ r) n (run_past n r o h)))
    (cases_lt o (n / 2 ^ r))

pub run_true : (n r o : ℕ) → true ≡ run_within n r o → o < n / 2 ^ r
run_true n r o h = ltb-true o (n / 2 ^ r) (run_test n r o ∙ sym h)

pub run_false : (n r o : ℕ) → false ≡ run_within n r o → n / 2 ^ r ≤ o
run_false n r o h = ltb-false o (n / 2 ^ r) (run_test n r o ∙ sym h)

-- no run of 2 ^ 32 slots and more is
pub far_test : (n r o : ℕ) → n < 2 ^ 32 → 32 ≤ r → false ≡ run_within n r o
far_test n r o h g =
    let p = pow_mono g in
    let q : 1 * 2 ^ r ≤ (o + 1) * 2 ^ r = mul-le-mul_right (2 ^ r) (omega arith) in
    sym (lt-leb ((o + 1) * 2 ^ r) n (omega arith))

-- a value in one step
pub value_node : (image : Image) (s : Slots) (row o : ℕ) → 0 < row → value_over image s row o ≡ join image (value_over image s (row - 1) (2 * o)) (value_over image s (row - 1) (2 * o + 1))
value_node image s zero o p = absurd (omega arith)
value_node image s (suc r) o p = let e : suc r - 1 ≡ r = omega arith in rw e
