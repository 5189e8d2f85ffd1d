-- The low bits of a place, one more at a time.
use Rattle.std.proofs.Common.{◌≡◌, ℕ, ◌+◌, ◌*◌, ◌/◌, ◌%◌, ◌^◌, sym, ap, ◌∙◌, arith}
use Rattle.std.proofs.lemmas.Nat.{mod-pow-add}
use Rattle.std.proofs.Math.Nat.{mul_assoc, mul_comm, add-mul}
use Rattle.place.proofs.Powers.{pow_next}

-- one more bit
pub low_next : (k o a : ℕ) → (2 * a + o / 2 ^ k % 2) * 2 ^ k + o % 2 ^ k ≡ a * 2 ^ (k + 1) + o % 2 ^ (k + 1)
low_next k o a =
    let n : 1 + k ≡ k + 1 = omega arith in
    let m : o % 2 ^ (k + 1) ≡ (o / 2 ^ k % 2) * 2 ^ k + o % 2 ^ k = ap (λ (x : ℕ). o % 2 ^ x) (sym n) ∙ mod-pow-add o 1 k in
    let w = ap (λ (x : ℕ). a * x) (pow_next k) in
    let d = add-mul (2 * a) (o / 2 ^ k % 2) (2 ^ k) in
    let s : 2 * a * 2 ^ k ≡ a * (2 * 2 ^ k) = ap (λ (x : ℕ). x * 2 ^ k) (mul_comm 2 a) ∙ mul_assoc a 2 (2 ^ k) in
    omega arith
