-- Numbers and places: halves, a place without one of its bits, and the ones at a number's low end.
use Rattle.std.proofs.Common.{◌≡◌, ℕ, zero, suc, ◌+◌, ◌-◌, ◌*◌, ◌/◌, ◌%◌, ◌^◌, ◌<◌, ◌≤◌, sym, ap, ◌∙◌, arith, shr-shr, w32}
use Rattle.std.specs.Int.{trailing_ones}
use Rattle.std.proofs.lemmas.Nat.{shr_split, shl-shr}
use Rattle.std.proofs.lemmas.Nat.Bits.{bit_at-trailing_ones}
use Rattle.std.proofs.Math.Nat.{mul-le-mul_right}
use Rattle.place.proofs.Powers.{pow_next}
use Rattle.shelf.specs.Held.{close}

pub half : (o k : ℕ) → o / 2 ^ k / 2 ≡ o / 2 ^ (k + 1)
half o k = shr-shr o k 1

pub close_le : (k o : ℕ) → close k o ≤ o
close_le k o =
    let h : o / 2 ^ (k + 1) ≤ o / 2 ^ k = omega (arith, half o k) in
    omega (arith, shr_split o k, mul-le-mul_right (2 ^ k) h)

-- the ones below row k: one more fills the run of 2 ^ k that n is in
pub ones_below : (n k : ℕ) → ((i : ℕ) → i < k → n / 2 ^ i % 2 ≡ 1) → (n / 2 ^ k + 1) * 2 ^ k ≡ n + 1
ones_below n zero f = omega arith
ones_below n (suc k) f =
    let was = ones_below n k (λ i l. f i (omega arith)) in
    let odd = f k (omega arith) in
    let h = n / 2 ^ (k + 1) in
    let q : n / 2 ^ k ≡ 2 * h + 1 = omega (arith, half n k) in
    let w : (2 * h + 1 + 1) * 2 ^ k ≡ n + 1 = ap (λ (x : ℕ). (x + 1) * 2 ^ k) (sym q) ∙ was in
    let s : suc k ≡ k + 1 = omega arith in
    let e : (h + 1) * 2 ^ (k + 1) ≡ n + 1 = ap (λ (x : ℕ). (h + 1) * x) (pow_next k) ∙ (let m : (h + 1) * (2 * 2 ^ k) ≡ n + 1 = omega arith in m) in
    ap (λ (x : ℕ). (n / 2 ^ x + 1) * 2 ^ x) s ∙ e

-- the runs of 2 ^ k with one slot more
pub next_run : (n k : ℕ) → (n / 2 ^ k + 1) * 2 ^ k ≡ n + 1 → (n + 1) / 2 ^ k ≡ n / 2 ^ k + 1
next_run n k e = ap (λ (x : ℕ). x / 2 ^ k) (sym e) ∙ shl-shr (n / 2 ^ k + 1) k

-- and those of a row above, where bit k is zero
pub same_above : (n k j : ℕ) → (n / 2 ^ k + 1) * 2 ^ k ≡ n + 1 → n / 2 ^ k % 2 ≡ 0 → k < j → (n + 1) / 2 ^ j ≡ n / 2 ^ j
same_above n k j e z l =
    let d = j - (k + 1) in
    let s : j ≡ k + 1 + d = omega arith in
    let here : (n + 1) / 2 ^ (k + 1) ≡ n / 2 ^ (k + 1) = omega (arith, half (n + 1) k, half n k, next_run n k e) in
    ap (λ (x : ℕ). (n + 1) / 2 ^ x) s ∙ sym (shr-shr (n + 1) (k + 1) d) ∙ ap (λ (x : ℕ). x / 2 ^ d) here ∙ shr-shr n (k + 1) d ∙ ap (λ (x : ℕ). n / 2 ^ x) (sym s)

-- the ones at the low end of a count that is not the greatest, and the zero after them
pub record Ones (n t : ℕ) : Type 0 where
  pub low : t < 32
  pub zero_bit : n / 2 ^ t % 2 ≡ 0
  pub one_bits : (i : ℕ) → i < t → n / 2 ^ i % 2 ≡ 1
  pub filled : (n / 2 ^ t + 1) * 2 ^ t ≡ n + 1

pub ones_at : (n t : ℕ) → n < 4294967295 → t ≡ trailing_ones w32 n → Ones n t
ones_at n t l e =
    let (a, b, f) = bit_at-trailing_ones w32 n (omega arith) in
    let ones : (i : ℕ) → i < t → n / 2 ^ i % 2 ≡ 1 = λ i h. f i (omega arith) in
    record { low = omega arith; zero_bit = ap (λ (j : ℕ). n / 2 ^ j % 2) e ∙ b; one_bits = ones; filled = ones_below n t ones }
