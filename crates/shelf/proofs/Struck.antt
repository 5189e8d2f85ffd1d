-- A place with a bit struck out.
use Rattle.std.proofs.Common.{◌≡◌, ℕ, ◌+◌, ◌*◌, ◌/◌, ◌%◌, ◌^◌, ◌<◌, ◌≤◌, sym, ap, ◌∙◌, ap₂, arith, pow_pos, pow_mono}
use Rattle.std.proofs.Math.Nat.{div-eq_of_lt, mod-eq_of_lt}
use Rattle.std.proofs.lemmas.Nat.{shr-shr, one_shl, div-mul-add, mod-mul-add, mod_below}
use Rattle.shelf.specs.Held.{close}

pub up_one : (o k : ℕ) → o / 2 ^ k / 2 ≡ o / 2 ^ (k + 1)
up_one o k = shr-shr o k 1

-- by a shift of one
pub close_form : (k o : ℕ) → k < 32 → let w = 1 * 2 ^ k % 4294967296 in o / w / 2 * w + o % w ≡ close k o
close_form k o h = ap (λ (x : ℕ). o / x / 2 * x + o % x) (one_shl k 32 h) ∙ ap (λ (x : ℕ). x * 2 ^ k + o % 2 ^ k) (up_one o k)

-- a bit past the place's last
pub close_past : (k o : ℕ) → 32 ≤ k → o < 2 ^ 32 → o ≡ close k o
close_past k o h l =
    let low : o < 2 ^ k = omega (arith, pow_mono {i = 32} {j = k} h) in
    let next : o < 2 ^ (k + 1) = omega (arith, pow_mono {i = 32} {j = k + 1} (omega arith)) in
    let e = ap₂ (λ (a b : ℕ). a * 2 ^ k + b) (div-eq_of_lt next) (mod-eq_of_lt low) in
    let z : 0 * 2 ^ k + o ≡ o = omega arith in
    sym (e ∙ z)

-- what is above the bit, and what is below it
pub close_up : (k o : ℕ) → close k o / 2 ^ k ≡ o / 2 ^ (k + 1)
close_up k o = div-mul-add (o / 2 ^ (k + 1)) (2 ^ k) (o % 2 ^ k) (mod_below o (2 ^ k) (pow_pos k))

pub close_low : (k o : ℕ) → close k o % 2 ^ k ≡ o % 2 ^ k
close_low k o = mod-mul-add (o / 2 ^ (k + 1)) (2 ^ k) (o % 2 ^ k) (mod_below o (2 ^ k) (pow_pos k))
