-- Powers of two, and R from the length of the count in bits.
use Rattle.std.proofs.Common.{◌≡◌, ℕ, zero, suc, ◌+◌, ◌-◌, ◌*◌, ◌%◌, ◌^◌, ◌<◌, ◌≤◌, cond, leb, ◌⊎◌, sym, ap, ◌∙◌, subst, inl, inr, arith, pow_pos, pow_mono}
use native.Mathlib.Nat.{pow-succ'}
use Rattle.std.proofs.lemmas.Nat.{shl_whole}
use Rattle.std.proofs.lemmas.Bool.{le-leb, lt-leb, cases_lt}
use Rattle.utreexo.specs.Forest.{least_from, rows}

pub pow_next : (k : ℕ) → 2 ^ (k + 1) ≡ 2 * 2 ^ k
pow_next k = let e : k + 1 ≡ suc k = omega arith in ap (λ x. 2 ^ x) e ∙ pow-succ' 2 k

-- a smaller power has a smaller exponent
pub pow_less : (i j : ℕ) → 2 ^ i < 2 ^ j → i < j
pow_less i j h = elim (cases_lt i j) [ inl l ↦ l | inr g ↦ absurd (omega (arith, pow_mono g)) ]

-- a number has one length in bits
pub length_once : (q a b : ℕ) → 2 ^ a ≤ q → q < 2 * 2 ^ a → 2 ^ b ≤ q → q < 2 * 2 ^ b → a ≡ b
length_once q a b la ha lb hb =
    let x = pow_less a (b + 1) (omega (arith, pow_next b)) in
    let y = pow_less b (a + 1) (omega (arith, pow_next a)) in
    omega arith

-- `2 << k` at 64 bits
pub double_shl : (k : ℕ) → k ≤ 32 → (2 * 2 ^ k) % 2 ^ 64 ≡ 2 * 2 ^ k
double_shl k h = shl_whole 2 2 k 64 (omega arith) (omega arith)

least_is : (f k n m : ℕ) → k ≤ m → m ≤ k + f → n ≤ 2 ^ m → ((j : ℕ) → j < m → 2 ^ j < n) → least_from f k n ≡ m
least_is zero k n m a b e h = omega arith
least_is (suc f) k n m a b e h = go (cases_lt k m) (λ c. least_is f (suc k) n m c (omega arith) e h)
  where
    go : (k < m) ⊎ (m ≤ k) → (suc k ≤ m → least_from f (suc k) n ≡ m) → cond (leb n (2 ^ k)) k (least_from f (suc k) n) ≡ m
    go (inl l) ih = rw (lt-leb n (2 ^ k) (h k l)) (ih l)
    go (inr l) ih = let s : m ≡ k = omega arith in rw (le-leb n (2 ^ k) (subst (λ x. n ≤ 2 ^ x) s e)) (sym s)

-- R is the length in bits of n - 1
pub rows_is : (n m : ℕ) → m ≤ 32 → n - 1 < 2 ^ m → 2 ^ m ≤ 2 * (n - 1) + 1 → m ≡ rows n
rows_is n m b h g = sym (least_is 33 0 n m (omega arith) (omega arith) (omega arith) (λ j l. omega (arith, pow_mono l, pow-succ' 2 j, pow_pos j)))
