-- Booleans and options: cases, and what cannot be.
use Rattle.std.proofs.Common.{◌≡◌, ℕ, ◌<◌, ◌≤◌, Bool, true, false, ◌||◌, eqb, ltb, ◌⊎◌, Some, None, sym, refl, inl, inr, arith}
use Rattle.std.proofs.lemmas.Bool.{eq-eqb, ne_eqb, lt-ltb, le-ltb, cases_eq, cases_lt}

-- two Booleans that are true together are one
pub iff_bool : (a b : Bool) → (a ≡ true → b ≡ true) → (b ≡ true → a ≡ true) → a ≡ b
iff_bool true b f g = sym (f refl)
iff_bool false true f g = g refl
iff_bool false false f g = refl

-- a disjunction: split at its first part, turned round, and with one part known
pub or_split : (a b : Bool) → (a || b) ≡ true → (a ≡ true) ⊎ ((a ≡ false) × (b ≡ true))
or_split true b e = inl refl
or_split false b e = inr (refl, e)

pub or_flip : (a b : Bool) → (a || b) ≡ true → (b || a) ≡ true
or_flip true true e = refl
or_flip true false e = refl
or_flip false true e = refl
or_flip false false e = e

-- what cannot be
pub true_false : (b : Bool) → b ≡ true → b ≡ false → ⊥
true_false b p q = let z : ◌≡◌ {A = ℕ} 0 1 = cc in omega arith

-- a test of two numbers, with what it tells
abbrev pub EqbCases : ℕ → ℕ → Type 0
EqbCases m n = ((eqb m n ≡ true) × (m ≡ n)) ⊎ ((eqb m n ≡ false) × (¬ (m ≡ n)))

abbrev pub LtbCases : ℕ → ℕ → Type 0
LtbCases m n = ((ltb m n ≡ true) × (m < n)) ⊎ ((ltb m n ≡ false) × (n ≤ m))

pub eqb_cases : (m n : ℕ) → EqbCases m n
eqb_cases m n = elim (cases_eq m n) [ inl e ↦ inl (eq-eqb m n e, e) | inr e ↦ inr (ne_eqb m n e, e) ]

pub ltb_cases : (m n : ℕ) → LtbCases m n
ltb_cases m n = elim (cases_lt m n) [ inl l ↦ inl (lt-ltb m n l, l) | inr l ↦ inr (le-ltb m n l, l) ]

pub never : {A : Type 0} (a : A) → None ≡ Some a → ⊥
never a e = let z : ◌≡◌ {A = ℕ} 0 1 = cc in omega arith

-- two options that are one
pub some_inj : {A : Type 0} (a b : A) → Some a ≡ Some b → a ≡ b
some_inj a b e = cc

pub or_false : (b : Bool) → (b || false) ≡ b
or_false true = refl
or_false false = refl

pub or_true : (b : Bool) → (b || true) ≡ true
or_true true = refl
or_true false = refl
