-- The tests of equality on coins, values and inputs are exact.
use Rattle.std.proofs.Common.{◌≡◌, ℕ, true, false, ◌&&◌, eqb, List, [], ◌∷◌, refl, ap, subst, ap₂}
use Rattle.std.proofs.lemmas.Bool.{eq-eqb, eqb-true, and_parts}
use Rattle.utreexo.specs.declared.types.Coin.{Coin}
use Rattle.utreexo.specs.declared.types.Input.{Input}
use Rattle.utreexo.specs.declared.types.Input.TheVariants.{Leaf, Pair}
use Rattle.utreexo.specs.declared.types.Value.{Value}
use Rattle.utreexo.specs.Values.{same_value, same_coin, same_input}
use Rattle.utreexo.specs.Collection.{same_values}
use Rattle.laws.proofs.Logic.{true_false}

-- four words
words_eq : (a0 a1 a2 a3 b0 b1 b2 b3 : ℕ) → (eqb a0 b0 && (eqb a1 b1 && (eqb a2 b2 && eqb a3 b3))) ≡ true
    → (a0 ≡ b0) × (a1 ≡ b1) × (a2 ≡ b2) × (a3 ≡ b3)
words_eq a0 a1 a2 a3 b0 b1 b2 b3 e =
    let (x, f) = and_parts (eqb a0 b0) (eqb a1 b1 && (eqb a2 b2 && eqb a3 b3)) e in
    let (y, g) = and_parts (eqb a1 b1) (eqb a2 b2 && eqb a3 b3) f in
    let (z, w) = and_parts (eqb a2 b2) (eqb a3 b3) g in
    (eqb-true a0 b0 x, eqb-true a1 b1 y, eqb-true a2 b2 z, eqb-true a3 b3 w)

words_refl : (a b c d : ℕ) → (eqb a a && (eqb b b && (eqb c c && eqb d d))) ≡ true
words_refl a b c d = rw (eq-eqb a a refl, eq-eqb b b refl, eq-eqb c c refl, eq-eqb d d refl)

-- two values
pub value_eq : (a b : Value) → same_value a b ≡ true → a ≡ b
value_eq a b e =
    let (p, q, r, s) = words_eq a.w0 a.w1 a.w2 a.w3 b.w0 b.w1 b.w2 b.w3 e in
    λ i. record { w0 = p i; w1 = q i; w2 = r i; w3 = s i }

pub value_refl : (a : Value) → same_value a a ≡ true
value_refl a = words_refl a.w0 a.w1 a.w2 a.w3

pub eq_value : (a b : Value) → a ≡ b → same_value a b ≡ true
eq_value a b e = subst (λ x. same_value a x ≡ true) e (value_refl a)

-- two coins
pub coin_eq : (a b : Coin) → same_coin a b ≡ true → a ≡ b
coin_eq a b e =
    let (p, q, r, s) = words_eq a.w0 a.w1 a.w2 a.w3 b.w0 b.w1 b.w2 b.w3 e in
    λ i. record { w0 = p i; w1 = q i; w2 = r i; w3 = s i }

pub coin_refl : (a : Coin) → same_coin a a ≡ true
coin_refl a = words_refl a.w0 a.w1 a.w2 a.w3

pub eq_coin : (a b : Coin) → a ≡ b → same_coin a b ≡ true
eq_coin a b e = subst (λ x. same_coin a x ≡ true) e (coin_refl a)

-- two inputs
pub input_eq : (x y : Input) → same_input x y ≡ true → x ≡ y
input_eq (Leaf a) (Leaf b) e = ap (λ c. Leaf c) (coin_eq a b e)
input_eq (Leaf a) (Pair l r) e = absurd (true_false false e refl)
input_eq (Pair l r) (Leaf b) e = absurd (true_false false e refl)
input_eq (Pair l r) (Pair k s) e =
    let (p, q) = and_parts (same_value l k) (same_value r s) e in ap₂ (λ a b. Pair a b) (value_eq l k p) (value_eq r s q)

pub input_refl : (x : Input) → same_input x x ≡ true
input_refl (Leaf a) = coin_refl a
input_refl (Pair l r) = rw (value_refl l, value_refl r)

pub input_apart : (x y : Input) → same_input x y ≡ false → ¬ (x ≡ y)
input_apart x y e q = true_false (same_input x y) (subst (λ z. same_input x z ≡ true) q (input_refl x)) e

-- two lists of values
pub values_eq : (xs ys : List Value) → same_values xs ys ≡ true → xs ≡ ys
values_eq [] [] e = refl
values_eq [] (y ∷ ys) e = absurd (true_false false e refl)
values_eq (x ∷ xs) [] e = absurd (true_false false e refl)
values_eq (x ∷ xs) (y ∷ ys) e =
    let (p, q) = and_parts (same_value x y) (same_values xs ys) e in ap₂ (λ a b. a ∷ b) (value_eq x y p) (values_eq xs ys q)

pub values_refl : (xs : List Value) → same_values xs xs ≡ true
values_refl [] = refl
values_refl (x ∷ xs) = rw (value_refl x, values_refl xs)

pub eq_values : (a b : List Value) → a ≡ b → same_values a b ≡ true
eq_values a b e = subst (λ x. same_values a x ≡ true) e (values_refl a)
