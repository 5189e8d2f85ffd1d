-- What `mix`, `round`, `rounds` and `F` give, from what the code has after each of its steps.
use Rattle.std.proofs.Common.{◌≡◌, ℕ, ◌+◌, ◌%◌, ◌^◌, Bool, List, [], ◌∷◌, length, take, drop, map, refl, sym, ap, ◌∙◌}
use lib.Bits.{bit_xor}
use lib.Lanes.{zip2}
use Rattle.std.specs.List.{range_with_len}
use Rattle.blake2s.specs.Blake2s.{at, rotate_right, mix, G, round, SIGMA, in_order, rounds, start, F}
use Rattle.blake2s.proofs.Arrays.{elements}

pub mixed : (a b c d x y a₁ d₁ c₁ b₁ a₂ d₂ c₂ b₂ : ℕ) → a₁ ≡ (a + b + x) % 2 ^ 32 → d₁ ≡ rotate_right 16 (bit_xor d a₁) → c₁ ≡ (c + d₁) % 2 ^ 32 → b₁ ≡ rotate_right 12 (bit_xor b c₁) → a₂ ≡ (a₁ + b₁ + y) % 2 ^ 32 → d₂ ≡ rotate_right 8 (bit_xor d₁ a₂) → c₂ ≡ (c₁ + d₂) % 2 ^ 32 → b₂ ≡ rotate_right 7 (bit_xor b₁ c₂) → ◌≡◌ {A = ℕ × ℕ × ℕ × ℕ} (a₂, b₂, c₂, d₂) (mix a b c d x y)
unfolding mix
mixed a b c d x y a₁ d₁ c₁ b₁ a₂ d₂ c₂ b₂ p₁ p₂ p₃ p₄ p₅ p₆ p₇ p₈ = rw (p₈, p₇, p₆, p₅, p₄, p₃, p₂, p₁)

-- the four columns, then the four diagonals
pub rounded : (v m : List ℕ) (q₀ q₁ q₂ q₃ q₄ q₅ q₆ q₇ : ℕ × ℕ × ℕ × ℕ) → length v ≡ 16 → q₀ ≡ mix (at v 0) (at v 4) (at v 8) (at v 12) (at m 0) (at m 1) → q₁ ≡ mix (at v 1) (at v 5) (at v 9) (at v 13) (at m 2) (at m 3) → q₂ ≡ mix (at v 2) (at v 6) (at v 10) (at v 14) (at m 4) (at m 5) → q₃ ≡ mix (at v 3) (at v 7) (at v 11) (at v 15) (at m 6) (at m 7) → q₄ ≡ mix q₀.0 q₁.1 q₂.2 q₃.3 (at m 8) (at m 9) → q₅ ≡ mix q₁.0 q₂.1 q₃.2 q₀.3 (at m 10) (at m 11) → q₆ ≡ mix q₂.0 q₃.1 q₀.2 q₁.3 (at m 12) (at m 13) → q₇ ≡ mix q₃.0 q₀.1 q₁.2 q₂.3 (at m 14) (at m 15) → q₄.0 ∷ q₅.0 ∷ q₆.0 ∷ q₇.0 ∷ q₇.1 ∷ q₄.1 ∷ q₅.1 ∷ q₆.1 ∷ q₆.2 ∷ q₇.2 ∷ q₄.2 ∷ q₅.2 ∷ q₅.3 ∷ q₆.3 ∷ q₇.3 ∷ q₄.3 ∷ [] ≡ round m v
unfolding G round
rounded v m q₀ q₁ q₂ q₃ q₄ q₅ q₆ q₇ long p₀ p₁ p₂ p₃ p₄ p₅ p₆ p₇ =
    rw (p₇, p₆, p₅, p₄, p₃, p₂, p₁, p₀, elements v 16 long)

-- a round, and those after it
pub next : (s : List ℕ) (ss : List (List ℕ)) (m v w v' r : List ℕ) → w ≡ in_order s m → v' ≡ round w v → r ≡ rounds ss m v' → r ≡ rounds (s ∷ ss) m v
unfolding rounds
next s ss m v w v' r o p q = q ∙ ap (rounds ss m) (p ∙ ap (λ x. round x v) o)

pub done : (m v : List ℕ) → v ≡ rounds [] m v
unfolding rounds
done m v = refl

-- the state after a block, from the vector v before the rounds and the vector w after them
pub compressed : (h m v w r : List ℕ) (t : ℕ) (final : Bool) → length h ≡ 8 → length w ≡ 16 → v ≡ start (map (at h) (range_with_len 0 8)) t final → w ≡ rounds SIGMA m v → r ≡ map (λ i. bit_xor (bit_xor (at h i) (at w i)) (at w (i + 8))) (range_with_len 0 8) → r ≡ F h m t final
unfolding F
compressed h m v w r t final long long' p q s =
    let joined = λ (x y : List ℕ). zip2 bit_xor (zip2 bit_xor x (take 8 y)) (drop 8 y) in
    let e : map (at h) (range_with_len 0 8) ≡ h = sym (elements h 8 long) in
    let f : map (at w) (range_with_len 0 16) ≡ w = sym (elements w 16 long') in
    let j : r ≡ joined (map (at h) (range_with_len 0 8)) (map (at w) (range_with_len 0 16)) = s in
    j ∙ ap (λ x. joined x (map (at w) (range_with_len 0 16))) e ∙ ap (joined h) (f ∙ q ∙ ap (rounds SIGMA m) (p ∙ ap (λ x. start x t final) e))
