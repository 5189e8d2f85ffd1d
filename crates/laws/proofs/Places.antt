-- Places of a row: halves, siblings, the place some rows higher.
use Rattle.std.proofs.Common.{◌≡◌, ℕ, zero, suc, ◌+◌, ◌-◌, ◌*◌, ◌/◌, ◌%◌, ◌^◌, ◌<◌, ◌≤◌, sym, refl, ap, ◌∙◌, subst, div-one, one-add, arith, shr-shr}
use Rattle.laws.proofs.Place.{up, sib}

-- the halves and the low bits of the two children
pub half_even : (h : ℕ) → 2 * h / 2 ≡ h
half_even h = omega arith

pub half_odd : (h : ℕ) → (2 * h + 1) / 2 ≡ h
half_odd h = omega arith

pub mod_even : (h : ℕ) → 2 * h % 2 ≡ 0
mod_even h = omega arith

pub mod_odd : (h : ℕ) → (2 * h + 1) % 2 ≡ 1
mod_odd h = omega arith

-- siblings
pub sib_even : (h : ℕ) → sib (2 * h) ≡ 2 * h + 1
unfolding sib
sib_even h = omega arith

pub sib_odd : (h : ℕ) → sib (2 * h + 1) ≡ 2 * h
unfolding sib
sib_odd h = omega arith

pub sib_half : (o : ℕ) → sib o / 2 ≡ o / 2
unfolding sib
sib_half o = omega arith

pub sib_mod : (o : ℕ) → sib o % 2 ≡ 1 - o % 2
unfolding sib
sib_mod o = omega arith

pub sib_sib : (o : ℕ) → sib (sib o) ≡ o
unfolding sib
sib_sib o = omega arith

-- to prove something of each place, prove it of the two children of each
pub by_half : (P : ℕ → Type 0) → ((h : ℕ) → P (2 * h)) → ((h : ℕ) → P (2 * h + 1)) → (o : ℕ) → P o
by_half P even odd o = go (o % 2) refl
  where
    go : (b : ℕ) → o % 2 ≡ b → P o
    go zero e = let q : 2 * (o / 2) ≡ o = omega arith in subst P q (even (o / 2))
    go (suc b) e = let q : 2 * (o / 2) + 1 ≡ o = omega arith in subst P q (odd (o / 2))

-- a place made from the place above and the low bit
pub with_bit_half : (q o : ℕ) → (2 * q + o % 2) / 2 ≡ q
with_bit_half q o = omega arith

pub with_bit_mod : (q o : ℕ) → (2 * q + o % 2) % 2 ≡ o % 2
with_bit_mod q o = omega arith

-- the place some rows higher
pub up_suc : (f o : ℕ) → up (suc f) o ≡ up f o / 2
up_suc zero o = refl
up_suc (suc f) o = up_suc f (o / 2)

pub up_lt : (r i n : ℕ) → up r i < up r n → i < n
up_lt zero i n l = l
up_lt (suc r) i n l = omega (arith, up_lt r (i / 2) (n / 2) l)

pub up_add : (j f k i : ℕ) → j + f ≡ k → up k i ≡ up f (up j i)
up_add zero f k i e = let q : k ≡ f = omega arith in rw q
up_add (suc j) f zero i e = absurd (omega arith)
up_add (suc j) f (suc k) i e = up_add j f k (i / 2) (omega arith)

-- the place above nothing, and above what is low
pub up_nil : (g : ℕ) → up g 0 ≡ 0
up_nil zero = refl
up_nil (suc g) = up_nil g

pub up_small : (f n : ℕ) → n < 2 ^ f → up f n ≡ 0
up_small zero n l = omega arith
up_small (suc f) n l = up_small f (n / 2) (omega arith)

-- the same by a shift
pub up_shr : (f o : ℕ) → up f o ≡ o / 2 ^ f
up_shr zero o = sym (div-one o)
up_shr (suc f) o = up_shr f (o / 2) ∙ shr-shr o 1 f ∙ ap (λ x. o / 2 ^ x) (one-add f)

twice : (f x : ℕ) → x * 2 ^ suc f ≡ 2 * (x * 2 ^ f)
twice f x = let e : 2 ^ suc f ≡ 2 * 2 ^ f = omega arith in rw e (omega arith)

-- the run (r, h) spans h * 2 ^ r to (h + 1) * 2 ^ r
pub up_span : (f o h : ℕ) → h * 2 ^ f ≤ o → o < h * 2 ^ f + 2 ^ f → up f o ≡ h
up_span zero o h l g = omega arith
up_span (suc f) o h l g = up_span f (o / 2) h (omega (arith, twice f h)) (omega (arith, twice f h))
