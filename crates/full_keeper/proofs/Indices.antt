-- Where runs stand in a table.
use Rattle.std.proofs.Common.{◌≡◌, ℕ, ◌+◌, ◌-◌, ◌*◌, ◌/◌, ◌^◌, ◌<◌, ◌≤◌, sym, ap, ◌∙◌, subst, arith, pow_mono}
use Rattle.laws.proofs.Places.{up_shr}
use Rattle.laws.proofs.Positions.{in_rows}
use Rattle.place.proofs.Powers.{pow_next, length_once}
use Rattle.place.proofs.Numbers.{Numbered}
use Rattle.full_keeper.specs.Table.{index}
use Rattle.full_keeper.proofs.Rows.{Fitting}

-- place o of row r, d rows below the top
abbrev pub Indexed : ℕ → ℕ → ℕ → ℕ → Type 0
Indexed R r o d = Numbered R (index R r o) r o d

-- an index, counted from the end
pub index_sum : (R r d o : ℕ) → r + d ≡ R → index R r o + 2 * 2 ^ d ≡ 2 * 2 ^ R + o
index_sum R r d o e =
    let p : 2 ^ (R + 1 - r) ≡ 2 * 2 ^ d = ap (λ x. 2 ^ x) (omega arith) ∙ pow_next d in
    let w = pow_mono {i = d} {j = R} (omega arith) in
    omega (arith, pow_next R)

-- a run within n stands in the table
pub indexed : (n R r o : ℕ) → n ≤ 2 ^ R → o < n / 2 ^ r → (d : ℕ) × Indexed R r o d
indexed n R r o top h =
    let (l, small) = in_rows r R o n top (subst (λ x. o < x) (sym (up_shr r n)) h) in
    (R - r, record { depth = omega arith; small = small; wide = pow_mono {i = R - r} {j = R} (omega arith); sum = index_sum R r (R - r) o (omega arith) })

index_in : (R r o d : ℕ) → Indexed R r o d → index R r o < 2 ^ (R + 1)
index_in R r o d a = let x = a.sum in let i = a.small in let u = a.wide in omega (arith, pow_next R)

-- and no other stands there
pub index_once : (R r o d s q e : ℕ) → Indexed R r o d → Indexed R s q e → index R r o ≡ index R s q → (r ≡ s) × (o ≡ q)
index_once R r o d s q e a b same =
    let x = a.sum in
    let y = b.sum in
    let i = a.small in
    let j = b.small in
    let u = a.wide in
    let v = b.wide in
    let f : d ≡ e = length_once (2 * 2 ^ R - 1 - index R r o) d e (omega arith) (omega arith) (omega arith) (omega arith) in
    let pe = ap (λ z. 2 ^ z) f in
    let k = a.depth in
    let l = b.depth in
    (omega arith, omega arith)

-- row 0 stands at the front
pub index_0 : (R o : ℕ) → index R 0 o ≡ o
index_0 R o = let e = index_sum R 0 R o (omega arith) in omega arith

-- a run within n has its entry in a table with room for n slots
pub has_entry : (n R r o len : ℕ) → Fitting n R len → o < n / 2 ^ r → index R r o < len
has_entry n R r o len f h = let m = f.room in let a = indexed n R r o f.high h in omega (arith, index_in R r o a.0 a.1)

pub in_row : (n R r o : ℕ) → n ≤ 2 ^ R → R ≤ 32 → o < n / 2 ^ r → (r ≤ R) × (o < 2 ^ 33)
in_row n R r o top low h =
    let a = indexed n R r o top h in
    let d = a.1.depth in
    let s = a.1.small in
    let w = a.1.wide in
    (omega arith, omega (arith, pow_mono {i = R} {j = 32} low))
