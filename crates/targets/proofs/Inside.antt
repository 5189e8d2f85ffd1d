-- Places of the forest: those below n / 2 ^ row; their numbers, row after row.
use Rattle.std.proofs.Common.{◌≡◌, ℕ, zero, suc, ◌+◌, ◌-◌, ◌*◌, ◌/◌, ◌^◌, ◌<◌, ◌≤◌, true, false, is_some, Some, None, Option, sym, refl, ap, ◌∙◌, arith, pow_pos, pow_mono, shr-shr}
use native.Mathlib.Nat.{div-eq_of_lt, pow-succ'}
use Rattle.std.proofs.lemmas.Bool.{ltb-true, lt-ltb}
use Rattle.utreexo.specs.Forest.{Node, at_node, position, rows, locate, tree_of}
use Rattle.laws.proofs.Logic.{true_false}
use Rattle.laws.proofs.Places.{up_shr}
use Rattle.laws.proofs.Positions.{rows_ok, in_rows, locate_is, over_in_row}
use Rattle.laws.proofs.Laws.{one_position, inside_exactly}

-- a row up there are half as many places
pub half_row : (n r : ℕ) → n / 2 ^ suc r ≡ n / 2 ^ r / 2
half_row n r = ap (λ x. n / 2 ^ x) (omega arith) ∙ sym (shr-shr n r 1)

pub tree_inside : (n r o : ℕ) → n < 2 ^ 32 → is_some (tree_of n (at_node r o)) ≡ true → o < n / 2 ^ r
tree_inside n r o h e = ltb-true o (n / 2 ^ r) (sym (inside_exactly n r o h) ∙ e)

pub inside_tree : (n r o : ℕ) → n < 2 ^ 32 → o < n / 2 ^ r → is_some (tree_of n (at_node r o)) ≡ true
inside_tree n r o h l = inside_exactly n r o h ∙ lt-ltb o (n / 2 ^ r) l

pub row_low : (n r o : ℕ) → n < 2 ^ 32 → o < n / 2 ^ r → r < 32
row_low n r o h l = go (32 - r) refl
  where
    go : (d : ℕ) → 32 - r ≡ d → r < 32
    go zero e = let q : n / 2 ^ r ≡ 0 = div-eq_of_lt (omega (arith, pow_mono {i = 32} {j = r} (omega arith))) in absurd (omega arith)
    go (suc d) e = omega arith

-- Numbers --------------------------------------------------------------------------

-- a place of the forest, d rows below the top of the numbering
record Low (n r o d : ℕ) : Type 0 where
  within : o < 2 ^ d
  width : 2 ^ (rows n + 1 - r) ≡ 2 * 2 ^ d
  above : 2 ^ (rows n + 1 - suc r) ≡ 2 ^ d
  room : 2 * 2 ^ d ≤ 2 ^ (rows n + 1)

low : (n r o : ℕ) → n < 2 ^ 32 → o < n / 2 ^ r → Low n r o (rows n - r)
low n r o h l =
    let (a, b) = in_rows r (rows n) o n (rows_ok n h) (rw (up_shr r n) l) in
    record {
      within = b;
      width = ap (λ x. 2 ^ x) (omega arith) ∙ pow-succ' 2 (rows n - r);
      above = ap (λ x. 2 ^ x) (omega arith);
      room = omega (arith, pow-succ' 2 (rows n - r), pow_mono {i = suc (rows n - r)} {j = rows n + 1} (omega arith));
    }

-- the row above begins after it
pub number_next : (n r o : ℕ) → n < 2 ^ 32 → o < n / 2 ^ r → position n r o < position n (suc r) 0
number_next n r o h l = let s = low n r o h l in omega (arith, pow_pos (rows n - r))

pub number_up : (n r s : ℕ) → r ≤ s → position n r 0 ≤ position n s 0
number_up n r s l = omega (arith, pow_mono {i = rows n + 1 - s} {j = rows n + 1 - r} (omega arith))

pub number_low : (n r o : ℕ) → n < 2 ^ 32 → o < n / 2 ^ r → position n r o < 2 ^ (rows n + 1) - 1
number_low n r o h l = let s = low n r o h l in omega (arith, pow_pos (rows n - r))

pub locates : (n r o : ℕ) → n < 2 ^ 32 → o < n / 2 ^ r → locate n (position n r o) ≡ Some (at_node r o)
locates n r o h l = go (tree_of n (at_node r o)) refl (inside_tree n r o h l)
  where
    go : (z : Option ℕ) → tree_of n (at_node r o) ≡ z → is_some z ≡ true → locate n (position n r o) ≡ Some (at_node r o)
    go None e q = absurd (true_false false q refl)
    go (Some k) e q = one_position.0 n r o k h e

pub record Located (n p : ℕ) (e : Node) : Type 0 where
  pub here : position n e.row e.place ≡ p
  pub inside : e.place < n / 2 ^ e.row

pub located : (n p : ℕ) (e : Node) → locate n p ≡ Some e → Located n p e
located n p e q =
    let f = locate_is n p e q in
    record { here = f.number; inside = rw (← up_shr e.row n) (over_in_row n e.row e.place f.top f.over) }
