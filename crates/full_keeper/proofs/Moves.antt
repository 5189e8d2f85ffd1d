-- Rows that are copied from one layout of the table to another.
use Rattle.std.proofs.Common.{◌≡◌, ◌≢◌, ℕ, ◌+◌, ◌-◌, ◌*◌, ◌/◌, ◌^◌, ◌<◌, ◌≤◌, min, get_or, None, Option, sym, refl, ap, ◌∙◌, subst, ⊎_elim, div-mul-le_self, le_of_mul-le-mul_right, mul-le-mul_right, arith, pow_pos, pow_mono, pow-add}
use Rattle.std.proofs.lemmas.Bool.{cases_lt}
use Rattle.utreexo.specs.declared.types.Value.{Value}
use Rattle.utreexo.specs.Forest.{rows}
use Rattle.place.proofs.Powers.{pow_next}
use Rattle.full_keeper.specs.Table.{Table, index, Laid}
use Rattle.full_keeper.proofs.Rows.{Fitting}
use Rattle.full_keeper.proofs.Indices.{Indexed, indexed, index_sum, index_0}

-- a row is no wider than its part of the table
width : (n R r : ℕ) → n ≤ 2 ^ R → r ≤ R → n / 2 ^ r ≤ 2 ^ (R - r)
width n R r top h =
    let e : R - r + r ≡ R = omega arith in
    let pow : 2 ^ (R - r) * 2 ^ r ≡ 2 ^ R = sym (pow-add 2 (R - r) r) ∙ ap (λ x. 2 ^ x) e in
    let under = div-mul-le_self n (2 ^ r) in
    le_of_mul-le-mul_right {k = 2 ^ r} (omega arith) (pow_pos r)

pub row_in : (n R r len : ℕ) → Fitting n R len → r ≤ R → index R r 0 + n / 2 ^ r ≤ len
row_in n R r len f h = let room = f.room in omega (arith, width n R r f.high h, index_sum R r (R - r) 0 (omega arith), pow_next R)

-- indices grow with R
grown : (R Q d : ℕ) → R ≤ Q → d ≤ R + 1 → 2 * 2 ^ R + 2 ^ (d + (Q - R)) ≤ 2 * 2 ^ Q + 2 ^ d
grown R Q d h g =
    let a : ℕ = Q - R in
    let e : Q ≡ a + R = omega arith in
    let x : ℕ = 2 * 2 ^ R - 2 ^ d in
    let low : x + 2 ^ d ≡ 2 * 2 ^ R = omega (arith, pow_mono g, pow_next R) in
    let all : 2 ^ a * (x + 2 ^ d) ≡ 2 ^ a * (2 * 2 ^ R) = ap (λ z. 2 ^ a * z) low in
    let more : 1 * x ≤ 2 ^ a * x = mul-le-mul_right x (pow_pos a) in
    let top : 2 ^ Q ≡ 2 ^ a * 2 ^ R = ap (λ z. 2 ^ z) e ∙ pow-add 2 a R in
    omega (arith, pow-add 2 d a)

-- a run stands before the next rows, also by a larger R
before : (R Q q r o d : ℕ) → R ≤ Q → q < r → r ≤ R → Indexed R q o d → index R q o < index Q r 0
before R Q q r o d h l g a =
    let e : ℕ = Q - r in
    let depth = a.depth in
    let small = a.small in
    let sum = a.sum in
    let p = pow_mono {i = e + 1} {j = d + (Q - R)} (omega arith) in
    omega (arith, index_sum Q r e 0 (omega arith), grown R Q d h (omega arith), pow_next e)

-- and past the rows before, also by a smaller R
after : (n R Q q r o d : ℕ) → Q ≤ R → r < q → r ≤ Q → n ≤ 2 ^ Q → Indexed R q o d → index Q r 0 + n / 2 ^ r ≤ index R q o
after n R Q q r o d h l g top a =
    let e : ℕ = Q - r in
    let depth = a.depth in
    let sum = a.sum in
    let p = pow_mono {i = d + 1} {j = e + (R - Q)} (omega arith) in
    omega (arith, index_sum Q r e 0 (omega arith), grown Q R e h (omega arith), pow_next d, width n Q r top g)

-- w entries of t are copied, and the others are left
pub record Copied (t u : Table) (from to w : ℕ) : Type 0 where
  pub hit : (o : ℕ) → o < w → get_or u (to + o) None ≡ get_or t (from + o) None
  pub before : (k : ℕ) → k < to → get_or u k None ≡ get_or t k None
  pub after : (k : ℕ) → to + w ≤ k → get_or u k None ≡ get_or t k None

-- what the slice call says of a copy
pub copied : (t u : Table) (from to w W F T : ℕ) → w ≡ W → from ≡ F → to ≡ T
    → ((k : ℕ) (d : Option Value) → to ≤ k → k < to + (from + w - from) → get_or u k d ≡ get_or t (from + (k - to)) d)
    → ((k : ℕ) (d : Option Value) → k < to → get_or u k d ≡ get_or t k d)
    → ((k : ℕ) (d : Option Value) → to + (from + w - from) ≤ k → get_or u k d ≡ get_or t k d) → Copied t u F T W
copied t u from to w W F T n e f a b c =
    record {
      hit = λ o h.
          let p : T + o ≡ to + o = omega arith in
          let q : from + (to + o - to) ≡ F + o = omega arith in
          ap (λ x. get_or u x None) p ∙ a (to + o) None (omega arith) (omega arith) ∙ ap (λ x. get_or t x None) q;
      before = λ k h. b k None (omega arith);
      after = λ k h. c k None (omega arith);
    }

-- a place past the row's first
index_at : (R r o : ℕ) → index R r o ≡ index R r 0 + o
index_at R r o = omega arith

-- Of L rows, from the last one if R grows from F to T, else from the first one, k are copied.
pub record Relaid (n F T L : ℕ) (t u : Table) (k : ℕ) : Type 0 where
  pub moved : (q o : ℕ) → (F < T → L < q + k) → (T < F → q ≤ k) → o < n / 2 ^ q → get_or u (index T q o) None ≡ get_or t (index F q o) None
  pub still : (q o : ℕ) → (F < T → q + k ≤ L) → (T < F → k < q) → o < n / 2 ^ q → get_or u (index F q o) None ≡ get_or t (index F q o) None

module _ (n F T : ℕ) (t : Table) (high : n ≤ 2 ^ F) (top : n ≤ 2 ^ T) (other : F ≢ T) where
  first_row : (u : Table) (o : ℕ) → get_or u (index F 0 o) None ≡ get_or t (index F 0 o) None → get_or u (index T 0 o) None ≡ get_or t (index F 0 o) None
  first_row u o e = ap (λ x. get_or u x None) (index_0 T o ∙ sym (index_0 F o)) ∙ e

  pub relaid_none : (L : ℕ) → L ≡ min F T → Relaid n F T L t t 0
  relaid_none L e =
      record {
        moved = λ q o h g w.
            let a = indexed n F q o high w in
            let d = a.1.depth in
            ⊎_elim (λ (l : F < T). absurd (let i = h l in omega arith))
            (λ (l : T ≤ F).
            let z : 0 ≡ q = let i = g (omega arith) in omega arith in
            subst (λ x. get_or t (index T x o) None ≡ get_or t (index F x o) None) z (first_row t o refl))
            (cases_lt F T);
        still = λ q o h g w. refl;
      }

  pub relaid_more : (u v : Table) (L k r : ℕ) → L ≡ min F T → r ≤ L → (F < T → r + k ≡ L) → (T < F → r ≡ k + 1) → Copied u v (index F r 0) (index T r 0) (n / 2 ^ r)
      → Relaid n F T L t u k → Relaid n F T L t v (k + 1)
  relaid_more u v L k r e low up down c was =
      record {
        moved = λ q o h g w.
            let a = indexed n T q o top w in
            let old : q ≢ r → get_or u (index T q o) None ≡ get_or t (index F q o) None = λ z.
            was.moved q o (λ l. let x = up l in let y = h l in omega arith) (λ l. let x = down l in let y = g l in omega arith) w in
            ⊎_elim (λ (l : q < r). c.before (index T q o) (before T T q r o a.0 (omega arith) l (omega arith) a.1) ∙ old (omega arith))
            (λ (l : r ≤ q).
            ⊎_elim (λ (m : r < q). c.after (index T q o) (after n T T q r o a.0 (omega arith) m (omega arith) top a.1) ∙ old (omega arith))
            (λ (m : q ≤ r).
            let z : r ≡ q = omega arith in
            let w' : o < n / 2 ^ r = subst (λ x. o < n / 2 ^ x) (sym z) w in
            subst (λ x. get_or v (index T x o) None ≡ get_or t (index F x o) None) z
            (ap (λ x. get_or v x None) (index_at T r o) ∙ c.hit o w' ∙ ap (λ x. get_or u x None) (sym (index_at F r o))
            ∙ was.still r o (λ x. let y = up x in omega arith) (λ x. let y = down x in omega arith) w'))
            (cases_lt r q))
            (cases_lt q r);
        still = λ q o h g w.
            let a = indexed n F q o high w in
            let left : get_or v (index F q o) None ≡ get_or u (index F q o) None =
            ⊎_elim (λ (l : F < T). c.before (index F q o) (let x = up l in let y = h l in before F T q r o a.0 (omega arith) (omega arith) (omega arith) a.1))
            (λ (l : T ≤ F).
            c.after (index F q o) (let m : T < F = omega arith in let x = down m in let y = g m in after n F T q r o a.0 l (omega arith) (omega arith) top a.1))
            (cases_lt F T) in
            left ∙ was.still q o (λ l. let y = h l in omega arith) (λ l. let y = g l in omega arith) w;
      }

  pub relaid_all : (u : Table) (L k : ℕ) → L ≡ min F T → k ≡ L → Relaid n F T L t u k → Laid n F T t u
  relaid_all u L k e f was q o w =
      let a = indexed n F q o high w in
      let b = indexed n T q o top w in
      let i = a.1.depth in
      let j = b.1.depth in
      ⊎_elim (λ (l : 0 < q). was.moved q o (λ m. omega arith) (λ m. omega arith) w)
      (λ (l : q ≤ 0).
      let z : 0 ≡ q = omega arith in
      subst (λ x. get_or u (index T x o) None ≡ get_or t (index F x o) None) z
      (⊎_elim (λ (m : F < T). first_row u o (was.still 0 o (λ x. omega arith) (λ x. omega arith) (subst (λ x. o < n / 2 ^ x) (sym z) w)))
      (λ (m : T ≤ F). was.moved 0 o (λ x. omega arith) (λ x. omega arith) (subst (λ x. o < n / 2 ^ x) (sym z) w)) (cases_lt F T)))
      (cases_lt 0 q)

-- the same by the counts of which F and T are the R
pub laid_by : (n a b F T : ℕ) (t u : Table) → F ≡ rows a → T ≡ rows b → Laid n F T t u → Laid n (rows a) (rows b) t u
laid_by n a b F T t u e f l = subst (λ x. Laid n x (rows b) t u) e (subst (λ x. Laid n F x t u) f l)
