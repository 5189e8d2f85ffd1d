-- What a change of the slots, or of the table, leaves stored.
use Rattle.std.proofs.Common.{◌≡◌, ℕ, zero, suc, ◌+◌, ◌-◌, ◌*◌, ◌/◌, ◌^◌, ◌<◌, ◌≤◌, min, [], ◌∷◌, ◌++◌, length, get_or, take, set, None, Option, sym, ap, ◌∙◌, subst, ⊎_elim, le_of_mul-le-mul_right, arith, length-append, length-set, length-take, pow_pos, shr-shr}
use native.Mathlib.Nat.{lt-div-mul-add}
use lib.Pow.{shr_mono}
use Rattle.std.proofs.lemmas.List.{get_or-set_same, get_or-set_other, get_or_append_left, get_or-take}
use Rattle.std.proofs.lemmas.Bool.{cases_lt, cases_eq}
use Rattle.utreexo.specs.declared.types.Coin.{Coin}
use Rattle.utreexo.specs.declared.types.Value.{Value}
use Rattle.utreexo.specs.Values.{Image}
use Rattle.utreexo.specs.Forest.{Slots, leaf_value, value_over, rows}
use Rattle.keeper.proofs.Runs.{run_up, run_out}
use Rattle.full_keeper.specs.Table.{Table, index, AtPositions, Stored, StoredBut, Laid}
use Rattle.full_keeper.proofs.Rows.{Fitting}
use Rattle.full_keeper.proofs.Indices.{indexed, index_once, has_entry}

module _ (image : Image) where
  -- a value is worked out from the slots of its run alone
  value_local : (s t : Slots) (r o : ℕ) → ((k : ℕ) → k / 2 ^ r ≡ o → get_or s k None ≡ get_or t k None) → value_over image s r o ≡ value_over image t r o
  value_local s t zero o h = ap (leaf_value image) (h o (omega arith))
  value_local s t (suc r) o h =
      let a = value_local s t r (2 * o) (λ k e. h k (let u = run_up k r in omega arith)) in
      let b = value_local s t r (2 * o + 1) (λ k e. h k (let u = run_up k r in omega arith)) in
      cc

  -- the entry of row j over slot i is written
  pub stored_step : (s : Slots) (R : ℕ) (t : Table) (i j : ℕ) (v : Option Value) → Fitting (length s) R (length t)
      → StoredBut image s R t i j → i / 2 ^ j < length s / 2 ^ j → v ≡ value_over image s j (i / 2 ^ j)
      → StoredBut image s R (set t (index R j (i / 2 ^ j)) v) i (j + 1)
  stored_step s R t i j v fit was h e r o g ok =
      let top = fit.high in
      let p : ℕ = i / 2 ^ j in
      let here = indexed (length s) R j p top h in
      let there = indexed (length s) R r o top g in
      let in_table = has_entry (length s) R j p (length t) fit h in
      ⊎_elim
      (λ (same : index R r o ≡ index R j p).
      let q = index_once R r o there.0 j p here.0 there.1 here.1 same in
      let w = get_or-set_same t (index R j p) v None (omega arith) in
      let a = q.0 in
      let b = q.1 in
      cc)
      (λ differ.
      get_or-set_other t (index R j p) (index R r o) v None differ
      ∙ was r o g (λ l f. ⊎_elim (λ (m : j < r). ok (omega arith) f) (λ (m : r ≤ j). differ (let z : r ≡ j = omega arith in cc)) (cases_lt j r)))
      (cases_eq (index R r o) (index R j p))

  -- the runs above one that passes the count pass it too
  pub stored_all : (s : Slots) (R : ℕ) (t : Table) (i j : ℕ) → StoredBut image s R t i j → length s / 2 ^ j ≤ i / 2 ^ j → Stored image s R t
  stored_all s R t i j was h r o g =
      was r o g (λ l f.
      let e : j + (r - j) ≡ r = omega arith in
      let a : length s / 2 ^ j / 2 ^ (r - j) ≡ length s / 2 ^ r = shr-shr (length s) j (r - j) ∙ ap (λ x. length s / 2 ^ x) e in
      let b : i / 2 ^ j / 2 ^ (r - j) ≡ i / 2 ^ r = shr-shr i j (r - j) ∙ ap (λ x. i / 2 ^ x) e in
      let m = shr_mono (r - j) h in
      omega arith)

  stored_set : (s : Slots) (R : ℕ) (t : Table) (i : ℕ) (x : Option Coin) → Stored image s R t → StoredBut image (set s i x) R t i 0
  stored_set s R t i x was r o g ok =
      let n = length-set s i x in
      let within : o < length s / 2 ^ r = subst (λ z. o < z / 2 ^ r) n g in
      was r o within
      ∙ value_local s (set s i x) r o (λ k e. sym (get_or-set_other s i k x None (λ z. ok (omega arith) (ap (λ y. y / 2 ^ r) (sym z) ∙ e))))

  -- every run that is new within the count holds the new slot
  stored_push : (s : Slots) (R : ℕ) (t : Table) (x : Option Coin) → Stored image s R t → StoredBut image (s ++ (x ∷ [])) R t (length s) 0
  stored_push s R t x was r o g ok =
      let n : ℕ = length s in
      let N : ℕ = n / 2 ^ r in
      let size : length (s ++ (x ∷ [])) ≡ n + 1 = length-append s (x ∷ []) in
      let g' : o < (n + 1) / 2 ^ r = subst (λ z. o < z / 2 ^ r) size g in
      let over = run_out (n + 1) r o g' in
      let near : n < N * 2 ^ r + 2 ^ r = lt-div-mul-add (pow_pos r) in
      let most : o ≤ N = le_of_mul-le-mul_right {k = 2 ^ r} (omega arith) (pow_pos r) in
      let other : N ≡ o → ⊥ = ok (omega arith) in
      let within : o < N = ⊎_elim (λ (l : o < N). l) (λ (l : N ≤ o). absurd (other (omega arith))) (cases_lt o N) in
      was r o within
      ∙ value_local s (s ++ (x ∷ [])) r o (λ k e.
      sym (get_or_append_left s (x ∷ []) None k (⊎_elim (λ (l : k < n). l) (λ (l : n ≤ k). absurd (let m = shr_mono r l in omega arith)) (cases_lt k n))))

  -- slots are dropped from the end
  stored_take : (s : Slots) (R : ℕ) (t : Table) (m : ℕ) → m ≤ length s → Stored image s R t → Stored image (take m s) R t
  stored_take s R t m h was r o g =
      let size : length (take m s) ≡ m = simp length-take (omega arith) in
      let g' : o < m / 2 ^ r = subst (λ z. o < z / 2 ^ r) size g in
      was r o (let a = shr_mono r h in omega arith)
      ∙ value_local s (take m s) r o (λ k e.
      sym (get_or-take m s k None (⊎_elim (λ (l : k < m). l) (λ (l : m ≤ k). absurd (let a = shr_mono r l in omega arith)) (cases_lt k m))))

  -- What the calls of the keeper keep: from slots s and table T to slots t and table U ----

  pub set_kept : (s t : Slots) (T : Table) (i : ℕ) (x : Option Coin) → t ≡ set s i x → AtPositions image s T → StoredBut image t (rows (length t)) T i 0
  set_kept s t T i x e was =
      let n : length t ≡ length s = ap length e ∙ length-set s i x in
      subst (λ k. StoredBut image t (rows k) T i 0) (sym n) (subst (λ y. StoredBut image y (rows (length s)) T i 0) (sym e) (stored_set s (rows (length s)) T i x was))

  -- a table that is laid anew, read and written through a slice
  laid_kept : (s : Slots) (T T' U U' : Table) (m a b : ℕ) → T' ≡ T → U' ≡ U → m ≡ length s → Laid m (rows a) (rows b) T' U → Stored image s (rows a) T → Stored image s (rows b) U'
  laid_kept s T T' U U' m a b e f l laid was r o g =
      ap (λ y. get_or y (index (rows b) r o) None) f ∙ laid r o (subst (λ x. o < x / 2 ^ r) (sym l) g) ∙ ap (λ y. get_or y (index (rows a) r o) None) e ∙ was r o g

  pub push_kept : (s t : Slots) (T T' U U' : Table) (n : ℕ) (x : Option Coin) → n ≡ length s → t ≡ s ++ (x ∷ []) → T' ≡ T → U' ≡ U
      → Laid (min n (n + 1)) (rows n) (rows (n + 1)) T' U → AtPositions image s T → StoredBut image t (rows (length t)) U' n 0
  push_kept s t T T' U U' n x z e f h laid was =
      let size : length t ≡ n + 1 = simp (e, length-append) (omega arith) in
      let a : Stored image s (rows n) T = subst (λ k. Stored image s (rows k) T) (sym z) was in
      let b = laid_kept s T T' U U' (min n (n + 1)) n (n + 1) f h (omega arith) laid a in
      let d = stored_push s (rows (n + 1)) U' x b in
      subst (λ k. StoredBut image t (rows k) U' n 0) (sym size)
      (subst (λ y. StoredBut image y (rows (n + 1)) U' n 0) (sym e) (subst (λ k. StoredBut image (s ++ (x ∷ [])) (rows (n + 1)) U' k 0) (sym z) d))

  pub cut_kept : (s t : Slots) (T T' U U' : Table) (n : ℕ) → 0 < length s → n ≡ length t → t ≡ take (length s - 1) s → T' ≡ T → U' ≡ U
      → Laid (min (n + 1) n) (rows (n + 1)) (rows n) T' U → AtPositions image s T → AtPositions image t U'
  cut_kept s t T T' U U' n pos z e f h laid was =
      let m : ℕ = length s - 1 in
      let size : length t ≡ m = ap length e ∙ simp length-take (omega arith) in
      let up : length s ≡ n + 1 = omega arith in
      let a : Stored image s (rows (n + 1)) T = subst (λ k. Stored image s (rows k) T) up was in
      let b : Stored image t (rows (n + 1)) T = subst (λ y. Stored image y (rows (n + 1)) T) (sym e) (stored_take s (rows (n + 1)) T m (omega arith) a) in
      subst (λ k. Stored image t (rows k) U') z (laid_kept t T T' U U' (min (n + 1) n) (n + 1) n f h (omega arith) laid b)

  -- what is said of the slots and the table through slices
  pub updated : (s s' : Slots) (T T' U U' : Table) (i : ℕ) → s' ≡ s → T' ≡ T → U' ≡ U → (StoredBut image s' (rows (length s')) T' i 0 → AtPositions image s' U)
      → StoredBut image s (rows (length s)) T i 0 → AtPositions image s U'
  updated s s' T T' U U' i e f h all =
      let P : Slots → Table → Table → Type 0 = λ x y z. StoredBut image x (rows (length x)) y i 0 → AtPositions image x z in
      subst (λ x. P x T U') e (subst (λ y. P s' y U') f (subst (λ z. P s' T' z) (sym h) all))
