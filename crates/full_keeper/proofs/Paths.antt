-- The loop that works out the values over one slot.
use Rattle.std.proofs.Common.{◌≡◌, ℕ, ◌+◌, ◌-◌, ◌*◌, ◌/◌, ◌^◌, ◌<◌, ◌≤◌, length, get_or, set, None, Option, sym, ap, ◌∙◌, subst, arith}
use Rattle.utreexo.specs.declared.types.Value.{Value}
use Rattle.keeper.specs.declared.run.Run.{Run}
use Rattle.utreexo.specs.Values.{Image, join}
use Rattle.utreexo.specs.Forest.{Slots, leaf_value, value_over, rows}
use Rattle.keeper.proofs.Runs.{halves, value_node}
use Rattle.full_keeper.specs.Table.{Table, index, AtPositions, Stored, StoredBut}
use Rattle.full_keeper.proofs.Rows.{Fitting}
use Rattle.full_keeper.proofs.Indices.{index_0, indexed}
use Rattle.full_keeper.proofs.Values.{stored_step, stored_all}

module _ (image : Image) (s : Slots) (R : ℕ) (t : Table) (i : ℕ) (v : Option Value) (fit : Fitting (length s) R (length t)) where
  -- the leaf's entry of slot i is written
  pub stored_leaf : i < length s → v ≡ leaf_value image (get_or s i None) → StoredBut image s R t i 0 → StoredBut image s R (set t i v) i 1
  stored_leaf h e was =
      let at : i ≡ index R 0 (i / 2 ^ 0) = omega (arith, index_0 R i) in
      let z : i / 2 ^ 0 ≡ i = omega arith in
      let e' : v ≡ value_over image s 0 (i / 2 ^ 0) = e ∙ ap (λ x. leaf_value image (get_or s x None)) (sym z) in
      subst (λ x. StoredBut image s R (set t x v) i 1) (sym at) (stored_step image s R t i 0 v fit was (omega arith) e')

  -- the entry of row r over slot i is written
  pub stored_node : (r a b at : ℕ) {left right : Run} → 0 < r → i / 2 ^ r < length s / 2 ^ r
      → left ≡ record { row = r - 1; place = 2 * (i / 2 ^ r) } → right ≡ record { row = r - 1; place = 2 * (i / 2 ^ r) + 1 }
      → a ≡ index R left.row left.place → b ≡ index R right.row right.place → at ≡ index R r (i / 2 ^ r)
      → v ≡ join image (get_or t a None) (get_or t b None) → StoredBut image s R t i r → StoredBut image s R (set t at v) i (r + 1)
  stored_node r a b at pos l el er ea eb eat ev was =
      let o : ℕ = i / 2 ^ r in
      let two = halves (length s) r o pos l in
      let left = was (r - 1) (2 * o) (omega arith) (λ m f. omega arith) in
      let right = was (r - 1) (2 * o + 1) (omega arith) (λ m f. omega arith) in
      let node = value_node image s r o pos in
      let ea' : a ≡ index R (r - 1) (2 * o) = ea ∙ ap (λ x. index R x.row x.place) el in
      let eb' : b ≡ index R (r - 1) (2 * o + 1) = eb ∙ ap (λ x. index R x.row x.place) er in
      let e : v ≡ value_over image s r o = cc in
      subst (λ x. StoredBut image s R (set t x v) i (r + 1)) (sym eat) (stored_step image s R t i r v fit was l e)

-- From a table t₀, row r is next: the entries of the rows below it are written.
module _ (image : Image) (s : Slots) (R : ℕ) (t₀ t : Table) (i r : ℕ) (e : R ≡ rows (length s)) (all : StoredBut image s R t₀ i 0 → StoredBut image s R t i r) where
  -- no run of that row holds the slot
  pub stored_rest : length s / 2 ^ r ≤ i / 2 ^ r → StoredBut image s (rows (length s)) t₀ i 0 → AtPositions image s t
  stored_rest h = subst (λ x. StoredBut image s x t₀ i 0 → Stored image s x t) e (λ was. stored_all image s R t i r (all was) h)

  -- no run of that row is within the count
  pub stored_top : length s ≤ 2 ^ R → R < r → StoredBut image s (rows (length s)) t₀ i 0 → AtPositions image s t
  stored_top top h =
      subst (λ x. StoredBut image s x t₀ i 0 → Stored image s x t) e
      (λ was q o g. all was q o g (λ l. absurd (let a = indexed (length s) R q o top g in let d = a.1.depth in omega arith)))
