-- The way down from a root to a node: where it is after so many rows, its steps, and what it finds.
use Rattle.std.proofs.Common.{◌≡◌, ℕ, suc, ◌+◌, ◌-◌, ◌*◌, ◌/◌, ◌%◌, ◌^◌, ◌<◌, cond, length, get_or, Some, None, Option, inl, inr, sym, refl, ap, ◌∙◌, subst, ap₂, arith}
use Rattle.std.proofs.lemmas.Bool.{cases_eq, eq-eqb, ne_eqb}
use Rattle.utreexo.specs.declared.types.Coin.{Coin}
use Rattle.utreexo.specs.declared.types.Value.{Value}
use Rattle.utreexo.specs.Values.{Image, join}
use Rattle.utreexo.specs.Forest.{Slots, at_node, value_over, leaf_value, tree_of, tree_place}
use Rattle.utreexo.specs.Collection.{image_of}
use Rattle.keeper.specs.declared.run.Run.{Run}
use Rattle.keeper.proofs.Runs.{halves, value_node}
use Rattle.place.proofs.Trees.{tree_range}
use Rattle.own.specs.declared.Own.TheVariants.{Leaf, Pair as OwnPair}
use Rattle.own.specs.declared.walk.Way.{Way}
use Rattle.own.specs.declared.walk.Step.{Step}
use Rattle.own.specs.declared.walk.Step.TheVariants.{Nothing, Pair, On}
use Rattle.own.specs.Steps.{on_by, step_from, step_by}
use Rattle.own.specs.Answers.{Finds}
use Rattle.own.proofs.Down.{Down, down_start, start_within, down_right, down_left, down_half, blank_there, below_coin, pair_there, leaf_there}

pub record Going (s : Slots) (r o j i b : ℕ) : Type 0 where
  pub down : Down s r o j i b
  pub within : i < length s / 2 ^ j
  pub few : b < 32

pub going_start : {s : Slots} {r o k : ℕ} → length s < 2 ^ 32 → tree_of (length s) (at_node r o) ≡ Some k → Going s r o k (tree_place (length s) k) (k - r)
going_start {s} {r} {o} {k} small e =
    let (_, l) = tree_range (length s) r o k small e in
    record { down = down_start s r o k e; within = start_within (length s) r o k e; few = omega arith }

-- what was read of the halves of a run
pub halves_read : (image : Image) (s : Slots) (u : Run) {l r : Run} {x y : Option Value} → 0 < u.row → u.place < length s / 2 ^ u.row
    → l ≡ record { row = u.row - 1; place = 2 * u.place } → r ≡ record { row = u.row - 1; place = 2 * u.place + 1 }
    → (l.place < length s / 2 ^ l.row → x ≡ value_over image s l.row l.place) → (r.place < length s / 2 ^ r.row → y ≡ value_over image s r.row r.place)
    → (value_over image s (u.row - 1) (2 * u.place) ≡ x) × (value_over image s (u.row - 1) (2 * u.place + 1) ≡ y)
halves_read image s u {l} {r} high within a b f h =
    let w = halves (length s) u.row u.place high within in
    let v : 2 * u.place < length s / 2 ^ (u.row - 1) = omega arith in (
      ap (λ (u : Run). value_over image s u.row u.place) (sym a) ∙ sym (f (subst (λ (u : Run). u.place < length s / 2 ^ u.row) (sym a) v)),
      ap (λ (u : Run). value_over image s u.row u.place) (sym b) ∙ sym (h (subst (λ (u : Run). u.place < length s / 2 ^ u.row) (sym b) w)),
    )

-- At a run that is no slot.
module _ {s : Slots} {r o : ℕ} (way : Way) (g : Going s r o way.run.row way.run.place way.bits) (high : 0 < way.run.row) where
  abbrev j : ℕ
  j = way.run.row

  abbrev i : ℕ
  i = way.run.place

  abbrev b : ℕ
  b = way.bits

  above : Down s r o (suc (j - 1)) i b
  above = let e : j ≡ suc (j - 1) = omega arith in subst (λ x. Down s r o x i b) e g.down

  half_within : (h : ℕ) → h < 2 → 2 * i + h < length s / 2 ^ (j - 1)
  half_within h l = let w = halves (length s) j i high g.within in omega arith

  module _ (image : Image) (small : length s < 2 ^ 32) where
    -- what a step leads to
    abbrev pub Stepped : Step → Type 0
    Stepped Nothing = Finds image s r o None
    Stepped (Pair v w) = Finds image s r o (Some (record { run = way.run; own = OwnPair v w }))
    Stepped (On next) = Going s r o next.run.row next.run.place next.bits × (next.run.row < way.run.row)

    on : (h c : ℕ) → h < 2 → c < 32 → Down s r o (j - 1) (2 * i + h) c → Stepped (on_by way h c)
    on h c l few d = (record { down = d; within = half_within h l; few = few }, omega arith)

    module _ {v w : Value} (e : value_over image s (j - 1) (2 * i) ≡ Some v) (f : value_over image s (j - 1) (2 * i + 1) ≡ Some w) where
      -- neither half is blank, and bits are left: the next one tells the half
      to_half : 0 < b → Down s r o (j - 1) (2 * i + o / 2 ^ (b - 1) % 2) (b - 1)
      to_half p = let q : b ≡ suc (b - 1) = omega arith in down_half image s r o (j - 1) i (b - 1) v w e f (subst (λ x. Down s r o (suc (j - 1)) i x) q above)

      -- neither is, and none is left: their pair stands at the node
      finds_pair : b ≡ 0 → Stepped (Pair v w)
      finds_pair z =
          let t = pair_there image s small r o (j - 1) i v w (subst (λ x. Down s r o (suc (j - 1)) i x) z above) e f in (
            t,
            value_node image s j i high ∙ ap₂ (join image) e f ∙ sym (ap (image_of image) t.input),
            g.within,
          )

      both : Stepped (step_from way o (Some v) (Some w))
      both = elim (cases_eq b 0) [
        | inl z ↦ subst (λ t. Stepped (cond t (Pair v w) (on_by way (o / 2 ^ (b - 1) % 2) (b - 1)))) (sym (eq-eqb b 0 z)) (finds_pair z)
        | inr n ↦
            let p : 0 < b = omega arith in
            let few = g.few in
            subst (λ t. Stepped (cond t (Pair v w) (on_by way (o / 2 ^ (b - 1) % 2) (b - 1)))) (sym (ne_eqb b 0 n))
            (on (o / 2 ^ (b - 1) % 2) (b - 1) (omega arith) (omega arith) (to_half p))
      ]

    by_values : (x y : Option Value) → value_over image s (j - 1) (2 * i) ≡ x → value_over image s (j - 1) (2 * i + 1) ≡ y → Stepped (step_from way o x y)
    by_values None None e f = blank_there image s small r o j i b g.down (value_node image s j i high ∙ ap₂ (join image) e f)
    by_values (Some v) None e f =
        let q : 2 * i ≡ 2 * i + 0 = omega arith in
        on 0 b (omega arith) g.few (subst (λ x. Down s r o (j - 1) x b) q (down_left image s r o (j - 1) i b v e f above))
    by_values None (Some w) e f = on 1 b (omega arith) g.few (down_right image s r o (j - 1) i b e above)
    by_values (Some v) (Some w) e f = both e f

    pub stepped : (t : Step) → step_by image s way o ≡ t → Stepped t
    stepped t e = subst Stepped e (by_values (value_over image s (j - 1) (2 * i)) (value_over image s (j - 1) (2 * i + 1)) refl refl)

-- At a slot.
module _ {s : Slots} {r o j i b : ℕ} (g : Going s r o j i b) (low : j ≡ 0) where
  here : Down s r o 0 i b
  here = subst (λ x. Down s r o x i b) low g.down

  module _ (image : Image) (small : length s < 2 ^ 32) where
    -- bits are left: the node is beneath the coin, if there is one
    pub finds_below : 0 < b → Finds image s r o None
    finds_below p = let q : b ≡ suc (b - 1) = omega arith in below_coin image s small r o i (b - 1) (subst (λ x. Down s r o 0 i x) q here)

    pub finds_empty : get_or s i None ≡ None → Finds image s r o None
    finds_empty e = blank_there image s small r o 0 i b here (ap (leaf_value image) e)

    -- none is: the coin stands at the node
    pub finds_leaf : b ≡ 0 → {c : Coin} → get_or s i None ≡ Some c
        → Finds image s r o (Some (record { run = record { row = j; place = i }; own = Leaf (record { number = i }) c }))
    finds_leaf z {c} e =
        let t = leaf_there image s small r o i c (subst (λ x. Down s r o 0 i x) z here) e in (
          t,
          ap (λ x. value_over image s x i) low ∙ ap (leaf_value image) e ∙ sym (ap (image_of image) t.input),
          g.within,
        )
