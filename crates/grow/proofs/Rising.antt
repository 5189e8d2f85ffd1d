-- Where the coins of the shelf are while trees are joined.
use Rattle.std.proofs.Common.{◌≡◌, ℕ, ◌+◌, ◌-◌, ◌*◌, ◌/◌, ◌%◌, ◌^◌, ◌≤◌, Bool, true, false, cond, not, ◌&&◌, ◌||◌, eqb, ◌⊎◌, List, [], ◌∷◌, ◌++◌, map, length, Some, None, Option, sym, refl, ap, ◌∙◌, inl, inr, arith, length-append}
use Rattle.std.specs.List.{AllByRecursion}
use Rattle.std.proofs.lemmas.Bool.{cases_eq, eq-eqb, ne_eqb, eqb-true, and_parts, and_from}
use Rattle.utreexo.specs.declared.types.Value.{Value}
use Rattle.utreexo.specs.Forest.{bit, tree_place}
use Rattle.utreexo.specs.Wallet.{Held, topped, tree_joined}
use Rattle.shelf.specs.Held.{in_its_tree, astray}
use Rattle.shelf.proofs.Struck.{close_up}
use Rattle.grow.proofs.Places.{half, next_run, same_above}

-- Trees of the rows below k are joined, where n has a one in each. A coin is in a tree of n of row k or above, or in the run beside
-- these that is being joined.
abbrev pub Rising : ℕ → ℕ → Held → Type 0
Rising n k h =
    ((k ≤ h.row + length h.path) × (in_its_tree n h ≡ true))
    ⊎ ((h.row + length h.path ≡ k) × (h.place / 2 ^ length h.path ≡ n / 2 ^ k))

pub rising_none : (n : ℕ) (hs : List Held) → astray n hs ≡ false → AllByRecursion (Rising n 0) hs
rising_none n [] e = tt
rising_none n (h ∷ hs) e = go (in_its_tree n h) refl e (rising_none n hs)
  where
    go : (b : Bool) → in_its_tree n h ≡ b → (not b || astray n hs) ≡ false → (astray n hs ≡ false → AllByRecursion (Rising n 0) hs)
        → AllByRecursion (Rising n 0) (h ∷ hs)
    go true q e rest = (inl (omega arith, q), rest e)
    go false q e rest = cc

-- the tree of a coin is one row up, and its place half of what it was
record Up (h h' : Held) : Type 0 where
  row : h'.row + length h'.path ≡ h.row + length h.path + 1
  place : h'.place / 2 ^ length h'.path ≡ h.place / 2 ^ length h.path / 2

topped_up : (x : Option Value) (h : Held) → Up h (topped x h)
topped_up None h =
    record { row = omega arith; place = close_up (length h.path) h.place ∙ sym (half h.place (length h.path)) }
topped_up (Some v) h =
    let n : length (h.path ++ v ∷ []) ≡ length h.path + 1 = length-append h.path (v ∷ []) in
    record { row = omega arith; place = ap (λ (m : ℕ). h.place / 2 ^ m) n ∙ sym (half h.place (length h.path)) }

-- the tree of a coin in either of two trees that are joined
inside : (n k : ℕ) (x : Option Value) (h : Held) → n / 2 ^ k % 2 ≡ 1 → h.row + length h.path ≡ k → Rising n k h → Rising n (k + 1) (topped x h)
inside n k x h odd e r = inr (u.row ∙ ap (λ (j : ℕ). j + 1) e, u.place ∙ halved r ∙ half n k)
  where
    u : Up h (topped x h)
    u = topped_up x h

    halved : Rising n k h → h.place / 2 ^ length h.path / 2 ≡ n / 2 ^ k / 2
    halved (inl (_, s)) =
        let b = and_parts (bit n (h.row + length h.path)) (eqb (h.place / 2 ^ length h.path) (tree_place n (h.row + length h.path))) s in
        let p = eqb-true (h.place / 2 ^ length h.path) (tree_place n (h.row + length h.path)) b.1 in
        let q : h.place / 2 ^ length h.path ≡ n / 2 ^ k - 1 = p ∙ ap (tree_place n) e in
        omega arith
    halved (inr (_, s)) = ap (λ (j : ℕ). j / 2) s

rising_one : (n k : ℕ) (l c : Option Value) (h : Held) → n / 2 ^ k % 2 ≡ 1 → Rising n k h → Rising n (k + 1) (tree_joined k l c h)
rising_one n k l c h odd r = go (cases_eq (h.row + length h.path) k)
  where
    side : Option Value
    side = cond (eqb ((h.place / 2 ^ length h.path) % 2) 0) c l

    go : (h.row + length h.path ≡ k) ⊎ (h.row + length h.path ≡ k → ⊥) → Rising n (k + 1) (cond (eqb (h.row + length h.path) k) (topped side h) h)
    go (inl e) = rw (eq-eqb (h.row + length h.path) k e) (inside n k side h odd e r)
    go (inr d) = rw (ne_eqb (h.row + length h.path) k d) (still r)
      where
        still : Rising n k h → Rising n (k + 1) h
        still (inl (l, s)) = inl (omega arith, s)
        still (inr (e, _)) = absurd (d e)

pub rising_more : (n k : ℕ) (l c : Option Value) (hs : List Held) → n / 2 ^ k % 2 ≡ 1 → AllByRecursion (Rising n k) hs
    → AllByRecursion (Rising n (k + 1)) (map (tree_joined k l c) hs)
rising_more n k l c [] odd r = tt
rising_more n k l c (h ∷ hs) odd r = (rising_one n k l c h odd r.0, rising_more n k l c hs odd r.1)

-- the run is the tree of the count with one more
risen : (n k : ℕ) (h : Held) → (n / 2 ^ k + 1) * 2 ^ k ≡ n + 1 → n / 2 ^ k % 2 ≡ 0 → Rising n k h → in_its_tree (n + 1) h ≡ true
risen n k h ones even (inl (l, s)) =
    let j = h.row + length h.path in
    let b = and_parts (bit n j) (eqb (h.place / 2 ^ length h.path) (tree_place n j)) s in
    let odd = eqb-true (n / 2 ^ j % 2) 1 b.0 in
    let ne : k ≡ j → ⊥ = λ e. let z : n / 2 ^ j % 2 ≡ 0 = ap (λ (x : ℕ). n / 2 ^ x % 2) (sym e) ∙ even in omega arith in
    let same = same_above n k j ones even (omega arith) in
    ap (λ (x : ℕ). eqb (x % 2) 1 && eqb (h.place / 2 ^ length h.path) (x - 1)) same ∙ s
risen n k h ones even (inr (e, s)) =
    let j = h.row + length h.path in
    let o = h.place / 2 ^ length h.path in
    let x : (n + 1) / 2 ^ j ≡ n / 2 ^ k + 1 = ap (λ (i : ℕ). (n + 1) / 2 ^ i) e ∙ next_run n k ones in
    and_from (bit (n + 1) j) (eqb o (tree_place (n + 1) j))
    (eq-eqb ((n + 1) / 2 ^ j % 2) 1 (omega arith)) (eq-eqb o (tree_place (n + 1) j) (omega arith))

pub rising_all : (n k : ℕ) (hs : List Held) → (n / 2 ^ k + 1) * 2 ^ k ≡ n + 1 → n / 2 ^ k % 2 ≡ 0 → AllByRecursion (Rising n k) hs → astray (n + 1) hs ≡ false
rising_all n k [] ones even r = refl
rising_all n k (h ∷ hs) ones even r =
    ap (λ b. not b || astray (n + 1) hs) (risen n k h ones even r.0) ∙ rising_all n k hs ones even r.1
