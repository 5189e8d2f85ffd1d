-- Valid targets, as facts about each of them.
use Rattle.std.proofs.Common.{◌≡◌, ℕ, ◌/◌, ◌^◌, ◌<◌, Bool, true, false, not, ◌&&◌, eqb, ltb, ◌⊎◌, List, [], ◌∷◌, sym, refl, inl, inr}
use Rattle.std.proofs.lemmas.Bool.{ltb-true, lt-ltb, eqb-true, eq-eqb, and_parts, and_from, or_cases, or_left, or_right, not-true, not_from_true, not_from_false, cases_Bool, both_ways}
use Rattle.utreexo.specs.Lists.{any}
use Rattle.utreexo.specs.Claims.{Target, beneath, same_node}
use Rattle.utreexo.specs.Checks.{above_another, strictly_above}
use Rattle.laws.proofs.Order.{Mem}
use Rattle.laws.proofs.Members.{mem_any, any_none, none_any}
use Rattle.targets.specs.Valid.{within, later, sorted, valid}

abbrev pub Later : Target → Target → Type 0
Later t u = (t.node.row < u.node.row) ⊎ ((t.node.row ≡ u.node.row) × (t.node.place < u.node.place))

abbrev pub Sorted : List Target → Type 0
Sorted [] = Unit {0}
Sorted (t ∷ ts) = ((u : Target) → Mem u ts → Later t u) × Sorted ts

pub record Valid (n : ℕ) (ts : List Target) : Type 0 where
  pub small : n < 2 ^ 32
  pub inside : (t : Target) → Mem t ts → t.node.place < n / 2 ^ t.node.row
  pub sorted : Sorted ts
  pub apart : (t u : Target) → Mem t ts → Mem u ts → beneath u.node t.node ≡ true → u.node.row ≡ t.node.row

-- a test that none fails
all_pass : (p : Target → Bool) (ts : List Target) → not (any (λ t. not (p t)) ts) ≡ true → (t : Target) → Mem t ts → p t ≡ true
all_pass p ts e t m = not_from (p t) (any_none (λ t. not (p t)) ts t (not-true (any (λ t. not (p t)) ts) e) m)
  where
    not_from : (b : Bool) → not b ≡ false → b ≡ true
    not_from true e = refl
    not_from false e = sym e

pass_all : (p : Target → Bool) (ts : List Target) → ((t : Target) → Mem t ts → p t ≡ true) → not (any (λ t. not (p t)) ts) ≡ true
pass_all p ts h = not_from_false (any (λ t. not (p t)) ts) (none_any (λ t. not (p t)) ts (λ t m. not_from_true (p t) (h t m)))

later_is : (t u : Target) → later t u ≡ true → Later t u
later_is t u e =
    elim (or_cases (ltb t.node.row u.node.row) (eqb t.node.row u.node.row && ltb t.node.place u.node.place) e) [
      | inl h ↦ inl (ltb-true t.node.row u.node.row h)
      | inr h ↦ (let (a, b) = and_parts (eqb t.node.row u.node.row) (ltb t.node.place u.node.place) h in inr (eqb-true t.node.row u.node.row a, ltb-true t.node.place u.node.place b))
    ]

is_later : (t u : Target) → Later t u → later t u ≡ true
is_later t u (inl h) = or_left (ltb t.node.row u.node.row) (eqb t.node.row u.node.row && ltb t.node.place u.node.place) (lt-ltb t.node.row u.node.row h)
is_later t u (inr (a, b)) =
    or_right (ltb t.node.row u.node.row) (eqb t.node.row u.node.row && ltb t.node.place u.node.place)
    (and_from (eqb t.node.row u.node.row) (ltb t.node.place u.node.place) (eq-eqb t.node.row u.node.row a) (lt-ltb t.node.place u.node.place b))

sorted_is : (ts : List Target) → sorted ts ≡ true → Sorted ts
sorted_is [] e = tt
sorted_is (t ∷ ts) e =
    let (a, b) = and_parts (not (any (λ u. not (later t u)) ts)) (sorted ts) e in
    ((λ u m. later_is t u (all_pass (later t) ts a u m)), sorted_is ts b)

is_sorted : (ts : List Target) → Sorted ts → sorted ts ≡ true
is_sorted [] s = refl
is_sorted (t ∷ ts) (a, b) = and_from (not (any (λ u. not (later t u)) ts)) (sorted ts) (pass_all (later t) ts (λ u m. is_later t u (a u m))) (is_sorted ts b)

same_rows : (t u : Target) → same_node u.node t.node ≡ true → u.node.row ≡ t.node.row
same_rows t u s = eqb-true u.node.row t.node.row (and_parts (eqb u.node.row t.node.row) (eqb u.node.place t.node.place) s).0

apart_is : (ts : List Target) → above_another ts ≡ false → (t u : Target) → Mem t ts → Mem u ts → beneath u.node t.node ≡ true → u.node.row ≡ t.node.row
apart_is ts a t u m k b = go (cases_Bool (same_node u.node t.node))
  where
    go : (same_node u.node t.node ≡ true) ⊎ (same_node u.node t.node ≡ false) → u.node.row ≡ t.node.row
    go (inl s) = same_rows t u s
    go (inr s) =
        let x = and_from (beneath u.node t.node) (not (same_node u.node t.node)) b (not_from_false (same_node u.node t.node) s) in
        let y = mem_any (strictly_above t) ts u k x in
        absurd (both_ways (above_another ts) a (mem_any (λ v. any (strictly_above v) ts) ts t m y))

pub valid_is : (n : ℕ) (ts : List Target) → n < 2 ^ 32 → valid n ts ≡ true → Valid n ts
valid_is n ts h e =
    let (a, b) = and_parts (not (any (λ t. not (within n t)) ts)) (sorted ts && not (above_another ts)) e in
    let (c, d) = and_parts (sorted ts) (not (above_another ts)) b in
    record {
      small = h;
      inside = λ t m. ltb-true t.node.place (n / 2 ^ t.node.row) (all_pass (within n) ts a t m);
      sorted = sorted_is ts c;
      apart = apart_is ts (not-true (above_another ts) d);
    }

pub is_valid : (n : ℕ) (ts : List Target) → ((t : Target) → Mem t ts → t.node.place < n / 2 ^ t.node.row) → Sorted ts → above_another ts ≡ false → valid n ts ≡ true
is_valid n ts a b c =
    and_from (not (any (λ t. not (within n t)) ts)) (sorted ts && not (above_another ts))
    (pass_all (within n) ts (λ t m. lt-ltb t.node.place (n / 2 ^ t.node.row) (a t m)))
    (and_from (sorted ts) (not (above_another ts)) (is_sorted ts b) (not_from_false (above_another ts) c))
