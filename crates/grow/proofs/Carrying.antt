-- One coin more, row by row.
use Rattle.std.proofs.Common.{◌≡◌, ℕ, suc, ◌+◌, ◌-◌, ◌*◌, ◌/◌, ◌%◌, ◌^◌, ◌<◌, Bool, true, false, List, ◌∷◌, ◌++◌, map, length, drop, set, get_or, Some, None, Option, sym, refl, ap, ◌∙◌, subst, arith}
use Rattle.std.specs.List.{AllByRecursion}
use Rattle.std.proofs.lemmas.Bool.{eq-eqb, ne_eqb}
use Rattle.std.proofs.lemmas.List.{drop_more, get_or_append_left, set-append_left}
use Rattle.utreexo.specs.declared.types.Coin.{Coin}
use Rattle.utreexo.specs.declared.types.Value.{Value}
use Rattle.utreexo.specs.declared.types.Input.TheVariants.{Leaf}
use Rattle.utreexo.specs.Values.{Image, join}
use Rattle.utreexo.specs.Forest.{bit}
use Rattle.utreexo.specs.Wallet.{Held, View, tree_joined, carry, add_all}
use Rattle.shelf.specs.Held.{astray}
use Rattle.grow.specs.Grown.{added}
use Rattle.grow.proofs.Rising.{Rising, rising_none, rising_more, rising_all}

-- the definition, shut: at a numeral it would compute at once
unfoldable pub carried : Image → ℕ → ℕ → Option Value → View → View
carried image fuel k c v = carry image fuel k c v

abbrev pub viewed : ℕ → List (Option Value) → List Held → View
viewed n roots hs = record { count = n; roots = roots; shelf = hs }

-- The trees of the rows below k are joined, and what is still to do gives the view that is wanted.
pub record Carried (image : Image) (n : ℕ) (all : View) (k : ℕ) (root : Option Value) (roots : List (Option Value)) (hs : List Held) : Type 0 where
  pub whole : carried image (32 - k) k root (viewed n roots hs) ≡ all
  pub placed : AllByRecursion (Rising n k) hs

pub carried_none : (image : Image) (n : ℕ) (coin : Coin) (leaf : Value) (roots : List (Option Value)) (hs : List Held)
    → leaf ≡ image (Leaf coin) → astray n hs ≡ false → Carried image n (added image (viewed n roots hs) coin) 0 (Some leaf) roots hs
unfolding carried added
carried_none image n coin leaf roots hs e s =
    record { whole = ap (λ (x : Value). carry image 32 0 (Some x) (viewed n roots hs)) e; placed = rising_none n hs s }

carry_on : (image : Image) (fuel k : ℕ) (c : Option Value) (v : View) → bit v.count k ≡ true
    → carry image (suc fuel) k c v
    ≡ carry image fuel (k + 1) (join image (get_or v.roots k None) c)
    (viewed v.count (set v.roots k None) (map (tree_joined k (get_or v.roots k None) c) v.shelf))
carry_on image fuel k c v e =
    ap (λ (b : Bool). elim b [
      | true ↦ carry image fuel (k + 1) (join image (get_or v.roots k None) c) (viewed v.count (set v.roots k None) (map (tree_joined k (get_or v.roots k None) c) v.shelf))
      | false ↦ viewed (v.count + 1) (set v.roots k c) v.shelf
    ]) e

carry_stop : (image : Image) (fuel k : ℕ) (c : Option Value) (v : View) → bit v.count k ≡ false
    → carry image (suc fuel) k c v ≡ viewed (v.count + 1) (set v.roots k c) v.shelf
carry_stop image fuel k c v e =
    ap (λ (b : Bool). elim b [
      | true ↦ carry image fuel (k + 1) (join image (get_or v.roots k None) c) (viewed v.count (set v.roots k None) (map (tree_joined k (get_or v.roots k None) c) v.shelf))
      | false ↦ viewed (v.count + 1) (set v.roots k c) v.shelf
    ]) e

-- a row with a tree
pub carried_more : (image : Image) (n : ℕ) (all : View) (k : ℕ) (root : Option Value) (roots : List (Option Value)) (hs : List Held)
    → k < 32 → n / 2 ^ k % 2 ≡ 1 → Carried image n all k root roots hs
    → Carried image n all (k + 1) (join image (get_or roots k None) root) (set roots k None) (map (tree_joined k (get_or roots k None) root) hs)
unfolding carried
carried_more image n all k root roots hs lt odd r =
    let f : 32 - k ≡ suc (32 - (k + 1)) = omega arith in
    record {
      whole =
          sym (carry_on image (32 - (k + 1)) k root (viewed n roots hs) (eq-eqb (n / 2 ^ k % 2) 1 odd))
          ∙ ap (λ (j : ℕ). carry image j k root (viewed n roots hs)) (sym f) ∙ r.whole;
      placed = rising_more n k (get_or roots k None) root hs odd r.placed;
    }

-- what the code has then: the roots of the rows with a tree are at the front
pub carried_so : (image : Image) (n : ℕ) (all : View) (k : ℕ) (root : Option Value) (front rest : List (Option Value)) (hs : List Held)
    (left next blank : Option Value) (hs' : List Held) → k < 32 → k < length front → n / 2 ^ k % 2 ≡ 1 → Carried image n all k root (front ++ rest) hs
    → left ≡ get_or front k None → next ≡ join image left root → blank ≡ None → hs' ≡ map (tree_joined k left root) hs
    → Carried image n all (k + 1) next (set front k blank ++ rest) hs'
carried_so image n all k root front rest hs left next blank hs' lt inside odd r l x b h =
    let e : left ≡ get_or (front ++ rest) k None = l ∙ sym (get_or_append_left front rest None k inside) in
    rw (x, h, b, e, sym (set-append_left front rest k None inside)) (carried_more image n all k root (front ++ rest) hs lt odd r)

-- the row with none
module _ (image : Image) (n : ℕ) (all : View) (k t : ℕ) (root : Option Value) (roots : List (Option Value)) (hs : List Held) (end : k ≡ t) (lt : t < 32)
    (even : n / 2 ^ t % 2 ≡ 0) (r : Carried image n all k root roots hs) where
  here : Carried image n all t root roots hs
  here = subst (λ (j : ℕ). Carried image n all j root roots hs) end r

  pub carried_all : viewed (n + 1) (set roots t root) hs ≡ all
  unfolding carried
  carried_all =
      let f : 32 - t ≡ suc (31 - t) = omega arith in
      let ne : n / 2 ^ t % 2 ≡ 1 → ⊥ = λ x. omega arith in
      sym (carry_stop image (31 - t) t root (viewed n roots hs) (ne_eqb (n / 2 ^ t % 2) 1 ne))
      ∙ ap (λ (j : ℕ). carry image j t root (viewed n roots hs)) (sym f) ∙ here.whole

  pub carried_placed : (n / 2 ^ t + 1) * 2 ^ t ≡ n + 1 → astray (n + 1) hs ≡ false
  carried_placed ones = rising_all n t hs ones even here.placed

-- coins one after the other
added_more : (image : Image) (v : View) (c : Coin) (cs : List Coin) → add_all image v (c ∷ cs) ≡ add_all image (added image v c) cs
unfolding added
added_more image v c cs = refl

pub coin_more : (image : Image) (v w : View) (cs : List Coin) (all : View) (i : ℕ) (d : Coin) → i < length cs → w ≡ added image v (get_or cs i d)
    → add_all image v (drop i cs) ≡ all → add_all image w (drop (i + 1) cs) ≡ all
coin_more image v w cs all i d lt e was =
    ap (λ (x : View). add_all image x (drop (i + 1) cs)) e
    ∙ sym (added_more image v (get_or cs i d) (drop (i + 1) cs))
    ∙ ap (add_all image v) (sym (drop_more cs i d lt)) ∙ was
