-- The coins that leave the shelf.
use Rattle.std.proofs.Common.{◌≡◌, ℕ, ◌+◌, ◌<◌, Bool, true, false, cond, ◌||◌, List, [], ◌∷◌, map, length, get_or, take, set, refl, ap, ◌∙◌}
use Rattle.std.specs.List as lists
use Rattle.std.proofs.lemmas.List.Filters.{FiltersInPlace, FiltersInPlace-more_set, FiltersInPlace-more_no}
use Rattle.std.proofs.lemmas.List.{get_or_default}
use Rattle.utreexo.specs.Lists.{filter, any}
use Rattle.utreexo.specs.Forest.{Node}
use Rattle.utreexo.specs.Claims.{Target, beneath}
use Rattle.utreexo.specs.Wallet.{Held}
use Rattle.shelf.specs.declared.held.Held.{Held as HeldCode}
use Rattle.shelf.specs.Held.{held_of}

-- two tests of each are two passes
both_any : (a b x y : Bool) → (a || b) || (x || y) ≡ (a || x) || (b || y)
both_any true b x y = refl
both_any false true true y = refl
both_any false true false y = refl
both_any false false x y = refl

pub one_pass : (d : Node) (ts : List Target) → any (λ t. beneath t.node d || beneath d t.node) ts ≡ any (λ t. beneath t.node d) ts || any (λ t. beneath d t.node) ts
one_pass d [] = refl
one_pass d (t ∷ ts) =
    ap (λ b. (beneath t.node d || beneath d t.node) || b) (one_pass d ts)
    ∙ both_any (beneath t.node d) (beneath d t.node) (any (λ u. beneath u.node d) ts) (any (λ u. beneath d u.node) ts)

-- a filter of the array is one of the shelf
filter_held : (q : Held → Bool) (rs : List HeldCode) → map held_of (lists.filter (λ r. q (held_of r)) rs) ≡ filter q (map held_of rs)
filter_held q [] = refl
filter_held q (r ∷ rs) =
    elim (q (held_of r)) as (λ b. map held_of (cond b (r ∷ lists.filter (λ z. q (held_of z)) rs) (lists.filter (λ z. q (held_of z)) rs)) ≡ cond b (held_of r ∷ filter q (map held_of rs)) (filter q (map held_of rs))) [
      | true ↦ ap (λ t. held_of r ∷ t) (filter_held q rs)
      | false ↦ filter_held q rs
    ]

pub filtered : (q : Held → Bool) (xs ys : List HeldCode) (k i len : ℕ) → i ≡ len → FiltersInPlace (λ r. q (held_of r)) xs ys k i → map held_of (take k ys) ≡ filter q (map held_of (take len xs))
filtered q xs ys k i len e was = ap (map held_of) was.front ∙ filter_held q (take i xs) ∙ ap (λ (n : ℕ). filter q (map held_of (take n xs))) e

module _ {p : HeldCode → Bool} {xs ys : List HeldCode} {k i : ℕ} (d : HeldCode) (was : FiltersInPlace p xs ys k i) (lt : i < length ys) where
  pub coin_stays : p (get_or ys i d) ≡ true → FiltersInPlace p xs (set ys k (get_or ys i d)) (k + 1) (i + 1)
  coin_stays e = FiltersInPlace-more_set was lt e (get_or_default ys i d (get_or ys i d) lt)

  pub coin_leaves : p (get_or ys i d) ≡ false → FiltersInPlace p xs ys k (i + 1)
  coin_leaves e = FiltersInPlace-more_no was lt e (get_or_default ys i d (get_or ys i d) lt)
