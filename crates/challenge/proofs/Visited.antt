-- The covered positions from the highest number down are those of the rows from the top, each from the right. Assumes nothing.
use Rattle.std.proofs.Common.{◌≡◌, ℕ, zero, suc, ◌+◌, ◌-◌, ◌/◌, ◌^◌, ◌<◌, true, false, ◌⊎◌, List, [], ◌∷◌, ◌++◌, map, reverse, Some, None, Option, sym, refl, ap, ◌∙◌, subst, inl, inr, arith}
use Rattle.std.proofs.lemmas.List.{reverse-append}
use Rattle.laws.proofs.Order.{Mem, From}
use Rattle.laws.proofs.Ordered.{same_list, from_weaker, filter_from}
use Rattle.laws.proofs.Members.{filter_mem, mem_filter, mem_append, append_mem_left, append_mem_right, map_mem, mem_map}
use Rattle.laws.proofs.Ranges.{below_from, below_mem, mem_below}
use Rattle.utreexo.specs.Lists.{below, filter}
use Rattle.utreexo.specs.Forest.{Node, at_node, locate, position, rows}
use Rattle.utreexo.specs.Claims.{Target, covered}
use Rattle.utreexo.specs.Collection.{covered_at, visited}
use Rattle.targets.proofs.Inside.{row_low, number_next, number_up, number_low, locates, located}
use Rattle.climb.specs.After.{covered_places}
use Rattle.challenge.proofs.Lists.{from_append}

-- the covered positions of row r, ascending
abbrev pub row_positions : ℕ → List Target → ℕ → List ℕ
row_positions n ts r = map (position n r) (covered_places n ts r)

-- those of the rows below row k, descending
abbrev pub descending : ℕ → List Target → ℕ → List ℕ
descending n ts zero = []
descending n ts (suc k) = reverse (row_positions n ts k) ++ descending n ts k

from_map : (n r a : ℕ) (xs : List ℕ) → From a xs → From (position n r a) (map (position n r) xs)
from_map n r a [] f = tt
from_map n r a (x ∷ xs) f = let l = f.0 in (omega arith, from_weaker (suc (position n r x)) (position n r (suc x)) (map (position n r) xs) (omega arith) (from_map n r (suc x) xs f.1))

module _ (n : ℕ) (ts : List Target) (small : n < 2 ^ 32) where
  -- a covered place of the forest
  pub record Place (r o : ℕ) : Type 0 where
    pub inside : o < n / 2 ^ r
    pub under : covered ts (at_node r o) ≡ true

  pub place_mem : (r o : ℕ) → Place r o → Mem o (covered_places n ts r)
  place_mem r o p = mem_filter (λ o. covered ts (at_node r o)) (below (n / 2 ^ r)) o (below_mem (n / 2 ^ r) o p.inside) p.under

  pub mem_place : (r o : ℕ) → Mem o (covered_places n ts r) → Place r o
  mem_place r o m = let (a, b) = filter_mem (λ o. covered ts (at_node r o)) (below (n / 2 ^ r)) o m in record { inside = mem_below (n / 2 ^ r) o a; under = b }

  -- the positions of the rows below row k, ascending
  abbrev ascending : ℕ → List ℕ
  ascending zero = []
  ascending (suc k) = ascending k ++ row_positions n ts k

  -- a number's row and place
  record Numbered (k z : ℕ) : Type 0 where
    row : ℕ
    place : ℕ
    low : row < k
    is : Place row place
    here : z ≡ position n row place

  row_mem : (k z : ℕ) → Mem z (row_positions n ts k) → Numbered (suc k) z
  row_mem k z m = let (o, i, e) = map_mem (position n k) (covered_places n ts k) z m in record { row = k; place = o; low = omega arith; is = mem_place k o i; here = e }

  ascending_mem : (k z : ℕ) → Mem z (ascending k) → Numbered k z
  ascending_mem zero z m = absurd m
  ascending_mem (suc k) z m = go (mem_append (ascending k) (row_positions n ts k) z m) (ascending_mem k z)
    where
      go : Mem z (ascending k) ⊎ Mem z (row_positions n ts k) → (Mem z (ascending k) → Numbered k z) → Numbered (suc k) z
      go (inl i) ih = let x = ih i in let l = x.low in record { row = x.row; place = x.place; low = omega arith; is = x.is; here = x.here }
      go (inr i) ih = row_mem k z i

  mem_ascending : (k r o : ℕ) → r < k → Place r o → Mem (position n r o) (ascending k)
  mem_ascending zero r o l p = absurd (omega arith)
  mem_ascending (suc k) r o l p = go (k - r) refl (λ h. mem_ascending k r o h p)
    where
      go : (d : ℕ) → k - r ≡ d → (r < k → Mem (position n r o) (ascending k)) → Mem (position n r o) (ascending (suc k))
      go zero e ih =
          let same : r ≡ k = omega arith in
          append_mem_right (ascending k) (row_positions n ts k) (position n r o)
          (subst (λ x. Mem (position n r o) (row_positions n ts x)) same (mem_map (position n r) (covered_places n ts r) o (place_mem r o p)))
      go (suc d) e ih = append_mem_left (ascending k) (row_positions n ts k) (position n r o) (ih (omega arith))

  ascending_from : (k : ℕ) → From 0 (ascending k)
  ascending_from zero = tt
  ascending_from (suc k) =
      from_append 0 (position n k 0) (ascending k) (row_positions n ts k) (omega arith) (ascending_from k)
      (λ z m. less (ascending_mem k z m))
      (from_map n k 0 (covered_places n ts k) (filter_from (λ o. covered ts (at_node k o)) 0 (below (n / 2 ^ k)) (below_from (n / 2 ^ k))))
    where
      less : {z : ℕ} → Numbered k z → z < position n k 0
      less x = let e = x.here in let a = number_next n x.row x.place small x.is.inside in let l = x.low in let b = number_up n (suc x.row) k (omega arith) in omega arith

  number_at : (z : ℕ) → covered_at n ts z ≡ true → Numbered 32 z
  number_at z e = go (locate n z) refl e
    where
      go : (x : Option Node) → locate n z ≡ x → elim x [ None ↦ false | Some d ↦ covered ts d ] ≡ true → Numbered 32 z
      go None f t = let y : ◌≡◌ {A = ℕ} 0 1 = cc in absurd (omega arith)
      go (Some d) f t =
          let s = located n z d f in
          record { row = d.row; place = d.place; low = row_low n d.row d.place small s.inside; is = record { inside = s.inside; under = t }; here = sym s.here }

  at_number : (r o : ℕ) → Place r o → covered_at n ts (position n r o) ≡ true
  at_number r o p = ap (λ (x : Option Node). elim x [ None ↦ false | Some d ↦ covered ts d ]) (locates n r o small p.inside) ∙ p.under

  ascending_is : filter (covered_at n ts) (below (2 ^ (rows n + 1) - 1)) ≡ ascending 32
  ascending_is =
      same_list 0 0 (filter (covered_at n ts) (below end)) (ascending 32) (filter_from (covered_at n ts) 0 (below end) (below_from end)) (ascending_from 32)
      (λ z m. into (number_at z (filter_mem (covered_at n ts) (below end) z m).1)) (λ z m. back (ascending_mem 32 z m))
    where
      end : ℕ
      end = 2 ^ (rows n + 1) - 1

      into : {z : ℕ} → Numbered 32 z → Mem z (ascending 32)
      into {z} x = subst (λ y. Mem y (ascending 32)) (sym x.here) (mem_ascending 32 x.row x.place x.low x.is)

      back : {z : ℕ} → Numbered 32 z → Mem z (filter (covered_at n ts) (below end))
      back {z} x =
          subst (λ y. Mem y (filter (covered_at n ts) (below end))) (sym x.here)
          (mem_filter (covered_at n ts) (below end) (position n x.row x.place) (below_mem end (position n x.row x.place) (number_low n x.row x.place small x.is.inside)) (at_number x.row x.place x.is))

  reversed : (k : ℕ) → reverse (ascending k) ≡ descending n ts k
  reversed zero = refl
  reversed (suc k) = reverse-append (ascending k) (row_positions n ts k) ∙ ap (λ l. reverse (row_positions n ts k) ++ l) (reversed k)

  pub visited_is : visited n ts ≡ descending n ts 32
  visited_is = ap reverse ascending_is ∙ reversed 32
