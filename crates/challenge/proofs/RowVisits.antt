-- The visit of one row's places, from the right. Assumes nothing.
use Rattle.std.proofs.Common.{◌≡◌, ℕ, ◌+◌, ◌/◌, ◌^◌, ◌<◌, ◌≤◌, true, List, map, reverse, length, get_or, drop, sym, ap, ◌∙◌, subst}
use Rattle.std.proofs.lemmas.List.{drop_more, drop_all, map-id}
use Rattle.std.proofs.lemmas.List.Elements.{All-from_recursion}
use Rattle.std.proofs.lemmas.Simd.{map-map}
use Rattle.laws.proofs.Order.{Mem}
use Rattle.laws.proofs.Members.{all_mem, map_mem, filter_mem}
use Rattle.laws.proofs.Ranges.{mem_below}
use Rattle.targets.proofs.Inside.{inside_tree}
use Rattle.utreexo.specs.Lists.{below}
use Rattle.utreexo.specs.Values.{Image}
use Rattle.utreexo.specs.Forest.{Slots, at_node}
use Rattle.utreexo.specs.Claims.{Proof, covered}
use Rattle.utreexo.specs.Collection.{Verdict}
use Rattle.place.specs.Nodes.{inside}
use Rattle.climb.specs.declared.item.Item.{Item}
use Rattle.climb.specs.Entries.{entry}
use Rattle.climb.specs.After.{covered_places}
use Rattle.climb.specs.Needed.{places}
use Rattle.challenge.specs.Visits.{visit_place, visit_places}
use Rattle.challenge.proofs.Lists.{map_reverse, all_reverse}

module _ (image : Image) (p : Proof) (r : ℕ) {row : List Item} (row_is : row ≡ map (entry image p r) (covered_places p.count p.targets r)) where
  abbrev Covered : Item → Type 0
  Covered x = (inside p.count (at_node r x.place) ≡ true) × (covered p.targets (at_node r x.place) ≡ true)

  item_covered : p.count < 2 ^ 32 → (x : Item) → Mem x (map (entry image p r) (covered_places p.count p.targets r)) → Covered x
  item_covered small x m = go (map_mem (entry image p r) (covered_places p.count p.targets r) x m)
    where
      go : (o : ℕ) × Mem o (covered_places p.count p.targets r) × (x ≡ entry image p r o) → Covered x
      go (o, i, e) =
          let (a, b) = filter_mem (λ q. covered p.targets (at_node r q)) (below (p.count / 2 ^ r)) o i in
          subst Covered (sym e) (inside_tree p.count r o small (mem_below (p.count / 2 ^ r) o a), b)

  -- each item of the row stands at a covered place of the forest
  pub there : p.count < 2 ^ 32 → (k : ℕ) (x : Item) → k < length (reverse row) → x ≡ get_or (reverse row) k x → Covered x
  there small k x l e =
      subst Covered (sym e)
      (All-from_recursion Covered (reverse row) (all_reverse Covered row (all_mem Covered row (λ y m. item_covered small y (subst (Mem y) row_is m)))) k x l)

  places_are : places (reverse row) ≡ reverse (covered_places p.count p.targets r)
  places_are =
      map_reverse (λ (x : Item). x.place) row ∙ ap (λ l. reverse (places l)) row_is
      ∙ ap reverse (map-map (λ (x : Item). x.place) (entry image p r) (covered_places p.count p.targets r) ∙ map-id (covered_places p.count p.targets r))

  pub row_visited : (s : Slots) (on : Verdict) → visit_places image s p r (places (reverse row)) on ≡ visit_places image s p r (reverse (covered_places p.count p.targets r)) on
  row_visited s on = ap (λ l. visit_places image s p r l on) places_are

module _ (image : Image) (s : Slots) (p : Proof) (r : ℕ) (all : List Item) where
  -- the verdict of the visit of what is left, from item k on
  abbrev pub left_verdict : ℕ → Verdict → Verdict
  left_verdict k on = visit_places image s p r (places (drop k all)) on

  next_verdict : (k : ℕ) (x : Item) → k < length all → x ≡ get_or all k x → (on : Verdict) → left_verdict k on ≡ visit_place image s p r x.place (left_verdict (k + 1) on)
  next_verdict k x l e on =
      ap (λ xs. visit_places image s p r (places xs) on) (drop_more all k x l) ∙ ap (λ (y : Item). visit_place image s p r y.place (left_verdict (k + 1) on)) (sym e)

  -- a place that gives no verdict is passed by
  pub verdict_more : (k : ℕ) (x : Item) → k < length all → x ≡ get_or all k x → ((on : Verdict) → on ≡ visit_place image s p r x.place on) → (on : Verdict) → left_verdict k on ≡ left_verdict (k + 1) on
  verdict_more k x l e h on = next_verdict k x l e on ∙ sym (h (left_verdict (k + 1) on))

  pub verdict_found : (k : ℕ) (x : Item) (v : Verdict) → k < length all → x ≡ get_or all k x → ((on : Verdict) → v ≡ visit_place image s p r x.place on) → (on : Verdict) → v ≡ left_verdict k on
  verdict_found k x v l e h on = h (left_verdict (k + 1) on) ∙ sym (next_verdict k x l e on)

  pub verdict_none : (k : ℕ) → length all ≤ k → (on : Verdict) → on ≡ left_verdict k on
  verdict_none k l on = ap (λ xs. visit_places image s p r (places xs) on) (sym (drop_all k all l))
