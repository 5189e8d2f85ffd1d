-- A table that has each row's covered places tells the after-values. Assumes nothing.
use Rattle.std.proofs.Common.{◌≡◌, ℕ, ◌/◌, ◌^◌, ◌<◌, Bool, true, false, cond, List, map, Some, None, refl, ap, ◌∙◌}
use Rattle.std.proofs.lemmas.Bool.{both_ways}
use Rattle.utreexo.specs.Lists.{below}
use Rattle.utreexo.specs.Values.{Image}
use Rattle.utreexo.specs.Forest.{at_node}
use Rattle.utreexo.specs.Claims.{Proof, covered, claim_at, after}
use Rattle.laws.proofs.Members.{mem_filter, filter_mem}
use Rattle.laws.proofs.Ranges.{below_mem}
use Rattle.targets.proofs.Inside.{row_low}
use Rattle.climb.specs.declared.item.Item.{Item}
use Rattle.climb.specs.declared.after.AfterValues.{AfterValues}
use Rattle.climb.specs.Rows.{lookup}
use Rattle.climb.specs.Entries.{entry}
use Rattle.climb.specs.After.{left_at, covered_places, Fills, Tells}
use Rattle.climb.proofs.Lookups.{lookup_some, lookup_none}

module _ (image : Image) (p : Proof) where
  -- what is found in a row is what is claimed there, if the place is covered
  found_left : (r o : ℕ) → o < p.count / 2 ^ r → left_at (lookup (map (entry image p r) (covered_places p.count p.targets r)) o)
      ≡ cond (covered p.targets (at_node r o)) (Some (after image (claim_at p r o))) None
  found_left r o l = go (covered p.targets (at_node r o)) refl
    where
      go : (b : Bool) → covered p.targets (at_node r o) ≡ b
          → left_at (lookup (map (entry image p r) (covered_places p.count p.targets r)) o) ≡ cond b (Some (after image (claim_at p r o))) None
      go true e =
          ap left_at (lookup_some image p r (covered_places p.count p.targets r) o
          (mem_filter (λ q. covered p.targets (at_node r q)) (below (p.count / 2 ^ r)) o (below_mem (p.count / 2 ^ r) o l) e))
      go false e =
          ap left_at (lookup_none image p r (covered_places p.count p.targets r) o
          (λ m. both_ways (covered p.targets (at_node r o)) e (filter_mem (λ q. covered p.targets (at_node r q)) (below (p.count / 2 ^ r)) o m).1))

  pub fills_tells : (t : AfterValues) → p.count < 2 ^ 32 → Fills image p t → Tells image p t
  fills_tells t small f r o l = ap (λ (xs : List Item). left_at (lookup xs o)) (f r (row_low p.count r o small l)) ∙ found_left r o l
