-- The visit of the definitions goes row by row from the top. Assumes nothing.
use Rattle.std.proofs.Common.{◌≡◌, ℕ, zero, suc, ◌/◌, ◌^◌, ◌<◌, List, [], ◌∷◌, ◌++◌, map, reverse, length, Some, None, Option, sym, refl, ap, ◌∙◌}
use Rattle.std.specs.List.{AllByRecursion}
use Rattle.laws.proofs.Members.{all_mem}
use Rattle.utreexo.specs.Values.{Image}
use Rattle.utreexo.specs.Forest.{Slots, Node, position}
use Rattle.utreexo.specs.Claims.{Proof, claim_at, claimed_input}
use Rattle.utreexo.specs.Blocks.{Block}
use Rattle.utreexo.specs.Checks.{targets_of, block_proof}
use Rattle.utreexo.specs.Collection.{own_input, visited, compared, visit}
use Rattle.targets.proofs.Inside.{locates}
use Rattle.climb.specs.After.{covered_places}
use Rattle.challenge.specs.Visits.{visit_place, visit_places, visit_rows}
use Rattle.challenge.proofs.Lists.{map_reverse, all_reverse}
use Rattle.challenge.proofs.Visited.{descending, mem_place, visited_is}

module _ (image : Image) (s : Slots) (b : Block) (small : length s < 2 ^ 32) where
  abbrev proof : Proof
  proof = block_proof (length s) b

  -- the positions of places of one row
  visit_row_positions : (r : ℕ) (os qs : List ℕ) → AllByRecursion (λ o. o < length s / 2 ^ r) os
      → visit image s proof (map (position (length s) r) os ++ qs) ≡ visit_places image s proof r os (visit image s proof qs)
  visit_row_positions r [] qs a = refl
  visit_row_positions r (o ∷ os) qs a =
      ap (λ (x : Option Node). elim x [
        | None ↦ visit image s proof (map (position (length s) r) os ++ qs)
        | Some e ↦ compared (position (length s) r o) (own_input image s e.row e.place) (claimed_input image (claim_at proof e.row e.place)) (visit image s proof (map (position (length s) r) os ++ qs))
      ]) (locates (length s) r o small a.0)
      ∙ ap (visit_place image s proof r o) (visit_row_positions r os qs a.1)

  visit_descending : (k : ℕ) → visit image s proof (descending (length s) proof.targets k) ≡ visit_rows image s proof k
  visit_descending zero = refl
  visit_descending (suc k) =
      ap (λ l. visit image s proof (l ++ descending (length s) proof.targets k)) (sym (map_reverse (position (length s) k) os))
      ∙ visit_row_positions k (reverse os) (descending (length s) proof.targets k)
      (all_reverse (λ o. o < length s / 2 ^ k) os (all_mem (λ o. o < length s / 2 ^ k) os (λ o m. (mem_place (length s) proof.targets small k o m).inside)))
      ∙ ap (visit_places image s proof k (reverse os)) (visit_descending k)
    where
      os : List ℕ
      os = covered_places (length s) proof.targets k

  pub visit_is : visit image s proof (visited (length s) (targets_of (length s) b)) ≡ visit_rows image s proof 32
  visit_is = ap (visit image s proof) (visited_is (length s) proof.targets small) ∙ visit_descending 32
