-- The visit of the covered positions, row by row from the top.
use Rattle.std.specs.Prelude.{ℕ, zero, suc, List, [], ◌∷◌, reverse, length}
use Rattle.utreexo.specs.Values.{Image}
use Rattle.utreexo.specs.Forest.{Slots, position}
use Rattle.utreexo.specs.Claims.{Proof, claim_at, claimed_input}
use Rattle.utreexo.specs.Collection.{own_input, compared, Verdict, stands}
use Rattle.climb.specs.After.{covered_places}

module _ (image : Image) (s : Slots) (p : Proof) where
  -- the verdict at place o of row r, given that of the visit that goes on
  abbrev pub visit_place : ℕ → ℕ → Verdict → Verdict
  visit_place r o on = compared (position (length s) r o) (own_input image s r o) (claimed_input image (claim_at p r o)) on

  -- these places of row r, one after another
  abbrev pub visit_places : ℕ → List ℕ → Verdict → Verdict
  visit_places r [] on = on
  visit_places r (o ∷ os) on = visit_place r o (visit_places r os on)

  -- the rows below row k, from the top
  abbrev pub visit_rows : ℕ → Verdict
  visit_rows zero = stands
  visit_rows (suc k) = visit_places k (reverse (covered_places p.count p.targets k)) (visit_rows k)
