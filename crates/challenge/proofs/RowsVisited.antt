-- The visit row by row, from the top. Assumes nothing.
use Rattle.std.proofs.Common.{◌≡◌, ℕ, suc, reverse, sym, ap, ◌∙◌}
use Rattle.utreexo.specs.Values.{Image}
use Rattle.utreexo.specs.Forest.{Slots}
use Rattle.utreexo.specs.Claims.{Proof}
use Rattle.utreexo.specs.Collection.{Verdict, stands}
use Rattle.climb.specs.After.{covered_places}
use Rattle.challenge.specs.Visits.{visit_places, visit_rows}

module _ (image : Image) (s : Slots) (p : Proof) where
  abbrev row_verdict : ℕ → Verdict → Verdict
  row_verdict r on = visit_places image s p r (reverse (covered_places p.count p.targets r)) on

  rows_next : (k j : ℕ) → k ≡ suc j → visit_rows image s p k ≡ row_verdict j (visit_rows image s p j)
  rows_next k j e = ap (visit_rows image s p) e

  -- a row that gives no verdict is passed by
  pub rows_more : (k j : ℕ) → k ≡ suc j → ((on : Verdict) → on ≡ row_verdict j on) → visit_rows image s p k ≡ visit_rows image s p j
  rows_more k j e h = rows_next k j e ∙ sym (h (visit_rows image s p j))

  pub rows_found : (k j : ℕ) → k ≡ suc j → (v : Verdict) → ((on : Verdict) → v ≡ row_verdict j on) → v ≡ visit_rows image s p k
  rows_found k j e v h = h (visit_rows image s p j) ∙ sym (rows_next k j e)

  pub rows_none : (k : ℕ) → k ≡ 0 → stands ≡ visit_rows image s p k
  rows_none k e = ap (visit_rows image s p) (sym e)
