-- Positions that nothing refuses.
use Rattle.std.proofs.Common.{◌≡◌, ℕ, ◌^◌, ◌<◌, ◌≤◌, true, false, not, eqb, ltb, List, [], ◌∷◌, length, None, sym, ap, ◌∙◌, arith}
use Rattle.std.proofs.lemmas.Bool.{le-ltb, eq-eqb, not-false}
use Rattle.std.proofs.lemmas.List.{length-map}
use Rattle.utreexo.specs.declared.types.Coin.{Coin}
use Rattle.utreexo.specs.declared.types.Position.{Position}
use Rattle.utreexo.specs.Blocks.{ascending}
use Rattle.utreexo.specs.Checks.{cause, refusal, named, above_another}
use Rattle.block.specs.Compose.{numbers}
use Rattle.laws.proofs.Causes.{free, freed}
use Rattle.targets.specs.Valid.{valid}
use Rattle.targets.specs.declared.spend.Spend.{Spend}
use Rattle.targets.specs.Spends.{targets}
use Rattle.targets.specs.Targets.{target_causes, Located}
use Rattle.targets.proofs.Checked.{named_valid}

module _ (n : ℕ) (positions : List Position) (cs : List Coin) (few : length positions ≤ 32) (same : length positions ≡ length cs) where
  abbrev ps : List ℕ
  ps = numbers positions

  size : length ps ≡ length positions
  size = length-map positions (λ p. p.number)

  none_many : ltb 32 (length ps) ≡ false
  none_many = le-ltb 32 (length ps) (let s = size in omega arith)

  none_unequal : not (eqb (length ps) (length cs)) ≡ false
  none_unequal = ap not (eq-eqb (length ps) (length cs) (size ∙ same))

  -- in order, with these targets, of which the slice that is looked at shows none above another
  module _ (order : refusal (cause 4 (not (ascending ps)) ∷ []) ≡ None) {ss slice : List Spend} (located : Located n ps cs ss) (looked : slice ≡ ss) (apart : false ≡ above_another (targets slice)) where
    ordered : not (ascending ps) ≡ false
    ordered = (free (cause 4 (not (ascending ps)) ∷ []) order).0

    none_over : above_another (named n ps cs) ≡ false
    none_over = sym (apart ∙ ap (λ l. above_another (targets l)) looked ∙ ap above_another located.are)

    pub refused_not : refusal (target_causes n ps cs) ≡ None
    refused_not = freed (target_causes n ps cs) (none_many, (none_unequal, (ordered, (located.all_inside, (none_over, tt)))))

    pub placed_valid : n < 2 ^ 32 → valid n (targets ss) ≡ true
    placed_valid small = ap (valid n) located.are ∙ named_valid n small ps cs (not-false (ascending ps) ordered) none_over
