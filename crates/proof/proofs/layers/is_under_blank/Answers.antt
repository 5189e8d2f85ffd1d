use Rattle.std.proofs.Common.{◌≡◌, ℕ, Bool, true, false, not, List, is_some, slice_index_or, None, Some, Option, sym, ap, ◌∙◌}
use Rattle.utreexo.specs.declared.types.Value.{Value}
use Rattle.proof.proofs.layers.is_under_blank.Goals as goal

abbrev blank_at : List (Option Value) → Option ℕ → Bool
blank_at roots None = true
blank_at roots (Some k) = not (is_some (slice_index_or roots k None))

turned : (a b : Bool) → a ≡ not b → b ≡ not a
turned a true e = ap not (sym e)
turned a false e = ap not (sym e)

pub returns : goal.returns
returns c = turned _ _ c.is_none.ensures ∙ ap (blank_at c.args.roots.now) c.in-Some.ensures.value
