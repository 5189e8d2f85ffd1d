use Rattle.std.proofs.Common.{sym, arith, pow_mono, inl, inr}
use native.Mathlib.Nat.{div-eq_of_lt}
use Rattle.std.proofs.lemmas.Bool.{cases_lt, lt-ltb, le-ltb}
use Rattle.place.proofs.runs.Goals as goal

pub returns-clause-value : goal.returns-clause-value
returns-clause-value c = elim (cases_lt c.args.row 32) [
  | inl l ↦ rw (c.unbounded_shr.ensures, lt-ltb c.args.row 32 l)
  | inr g ↦ rw (c.unbounded_shr.ensures, le-ltb c.args.row 32 g) (sym (div-eq_of_lt (omega (arith, pow_mono {i = 32} {j = c.args.row} g))))
]
