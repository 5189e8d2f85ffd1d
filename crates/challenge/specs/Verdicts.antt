-- The answers of a challenge, in the definitions' words.
use Rattle.std.specs.Prelude.{Some, None, Ok, Err, Option, Result}
use Rattle.refusal.specs.declared.Refusal.{Refusal}
use Rattle.refusal.specs.Numbers.{number}
use Rattle.utreexo.specs.Collection.{Verdict as Judgement, unjudged, stands, differs}
use Rattle.challenge.specs.declared.verdict.Verdict.{Verdict}
use Rattle.challenge.specs.declared.verdict.Verdict.TheVariants.{Stands, Differs}

abbrev pub judgement : Verdict → Judgement
judgement Stands = stands
judgement (Differs p x y) = differs p.number x y

-- what the call's `Result` says
abbrev pub judged : Result Verdict Refusal → Judgement
judged (Ok v) = judgement v
judged (Err e) = unjudged (number e)

-- a verdict that ends the visit, or that of the visit that goes on
abbrev pub found_or : Option Verdict → Judgement → Judgement
found_or None on = on
found_or (Some v) on = judgement v
