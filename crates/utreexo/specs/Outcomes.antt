-- What a call's `Result` says in terms of the definitions.
use Rattle.std.specs.Prelude.{◌≡◌, ℕ, List, [], length, Some, None, Ok, Err, Result}
use Rattle.refusal.specs.declared.Refusal.{Refusal}
use Rattle.refusal.specs.Numbers.{number}
use Rattle.utreexo.specs.Bytes.{Bytes}
use Rattle.utreexo.specs.Checks.{Cause, refusal, Answer, granted, refused}

-- the call is refused by the first of these causes that holds, and else gives what is asked
abbrev pub Judged : {A : Type 0} → List Cause → (A → Type 0) → Result A Refusal → Type 0
Judged causes P (Ok a) = (refusal causes ≡ None) × P a
Judged causes P (Err e) = refusal causes ≡ Some (number e)

-- the answer of a call without an output
abbrev pub answer_of : Result (Unit {0}) Refusal → Answer
answer_of (Ok u) = granted []
answer_of (Err e) = refused (number e)

-- the answer of a call that writes, with the output after it
abbrev pub answered : Result ℕ Refusal → Bytes → Answer
answered (Ok n) after = granted after
answered (Err e) after = refused (number e)

-- such a call returns the length of its result; refused, it leaves the output as it was
abbrev pub Writes : Bytes → Bytes → Bytes → Result ℕ Refusal → Type 0
Writes result before after (Ok n) = n ≡ length result
Writes result before after (Err e) = after ≡ before
