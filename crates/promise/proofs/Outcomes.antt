-- Answers: granted or refused, and what an answer tells of the causes.
use Rattle.std.proofs.Common.{◌≡◌, ℕ, ltb, ◌≢◌, ◌⊎◌, List, [], ◌∷◌, ◌++◌, length, Some, None, Option, sym, refl, ap, ◌∙◌, ap₂, inl, inr, arith}
use Rattle.std.proofs.lemmas.Bool.{cases_eq}
use Rattle.utreexo.specs.Bytes.{Bytes}
use Rattle.utreexo.specs.Checks.{Cause, cause, refusal, Answer, granted, refused, over, output, when_granted}
use Rattle.laws.proofs.Causes.{free, freed, free_left}

-- no answer is both
pub granted_refused : (o : Bytes) (k : ℕ) → granted o ≡ refused k → ⊥
granted_refused o k e = let z : ◌≡◌ {A = ℕ} 0 1 = cc in omega arith

-- two lists of bytes are one or differ
bytes_or : (a b : Bytes) → (a ≡ b) ⊎ (a ≢ b)
bytes_or [] [] = inl refl
bytes_or [] (y ∷ b) = inr (λ e. let z : ◌≡◌ {A = ℕ} 0 1 = cc in omega arith)
bytes_or (x ∷ a) [] = inr (λ e. let z : ◌≡◌ {A = ℕ} 0 1 = cc in omega arith)
bytes_or (x ∷ a) (y ∷ b) =
    elim (cases_eq x y) [
      | inl e ↦ (elim (bytes_or a b) [ inl f ↦ inl (ap₂ (λ u v. u ∷ v) e f) | inr f ↦ inr (λ q. f (cc)) ])
      | inr e ↦ inr (λ q. e (cc))
    ]

-- two answers are one or differ
pub answers_or : (a b : Answer) → (a ≡ b) ⊎ (a ≢ b)
answers_or (granted a) (granted b) = elim (bytes_or a b) [ inl e ↦ inl (ap (λ x. granted x) e) | inr e ↦ inr (λ q. e (cc)) ]
answers_or (granted a) (refused n) = inr (λ e. granted_refused a n e)
answers_or (refused m) (granted b) = inr (λ e. granted_refused b m (sym e))
answers_or (refused m) (refused n) = elim (cases_eq m n) [ inl e ↦ inl (ap (λ x. refused x) e) | inr e ↦ inr (λ q. e (cc)) ]

-- what a call with no output answers
abbrev answer_of : Option ℕ → Answer
answer_of None = granted []
answer_of (Some k) = refused k

-- the answer of a call that is granted unless a cause holds
when_answer : {S : Type 0} (d : Option ℕ) (new old : S) → (when_granted d new old).answer ≡ answer_of d
when_answer None new old = refl
when_answer (Some k) new old = refl

-- the same refusal, the same answer
pub same_answer : {S R : Type 0} (d d' : Option ℕ) (new old : S) (new' old' : R) → d ≡ d' → (when_granted d new old).answer ≡ (when_granted d' new' old').answer
same_answer d d' new old new' old' e = when_answer d new old ∙ ap answer_of e ∙ sym (when_answer d' new' old')

-- no cause: granted
pub when_none : {S : Type 0} (d : Option ℕ) (new old : S) → d ≡ None → (when_granted d new old).answer ≡ granted []
when_none d new old e = when_answer d new old ∙ ap answer_of e

-- an output that is granted has no cause, and begins with what was made
pub output_granted : (cs : List Cause) (made out wrote : Bytes) → output cs made out ≡ granted wrote → (refusal cs ≡ None) × (wrote ≡ over made out)
output_granted cs made out wrote e = go (refusal (cs ++ (cause 19 (ltb (length out) (length made)) ∷ []))) refl
  where
    go : (x : Option ℕ) → refusal (cs ++ (cause 19 (ltb (length out) (length made)) ∷ [])) ≡ x → (refusal cs ≡ None) × (wrote ≡ over made out)
    go None h =
        let q : granted (over made out) ≡ granted wrote = (rw (h, output) at e) in
        (freed cs (free_left cs (cause 19 (ltb (length out) (length made)) ∷ []) (free (cs ++ (cause 19 (ltb (length out) (length made)) ∷ [])) h)), cc)
    go (Some k) h = let q : refused k ≡ granted wrote = (rw (h, output) at e) in absurd (granted_refused wrote k (sym q))

-- an output with no cause is written
pub output_fits : (cs : List Cause) (made out : Bytes)
    → refusal (cs ++ (cause 19 (ltb (length out) (length made)) ∷ [])) ≡ None → output cs made out ≡ granted (over made out)
output_fits cs made out e = ap (λ z. elim z [ Some k ↦ refused k | None ↦ granted (over made out) ]) e
