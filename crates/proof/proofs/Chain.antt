-- The check chain: what each layer leaves to the next.
use Rattle.std.proofs.Common.{◌≡◌, ℕ, ◌≤◌, Bool, true, false, not, eqb, ltb, List, [], ◌∷◌, length, Some, None, Option, Ok, Err, Result, IsErrAnd, sym, refl, ap, ◌∙◌, ◌≢◌}
use Rattle.std.specs.Bool.{then_some}
use Rattle.std.proofs.lemmas.Bool.{le-ltb, eq-eqb, ne_eqb}
use Rattle.std.proofs.lemmas.Option.{none-some}
use Rattle.refusal.specs.declared.Refusal.{Refusal}
use Rattle.refusal.specs.Numbers.{number}
use Rattle.utreexo.specs.declared.types.Coin.{Coin}
use Rattle.utreexo.specs.declared.types.Position.{Position}
use Rattle.utreexo.specs.declared.types.Value.{Value}
use Rattle.utreexo.specs.Bytes.{Bytes}
use Rattle.utreexo.specs.Lists.{any}
use Rattle.utreexo.specs.Values.{Image}
use Rattle.utreexo.specs.Claims.{Target, proof_of, needed, fits}
use Rattle.utreexo.specs.Blocks.{Block, ascending}
use Rattle.utreexo.specs.Checks.{Cause, cause, refusal, named, targets_of, block_proof, above_another, place_causes, blank_over, proof_causes, outside}
use Rattle.utreexo.specs.Outcomes.{Judged}
use Rattle.block.specs.Compose.{numbers}
use Rattle.laws.proofs.Logic.{some_inj}
use Rattle.laws.proofs.Causes.{free, freed, refusal_some, refusal_none, first_cause}
use Rattle.targets.specs.declared.placed.Targets.{Targets}
use Rattle.targets.specs.Targets.{placed, target_causes, Are}
use Rattle.climb.specs.Held.{hashes_in}
use Rattle.climb.specs.Claimed.{claims}
use Rattle.proof.specs.Accepts.{judge_causes}

-- a refusal that `?` passes on
pub passed : {A : Type 0} (causes : List Cause) (P : A → Type 0) (r : Result A Refusal) (e : Refusal) → IsErrAnd r (λ y. y ≡ e) → refusal causes ≡ Some (number e) → Judged causes P r
passed causes P (Ok a) e h s = absurd h
passed causes P (Err y) e h s = s ∙ ap (λ (x : Refusal). Some (number x)) (sym h)

-- what a flag and a value make an option of
module _ {A : Type 0} where
  pub some_then : (b : Bool) (x y : A) → Some y ≡ then_some b x → (b ≡ true) × (y ≡ x)
  some_then true x y e = (refl, some_inj y x e)
  some_then false x y e = absurd (none-some y (sym e))

  pub none_then : (b : Bool) (x : A) → None ≡ then_some b x → b ≡ false
  none_then true x e = absurd (none-some x e)
  none_then false x e = refl

module _ (n : ℕ) (b : Block) where
  -- the causes before 8, and 8
  abbrev order_causes : List Cause
  order_causes = cause 4 (not (ascending b.targets)) ∷ cause 6 (any (outside n) b.targets) ∷ cause 7 (above_another (targets_of n b)) ∷ []

  abbrev count_cause : Cause
  count_cause = cause 8 (not (eqb (length b.hashes) (length (needed n (targets_of n b)))))

  -- the causes 4, and 6 to 8
  abbrev pub place_all : List Cause
  place_all = cause 4 (not (ascending b.targets)) ∷ place_causes n b

  -- the positions and coins that were read
  module _ (ps : List Position) (cs : List Coin) (p : numbers ps ≡ b.targets) (q : cs ≡ b.spent) where
    pub placed_are : {t : Targets} → Are n (numbers ps) cs t → placed t ≡ targets_of n b
    placed_are a = a.named_so ∙ ap (λ (l : List ℕ). named n l cs) p ∙ ap (λ (l : List Coin). named n b.targets l) q

    module _ (few : length b.targets ≤ 32) (same : length b.targets ≡ length b.spent) where
      read_well : refusal (target_causes n (numbers ps) cs) ≡ refusal order_causes
      read_well =
          ap (λ (l : List ℕ). refusal (target_causes n l cs)) p ∙ ap (λ (l : List Coin). refusal (target_causes n b.targets l)) q
          ∙ refusal_none (cause 2 (ltb 32 (length b.targets)) ∷ cause 3 (not (eqb (length b.targets) (length b.spent))) ∷ []) order_causes
          (freed (cause 2 (ltb 32 (length b.targets)) ∷ cause 3 (not (eqb (length b.targets) (length b.spent))) ∷ [])
          (le-ltb 32 (length b.targets) few, (ap not (eq-eqb (length b.targets) (length b.spent) same), tt)))

      pub not_placed : (e : Refusal) → refusal (target_causes n (numbers ps) cs) ≡ Some (number e) → refusal place_all ≡ Some (number e)
      not_placed e h = refusal_some order_causes (count_cause ∷ []) (number e) (sym read_well ∙ h)

      module _ (h : refusal (target_causes n (numbers ps) cs) ≡ None) {hashes found : ℕ} (given : hashes ≡ length b.hashes) (wanted : found ≡ length (needed n (targets_of n b))) where
        pub other_number : found ≢ hashes → refusal place_all ≡ Some 8
        other_number d =
            first_cause order_causes count_cause [] (free order_causes (sym read_well ∙ h))
            (ap not (ne_eqb (length b.hashes) (length (needed n (targets_of n b))) (λ e. d (wanted ∙ sym e ∙ sym given))))

        pub right_number : found ≡ hashes → refusal place_all ≡ None
        right_number e =
            refusal_none order_causes (count_cause ∷ []) (sym read_well ∙ h)
            ∙ freed (count_cause ∷ []) (ap not (eq-eqb (length b.hashes) (length (needed n (targets_of n b))) (sym given ∙ sym e ∙ wanted)), tt)

  -- the number of needed positions that was found
  pub found_number : (t : Targets) (found : ℕ) → t.count ≡ n → placed t ≡ targets_of n b → found ≡ length (needed t.count (placed t)) → found ≡ length (needed n (targets_of n b))
  found_number t found c s e = e ∙ ap (λ k. length (needed k (placed t))) c ∙ ap (λ (l : List Target). length (needed n l)) s

  -- the proof that is judged is the block's
  pub claims_are : (t : Targets) (hashes : Bytes) → t.count ≡ n → placed t ≡ targets_of n b → hashes_in hashes ≡ b.hashes → claims t hashes ≡ block_proof n b
  claims_are t hashes c s h = ap (λ k. proof_of k (placed t) (hashes_in hashes)) c ∙ ap (λ (l : List Target). proof_of n l (hashes_in hashes)) s ∙ ap (λ (l : List Value). proof_of n (targets_of n b) l) h

  -- the whole chain
  module _ (image : Image) (roots : List (Option Value)) where
    pub not_judged : (k : ℕ) → refusal place_all ≡ Some k → refusal (judge_causes image n roots b) ≡ Some k
    not_judged k e = refusal_some place_all (proof_causes image n roots b) k e

    module _ (h : refusal place_all ≡ None) where
      rest : refusal (judge_causes image n roots b) ≡ refusal (proof_causes image n roots b)
      rest = refusal_none place_all (proof_causes image n roots b) h

      module _ (t : Targets) (forest : t.count ≡ n) (are : placed t ≡ targets_of n b) where
        -- the roots over placed targets are judged
        none_blank : any (blank_over t.count roots) (placed t) ≡ false → any (blank_over n roots) (targets_of n b) ≡ false
        none_blank e = sym (ap (λ k. any (blank_over k roots) (placed t)) forest ∙ ap (λ (l : List Target). any (blank_over n roots) l) are) ∙ e

        module _ (hashes : Bytes) (given : hashes_in hashes ≡ b.hashes) (f : any (blank_over t.count roots) (placed t) ≡ false) where
          pub not_fitting : fits image (claims t hashes) roots ≡ false → refusal (judge_causes image n roots b) ≡ Some 10
          not_fitting e = let none = none_blank f in let no_fit = ap (λ p. fits image p roots) (sym (claims_are t hashes forest are given)) ∙ e in rest ∙ rw (none, no_fit) refl

          pub all_judged : fits image (claims t hashes) roots ≡ true → refusal (judge_causes image n roots b) ≡ None
          all_judged e = let none = none_blank f in let fit = ap (λ p. fits image p roots) (sym (claims_are t hashes forest are given)) ∙ e in rest ∙ rw (none, fit) refl
