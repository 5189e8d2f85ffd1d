-- What a challenge answers, from its checks and its visit. Assumes nothing.
use Rattle.std.proofs.Common.{◌≡◌, ◌≢◌, ℕ, ◌^◌, ◌<◌, Bool, true, false, ◌⊎◌, List, [], ◌∷◌, length, Some, None, Ok, Err, Option, Result, sym, ap, ap₂, ◌∙◌, inl, inr, arith}
use Rattle.laws.proofs.Logic.{never, some_inj}
use Rattle.utreexo.specs.declared.types.Value.{Value}
use Rattle.utreexo.specs.Claims.{proof_of}
use Rattle.targets.specs.declared.placed.Targets.{Targets}
use Rattle.targets.specs.Targets.{placed}
use Rattle.climb.specs.Held.{hashes_in}
use Rattle.climb.specs.Claimed.{claims}
use Rattle.utreexo.specs.Bytes.{Bytes}
use Rattle.utreexo.specs.Values.{Image}
use Rattle.utreexo.specs.Forest.{Slots, roots_of}
use Rattle.utreexo.specs.Blocks.{Block, entries}
use Rattle.utreexo.specs.Checks.{Cause, refusal, read_causes, targets_of, block_proof}
use Rattle.utreexo.specs.Collection.{Verdict as Judgement, unjudged, visited, visit, challenge}
use Rattle.laws.proofs.Causes.{refusal_some, refusal_none}
use Rattle.std.specs.Result.{IsErrAnd, IfErr}
use Rattle.refusal.specs.declared.Refusal.{Refusal}
use Rattle.refusal.specs.Numbers.{number}
use Rattle.proof.specs.Accepts.{judge_causes}
use Rattle.challenge.specs.declared.verdict.Verdict.{Verdict}
use Rattle.challenge.specs.Verdicts.{judged}
use Rattle.challenge.specs.Visits.{visit_rows}
use Rattle.challenge.proofs.Visiting.{visit_is}

-- the claims of the targets and hashes that the checks found
pub same_proof : (t : Targets) (n : ℕ) (bytes hashes : Bytes) → t.count ≡ n → placed t ≡ targets_of n (entries bytes) → hashes_in hashes ≡ (entries bytes).hashes
    → claims t hashes ≡ block_proof n (entries bytes)
same_proof t n bytes hashes e f g = ap (λ x. proof_of x (placed t) (hashes_in hashes)) e ∙ ap₂ (proof_of n) f g

-- a refusal has the number of one of its causes, and none of them is 11
abbrev Among : ℕ → List Cause → Type 0
Among k [] = ⊥
Among k (c ∷ cs) = (k ≡ c.number) ⊎ Among k cs

among : (cs : List Cause) (k : ℕ) → refusal cs ≡ Some k → Among k cs
among [] k e = absurd (never k e)
among (c ∷ cs) k e = go c.holds e (among cs k)
  where
    go : (b : Bool) → elim b [ true ↦ Some c.number | false ↦ refusal cs ] ≡ Some k → (refusal cs ≡ Some k → Among k cs) → (k ≡ c.number) ⊎ Among k cs
    go true q ih = inl (sym (some_inj c.number k q))
    go false q ih = inr (ih q)

pub read_number : (bs : Bytes) (k : ℕ) → refusal (read_causes bs) ≡ Some k → k ≡ 11 → ⊥
read_number bs k e q = go (among (read_causes bs) k e)
  where
    go : Among k (read_causes bs) → ⊥
    go (inl h) = omega arith
    go (inr (inl h)) = omega arith
    go (inr (inr (inl h))) = omega arith
    go (inr (inr (inr h))) = h

pub judge_number : (image : Image) (n : ℕ) (roots : List (Option Value)) (b : Block) (k : ℕ) → refusal (judge_causes image n roots b) ≡ Some k → k ≡ 11 → ⊥
judge_number image n roots b k e q = go (among (judge_causes image n roots b) k e)
  where
    go : Among k (judge_causes image n roots b) → ⊥
    go (inl h) = omega arith
    go (inr (inl h)) = omega arith
    go (inr (inr (inl h))) = omega arith
    go (inr (inr (inr (inl h)))) = omega arith
    go (inr (inr (inr (inr (inl h))))) = omega arith
    go (inr (inr (inr (inr (inr (inl h)))))) = omega arith
    go (inr (inr (inr (inr (inr (inr h)))))) = h

pub number_passed : (r : Result Verdict Refusal) (e : Refusal) → IsErrAnd r (λ x. x ≡ e) → (number e ≡ 11 → ⊥) → IfErr r (λ x. number x ≢ 11)
number_passed (Ok v) e h f = absurd h
number_passed (Err x) e h f = λ q. f (ap number (sym h) ∙ q)

-- a refusal that is passed on
pub refusal_passed : (r : Result Verdict Refusal) (e : Refusal) → IsErrAnd r (λ x. x ≡ e) → judged r ≡ unjudged (number e)
refusal_passed (Ok v) e h = absurd h
refusal_passed (Err x) e h = ap (λ y. unjudged (number y)) h

module _ (image : Image) (s : Slots) (bs : Bytes) where
  abbrev visit_verdict : Judgement
  visit_verdict = visit image s (block_proof (length s) (entries bs)) (visited (length s) (targets_of (length s) (entries bs)))

  abbrev verdict : Option ℕ → Judgement
  verdict x = elim x [ Some k ↦ unjudged k | None ↦ visit_verdict ]

  -- a block that cannot be read
  pub unread : (k : ℕ) → refusal (read_causes bs) ≡ Some k → unjudged k ≡ challenge image s bs
  unread k e = ap verdict (sym (refusal_some (read_causes bs) (judge_causes image (length s) (roots_of image s) (entries bs)) k e))

  -- the same checks, of a count, roots and bytes that are those of the slots and the block
  pub same_judgement : (n : ℕ) (roots : List (Option Value)) (bytes : Bytes) → n ≡ length s → roots ≡ roots_of image s → bytes ≡ bs
      → refusal (judge_causes image n roots (entries bytes)) ≡ refusal (judge_causes image (length s) (roots_of image s) (entries bs))
  same_judgement n roots bytes e f g =
      ap (λ x. refusal (judge_causes image x roots (entries bytes))) e ∙ ap (λ x. refusal (judge_causes image (length s) x (entries bytes))) f
      ∙ ap (λ x. refusal (judge_causes image (length s) (roots_of image s) (entries x))) g

  module _ (read : refusal (read_causes bs) ≡ None) where
    -- one that the roots, or its own numbers, refuse
    pub turned_down : (k : ℕ) → refusal (judge_causes image (length s) (roots_of image s) (entries bs)) ≡ Some k → unjudged k ≡ challenge image s bs
    turned_down k e = ap verdict (sym (refusal_none (read_causes bs) (judge_causes image (length s) (roots_of image s) (entries bs)) read ∙ e))

    -- and one that is visited
    pub visited_so : length s < 2 ^ 32 → refusal (judge_causes image (length s) (roots_of image s) (entries bs)) ≡ None → (v : Judgement)
        → v ≡ visit_rows image s (block_proof (length s) (entries bs)) 32 → v ≡ challenge image s bs
    visited_so small e v h =
        h ∙ sym (visit_is image s (entries bs) small)
        ∙ ap verdict (sym (refusal_none (read_causes bs) (judge_causes image (length s) (roots_of image s) (entries bs)) read ∙ e))
