-- The check chain of take and check: what each part leaves to the next.
use Rattle.std.proofs.Common.{◌≡◌, ℕ, ◌+◌, ◌*◌, ◌^◌, ◌<◌, ltb, List, [], ◌∷◌, ◌++◌, length, Some, None, Option, Ok, Err, Result, sym, ap, ◌∙◌, ap₂}
use Rattle.refusal.specs.declared.Refusal.{Refusal}
use Rattle.refusal.specs.Numbers.{number}
use Rattle.utreexo.specs.declared.types.Coin.{Coin}
use Rattle.utreexo.specs.Bytes.{Bytes, coin_in, part}
use Rattle.utreexo.specs.Values.{Image}
use Rattle.utreexo.specs.Blocks.{entries, spent_count, hash_count, coin_count}
use Rattle.utreexo.specs.Checks.{Cause, cause, refusal, read_causes, most_slots, block_proof}
use Rattle.utreexo.specs.Outcomes.{Judged}
use Rattle.utreexo.specs.Wallet.{View, take_causes, view_after, add_all}
use Rattle.laws.proofs.Causes.{refusal_some, refusal_none}
use Rattle.laws.proofs.Ranges.{length_map_below}
use Rattle.targets.specs.Targets.{placed}
use Rattle.climb.specs.declared.after.AfterValues.{AfterValues}
use Rattle.climb.specs.After.{Fills}
use Rattle.climb.proofs.Filled.{fills_tells}
use Rattle.refresh.specs.Spent.{Spends}
use Rattle.proof.specs.declared.accepted.Accepted.{Accepted}
use Rattle.proof.specs.Accepts.{judge_causes, Accepts}

-- as many coins as the block's bytes say
pub coins_counted : (bs : Bytes) → length (entries bs).coins ≡ coin_count bs
coins_counted bs = length_map_below (λ i. coin_in (part (6 + 40 * spent_count bs + 32 * hash_count bs + 32 * i) 32 bs)) (coin_count bs)

module _ (image : Image) (v : View) (bs : Bytes) where
  -- the causes 4 and 6 to 10, and 11
  abbrev judging : Bytes → List Cause
  judging bs = judge_causes image v.count v.roots (entries bs)

  abbrev limit : ℕ → List Cause
  limit coins = cause 11 (ltb most_slots (v.count + coins)) ∷ []

  abbrev coins : ℕ
  coins = length (entries bs).coins

  abbrev causes : List Cause
  causes = take_causes image v bs

  -- the block that was read, with the same bytes
  module _ (own : Bytes) (same : own ≡ bs) (read : refusal (read_causes bs) ≡ None) where
    judged_same : refusal (judging bs) ≡ refusal (judging own)
    judged_same = ap (λ b. refusal (judging b)) (sym same)

    pub not_judged : (k : ℕ) → refusal (judging own) ≡ Some k → refusal causes ≡ Some k
    not_judged k e = refusal_none (read_causes bs) (judging bs ++ limit coins) read ∙ refusal_some (judging bs) (limit coins) k (judged_same ∙ e)

    module _ (judged : refusal (judging own) ≡ None) where
      -- the limit on the count decides
      pub limited : (k : ℕ) → k ≡ coins → (x : Option ℕ) → refusal (limit k) ≡ x → refusal causes ≡ x
      limited k e x q =
          refusal_none (read_causes bs) (judging bs ++ limit coins) read ∙ refusal_none (judging bs) (limit coins) (judged_same ∙ judged)
          ∙ ap (λ k. refusal (limit k)) (sym e) ∙ q

      pub limit_checked : (k : ℕ) → k ≡ coins → (r : Result (Unit {0}) Refusal) → Judged (limit k) (λ _. Unit {0}) r → Judged causes (λ _. Unit {0}) r
      limit_checked k e (Ok u) q = (limited k e None q.0, tt)
      limit_checked k e (Err y) q = limited k e (Some (number y)) q

      -- so it does where the coins are added once the targets are spent
      pub limit_after : (n : ℕ) (cs : List Coin) → n ≡ v.count → cs ≡ (entries own).coins → (x : Option ℕ) → refusal (cause 11 (ltb most_slots (n + length cs)) ∷ []) ≡ x
          → refusal causes ≡ x
      limit_after n cs e q x f =
          limited (length cs) (ap length (q ∙ ap (λ b. (entries b).coins) same)) x
          (ap (λ n. refusal (cause 11 (ltb most_slots (n + length cs)) ∷ [])) (sym e) ∙ f)

      -- the targets spent, and the coins added
      pub view_taken : (a : Accepted) (t : AfterValues) (spent after : View) (cs : List Coin) → v.count < 2 ^ 32 → Accepts image v.count v.roots (entries own) a
          → Fills image (block_proof v.count (entries own)) t → Spends (placed a.targets) t a.roots v spent → cs ≡ (entries own).coins → after ≡ add_all image spent cs
          → after ≡ view_after image bs v
      view_taken a t spent after cs small ok f s q e =
          e ∙ ap₂ (add_all image) (s image (entries own) ok.spent (fills_tells image (block_proof v.count (entries own)) t small f) ok.left) q ∙ ap (λ b. view_after image b v) same
