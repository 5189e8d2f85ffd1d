-- The chain of checks of a block that a bridge is to take.
use Rattle.std.proofs.Common.{◌≡◌, ℕ, ◌+◌, ◌<◌, ◌≤◌, Bool, true, false, not, ltb, eqb, List, [], ◌∷◌, ◌++◌, length, Some, None, sym, refl, ap, ◌∙◌, ap₂}
use Rattle.std.proofs.lemmas.Bool.{lt-ltb, le-ltb, eqb-true, not-false}
use Rattle.std.proofs.lemmas.List.{length-map}
use Rattle.utreexo.specs.declared.types.Coin.{Coin}
use Rattle.utreexo.specs.declared.types.Value.{Value}
use Rattle.utreexo.specs.Bytes.{Bytes}
use Rattle.utreexo.specs.Lists.{any}
use Rattle.utreexo.specs.Values.{Image}
use Rattle.utreexo.specs.Forest.{Slots}
use Rattle.utreexo.specs.Claims.{Target, needed}
use Rattle.utreexo.specs.Blocks.{Block, entries}
use Rattle.utreexo.specs.Checks.{Cause, cause, refusal, read_causes, targets_of, most_slots}
use Rattle.utreexo.specs.Collection.{same_values, fresh_value, fresh}
use Rattle.utreexo.specs.Bridge.{bridge_take_causes}
use Rattle.laws.proofs.Causes.{refusal_some, refusal_none, free}
use Rattle.proof.proofs.Chain.{place_all}
use Rattle.targets.specs.declared.placed.Targets.{Targets}
use Rattle.targets.specs.Targets.{placed}
use Rattle.bridge.proofs.Judging.{dead}

-- the last four causes
abbrev tail : Bool → Bool → Bool → Bool → List Cause
tail a d h z = cause 11 a ∷ cause 16 d ∷ cause 17 h ∷ cause 18 z ∷ []

module _ (image : Image) (capacity : ℕ) (s : Slots) (bs : Bytes) where
  abbrev b : Block
  b = entries bs

  abbrev ts : List Target
  ts = targets_of (length s) b

  abbrev all_causes : List Cause
  all_causes = bridge_take_causes image capacity s bs

  abbrev later : List Cause
  later =
      cause 16 (any (dead image s) ts) ∷ cause 17 (not (same_values b.hashes (fresh image s ts))) ∷ cause 18 (ltb capacity (length s + length b.coins)) ∷ []

  abbrev last : List Cause
  last = cause 11 (ltb most_slots (length s + length b.coins)) ∷ later

  -- of a readable block, whose bytes are x, with n for the count
  module _ (read : refusal (read_causes bs) ≡ None) (x : Bytes) (same : x ≡ bs) (n : ℕ) (count : n ≡ length s) where
    pub not_placed : (k : ℕ) → refusal (place_all n (entries x)) ≡ Some k → refusal all_causes ≡ Some k
    not_placed k e =
        refusal_none (read_causes bs) (place_all (length s) b ++ last) read
        ∙ refusal_some (place_all (length s) b) last k (ap₂ (λ n x. refusal (place_all n (entries x))) (sym count) (sym same) ∙ e)

    module _ (none : refusal (place_all n (entries x)) ≡ None) where
      after : refusal all_causes ≡ refusal last
      after =
          refusal_none (read_causes bs) (place_all (length s) b ++ last) read
          ∙ refusal_none (place_all (length s) b) last (ap₂ (λ n x. refusal (place_all n (entries x))) (sym count) (sym same) ∙ none)

      with_last : (a d h z : Bool) → ltb most_slots (length s + length b.coins) ≡ a → any (dead image s) ts ≡ d → not (same_values b.hashes (fresh image s ts)) ≡ h
          → ltb capacity (length s + length b.coins) ≡ z → refusal all_causes ≡ refusal (tail a d h z)
      with_last a d h z e f g k =
          after ∙ ap₂ (λ a d. refusal (tail a d (not (same_values b.hashes (fresh image s ts))) (ltb capacity (length s + length b.coins)))) e f
          ∙ ap₂ (λ h z. refusal (tail a d h z)) g k

      -- of these targets, coins and hashes
      module _ (t : Targets) (are : placed t ≡ targets_of n (entries x)) (cs : List Coin) (coins : cs ≡ (entries x).coins) (sum : ℕ) (total : sum ≡ length s + length cs) where
        pub placed_so : placed t ≡ ts
        placed_so = are ∙ ap₂ (λ n x. targets_of n (entries x)) count same

        pub coins_so : cs ≡ b.coins
        coins_so = coins ∙ ap (λ x. (entries x).coins) same

        sum_so : sum ≡ length s + length b.coins
        sum_so = total ∙ ap (λ l. length s + length l) coins_so

        over_most : (r : Bool) → ltb most_slots sum ≡ r → ltb most_slots (length s + length b.coins) ≡ r
        over_most r e = ap (ltb most_slots) (sym sum_so) ∙ e

        any_dead : (r : Bool) → any (dead image s) (placed t) ≡ r → any (dead image s) ts ≡ r
        any_dead r e = ap (any (dead image s)) (sym placed_so) ∙ e

        pub too_many : (k : ℕ) → refusal (cause 11 (ltb most_slots sum) ∷ []) ≡ Some k → refusal all_causes ≡ Some k
        too_many k e =
            after ∙ refusal_some (cause 11 (ltb most_slots (length s + length b.coins)) ∷ []) later k
            (ap (λ n. refusal (cause 11 (ltb most_slots n) ∷ [])) (sym sum_so) ∙ e)

        module _ (few : sum ≤ most_slots) where
          pub not_live : any (dead image s) (placed t) ≡ true → refusal all_causes ≡ Some 16
          not_live e = with_last false true _ _ (over_most false (le-ltb most_slots sum few)) (any_dead true e) refl refl

          module _ (live : any (dead image s) (placed t) ≡ false) (hs vs : List Value) (given : hs ≡ (entries x).hashes) (found : vs ≡ fresh image s (placed t)) where
            fresh_same : (r : Bool) → same_values hs vs ≡ r → same_values b.hashes (fresh image s ts) ≡ r
            fresh_same r e =
                ap₂ same_values (ap (λ x. (entries x).hashes) (sym same) ∙ sym given) (ap (fresh image s) (sym placed_so) ∙ sym found) ∙ e

            -- there is a hash for each needed position
            pub as_many : length vs ≡ length hs
            as_many =
                let free_places = free (place_all n (entries x)) none in
                let count_right = eqb-true (length (entries x).hashes) (length (needed n (targets_of n (entries x)))) (not-false (eqb (length (entries x).hashes) (length (needed n (targets_of n (entries x))))) free_places.1.1.1.0) in
                ap length found ∙ length-map (needed (length s) (placed t)) (fresh_value image s) ∙ ap₂ (λ n ts. length (needed n ts)) (sym count) are
                ∙ sym count_right ∙ ap length (sym given)

            pub not_fresh : same_values hs vs ≡ false → refusal all_causes ≡ Some 17
            not_fresh e = with_last false false true _ (over_most false (le-ltb most_slots sum few)) (any_dead false live) (ap not (fresh_same false e)) refl

            module _ (equal : same_values hs vs ≡ true) where
              pub no_room : capacity < sum → refusal all_causes ≡ Some 18
              no_room l =
                  with_last false false false true (over_most false (le-ltb most_slots sum few)) (any_dead false live) (ap not (fresh_same true equal))
                  (ap (ltb capacity) (sym sum_so) ∙ lt-ltb capacity sum l)

              pub all_pass : sum ≤ capacity → refusal all_causes ≡ None
              all_pass l =
                  with_last false false false false (over_most false (le-ltb most_slots sum few)) (any_dead false live) (ap not (fresh_same true equal))
                  (ap (ltb capacity) (sym sum_so) ∙ le-ltb capacity sum l)
