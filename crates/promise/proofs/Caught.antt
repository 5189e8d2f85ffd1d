-- What a block with no early cause is known to be; a genuine block fits, and one that fits is genuine or caught.
use Rattle.std.proofs.Common.{◌≡◌, ◌^◌, ◌<◌, Bool, true, false, not, eqb, ◌⊎◌, List, [], ◌∷◌, ◌++◌, length, is_some, Some, None, sym, ap, subst, inl, inr}
use Rattle.std.proofs.lemmas.Bool.{not-false, not-true, and_parts, and_from, eqb-true}
use Rattle.utreexo.specs.Bytes.{Bytes}
use Rattle.utreexo.specs.Lists.{any}
use Rattle.utreexo.specs.Values.{Image}
use Rattle.utreexo.specs.Forest.{Slots, locate, roots_of}
use Rattle.utreexo.specs.Claims.{Target, needed, fits}
use Rattle.utreexo.specs.Blocks.{entries, ascending}
use Rattle.utreexo.specs.Checks.{Cause, cause, refusal, read_causes, targets_of, block_proof, blank_over, place_causes}
use Rattle.utreexo.specs.Collection.{target_live, fresh, same_values, genuine, unjudged, visited, visit, challenge}
use Rattle.utreexo.specs.Promise.{Evidence}
use Rattle.laws.proofs.Logic.{true_false}
use Rattle.laws.proofs.Members.{any_none, none_any}
use Rattle.laws.proofs.Causes.{free, freed, free_append, free_right}
use Rattle.laws.proofs.Same.{values_eq, eq_values}
use Rattle.laws.proofs.Needed.{needed_from}
use Rattle.laws.proofs.Fits.{ClaimsFit, fits_claims, claims_fits}
use Rattle.laws.proofs.Genuine.{apart, right_fits, match_right, match_fresh, Placed, RightProof, named_placed}
use Rattle.promise.proofs.Visiting.{challenged}

module _ (image : Image) (s : Slots) (bs : Bytes) where
  -- the targets as positions
  abbrev ts : List Target
  ts = targets_of (length s) (entries bs)

  -- the causes that the count and the roots give, and all that come before the proof is tried
  abbrev pub placing : List Cause
  placing = place_causes (length s) (entries bs) ++ (cause 9 (any (blank_over (length s) (roots_of image s)) ts) ∷ [])

  abbrev pub early : List Cause
  early = read_causes bs ++ (cause 4 (not (ascending (entries bs).targets)) ∷ placing)

  -- the proof fits the roots of the slots
  abbrev pub fitting : Bool
  fitting = fits image (block_proof (length s) (entries bs)) (roots_of image s)

  -- no early cause holds, and the proof fits, but it is not genuine
  abbrev pub FitsNotGenuine : Type 0
  FitsNotGenuine = (refusal early ≡ None) × (fitting ≡ true) × (genuine image s (entries bs) ≡ false)

  -- what is known of a block of which no early cause holds: its targets, the number of its hashes, and that each target is found
  pub record Passed : Type 0 where
    pub placed : Placed (length s) ts
    pub full : length (entries bs).hashes ≡ length (needed (length s) ts)
    pub found : any (λ p. not (is_some (locate (length s) p))) (entries bs).targets ≡ false

  pub early_passed : refusal early ≡ None → Passed
  early_passed e =
      let f = free_right (read_causes bs) (cause 4 (not (ascending (entries bs).targets)) ∷ placing) (free early e) in
      record {
        placed = named_placed (length s) (entries bs).targets (entries bs).spent
            (not-false (ascending (entries bs).targets) f.0) f.1.1.0;
        full = eqb-true (length (entries bs).hashes) (length (needed (length s) ts))
            (not-false (eqb (length (entries bs).hashes) (length (needed (length s) ts))) f.1.1.1.0);
        found = f.1.0;
      }

  -- a target that is not live
  abbrev dead : Target → Bool
  dead t = not (target_live image s t)

  module _ (small : length s < 2 ^ 32) (passed : Passed) where
    -- what is genuine has right coins and fresh hashes
    pub genuine_right : genuine image s (entries bs) ≡ true → RightProof image s ts (entries bs).hashes
    genuine_right g =
        let (x, y) = and_parts (not (any dead ts)) (same_values (entries bs).hashes (fresh image s ts)) g in
        record {
          live = λ t m. not-false (target_live image s t) (any_none dead ts t (not-true (any dead ts) x) m);
          new = values_eq (entries bs).hashes (fresh image s ts) y;
        }

    -- a genuine block fits
    pub genuine_fits : genuine image s (entries bs) ≡ true → fitting ≡ true
    genuine_fits g =
        claims_fits image s small ts (entries bs).hashes (right_fits image s small ts (entries bs).hashes passed.placed (genuine_right g))

    -- a block that fits is genuine, or the challenge shows two inputs of one image
    fits_or : fitting ≡ true
        → Evidence image (visit image s (block_proof (length s) (entries bs)) (visited (length s) ts)) ⊎ (genuine image s (entries bs) ≡ true)
    fits_or f =
        elim (challenged image s small ts (entries bs).hashes fit (apart image s small ts (entries bs).hashes passed.placed)) [
          | inl e ↦ inl e
          | inr g ↦ inr (and_from (not (any dead ts)) (same_values (entries bs).hashes (fresh image s ts))
              (ap not (none_any dead ts (λ t m. ap not (match_right image s small ts (entries bs).hashes passed.placed fit g t m))))
              (eq_values (entries bs).hashes (fresh image s ts)
              (match_fresh image s small ts (entries bs).hashes passed.placed fit g (needed_from (length s) ts) passed.full)))
        ]
      where
        fit : ClaimsFit image s small ts (entries bs).hashes
        fit = fits_claims image s small ts (entries bs).hashes f

  -- such a block is caught
  pub caught : length s < 2 ^ 32 → FitsNotGenuine → Evidence image (challenge image s bs)
  caught small (e, f, g) =
      let unfit : List Cause = cause 10 (not fitting) ∷ [] in
      let q : refusal (early ++ unfit) ≡ None = freed (early ++ unfit) (free_append early unfit (free early e) (ap not f, tt)) in
      elim (fits_or small (early_passed e) f) [
        | inl v ↦ subst (Evidence image)
            (sym (ap (λ z. elim z [ Some k ↦ unjudged k | None ↦ visit image s (block_proof (length s) (entries bs)) (visited (length s) ts) ]) q)) v
        | inr h ↦ absurd (true_false (genuine image s (entries bs)) h g)
      ]
