-- A table that tells of a block's proof refreshes as the proof does.
use Rattle.std.proofs.Common.{◌≡◌, ℕ, ◌+◌, ◌/◌, ◌^◌, ◌<◌, true, false, cond, List, [], ◌∷◌, map, length, Some, None, Option, refl, ap, ◌∙◌}
use Rattle.utreexo.specs.declared.types.Value.{Value}
use Rattle.utreexo.specs.Lists.{filter}
use Rattle.utreexo.specs.Values.{Image}
use Rattle.utreexo.specs.Forest.{at_node, sibling, strike}
use Rattle.utreexo.specs.Claims.{Target, Proof, covered, claim_at, after}
use Rattle.utreexo.specs.Checks.{block_proof}
use Rattle.utreexo.specs.Wallet.{Held, View, moved, renewed, refreshed}
use Rattle.climb.specs.declared.after.AfterValues.{AfterValues}
use Rattle.climb.specs.After.{look, Tells}
use Rattle.std.proofs.lemmas.Bool.{not-false}
use Rattle.laws.proofs.Members.{map_ext, filter_mem, any_none}
use Rattle.shelf.specs.Held.{in_its_tree, astray}
use Rattle.refresh.specs.Refreshed.{settled, renewed_by, refreshed_by}
use Rattle.refresh.specs.Spent.{stays, shelf_after, Spends}
use Rattle.refresh.proofs.Standing.{below_top, beside_inside, one_up}

module _ (image : Image) (p : Proof) (t : AfterValues) (tells : Tells image p t) where
  settled_same : (r o : ℕ) (v : Value) → o < p.count / 2 ^ r → settled (look t r o) v ≡ cond (covered p.targets (at_node r o)) (after image (claim_at p r o)) (Some v)
  settled_same r o v lt =
      ap (λ x. settled x v) (tells r o lt)
      ∙ elim (covered p.targets (at_node r o)) as (λ b. settled (cond b (Some (after image (claim_at p r o))) None) v ≡ cond b (after image (claim_at p r o)) (Some v)) [ true ↦ refl | false ↦ refl ]

  renewed_same : (vs : List Value) (r o : ℕ) → o / 2 ^ length vs < p.count / 2 ^ (r + length vs) → renewed_by (look t) r o vs ≡ renewed image p r o vs
  renewed_same [] r o way = refl
  renewed_same (v ∷ vs) r o way =
      ap (λ x. x ∷ renewed_by (look t) (r + 1) (o / 2) vs) (settled_same r (sibling o) v (beside_inside p.count r o (length vs) way))
      ∙ ap (λ xs. cond (covered p.targets (at_node r (sibling o))) (after image (claim_at p r (sibling o))) (Some v) ∷ xs)
      (renewed_same vs (r + 1) (o / 2) (one_up p.count r o (length vs) way))

  refreshed_same : (h : Held) → in_its_tree p.count h ≡ true → refreshed_by (look t) h ≡ refreshed image p h
  refreshed_same h e = ap (λ xs. moved h (strike xs h.place)) (renewed_same h.path h.row h.place (below_top p.count h e))

  shelf_same : (hs : List Held) → astray p.count hs ≡ false → shelf_after (look t) p.targets hs ≡ map (refreshed image p) (filter (stays p.targets) hs)
  shelf_same hs e =
      map_ext _ _ _ (λ h m. let (held, _) = filter_mem (stays p.targets) hs h m in refreshed_same h (not-false _ (any_none _ hs h e held)))

-- a state of which no coin is astray is spent as the definitions say
pub spends : (t : AfterValues) (ts : List Target) (roots : List (Option Value)) (v : View) (shelf : List Held) → astray v.count v.shelf ≡ false → shelf ≡ shelf_after (look t) ts v.shelf
    → Spends ts t roots v (record { count = v.count; roots = roots; shelf = shelf })
spends t ts roots v shelf straight is image b same tells left =
    let p = block_proof v.count b in
    let s = is ∙ ap (λ us. shelf_after (look t) us v.shelf) same ∙ shelf_same image p t tells v.shelf straight in
    λ j. record { count = v.count; roots = left j; shelf = s j }
