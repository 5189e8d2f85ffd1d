-- Which slots have a position, by the slot that the definitions find there; and fresh values at places.
use Rattle.std.proofs.Common.{◌≡◌, ℕ, ◌^◌, ◌<◌, Bool, true, false, eqb, length, is_some, Some, None, Option, sym, refl, ap, ◌∙◌}
use Rattle.std.proofs.lemmas.Bool.{eq-eqb, eqb-true}
use Rattle.utreexo.specs.declared.types.Value.{Value}
use Rattle.utreexo.specs.Values.{Image}
use Rattle.utreexo.specs.Forest.{Slots, at_node, tree_of, position}
use Rattle.utreexo.specs.Claims.{no_value}
use Rattle.utreexo.specs.Collection.{slot_has, slot_at, value_at, fresh_value}
use Rattle.laws.proofs.Logic.{iff_bool, true_false}
use Rattle.laws.proofs.Positions.{tree_over, locate_at}
use Rattle.laws.proofs.Live.{slot_has_is, slot_has_make, slot_is, slot_make}
use Rattle.own.specs.Answers.{or_zero}

-- the test that a slot has a position, by the slot that is found there
abbrev pub is_slot : Option ℕ → ℕ → Bool
is_slot None i = false
is_slot (Some w) i = eqb w i

pub slot_has_at : (image : Image) (s : Slots) → length s < 2 ^ 32 → (r o : ℕ) (x : Option ℕ) → slot_at image s (at_node r o) ≡ x → (i : ℕ)
    → slot_has image s (at_node r o) i ≡ is_slot x i
slot_has_at image s small r o x e i = iff_bool (slot_has image s (at_node r o) i) (is_slot x i) to (from x e)
  where
    to : slot_has image s (at_node r o) i ≡ true → is_slot x i ≡ true
    to h =
        let (c, l) = slot_has_is image s small r o i h in
        ap (λ z. is_slot z i) (sym e ∙ slot_make image s small r o i c l) ∙ eq-eqb i i refl

    from : (x : Option ℕ) → slot_at image s (at_node r o) ≡ x → is_slot x i ≡ true → slot_has image s (at_node r o) i ≡ true
    from None e h = absurd (true_false false h refl)
    from (Some w) e h =
        let (c, l) = slot_is image s small r o w e in
        ap (slot_has image s (at_node r o)) (sym (eqb-true w i h)) ∙ slot_has_make image s small r o w c l

-- the fresh value at the position of a place of the forest
pub fresh_there : (image : Image) (s : Slots) → length s < 2 ^ 32 → (r o : ℕ) → is_some (tree_of (length s) (at_node r o)) ≡ true
    → fresh_value image s (position (length s) r o) ≡ or_zero (value_at image s (at_node r o))
fresh_there image s small r o t = go (tree_of (length s) (at_node r o)) refl t
  where
    zero_or : (z : Option Value) → elim z [ None ↦ no_value | Some v ↦ v ] ≡ or_zero z
    zero_or None = refl
    zero_or (Some v) = refl

    go : (x : Option ℕ) → tree_of (length s) (at_node r o) ≡ x → is_some x ≡ true
        → fresh_value image s (position (length s) r o) ≡ or_zero (value_at image s (at_node r o))
    go None e t = absurd (true_false false t refl)
    go (Some k) e t =
        let l = locate_at (length s) small r o k (tree_over (length s) r o k e) in
        ap (λ z. elim z [ None ↦ no_value | Some e ↦ (elim (value_at image s e) [ None ↦ no_value | Some v ↦ v ]) ]) l ∙ zero_or (value_at image s (at_node r o))
