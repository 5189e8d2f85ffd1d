-- A block undone: cut back to the count, and what was blanked refilled.
use Rattle.std.proofs.Common.{◌≡◌, ℕ, ◌<◌, true, cond, ◌⊎◌, List, [], ◌∷◌, map, length, get_or, set, Some, None, Option, sym, refl, ap, ◌∙◌, inl, inr, arith, length-set, get_or-set_other, get_or-set_same, take_at, ext_get_or}
use Rattle.std.proofs.lemmas.List.{get_or_past}
use Rattle.std.proofs.lemmas.Bool.{cases_lt, cases_eq, cases_Bool}
use Rattle.utreexo.specs.declared.types.Coin.{Coin}
use Rattle.utreexo.specs.Bytes.{Bytes}
use Rattle.utreexo.specs.Lists.{below}
use Rattle.utreexo.specs.Values.{Image}
use Rattle.utreexo.specs.Forest.{Slots}
use Rattle.utreexo.specs.Claims.{Target}
use Rattle.utreexo.specs.Blocks.{entries}
use Rattle.utreexo.specs.Checks.{refusal, granted, when_granted, push, targets_of}
use Rattle.utreexo.specs.Collection.{spent_slot, slots_after, slots_named}
use Rattle.utreexo.specs.Bridge.{undo_of, refilled, undone, Bridge, bridge_take_causes, bridge_take, bridge_take_back, bridge_step}
use Rattle.laws.proofs.Order.{Mem}
use Rattle.promise.proofs.Outcomes.{granted_refused}
use Rattle.laws.proofs.Members.{mem_filter, filter_mem}
use Rattle.laws.proofs.Ranges.{below_mem}
use Rattle.laws.proofs.Slots.{slot_low, left, length_left, left_at, slot_coin, spent_live}

-- slots that agree with t but at ws are t once ws are refilled
pub refills : (t : Slots) (h : ℕ → Coin) (ws : List ℕ) (s : Slots) → length s ≡ length t
    → ((i : ℕ) → (get_or s i None ≡ get_or t i None) ⊎ Mem i ws)
    → ((w : ℕ) → Mem w ws → get_or t w None ≡ Some (h w)) → refilled ws (map h ws) s ≡ t
refills t h [] s l a b = ext_get_or None s t l (λ i q. elim (a i) [ inl e ↦ e | inr m ↦ absurd m ])
refills t h (w ∷ ws) s l a b =
    refills t h ws (set s w (Some (h w))) (length-set s w (Some (h w)) ∙ l) at (λ v m. b v (inr m))
  where
    here : get_or t w None ≡ Some (h w)
    here = b w (inl refl)

    inside : w < length s
    inside = let q = slot_low t w (h w) here in omega arith

    at : (i : ℕ) → (get_or (set s w (Some (h w))) i None ≡ get_or t i None) ⊎ Mem i ws
    at i = elim (cases_eq i w) [
      | inl e ↦ inl (ap (λ z. get_or (set s w (Some (h w))) z None) e ∙ get_or-set_same s w (Some (h w)) None inside ∙ sym here ∙ ap (λ z. get_or t z None) (sym e))
      | inr n ↦ (elim (a i) [
        | inl e ↦ inl (get_or-set_other s w i (Some (h w)) None n ∙ e)
        | inr (inl e) ↦ absurd (n e)
        | inr (inr m) ↦ inr m
      ])
    ]

module _ (image : Image) (s : Slots) (bs : Bytes) where
  abbrev ts : List Target
  ts = targets_of (length s) (entries bs)

  -- taking a block back gives the slots before it
  pub undone_after : undone (undo_of image s bs) (slots_after image bs s) ≡ s
  undone_after =
      ap (λ z. refilled (slots_named image s (entries bs)) (map (slot_coin s) (slots_named image s (entries bs))) z)
      (take_at (left image s ts) (map (λ c. Some c) (entries bs).coins) (length s) (length_left image s ts))
      ∙ refills s (slot_coin s) (slots_named image s (entries bs)) (left image s ts) (length_left image s ts) at
      (λ w m. alive w (filter_mem (spent_slot image s ts) (below (length s)) w m).1)
    where
      alive : (w : ℕ) → spent_slot image s ts w ≡ true → get_or s w None ≡ Some (slot_coin s w)
      alive w e = go (spent_live image s ts w e)
        where
          go : (c : Coin) × (get_or s w None ≡ Some c) → get_or s w None ≡ Some (slot_coin s w)
          go (c, h) = let f : slot_coin s w ≡ c = cc in h ∙ ap (λ z. Some z) (sym f)

      at : (i : ℕ) → (get_or (left image s ts) i None ≡ get_or s i None) ⊎ Mem i (slots_named image s (entries bs))
      at i = elim (cases_lt i (length s)) [
        | inr l ↦ inl (get_or_past (left image s ts) i None (let q = length_left image s ts in omega arith) ∙ sym (get_or_past s i None l))
        | inl l ↦ (elim (cases_Bool (spent_slot image s ts i)) [
          | inl e ↦ inr (mem_filter (spent_slot image s ts) (below (length s)) i (below_mem (length s) i l) e)
          | inr e ↦ inl (left_at image s ts i l ∙ ap (λ b. cond b None (get_or s i None)) e)
        ])
      ]

-- so does a bridge that takes the block and takes it back
module _ (image : Image) (b : Bytes) (g : Bridge) where
  pub taken_back : (bridge_step image (bridge_take b) g).answer ≡ granted []
      → ((bridge_step image bridge_take_back (bridge_step image (bridge_take b) g).state).answer ≡ granted [])
      × ((bridge_step image bridge_take_back (bridge_step image (bridge_take b) g).state).state.slots ≡ g.slots)
  taken_back = go (refusal (bridge_take_causes image g.capacity g.slots b))
    where
      after : Bridge
      after = record { capacity = g.capacity; slots = slots_after image b g.slots; marks = push 64 (undo_of image g.slots b) g.marks }

      go : (d : Option ℕ) → (when_granted d after g).answer ≡ granted []
          → ((bridge_step image bridge_take_back (when_granted d after g).state).answer ≡ granted [])
          × ((bridge_step image bridge_take_back (when_granted d after g).state).state.slots ≡ g.slots)
      go None e = (refl, undone_after image g.slots b)
      go (Some k) e = absurd (granted_refused [] k (sym e))
