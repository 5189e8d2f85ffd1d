-- A block watched: its one target is put on both shelves, and the two answers agree or the block is caught.
use Rattle.std.proofs.Common.{◌≡◌, ℕ, ◌+◌, ◌*◌, Bool, true, false, not, ◌&&◌, ◌||◌, eqb, ltb, leb, ◌⊎◌, List, [], ◌∷◌, ◌++◌, map, length, get_or, is_some, Some, None, Option, sym, refl, ap, ◌∙◌, subst, ap₂, inl, inr, append_assoc, append-nil}
use Rattle.std.proofs.lemmas.Bool.{not-false, and_parts, eq-eqb, eqb-true}
use Rattle.utreexo.specs.declared.types.Coin.{Coin}
use Rattle.utreexo.specs.Bytes.{Bytes, number_in, part, coin_in}
use Rattle.utreexo.specs.Lists.{any, below, filter}
use Rattle.utreexo.specs.Values.{Image}
use Rattle.utreexo.specs.Forest.{Slots, Node, locate, position}
use Rattle.utreexo.specs.Claims.{Target}
use Rattle.utreexo.specs.Blocks.{entries, ascending, spent_count, coin_count}
use Rattle.utreexo.specs.Checks.{Cause, cause, refusal, read_causes, most_slots, named, targets_of}
use Rattle.utreexo.specs.Wallet.{held_from, position_of, on_shelf, watch_causes}
use Rattle.utreexo.specs.Collection.{held_at, all_held, view_of, genuine, fresh, spent_slot, slots_named}
use Rattle.utreexo.specs.Register.{has_position}
use Rattle.laws.proofs.Logic.{true_false}
use Rattle.laws.proofs.Order.{Mem}
use Rattle.laws.proofs.Members.{mem_append, any_none}
use Rattle.laws.proofs.Causes.{Free, free, freed, free_left, refusals, free_right, free_front}
use Rattle.laws.proofs.Positions.{locate_is}
use Rattle.laws.proofs.Live.{LiveAt, target_is, held_of}
use Rattle.laws.proofs.Lone.{named_one, held_one}
use Rattle.promise.proofs.Shelves.{once_snoc, has_live, shelf_all, shelf_length}
use Rattle.promise.proofs.Caught.{early, fitting, FitsNotGenuine, Passed, early_passed, genuine_right, genuine_fits, placing}
use Rattle.promise.proofs.Taking.{Sound, collection}

module _ (image : Image) (s : Slots) (ws : List ℕ) (bs : Bytes) (sound : Sound (collection s ws)) where
  abbrev ts : List Target
  ts = targets_of (length s) (entries bs)

  -- the block is a card, and the causes before its proof is tried
  abbrev is_card : Bool
  is_card = eqb (spent_count bs) 1 && eqb (coin_count bs) 0

  abbrev watch_early : List Cause
  watch_early =
      read_causes bs ++ (cause 4 (not (ascending (entries bs).targets)) ∷ cause 5 (not is_card) ∷ placing image s bs)

  -- where none of them holds, none of those of taking does, and the block is a card
  early_of : refusal watch_early ≡ None → (refusal (early image s bs) ≡ None) × (is_card ≡ true)
  early_of e =
      let after4 = cause 5 (not is_card) ∷ placing image s bs in
      let four = cause 4 (not (ascending (entries bs).targets)) in
      let f = free watch_early e in (
        freed (early image s bs) (free_front (read_causes bs) (four ∷ after4) (four ∷ placing image s bs) f (λ g. (g.0, g.1.1))),
        not-false is_card (free_right (read_causes bs) (four ∷ after4) f).1.0,
      )

  -- the causes after it, of the wallet and of the register
  abbrev wallet_late : List Cause
  wallet_late =
      cause 11 (ltb most_slots (length s + length (entries bs).coins))
      ∷ cause 12 (any (on_shelf (length s) (all_held image s ws)) (entries bs).targets)
      ∷ cause 13 (leb 8 (length (all_held image s ws))) ∷ []

  abbrev register_late : List Cause
  register_late =
      cause 11 (ltb most_slots (length s + length (entries bs).coins))
      ∷ cause 12 (any (λ p. any (has_position image s p) ws) (entries bs).targets)
      ∷ cause 13 (leb 8 (length ws)) ∷ []

  abbrev from_proof : List Cause
  from_proof = cause 10 (not (genuine image s (entries bs))) ∷ register_late

  late_same : wallet_late ≡ register_late
  late_same =
      ap₂ (λ x n. cause 11 (ltb most_slots (length s + length (entries bs).coins)) ∷ cause 12 x ∷ cause 13 (leb 8 n) ∷ [])
      (shelf_all image s (entries bs).targets ws) (shelf_length image s sound.small ws sound.live)

  -- wallet and register refuse alike, or the block fits and is not genuine
  pub watch_judged : (refusal (watch_causes image (view_of image s ws) bs) ≡ refusal (watch_early ++ from_proof))
      ⊎ FitsNotGenuine image s bs
  watch_judged =
      elim (refusals watch_early wallet_late register_late (fitting image s bs) (genuine image s (entries bs)) late_same
      (λ e g. genuine_fits image s bs sound.small (early_passed image s bs (early_of e).0) g)) [
        | inl e ↦ inl e
        | inr e ↦ inr ((early_of e.0).0, e.1, e.2)
      ]

  -- A card that the register watches.
  module _ (granted : refusal (watch_early ++ from_proof) ≡ None) where
    none_early : refusal watch_early ≡ None
    none_early = freed watch_early (free_left watch_early from_proof (free (watch_early ++ from_proof) granted))

    none_late : Free from_proof
    none_late = free_right watch_early from_proof (free (watch_early ++ from_proof) granted)

    is_genuine : genuine image s (entries bs) ≡ true
    is_genuine = not-false (genuine image s (entries bs)) none_late.0

    not_watched : any (λ p. any (has_position image s p) ws) (entries bs).targets ≡ false
    not_watched = none_late.1.1.0

    passed : Passed image s bs
    passed = early_passed image s bs (early_of none_early).0

    -- the one target
    record One : Type 0 where
      target : Target
      number : ℕ
      one_target : ts ≡ target ∷ []
      one_number : (entries bs).targets ≡ number ∷ []
      located : locate (length s) number ≡ Some target.node

    one : One
    one = go (locate (length s) p₀) refl
      where
        count : spent_count bs ≡ 1
        count = eqb-true (spent_count bs) 1 (and_parts (eqb (spent_count bs) 1) (eqb (coin_count bs) 0) (early_of none_early).1).0

        p₀ : ℕ
        p₀ = number_in (part (6 + 8 * 0) 8 bs)

        c₀ : Coin
        c₀ = coin_in (part (6 + 8 * 1 + 32 * 0) 32 bs)

        numbers : (entries bs).targets ≡ p₀ ∷ []
        numbers = ap (λ d. map (λ i. number_in (part (6 + 8 * i) 8 bs)) (below d)) count

        coins : (entries bs).spent ≡ c₀ ∷ []
        coins = ap (λ d. map (λ i. coin_in (part (6 + 8 * d + 32 * i) 32 bs)) (below d)) count

        here : any (λ p. not (is_some (locate (length s) p))) (p₀ ∷ []) ≡ false
        here = ap (any (λ p. not (is_some (locate (length s) p)))) (sym numbers) ∙ passed.found

        go : (z : Option Node) → locate (length s) p₀ ≡ z → One
        go None q = absurd (true_false true refl (sym (ap (λ z. not (is_some z) || false) q) ∙ here))
        go (Some e) q =
            record {
              target = record { node = e; coin = c₀ };
              number = p₀;
              one_target = ap₂ (named (length s)) numbers coins ∙ ap (λ z. elim z [ None ↦ [] | Some e ↦ record { node = e; coin = c₀ } ∷ [] ]) q;
              one_number = numbers;
              located = q;
            }

    -- and its slot
    record OneLive : Type 0 where
      slot : ℕ
      at : LiveAt s one.target.node.row one.target.node.place slot one.target.coin

    one_live : OneLive
    one_live =
        let m : Mem one.target ts = subst (λ ts. Mem one.target ts) (sym one.one_target) (inl refl) in
        let (i, b) = target_is image s sound.small one.target ((genuine_right image s bs sound.small passed is_genuine).live one.target m) in
        record { slot = i; at = b }

    hashes_fresh : (entries bs).hashes ≡ fresh image s (one.target ∷ [])
    hashes_fresh = (genuine_right image s bs sound.small passed is_genuine).new ∙ ap (fresh image s) one.one_target

    slot_named : slots_named image s (entries bs) ≡ one_live.slot ∷ []
    slot_named =
        ap (λ ts. filter (spent_slot image s ts) (below (length s))) one.one_target
        ∙ named_one image s sound.small one.target (entries bs).hashes one_live.slot one_live.at

    slot_record : held_at image s one_live.slot ≡ held_from (length s) (entries bs)
    slot_record =
        held_one image s sound.small one.target (entries bs).hashes one_live.slot one_live.at hashes_fresh
        ∙ sym (ap (map (λ t. record { coin = t.coin; row = t.node.row; place = t.node.place; path = (entries bs).hashes })) one.one_target)

    -- the record put on the shelf is that of the slot watched
    pub watched_shelf : all_held image s ws ++ held_from (length s) (entries bs) ≡ all_held image s (ws ++ slots_named image s (entries bs))
    watched_shelf =
        ap (λ h. all_held image s ws ++ h) (sym (append-nil (held_at image s one_live.slot) ∙ slot_record))
        ∙ sym (held_append ws (one_live.slot ∷ [])) ∙ ap (λ x. all_held image s (ws ++ x)) (sym slot_named)
      where
        held_append : (xs ys : List ℕ) → all_held image s (xs ++ ys) ≡ all_held image s xs ++ all_held image s ys
        held_append [] ys = refl
        held_append (x ∷ xs) ys =
            ap (λ z. held_at image s x ++ z) (held_append xs ys)
            ∙ sym (append_assoc (held_at image s x) (all_held image s xs) (all_held image s ys))

    -- it is not watched yet
    slot_new : Mem one_live.slot ws → ⊥
    slot_new m =
        let p = one.number in
        let w = one_live.slot in
        let c = one.target.coin in
        let b = one_live.at in
        let listed : Mem p (entries bs).targets = subst (λ ps. Mem p ps) (sym one.one_number) (inl refl) in
        let n = any_none (λ p. any (has_position image s p) ws) (entries bs).targets p not_watched listed in
        let at : position_of (length s) (held_of image s w c) ≡ p =
        ap₂ (position (length s)) b.row b.at ∙ (locate_is (length s) p one.target.node one.located).number in
        true_false (has_position image s p w)
        (has_live image s sound.small p w c b.live ∙ eq-eqb (position_of (length s) (held_of image s w c)) p at)
        (any_none (has_position image s p) ws w n m)

    -- and the watched slots stay sound
    pub watched_sound : Sound (collection s (ws ++ slots_named image s (entries bs)))
    watched_sound =
        subst (λ x. Sound (collection s (ws ++ x))) (sym slot_named)
        (record {
          small = sound.small;
          live = λ w m. elim (mem_append ws (one_live.slot ∷ []) w m) [ inl x ↦ sound.live w x | inr x ↦ last w x ];
          once = once_snoc ws one_live.slot sound.once slot_new;
        })
      where
        last : (w : ℕ) → Mem w (one_live.slot ∷ []) → (c : Coin) × (get_or s w None ≡ Some c)
        last w (inl e) = (one.target.coin, ap (λ w. get_or s w None) e ∙ one_live.at.live)
        last w (inr m) = absurd m
