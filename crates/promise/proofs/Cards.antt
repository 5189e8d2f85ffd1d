-- A card is a block: the one that would be written for its position and no coins. So it is taken, and it can be watched.
use Rattle.std.proofs.Common.{◌≡◌, ℕ, ◌+◌, ◌^◌, ◌<◌, ◌≤◌, Bool, true, false, not, ◌&&◌, ◌||◌, eqb, ltb, leb, List, [], ◌∷◌, ◌++◌, length, get_or, is_some, Some, None, Option, sym, refl, ap, ◌∙◌, arith}
use Rattle.std.proofs.lemmas.Bool.{and_from, and_right, not_from_true, eq-eqb, le-ltb, lt-leb}
use Rattle.utreexo.specs.declared.types.Coin.{Coin}
use Rattle.utreexo.specs.Bytes.{Bytes}
use Rattle.utreexo.specs.Lists.{any}
use Rattle.utreexo.specs.Values.{Image, ImageFits}
use Rattle.utreexo.specs.Forest.{Slots, Node, at_node, locate, roots_of}
use Rattle.utreexo.specs.Claims.{Target, beneath, same_node}
use Rattle.utreexo.specs.Blocks.{composed, entries, spent_count, coin_count, Block, ascending}
use Rattle.utreexo.specs.Checks.{refusal, most_slots, named, above_another, cause, place_causes, proof_causes, read_causes}
use Rattle.utreexo.specs.Wallet.{Held, position_of, card_of, take_causes, watch_causes, on_shelf, View}
use Rattle.utreexo.specs.Collection.{slot_held, held_at, coin_at, view_of, all_held, fresh, coins_at, block_for, write_causes}
use Rattle.laws.proofs.Causes.{freed, free, free_front}
use Rattle.laws.proofs.Forest.{row_of_tree}
use Rattle.laws.proofs.Positions.{locate_at}
use Rattle.laws.proofs.Claiming.{eq_node}
use Rattle.laws.proofs.Live.{LiveAt, live_over, coin_make, slot_held_live_at}
use Rattle.laws.proofs.Lone.{path_fresh}
use Rattle.promise.specs.Theorems.{Fitting}
use Rattle.promise.proofs.Composed.{read_most, spent_counted, coin_counted}
use Rattle.promise.proofs.Words.{SlotsFit}
use Rattle.promise.proofs.Naming.{coin_named, names_none}
use Rattle.promise.proofs.Writing.{fitting, taken}

module _ (image : Image) (s : Slots) (small : length s < 2 ^ 32) (w : ℕ) (c : Coin) (live : get_or s w None ≡ Some c) where
  -- the slot's record, its target, and the number of its position
  abbrev held : Held
  held = slot_held image s w c

  abbrev card_target : Target
  card_target = record { node = at_node held.row held.place; coin = c }

  abbrev card_number : ℕ
  card_number = position_of (length s) held

  here : LiveAt s held.row held.place w c
  here = slot_held_live_at image s small w c live

  number_located : locate (length s) card_number ≡ Some card_target.node
  number_located = locate_at (length s) small held.row held.place (row_of_tree (length s) w) (live_over image s small held.row held.place w c here)

  number_coin : coin_at image s card_target.node ≡ Some c
  number_coin = coin_make image s small held.row held.place w c here

  -- what the definitions find there: the coin, and the target
  coins_there : coins_at image s (card_number ∷ []) ≡ c ∷ []
  coins_there =
      ap (λ z. z ∷ [])
      (coin_named image s card_number (record { node = card_target.node; coin = c; located = number_located; has_coin = number_coin }))

  named_there : named (length s) (card_number ∷ []) (coins_at image s (card_number ∷ [])) ≡ card_target ∷ []
  named_there =
      ap (named (length s) (card_number ∷ [])) coins_there
      ∙ ap (λ (x : Option Node). elim x as (λ _. List Target) [ None ↦ [] | Some e ↦ record { node = e; coin = c } ∷ [] ]) number_located

  -- the card of a live slot is the block that would be written for its position and no coins
  abbrev block : Block
  block = block_for image s (card_number ∷ []) []

  card_composed : card_of (length s) held ≡ composed block
  card_composed = ap composed (λ i. record { targets = card_number ∷ []; spent = coins i; hashes = hashes i; coins = [] })
    where
      coins : c ∷ [] ≡ coins_at image s (card_number ∷ [])
      coins = sym coins_there

      hashes : held.path ≡ fresh image s (named (length s) (card_number ∷ []) (coins_at image s (card_number ∷ [])))
      hashes = path_fresh image s small w c live ∙ ap (fresh image s) (sym named_there)

  -- it may be written
  card_free : length s ≤ most_slots → refusal (write_causes image s (card_number ∷ []) []) ≡ None
  card_free room = freed (write_causes image s (card_number ∷ []) [])
      (refl, (refl, (inside, (above_none, (le-ltb most_slots (length s + 0) (omega arith), (named_one, tt))))))
    where
      inside : any (λ p. not (is_some (locate (length s) p))) (card_number ∷ []) ≡ false
      inside = ap (λ x. not (is_some x) || false) number_located

      alone : (t : Target) → above_another (t ∷ []) ≡ false
      alone t =
          ap (λ b. (b || false) || false) (and_right (beneath t.node t.node) (not (same_node t.node t.node))
          (not_from_true (same_node t.node t.node) (eq_node t.node t.node refl refl)))

      above_none : above_another (named (length s) (card_number ∷ []) (coins_at image s (card_number ∷ []))) ≡ false
      above_none = ap above_another named_there ∙ alone card_target

      named_one : any (names_none image s) (card_number ∷ []) ≡ false
      named_one =
          ap (λ (x : Option Node). (elim x as (λ _. Bool) [ None ↦ true | Some e ↦ not (is_some (coin_at image s e)) ]) || false) number_located
          ∙ ap (λ x. not (is_some x) || false) number_coin

  module _ (image_fits : ImageFits image) (slots_fit : SlotsFit s) (room : length s ≤ most_slots) (ws : List ℕ) where
    abbrev view : View
    view = view_of image s ws

    abbrev bs : Bytes
    bs = composed block

    -- any wallet of these slots takes it as a block
    block_taken : refusal (take_causes image view bs) ≡ None
    block_taken = taken image s image_fits slots_fit (card_number ∷ []) [] (card_free room) ws

    pub card_taken : refusal (take_causes image view (card_of (length s) held)) ≡ None
    card_taken = ap (λ b. refusal (take_causes image view b)) card_composed ∙ block_taken

    -- it is within the limits, and has the counts of a card
    fits : Fitting block
    fits = fitting image s image_fits slots_fit (card_number ∷ []) [] (card_free room)

    is_card : (eqb (spent_count bs) 1 && eqb (coin_count bs) 0) ≡ true
    is_card =
        and_from (eqb (spent_count bs) 1) (eqb (coin_count bs) 0)
        (eq-eqb (spent_count bs) 1 (spent_counted block fits)) (eq-eqb (coin_count bs) 0 (coin_counted block fits))

    -- and any wallet of these slots watches it, unless it is on the shelf or the shelf is full
    pub card_watched : on_shelf (length s) (all_held image s ws) card_number ≡ false → length (all_held image s ws) < 8
        → refusal (watch_causes image view (card_of (length s) held)) ≡ None
    card_watched off left =
        let b = entries bs in
        let place = place_causes (length s) b in
        let proof = proof_causes image (length s) (roots_of image s) b in
        let four = cause 4 (not (ascending b.targets)) in
        let five = cause 5 (not (eqb (spent_count bs) 1 && eqb (coin_count bs) 0)) in
        let eleven = cause 11 (ltb most_slots (length s + length b.coins)) in
        let twelve = cause 12 (any (on_shelf (length s) (all_held image s ws)) b.targets) in
        let thirteen = cause 13 (leb 8 (length (all_held image s ws))) in
        let end = eleven ∷ [] in
        let end' = eleven ∷ twelve ∷ thirteen ∷ [] in
        ap (λ b. refusal (watch_causes image view b)) card_composed
        ∙ freed (watch_causes image view bs)
        (free_front (read_causes bs) (four ∷ place ++ (proof ++ end)) (four ∷ five ∷ place ++ (proof ++ end'))
        (free (take_causes image view bs) block_taken)
        (λ f. (
          f.0,
          (
            ap not is_card,
            free_front place (proof ++ end) (proof ++ end') f.1
                (λ g. free_front proof end end' g (λ h. (h.0, (new, (lt-leb 8 (length (all_held image s ws)) left, tt))))),
          ),
        )))
      where
        new : any (on_shelf (length s) (all_held image s ws)) (entries bs).targets ≡ false
        new = ap (λ b. any (on_shelf (length s) (all_held image s ws)) b.targets) (read_most block fits) ∙ ap (λ b. b || false) off

-- the record of a slot, if there is one, is that of its coin
pub held_slot : (image : Image) (s : Slots) (w : ℕ) (h : Held) → held_at image s w ≡ h ∷ []
    → (c : Coin) × (get_or s w None ≡ Some c) × (h ≡ slot_held image s w c)
held_slot image s w h e = go (get_or s w None) refl e
  where
    go : (x : Option Coin) → get_or s w None ≡ x → ◌≡◌ {A = List Held} (elim x [ None ↦ [] | Some c ↦ slot_held image s w c ∷ [] ]) (h ∷ [])
        → (c : Coin) × (get_or s w None ≡ Some c) × (h ≡ slot_held image s w c)
    go None l q = let z : ◌≡◌ {A = ℕ} 0 1 = cc in absurd (omega arith)
    go (Some c) l q = (c, l, cc)
