-- A bridge serves a wallet of the same standing blocks.
use Rattle.std.proofs.Common.{◌≡◌, ℕ, ◌^◌, ◌<◌, ◌≤◌, Bool, true, false, not, T, eqb, List, [], ◌∷◌, ◌++◌, map, length, get_or, is_some, Some, None, Option, sym, refl, ap, ◌∙◌, subst, ap₂, arith}
use Rattle.std.specs.List.{AllByRecursion}
use Rattle.std.proofs.lemmas.Bool.{eqb-true, le-ltb}
use Rattle.utreexo.specs.declared.types.Coin.{Coin}
use Rattle.utreexo.specs.Bytes.{Bytes}
use Rattle.utreexo.specs.Lists.{any}
use Rattle.utreexo.specs.Values.{Image, CoinFits, ImageFits}
use Rattle.utreexo.specs.Forest.{Slots}
use Rattle.utreexo.specs.Blocks.{composed, entries}
use Rattle.utreexo.specs.Checks.{cause, output, over, refusal, granted, refused, most_slots, Step, step, when_granted, push}
use Rattle.utreexo.specs.Wallet.{Held, Wallet, Call, take_block, watch, show, take_causes, watch_causes, view_after, on_shelf, held_from, position_of, card_of}
use Rattle.utreexo.specs.Wallet.{with_view, with_shelf, shown, wallet_step}
use Rattle.utreexo.specs.Collection.{slot_held, held_at, card_bytes, view_of, slots_after, card, write, write_causes, block_for}
use Rattle.utreexo.specs.Register.{Register}
use Rattle.utreexo.specs.Bridge.{Bridge, Undo, bridge_take_causes, BridgeCall, bridge_take, bridge_take_back, GivenOctets, as_call, undo_of, undone}
use Rattle.utreexo.specs.Bridge.{bridge_step, new_bridge}
use Rattle.utreexo.specs.Promise.{run, wallet_run, register_run, Agreed, standing, bridge_run, ServesAt, Served}
use Rattle.laws.proofs.Order.{Mem}
use Rattle.laws.proofs.Members.{any_mem}
use Rattle.laws.proofs.Slots.{Lives}
use Rattle.promise.specs.Theorems.{BridgeTakes, BridgeWrites, CardsWatched}
use Rattle.promise.proofs.Outcomes.{output_granted, output_fits, when_none}
use Rattle.promise.proofs.Shelves.{card_shown}
use Rattle.promise.proofs.Taking.{Sound}
use Rattle.promise.proofs.Runs.{run_kept, wallet_follows}
use Rattle.promise.proofs.Built.{same_slots}
use Rattle.promise.proofs.Words.{SlotsFit, bridge_fits}
use Rattle.promise.proofs.Writing.{taken, bridge_taken, written_read}
use Rattle.promise.proofs.Cards.{held_slot, card_taken, card_watched}

T_true : (b : Bool) → T b → b ≡ true
T_true true t = refl
T_true false t = absurd t

-- a slot that passes the test of being watched is watched
watched_mem : (slot : ℕ) (ws : List ℕ) → T (any (eqb slot) ws) → Mem slot ws
watched_mem slot ws t = go (any_mem (eqb slot) ws (T_true (any (eqb slot) ws) t))
  where
    go : (x : ℕ) × (Mem x ws) × (eqb slot x ≡ true) → Mem slot ws
    go (x, m, e) = subst (λ z. Mem z ws) (sym (eqb-true slot x e)) m

-- the states after a block is taken, of a bridge and of a wallet
abbrev bridge_after : Image → Bytes → Bridge → Bridge
bridge_after image b g = record { capacity = g.capacity; slots = slots_after image b g.slots; marks = push 64 (undo_of image g.slots b) g.marks }

abbrev wallet_after : Image → Bytes → Wallet → Wallet
wallet_after image b w = record { room = w.room; view = view_after image b w.view; marks = push w.room w.view w.marks }

-- the capacity of a bridge stays
same_capacity : (image : Image) (fed : List BridgeCall) (g : Bridge) → (run (bridge_step image) g fed).state.capacity ≡ g.capacity
same_capacity image [] g = refl
same_capacity image (bridge_take b ∷ cs) g =
    same_capacity image cs (bridge_step image (bridge_take b) g).state ∙ one (refusal (bridge_take_causes image g.capacity g.slots b))
  where
    one : (d : Option ℕ) → (when_granted d (bridge_after image b g) g).state.capacity ≡ g.capacity
    one None = refl
    one (Some k) = refl
same_capacity image (bridge_take_back ∷ cs) g = same_capacity image cs (bridge_step image bridge_take_back g).state ∙ one g.marks
  where
    one : (ms : List Undo)
        → ◌≡◌ {A = ℕ} (elim ms as (λ _. Step Bridge) [
          | [] ↦ step (refused 14) g
          | m ∷ ms ↦ step (granted []) (record { capacity = g.capacity; slots = undone m g.slots; marks = ms })
        ]).state.capacity g.capacity
    one [] = refl
    one (m ∷ ms) = refl

-- the card of a live slot is written where the output has room
card_granted : (image : Image) (s : Slots) (slot : ℕ) (c : Coin) (h : Held) (out : Bytes) → get_or s slot None ≡ Some c → held_at image s slot ≡ h ∷ []
    → length (card_of (length s) h) ≤ length out → card image s slot out ≡ granted (over (card_of (length s) h) out)
card_granted image s slot c h out live here room =
    ap₂ (λ x hs. output (cause 16 (not (is_some x)) ∷ []) (card_bytes (length s) hs) out) live here
    ∙ output_fits (cause 16 false ∷ []) (card_of (length s) h) out
    (ap (λ t. refusal (cause 19 t ∷ [])) (le-ltb (length out) (length (card_of (length s) h)) room))

-- a wallet with the view of these slots takes what is written of them
take_written : (image : Image) → ImageFits image → (s : Slots) → SlotsFit s → (ws : List ℕ) (w : Wallet) → w.view ≡ view_of image s ws
    → (ps : List ℕ) (cs : List Coin) (out wrote : Bytes) → write image s ps cs out ≡ granted wrote
    → (wallet_step image (take_block (composed (block_for image s ps cs))) w).answer ≡ granted []
take_written image fit s slots_fit ws w e ps cs out wrote g =
    let ok = (output_granted (write_causes image s ps cs) (composed (block_for image s ps cs)) out wrote g).0 in
    let t = taken image s fit slots_fit ps cs ok ws in
    let bs = composed (block_for image s ps cs) in
    when_none (refusal (take_causes image w.view bs)) (wallet_after image bs w) w
    (ap (λ v. refusal (take_causes image v bs)) e ∙ t)

-- a bridge takes each block that it writes, where it has the capacity
pub bridge_takes : BridgeTakes ImageFits
bridge_takes image fit capacity fed octets ps cs out wrote g room =
    when_none (refusal (bridge_take_causes image b.capacity b.slots bs))
    (bridge_after image bs b) b
    (ap (λ k. refusal (bridge_take_causes image k b.slots bs)) (same_capacity image fed (new_bridge capacity))
    ∙ bridge_taken image b.slots fit (bridge_fits image capacity fed octets) ps cs
    (output_granted (write_causes image b.slots ps cs) bs out wrote g).0 capacity room)
  where
    b : Bridge
    b = (bridge_run image capacity fed).state

    bs : Bytes
    bs = composed (block_for image (bridge_run image capacity fed).state.slots ps cs)

-- what a bridge writes, over the bytes that it was lent, is read as the block that was asked for
pub bridge_writes : BridgeWrites CoinFits
bridge_writes image fit capacity fed octets ps cs out wrote g coins_fit =
    let (ok, made) = output_granted (write_causes image s ps cs) (composed (block_for image s ps cs)) out wrote g in
    (made, written_read image s fit (bridge_fits image capacity fed octets) ps cs ok coins_fit)
  where
    s : Slots
    s = (bridge_run image capacity fed).state.slots

-- A wallet whose run has agreed, and a bridge of the same standing blocks.
module _ (image : Image) (fit : ImageFits image) (places : ℕ) (calls : List Call) (agreed : Agreed image places calls)
    (capacity : ℕ) (fed : List BridgeCall) (octets : AllByRecursion GivenOctets fed)
    (e : standing (map as_call fed) (bridge_run image capacity fed).answers [] ≡ standing calls (wallet_run image places calls).answers []) where
  abbrev w : Wallet
  w = (wallet_run image places calls).state

  abbrev r : Register
  r = (register_run image places calls).state

  abbrev s : Slots
  s = (bridge_run image capacity fed).state.slots

  same : s ≡ r.current.slots
  same = same_slots image places calls capacity fed (e ∙ ap (λ a. standing calls a []) agreed)

  sound : Sound r.current
  sound = (run_kept image places calls agreed).sound.now

  small : length r.current.slots < 2 ^ 32
  small = sound.small

  view : w.view ≡ view_of image r.current.slots r.current.watched
  view = wallet_follows image places calls agreed

  view_bridge : w.view ≡ view_of image s r.current.watched
  view_bridge = view ∙ ap (λ s. view_of image s r.current.watched) (sym same)

  lives : Lives s r.current.watched
  lives = subst (λ s. Lives s r.current.watched) (sym same) sound.live

  -- the card of a watched slot
  card_served : (slot : ℕ) → Mem slot r.current.watched → (c : Coin) → get_or s slot None ≡ Some c
      → (h : Held) × (held_at image s slot ≡ h ∷ []) × ((out : Bytes)
      → (card image s slot out ≡ (wallet_step image (show (position_of w.view.count h) out) w).answer)
      × (length (card_of (length s) h) ≤ length out → card image s slot out ≡ granted (over (card_of (length s) h) out)))
  card_served slot m c live = (
    slot_held image s slot c,
    here,
    λ out. (
      sym (ap (λ v. shown v (position_of v.count (slot_held image s slot c)) out) view_bridge
          ∙ card_shown image s (subst (λ s. length s < 2 ^ 32) (sym same) small) r.current.watched lives slot (slot_held image s slot c) out m here),
      card_granted image s slot c (slot_held image s slot c) out live here,
    ),
  )
    where
      here : held_at image s slot ≡ slot_held image s slot c ∷ []
      here = cc

  -- cards and written blocks
  serves : ServesAt image places calls capacity fed
  serves = (
    λ slot t. let m = watched_mem slot r.current.watched t in let (c, live) = lives slot m in card_served slot m c live,
    λ ps cs out wrote g. (
      (output_granted (write_causes image s ps cs) (composed (block_for image s ps cs)) out wrote g).1,
      take_written image fit s (bridge_fits image capacity fed octets) r.current.watched w view_bridge ps cs out wrote g,
    ),
  )

  -- a card is taken as a block, and watched
  card_accepted : (slot : ℕ) (h : Held) → held_at image s slot ≡ h ∷ []
      → ((wallet_step image (take_block (card_of (length s) h)) w).answer ≡ granted [])
      × (on_shelf w.view.count w.view.shelf (position_of (length s) h) ≡ false → length w.view.shelf < 8
      → (wallet_step image (watch (card_of (length s) h)) w).answer ≡ granted [])
  card_accepted slot h q = go (held_slot image s slot h q)
    where
      small_bridge : length s < 2 ^ 32
      small_bridge = subst (λ s. length s < 2 ^ 32) (sym same) small

      room : length s ≤ most_slots
      room = omega (arith, small_bridge)

      bs : Bytes
      bs = card_of (length s) h

      go : (c : Coin) × (get_or s slot None ≡ Some c) × (h ≡ slot_held image s slot c)
          → ((wallet_step image (take_block bs) w).answer ≡ granted [])
          × (on_shelf w.view.count w.view.shelf (position_of (length s) h) ≡ false → length w.view.shelf < 8
          → (wallet_step image (watch bs) w).answer ≡ granted [])
      go (c, live, a) = (
        when_none (refusal (take_causes image w.view bs)) (wallet_after image bs w) w
            (ap₂ (λ v h. refusal (take_causes image v (card_of (length s) h))) view_bridge a
            ∙ card_taken image s small_bridge slot c live fit (bridge_fits image capacity fed octets) room r.current.watched),
        λ off left. when_none (refusal (watch_causes image w.view bs))
            (with_view w (with_shelf w.view (w.view.shelf ++ held_from w.view.count (entries bs)))) w
            (ap₂ (λ v h. refusal (watch_causes image v (card_of (length s) h))) view_bridge a
            ∙ card_watched image s small_bridge slot c live fit (bridge_fits image capacity fed octets) room r.current.watched
            (ap₂ (λ v h. on_shelf v.count v.shelf (position_of (length s) h)) (sym view_bridge) (sym a) ∙ off)
            (subst (λ v. length v.shelf < 8) view_bridge left)),
      )

-- the third part of the promise
pub served : (image : Image) (places : ℕ) → Served image places
served image places fit calls agreed capacity fed octets e = serves image fit places calls agreed capacity fed octets e

-- cards are taken and watched
pub cards_watched : CardsWatched 8
cards_watched image fit places calls agreed capacity fed octets e = card_accepted image fit places calls agreed capacity fed octets e
