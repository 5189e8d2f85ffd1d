-- Wallet and collection cannot part without leaving evidence: the promise, as a law over all runs.
use Rattle.std.specs.Prelude.{◌≡◌, ℕ, ◌≤◌, T, ◌≢◌, List, [], ◌∷◌, map, length, drop, Some, None, Option, nat_eq}
use Rattle.std.specs.List.{AllByRecursion}
use Rattle.utreexo.specs.declared.types.Coin.{Coin}
use Rattle.utreexo.specs.Bytes.{Bytes}
use Rattle.utreexo.specs.Lists.{any}
use Rattle.utreexo.specs.Values.{Image, ImageFits}
use Rattle.utreexo.specs.Forest.{Slots}
use Rattle.utreexo.specs.Blocks.{composed}
use Rattle.utreexo.specs.Checks.{Answer, granted, refused, Step, over}
use Rattle.utreexo.specs.Wallet.{Held, position_of, card_of, Wallet, new_wallet, Call, take_block, check_block, watch, let_go, show, take_back, wallet_step}
use Rattle.utreexo.specs.Collection.{held_at, card, block_for, write, Verdict, unjudged, stands, differs, challenge}
use Rattle.utreexo.specs.Register.{Register, new_register, register_view, register_step}
use Rattle.utreexo.specs.Bridge.{Bridge, new_bridge, BridgeCall, bridge_step, as_call, GivenOctets}

-- Runs ------------------------------------------------------------------------------------

-- the answers to a list of calls, and the state after them
pub record Run (S : Type 0) : Type 0 where
  pub answers : List Answer
  pub state : S

abbrev pub run : {C S : Type 0} → (C → S → Step S) → S → List C → Run S
run f s [] = record { answers = []; state = s }
run f s (c ∷ cs) =
    let now = f c s in
    let on = run f now.state cs in
    record { answers = now.answer ∷ on.answers; state = on.state }

-- the runs of a wallet, a register and a bridge from when they are made
abbrev pub wallet_run : Image → ℕ → List Call → Run Wallet
wallet_run image places calls = run (wallet_step image) (new_wallet places) calls

abbrev pub register_run : Image → ℕ → List Call → Run Register
register_run image places calls = run (register_step image) (new_register places) calls

abbrev pub bridge_run : Image → ℕ → List BridgeCall → Run Bridge
bridge_run image capacity calls = run (bridge_step image) (new_bridge capacity) calls

-- every answer so far has been that of the register
abbrev pub Agreed : Image → ℕ → List Call → Type 0
Agreed image places calls = (wallet_run image places calls).answers ≡ (register_run image places calls).answers

-- Standing are the blocks taken by its own calls and not taken back; here the newest comes first. What one call with this answer makes of
-- them:
abbrev pub stand : Call → Answer → List Bytes → List Bytes
stand (take_block b) (granted o) bs = b ∷ bs
stand (take_block b) (refused k) bs = bs
stand (check_block b) a bs = bs
stand (watch b) a bs = bs
stand (let_go p) a bs = bs
stand (show p out) a bs = bs
stand take_back (granted o) bs = drop 1 bs
stand take_back (refused k) bs = bs

-- what a list of calls with these answers makes of them
abbrev pub standing : List Call → List Answer → List Bytes → List Bytes
standing [] ans bs = bs
standing (c ∷ cs) [] bs = bs
standing (c ∷ cs) (a ∷ ans) bs = standing cs ans (stand c a bs)

-- Evidence ----------------------------------------------------------------------------------

-- the block of a call that has one
abbrev pub block_of : Call → Option Bytes
block_of (take_block b) = Some b
block_of (check_block b) = Some b
block_of (watch b) = Some b
block_of (let_go p) = None
block_of (show p out) = None
block_of take_back = None

-- two different inputs with one image
abbrev pub Evidence : Image → Verdict → Type 0
Evidence image (unjudged k) = ⊥
Evidence image stands = ⊥
Evidence image (differs p x y) = (x ≢ y) × (image x ≡ image y)

-- the call is take, check or watch, and the challenge of its block over the slots returns evidence
abbrev pub CaughtAt : Image → Slots → Option Bytes → Type 0
CaughtAt image s None = ⊥
CaughtAt image s (Some b) = Evidence image (challenge image s b)

-- The promise -----------------------------------------------------------------------------------

module _ (image : Image) (places : ℕ) where
  -- While every answer has been that of the register, count and roots are the register's too, and the shelf holds exactly the
  -- register's watched coins, with their positions and paths.
  abbrev pub Follows : Type 0
  Follows = (calls : List Call) → Agreed image places calls →
      (wallet_run image places calls).state.view ≡ register_view image (register_run image places calls).state

  -- The first answer that differs is caught.
  abbrev pub Caught : Type 0
  Caught = (calls : List Call) (c : Call) → Agreed image places calls →
      ((wallet_step image c (wallet_run image places calls).state).answer ≢ (register_step image c (register_run image places calls).state).answer) →
      CaughtAt image (register_run image places calls).state.current.slots (block_of c)

  -- What a bridge so fed does for a wallet after these calls. Each watched slot is live, the card that the bridge writes of it is
  -- what the wallet shows, whatever the output, and where the output has room it is written. And whatever the bridge writes is a
  -- block that the wallet takes.
  abbrev pub ServesAt : List Call → ℕ → List BridgeCall → Type 0
  ServesAt calls capacity fed =
      let w = (wallet_run image places calls).state in
      let r = (register_run image places calls).state in
      let s = (bridge_run image capacity fed).state.slots in
      ((slot : ℕ) → T (any (nat_eq slot) r.current.watched) →
      (h : Held) × (held_at image s slot ≡ h ∷ []) × ((out : Bytes) →
      (card image s slot out ≡ (wallet_step image (show (position_of w.view.count h) out) w).answer)
      × (length (card_of (length s) h) ≤ length out → card image s slot out ≡ granted (over (card_of (length s) h) out))))
      × ((ps : List ℕ) (cs : List Coin) (out wrote : Bytes) → write image s ps cs out ≡ granted wrote →
      (wrote ≡ over (composed (block_for image s ps cs)) out)
      × ((wallet_step image (take_block (composed (block_for image s ps cs))) w).answer ≡ granted []))

  -- the same of every agreed run and every bridge with the same standing blocks, where the image is known to be so, and each call to
  -- the bridge
  abbrev pub ServedWhere : Type 0 → (BridgeCall → Type 0) → Type 0
  ServedWhere ImageSo CallSo = ImageSo → (calls : List Call) → Agreed image places calls →
      (capacity : ℕ) (fed : List BridgeCall) → AllByRecursion CallSo fed →
      (standing (map as_call fed) (bridge_run image capacity fed).answers [] ≡ standing calls (wallet_run image places calls).answers []) →
      ServesAt calls capacity fed

  -- Until an answer differs, a bridge with the same standing blocks serves the wallet, if images fit their words and the blocks given
  -- to the bridge are bytes. Both hold of any program; without either the statement would be false of lists of numbers.
  abbrev pub Served : Type 0
  Served = ServedWhere (ImageFits image) GivenOctets

  -- the promise: all three parts
  abbrev pub Faithful : Type 0
  Faithful = Follows × Caught × Served
