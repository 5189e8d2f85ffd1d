-- What the functions of this crate state beside the promise itself. A hypothesis that a theorem needs is its parameter, so that a
-- function's contract names it.
use Rattle.std.specs.Prelude.{◌≡◌, ℕ, ◌+◌, ◌^◌, ◌<◌, ◌≤◌, false, not, ◌≢◌, List, [], ◌∷◌, ◌++◌, map, length, Some, None, slice_index_or}
use Rattle.std.specs.List.{AllByRecursion}
use Rattle.utreexo.specs.declared.types.Coin.{Coin}
use Rattle.utreexo.specs.declared.types.Input.{Input}
use Rattle.utreexo.specs.Bytes.{Bytes}
use Rattle.utreexo.specs.Lists.{filter}
use Rattle.utreexo.specs.Values.{Image, CoinFits, ValueFits, ImageFits}
use Rattle.utreexo.specs.Forest.{Slots}
use Rattle.utreexo.specs.Blocks.{Block, composed, entries}
use Rattle.utreexo.specs.Checks.{Cause, refusal, granted, over, read_causes, targets_of}
use Rattle.utreexo.specs.Wallet.{Held, position_of, card_of, on_shelf, view_after, take_causes, Wallet, Call, take_block, watch, wallet_step}
use Rattle.utreexo.specs.Collection.{held_at, view_of, spent_slot, slots_after, block_for, write}
use Rattle.utreexo.specs.Register.{Register, register_step}
use Rattle.utreexo.specs.Bridge.{Bridge, BridgeCall, bridge_take, bridge_step, as_call, GivenOctets}
use Rattle.utreexo.specs.Promise.{run, wallet_run, bridge_run, Agreed, standing, block_of, CaughtAt}

-- Runs -----------------------------------------------------------------------------------

-- a run from some wallet and register splits: the calls before agreed, the answers to the next one differ, and it is caught
pub record Parting (image : Image) (w : Wallet) (r : Register) (calls : List Call) : Type 0 where
  pub before : List Call
  pub call : Call
  pub rest : List Call
  pub are : calls ≡ before ++ call ∷ rest
  pub agreed : (run (wallet_step image) w before).answers ≡ (run (register_step image) r before).answers
  pub differ : (wallet_step image call (run (wallet_step image) w before).state).answer ≢ (register_step image call (run (register_step image) r before).state).answer
  pub caught : CaughtAt image (run (register_step image) r before).state.current.slots (block_of call)

-- no two inputs have one image
abbrev pub OneToOne : Image → Type 0
OneToOne image = (x y : Input) → image x ≡ image y → x ≡ y

-- under such an image every run agrees
abbrev pub AlwaysAgreed : (Image → Type 0) → Type 0
AlwaysAgreed So = (image : Image) → So image → (places : ℕ) (calls : List Call) → Agreed image places calls

-- Blocks and slots ---------------------------------------------------------------------------

-- A block with none of these causes has a proof that fits: a wallet with the view of the slots takes it. And its step on the wallet's
-- roots and shelf is that on the slots: the view after it is the view of the slots after it, of the watched slots that it did not spend.
abbrev pub BlocksStep : (Image → Slots → Bytes → List Cause) → Type 0
BlocksStep causes = (image : Image) (s : Slots) → length s < 2 ^ 32 → (watched : List ℕ) →
    AllByRecursion (λ w. (c : Coin) × (slice_index_or s w None ≡ Some c)) watched →
    (b : Bytes) → refusal (causes image s b) ≡ None →
    (refusal (take_causes image (view_of image s watched) b) ≡ None)
    × (view_after image b (view_of image s watched) ≡ view_of image (slots_after image b s) (filter (λ w. not (spent_slot image s (targets_of (length s) (entries b)) w)) watched))

-- Cards and written blocks ---------------------------------------------------------------------

-- the card of a live slot of a bridge with the same standing blocks is taken as a block; and it is watched, unless its position is
-- on the shelf, while fewer than `places_on_shelf` coins are
abbrev pub CardsWatched : ℕ → Type 0
CardsWatched places_on_shelf = (image : Image) → ImageFits image → (places : ℕ) (calls : List Call) → Agreed image places calls →
    (capacity : ℕ) (fed : List BridgeCall) → AllByRecursion GivenOctets fed →
    (standing (map as_call fed) (bridge_run image capacity fed).answers [] ≡ standing calls (wallet_run image places calls).answers []) →
    let w = (wallet_run image places calls).state in
    let s = (bridge_run image capacity fed).state.slots in
    (slot : ℕ) (h : Held) → held_at image s slot ≡ h ∷ [] →
    ((wallet_step image (take_block (card_of (length s) h)) w).answer ≡ granted [])
    × (on_shelf w.view.count w.view.shelf (position_of (length s) h) ≡ false → length w.view.shelf < places_on_shelf →
    (wallet_step image (watch (card_of (length s) h)) w).answer ≡ granted [])

-- a bridge takes each block that it writes, where it has the capacity
abbrev pub BridgeTakes : (Image → Type 0) → Type 0
BridgeTakes So = (image : Image) → So image → (capacity : ℕ) (fed : List BridgeCall) → AllByRecursion GivenOctets fed →
    let g = (bridge_run image capacity fed).state in
    (ps : List ℕ) (cs : List Coin) (out wrote : Bytes) → write image g.slots ps cs out ≡ granted wrote → length g.slots + length cs ≤ capacity →
    (bridge_step image (bridge_take (composed (block_for image g.slots ps cs))) g).answer ≡ granted []

-- from any bridge, this call undoes a block that was taken: it is granted, and the slots after it are those before the block
abbrev pub TakenBack : BridgeCall → Type 0
TakenBack undoing = (image : Image) (g : Bridge) (b : Bytes) → (bridge_step image (bridge_take b) g).answer ≡ granted [] →
    let back = bridge_step image undoing (bridge_step image (bridge_take b) g).state in
    (back.answer ≡ granted []) × (back.state.slots ≡ g.slots)

-- a block that a bridge writes, of such new coins, reads as the block that was asked for
abbrev pub BridgeWrites : (Coin → Type 0) → Type 0
BridgeWrites So = (image : Image) → ImageFits image → (capacity : ℕ) (fed : List BridgeCall) → AllByRecursion GivenOctets fed →
    let s = (bridge_run image capacity fed).state.slots in
    (ps : List ℕ) (cs : List Coin) (out wrote : Bytes) → write image s ps cs out ≡ granted wrote → AllByRecursion So cs →
    (wrote ≡ over (composed (block_for image s ps cs)) out) × (entries (composed (block_for image s ps cs)) ≡ block_for image s ps cs)

-- Blocks as bytes -----------------------------------------------------------------------------------

-- a block within the limits of its form, its words of 64 bits; of the words of its new coins nothing is said here
pub record Fitting (b : Block) : Type 0 where
  pub same : length b.targets ≡ length b.spent
  pub few_spent : length b.spent ≤ 32
  pub few_hashes : length b.hashes ≤ 992
  pub few_coins : length b.coins ≤ 32
  pub targets_fit : AllByRecursion (λ p. p < 2 ^ 64) b.targets
  pub spent_fit : AllByRecursion CoinFits b.spent
  pub hashes_fit : AllByRecursion ValueFits b.hashes

-- the entries of a composed block, of such new coins, are what was composed
abbrev pub ReadBack : (Coin → Type 0) → Type 0
ReadBack So = (b : Block) → Fitting b → AllByRecursion So b.coins → entries (composed b) ≡ b

-- the entries of a readable block, of such bytes, are within the limits, and composing them gives its bytes
abbrev pub WriteBack : (Bytes → Type 0) → Type 0
WriteBack So = (b : Bytes) → So b → refusal (read_causes b) ≡ None → Fitting (entries b) × AllByRecursion CoinFits (entries b).coins × (composed (entries b) ≡ b)
