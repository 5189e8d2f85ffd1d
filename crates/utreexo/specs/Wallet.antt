-- The wallet: count, roots, shelf and history; and one step of each of its six calls.
use Rattle.std.specs.Prelude.{ℕ, zero, suc, ◌+◌, ◌*◌, ◌/◌, ◌%◌, ◌^◌, min, Bool, true, false, cond, not, ◌&&◌, ◌||◌, List, [], ◌∷◌, ◌++◌, map, length, Some, None, Option, ◌==◌, nat_eq, nat_le, nat_lt, slice_index_or, slice_set}
use Rattle.utreexo.specs.declared.types.Coin.{Coin}
use Rattle.utreexo.specs.declared.types.Value.{Value}
use Rattle.utreexo.specs.declared.types.Input.TheVariants.{Leaf}
use Rattle.utreexo.specs.Bytes.{Bytes}
use Rattle.utreexo.specs.Lists.{below, filter, any, first}
use Rattle.utreexo.specs.Values.{Image, join}
use Rattle.utreexo.specs.Forest.{at_node, bit, position, sibling, Struck, strike}
use Rattle.utreexo.specs.Claims.{Target, Proof, beneath, covered, claim_at, after, root_after}
use Rattle.utreexo.specs.Blocks.{Block, composed, entries, spent_count, coin_count, ascending}
use Rattle.utreexo.specs.Checks.{Cause, cause, refusal, Answer, granted, refused, Step, step, when_granted, push, output, most_slots, read_causes, targets_of, block_proof, place_causes, proof_causes}

-- a coin on the shelf: its row and place, and its path from below
pub record Held : Type 0 where
  pub coin : Coin
  pub row : ℕ
  pub place : ℕ
  pub path : List Value

-- what a wallet knows of the forest; the shelf is in the order watched
pub record View : Type 0 where
  pub count : ℕ
  pub roots : List (Option Value)
  pub shelf : List Held

-- the position of a coin of the shelf, in a forest of n slots
abbrev pub position_of : ℕ → Held → ℕ
position_of n h = position n h.row h.place

-- the card of a coin: the block that spends it alone and adds none
abbrev pub card_of : ℕ → Held → Bytes
card_of n h = composed (record { targets = position_of n h ∷ []; spent = h.coin ∷ []; hashes = h.path; coins = [] })

-- a coin of the shelf has the position p
abbrev pub on_shelf : ℕ → List Held → ℕ → Bool
on_shelf n shelf p = any (λ h. nat_eq (position_of n h) p) shelf

-- Spending -----------------------------------------------------------------------------

-- a coin leaves the shelf if its position is covered or beneath a target
abbrev pub leaves_shelf : List Target → Held → Bool
leaves_shelf ts h = covered ts (at_node h.row h.place) || any (λ t. beneath (at_node h.row h.place) t.node) ts

-- the path of place o of row r: a hash whose position is covered becomes the after-value there
abbrev pub renewed : Image → Proof → ℕ → ℕ → List Value → List (Option Value)
renewed image p r o [] = []
renewed image p r o (v ∷ vs) =
    cond (covered p.targets (at_node r (sibling o))) (after image (claim_at p r (sibling o))) (Some v) ∷ renewed image p (r + 1) (o / 2) vs

-- a coin once bits of its place were struck out: it moves up as many rows
abbrev pub moved : Held → Struck → Held
moved h k = record { coin = h.coin; row = h.row + k.row; place = k.place; path = k.path }

-- where an after-value is absent, the hash and its bit are struck out
abbrev pub refreshed : Image → Proof → Held → Held
refreshed image p h = moved h (strike (renewed image p h.row h.place h.path) h.place)

-- Spending a block's targets: covered roots become the after-values there; coins leave the shelf, and those that stay are refreshed.
abbrev pub spend : Image → Block → View → View
spend image b v =
    let p = block_proof v.count b in
    record {
      count = v.count;
      roots = map (root_after image p v.roots) (below 32);
      shelf = map (refreshed image p) (filter (λ h. not (leaves_shelf p.targets h)) v.shelf);
    }

-- Adding coins ---------------------------------------------------------------------------

-- The tree of a coin is joined with another, whose root is given. If present it becomes the top hash; if absent the coin rises a
-- row, and its place loses the tree's lowest bit.
abbrev pub topped : Option Value → Held → Held
topped None h =
    let k = length h.path in
    record { coin = h.coin; row = h.row + 1; place = h.place / 2 ^ (k + 1) * 2 ^ k + h.place % 2 ^ k; path = h.path }
topped (Some v) h = record { coin = h.coin; row = h.row; place = h.place; path = h.path ++ (v ∷ []) }

-- the trees of row k with the roots l and c, left and right, become one: a coin in one of them gets the other's root
abbrev pub tree_joined : ℕ → Option Value → Option Value → Held → Held
tree_joined k l c h =
    cond (h.row + length h.path == k)
    (topped (cond ((h.place / 2 ^ length h.path) % 2 == 0) c l) h)
    h

-- a tree of row k with the root c comes to the right of the others: while there is one of its row, they are joined, so many times at most
abbrev pub carry : Image → ℕ → ℕ → Option Value → View → View
carry image zero k c v = record { count = v.count + 1; roots = v.roots; shelf = v.shelf }
carry image (suc more) k c v =
    let l = slice_index_or v.roots k None in
    let on = carry image more (k + 1) (join image l c)
    (record { count = v.count; roots = slice_set v.roots k None; shelf = map (tree_joined k l c) v.shelf }) in
    elim (bit v.count k) [
      | true ↦ on
      | false ↦ record { count = v.count + 1; roots = slice_set v.roots k c; shelf = v.shelf }
    ]

-- one new coin: it comes as a tree of row 0, whose root is the coin's leaf image
abbrev pub add : Image → View → Coin → View
add image v c = carry image 32 0 (Some (image (Leaf c))) v

-- the new coins, one after another
abbrev pub add_all : Image → View → List Coin → View
add_all image v [] = v
add_all image v (c ∷ cs) = add_all image (add image v c) cs

-- Taking a block spends its targets, all judged in the forest before it, then adds the new coins in order.
abbrev pub view_after : Image → Bytes → View → View
view_after image bs v = let b = entries bs in add_all image (spend image b v) b.coins

-- Calls ------------------------------------------------------------------------------------

-- the causes for which take and check are refused, in their order
abbrev pub take_causes : Image → View → Bytes → List Cause
take_causes image v bs =
    let b = entries bs in
    read_causes bs ++ (cause 4 (not (ascending b.targets)) ∷ place_causes v.count b ++ (proof_causes image v.count v.roots b
    ++ (cause 11 (nat_lt most_slots (v.count + length b.coins)) ∷ [])))

-- those for which watch is
abbrev pub watch_causes : Image → View → Bytes → List Cause
watch_causes image v bs =
    let b = entries bs in
    read_causes bs ++ (cause 4 (not (ascending b.targets))
    ∷ cause 5 (not (spent_count bs == 1 && coin_count bs == 0))
    ∷ place_causes v.count b ++ (proof_causes image v.count v.roots b
    ++ (cause 11 (nat_lt most_slots (v.count + length b.coins))
    ∷ cause 12 (any (on_shelf v.count v.shelf) b.targets)
    ∷ cause 13 (nat_le 8 (length v.shelf)) ∷ [])))

-- the coins that a block's targets name, each with all its hashes: of a card, the one coin with its path
abbrev pub held_from : ℕ → Block → List Held
held_from n b = map (λ t. record { coin = t.coin; row = t.node.row; place = t.node.place; path = b.hashes }) (targets_of n b)

-- The wallet: what it knows, and its history, the newest mark first. A mark is an earlier view; there is room for so many.
pub record Wallet : Type 0 where
  pub room : ℕ
  pub view : View
  pub marks : List View

-- no slot, no root, nothing on the shelf
abbrev pub empty_view : View
empty_view = record { count = 0; roots = map (λ k. None) (below 32); shelf = [] }

-- a wallet is made empty, with any number of places for marks, of which it uses 64 at most
abbrev pub new_wallet : ℕ → Wallet
new_wallet places = record { room = min places 64; view = empty_view; marks = [] }

-- The calls of a wallet. A block or card is given as bytes, a position as its number; show is given an output as well.
pub data Call : Type 0 where
  take_block : Bytes → Call
  check_block : Bytes → Call
  watch : Bytes → Call
  let_go : ℕ → Call
  show : ℕ → Bytes → Call
  take_back : Call

-- the wallet with another view
abbrev pub with_view : Wallet → View → Wallet
with_view w v = record { room = w.room; view = v; marks = w.marks }

-- the view with another shelf
abbrev pub with_shelf : View → List Held → View
with_shelf v hs = record { count = v.count; roots = v.roots; shelf = hs }

-- the shelf without the first coin that passes the test
abbrev pub drop_first : (Held → Bool) → List Held → List Held
drop_first p [] = []
drop_first p (h ∷ hs) = cond (p h) hs (h ∷ drop_first p hs)

-- show: the card of the coin of the shelf that has the position p, into an output
abbrev pub shown : View → ℕ → Bytes → Answer
shown v p out =
    elim (first (λ h. nat_eq (position_of v.count h) p) v.shelf) [
      | None ↦ refused 15
      | Some h ↦ output [] (card_of v.count h) out
    ]

-- a call's answer, and the wallet after it
abbrev pub wallet_step : Image → Call → Wallet → Step Wallet
wallet_step image (take_block b) w =
    when_granted (refusal (take_causes image w.view b))
    (record { room = w.room; view = view_after image b w.view; marks = push w.room w.view w.marks }) w
wallet_step image (check_block b) w = when_granted (refusal (take_causes image w.view b)) w w
wallet_step image (watch b) w =
    when_granted (refusal (watch_causes image w.view b))
    (with_view w (with_shelf w.view (w.view.shelf ++ held_from w.view.count (entries b)))) w
wallet_step image (let_go p) w =
    let v = w.view in
    when_granted (refusal (cause 15 (not (on_shelf v.count v.shelf p)) ∷ []))
    (with_view w (with_shelf v (drop_first (λ h. nat_eq (position_of v.count h) p) v.shelf))) w
wallet_step image (show p out) w = step (shown w.view p out) w
wallet_step image take_back w =
    elim w.marks [ [] ↦ step (refused 14) w | m ∷ ms ↦ step (granted []) (record { room = w.room; view = m; marks = ms }) ]
