-- What a list of slots says of itself: its live slots' records, own inputs, fresh proofs, a block's step on it, cards, written
-- blocks and the challenge. Register and bridge both answer by these.
use Rattle.std.specs.Prelude.{ℕ, zero, suc, ◌+◌, ◌-◌, ◌*◌, ◌^◌, Bool, true, false, cond, not, ◌&&◌, ◌||◌, List, [], ◌∷◌, ◌++◌, map, reverse, length, is_some, Some, None, Option, nat_lt, slice_index_or}
use Rattle.utreexo.specs.declared.types.Coin.{Coin}
use Rattle.utreexo.specs.declared.types.Value.{Value}
use Rattle.utreexo.specs.declared.types.Input.{Input}
use Rattle.utreexo.specs.declared.types.Input.TheVariants.{Leaf, Pair}
use Rattle.utreexo.specs.Bytes.{Bytes}
use Rattle.utreexo.specs.Lists.{below, filter, any, first}
use Rattle.utreexo.specs.Values.{Image, same_value, same_coin, same_input}
use Rattle.utreexo.specs.Forest.{Slots, Node, at_node, locate, rows, slot_struck, roots_of}
use Rattle.utreexo.specs.Claims.{Target, Proof, same_node, covered, needed, no_value, claim_at, claimed_input}
use Rattle.utreexo.specs.Blocks.{Block, composed, entries, ascending}
use Rattle.utreexo.specs.Checks.{Cause, outside, cause, refusal, Answer, output, most_slots, read_causes, named, targets_of, block_proof, above_another, place_causes, proof_causes}
use Rattle.utreexo.specs.Wallet.{Held, View, card_of}

-- Live slots ---------------------------------------------------------------------------

-- the record of a live slot with its coin
abbrev pub slot_held : Image → Slots → ℕ → Coin → Held
slot_held image s slot c =
    let k = slot_struck image s slot in
    record { coin = c; row = k.row; place = k.place; path = k.path }

-- the record of a slot; a blank slot, or one past the count, has none
abbrev pub held_at : Image → Slots → ℕ → List Held
held_at image s slot = elim (slice_index_or s slot None) [ None ↦ [] | Some c ↦ slot_held image s slot c ∷ [] ]

-- the records of these slots, in this order
abbrev pub all_held : Image → Slots → List ℕ → List Held
all_held image s [] = []
all_held image s (w ∷ ws) = held_at image s w ++ all_held image s ws

-- what a wallet with these watched slots should know
abbrev pub view_of : Image → Slots → List ℕ → View
view_of image s ws = record { count = length s; roots = roots_of image s; shelf = all_held image s ws }

-- the slot is live and has the position e
abbrev pub slot_has : Image → Slots → Node → ℕ → Bool
slot_has image s e slot = any (λ h. same_node (at_node h.row h.place) e) (held_at image s slot)

-- the live slot that has a position
abbrev pub slot_at : Image → Slots → Node → Option ℕ
slot_at image s e = first (slot_has image s e) (below (length s))

-- the coin that has a position
abbrev pub coin_at : Image → Slots → Node → Option Coin
coin_at image s e = elim (slot_at image s e) [ None ↦ None | Some w ↦ slice_index_or s w None ]

-- Own inputs and fresh proofs -------------------------------------------------------------

-- the image of an input, if there is one
abbrev pub image_of : Image → Option Input → Option Value
image_of image None = None
image_of image (Some x) = Some (image x)

-- the pair of two values, if both are there
abbrev pub paired : Option Value → Option Value → Option Input
paired None b = None
paired (Some a) None = None
paired (Some a) (Some b) = Some (Pair a b)

-- The own input at a position: the leaf input of the coin that has it; else, where both its children have a value, the pair of these,
-- which is where coins lie beneath it. It goes by positions, not by spans: a coin that moved up lies beneath every position above its own.
abbrev pub own_input : Image → Slots → ℕ → ℕ → Option Input
own_input image s zero o = elim (coin_at image s (at_node 0 o)) [ None ↦ None | Some c ↦ Some (Leaf c) ]
own_input image s (suc r) o =
    let l = own_input image s r (2 * o) in
    let k = own_input image s r (2 * o + 1) in
    elim (coin_at image s (at_node (suc r) o)) [ None ↦ paired (image_of image l) (image_of image k) | Some c ↦ Some (Leaf c) ]

-- the value at a position: the image of its own input
abbrev pub value_at : Image → Slots → Node → Option Value
value_at image s e = image_of image (own_input image s e.row e.place)

-- the value at the position p; where there is none, it is of no account
abbrev pub fresh_value : Image → Slots → ℕ → Value
fresh_value image s p = elim (locate (length s) p) [ None ↦ no_value | Some e ↦ (elim (value_at image s e) [ None ↦ no_value | Some v ↦ v ]) ]

-- a fresh proof: the forest's own value at each needed position
abbrev pub fresh : Image → Slots → List Target → List Value
fresh image s ts = map (fresh_value image s) (needed (length s) ts)

-- equality of lists of values, as a test
abbrev pub same_values : List Value → List Value → Bool
same_values [] [] = true
same_values [] (y ∷ ys) = false
same_values (x ∷ xs) [] = false
same_values (x ∷ xs) (y ∷ ys) = same_value x y && same_values xs ys

-- a target is the position of a live slot with that coin
abbrev pub target_live : Image → Slots → Target → Bool
target_live image s t =
    elim (slot_at image s t.node) [ None ↦ false | Some w ↦ (elim (slice_index_or s w None) [ None ↦ false | Some c ↦ same_coin c t.coin ]) ]

-- each target is live, and each hash is the fresh one
abbrev pub genuine : Image → Slots → Block → Bool
genuine image s b =
    not (any (λ t. not (target_live image s t)) (targets_of (length s) b))
    && same_values b.hashes (fresh image s (targets_of (length s) b))

-- A block's step on the slots ----------------------------------------------------------------

-- slot w is live and has the position of one of these targets
abbrev pub spent_slot : Image → Slots → List Target → ℕ → Bool
spent_slot image s ts w = any (λ t. slot_has image s t.node w) ts

-- the targets' slots are blanked, all judged before the block; then every new coin takes a slot
abbrev pub slots_after : Image → Bytes → Slots → Slots
slots_after image bs s =
    let b = entries bs in
    let ts = targets_of (length s) b in
    map (λ w. cond (spent_slot image s ts w) None (slice_index_or s w None)) (below (length s)) ++ map (λ c. Some c) b.coins

-- the slots that have the positions of a block's targets, ascending
abbrev pub slots_named : Image → Slots → Block → List ℕ
slots_named image s b = filter (spent_slot image s (targets_of (length s) b)) (below (length s))

-- Cards and written blocks ---------------------------------------------------------------------

-- the card of a slot's record, where there is one
abbrev pub card_bytes : ℕ → List Held → Bytes
card_bytes n [] = []
card_bytes n (h ∷ hs) = card_of n h

-- the card of a slot, with its fresh proof, into an output
abbrev pub card : Image → Slots → ℕ → Bytes → Answer
card image s slot out =
    output (cause 16 (not (is_some (slice_index_or s slot None))) ∷ []) (card_bytes (length s) (held_at image s slot)) out

-- where a position has no coin, the coin is of no account
abbrev pub no_coin : Coin
no_coin = record { w0 = 0; w1 = 0; w2 = 0; w3 = 0 }

-- the coins that have these positions
abbrev pub coins_at : Image → Slots → List ℕ → List Coin
coins_at image s ps = map (λ p. elim (locate (length s) p) [ None ↦ no_coin | Some e ↦ (elim (coin_at image s e) [ None ↦ no_coin | Some c ↦ c ]) ]) ps

-- the block that spends the coins at these positions, with a fresh proof, and adds new coins
abbrev pub block_for : Image → Slots → List ℕ → List Coin → Block
block_for image s ps cs =
    let spent = coins_at image s ps in
    record { targets = ps; spent = spent; hashes = fresh image s (named (length s) ps spent); coins = cs }

-- the causes for which write is refused, in their order
abbrev pub write_causes : Image → Slots → List ℕ → List Coin → List Cause
write_causes image s ps cs =
    cause 2 (nat_lt 32 (length ps) || nat_lt 32 (length cs))
    ∷ cause 4 (not (ascending ps))
    ∷ cause 6 (any (outside (length s)) ps)
    ∷ cause 7 (above_another (named (length s) ps (coins_at image s ps)))
    ∷ cause 11 (nat_lt most_slots (length s + length cs))
    ∷ cause 16 (any (λ p. elim (locate (length s) p) [ None ↦ true | Some e ↦ not (is_some (coin_at image s e)) ]) ps)
    ∷ []

-- that block, into an output
abbrev pub write : Image → Slots → List ℕ → List Coin → Bytes → Answer
write image s ps cs out = output (write_causes image s ps cs) (composed (block_for image s ps cs)) out

-- The challenge ------------------------------------------------------------------------------------

-- A block is refused; or it stands; or at a position the claimed input differs from the own one.
pub data Verdict : Type 0 where
  unjudged : ℕ → Verdict
  stands : Verdict
  differs : ℕ → Input → Input → Verdict

-- the position p is covered, in a forest of n slots
abbrev pub covered_at : ℕ → List Target → ℕ → Bool
covered_at n ts p = elim (locate n p) [ None ↦ false | Some e ↦ covered ts e ]

-- the covered positions, the highest number first
abbrev pub visited : ℕ → List Target → List ℕ
visited n ts = reverse (filter (covered_at n ts) (below (2 ^ (rows n + 1) - 1)))

-- the verdict at position q: where its own and claimed input, in this order, differ, it is that; else that of the visit that goes on
abbrev pub compared : ℕ → Option Input → Option Input → Verdict → Verdict
compared q (Some x) (Some y) on = cond (same_input x y) on (differs q x y)
compared q (Some x) None on = on
compared q None (Some y) on = on
compared q None None on = on

-- the verdict of a visit of these positions, one after another: at the first where the inputs differ; if they differ at none, the block stands
abbrev pub visit : Image → Slots → Proof → List ℕ → Verdict
visit image s p [] = stands
visit image s p (q ∷ qs) =
    let on = visit image s p qs in
    elim (locate (length s) q) [
      | None ↦ on
      | Some e ↦ compared q (own_input image s e.row e.place) (claimed_input image (claim_at p e.row e.place)) on
    ]

-- a block is first checked against the slots' roots, but not for the limit on the count
abbrev pub challenge : Image → Slots → Bytes → Verdict
challenge image s bs =
    let b = entries bs in
    elim (refusal (read_causes bs ++ (cause 4 (not (ascending b.targets)) ∷ place_causes (length s) b ++ proof_causes image (length s) (roots_of image s) b))) [
      | Some k ↦ unjudged k
      | None ↦ visit image s (block_proof (length s) b) (visited (length s) (targets_of (length s) b))
    ]
