-- Live slots, and the slots that are left by a block.
use Rattle.std.proofs.Common.{◌≡◌, ℕ, zero, suc, ◌<◌, true, cond, List, [], ◌∷◌, map, length, get_or, Some, None, Option, sym, refl, arith}
use Rattle.utreexo.specs.declared.types.Coin.{Coin}
use Rattle.utreexo.specs.Lists.{below, any}
use Rattle.utreexo.specs.Values.{Image}
use Rattle.utreexo.specs.Forest.{Slots, Node, at_node}
use Rattle.utreexo.specs.Claims.{Target, same_node}
use Rattle.utreexo.specs.Wallet.{Held}
use Rattle.utreexo.specs.Collection.{slot_held, slot_has, spent_slot, no_coin}
use Rattle.laws.proofs.Logic.{true_false, never}
use Rattle.laws.proofs.Order.{Mem}
use Rattle.laws.proofs.Members.{any_mem}
use Rattle.laws.proofs.Ranges.{get_or_below, length_map_below}

-- a slot that holds a coin lies in the list
pub slot_low : {C : Type 0} (s : List (Option C)) (i : ℕ) (c : C) → get_or s i None ≡ Some c → i < length s
slot_low [] i c e = absurd (never c e)
slot_low (x ∷ s) zero c e = omega arith
slot_low (x ∷ s) (suc i) c e = omega (arith, slot_low s i c e)

-- the coin of a live slot
abbrev pub slot_coin : Slots → ℕ → Coin
slot_coin s w = elim (get_or s w None) [ None ↦ no_coin | Some c ↦ c ]

-- all these slots are live
abbrev pub Lives : Slots → List ℕ → Type 0
Lives s ws = (w : ℕ) → Mem w ws → (c : Coin) × (get_or s w None ≡ Some c)

-- a slot that has a position is live
pub slot_has_live : (image : Image) (s : Slots) (d : Node) (w : ℕ) → slot_has image s d w ≡ true → (c : Coin) × (get_or s w None ≡ Some c)
slot_has_live image s d w e = go (get_or s w None) refl e
  where
    go : (x : Option Coin) → get_or s w None ≡ x
        → any (λ (h : Held). same_node (at_node h.row h.place) d) (elim x [ None ↦ [] | Some c ↦ slot_held image s w c ∷ [] ]) ≡ true
        → (c : Coin) × (get_or s w None ≡ Some c)
    go None h q = absurd (true_false true refl (sym q))
    go (Some c) h q = (c, h)

-- and so is a slot that is spent
pub spent_live : (image : Image) (s : Slots) (ts : List Target) (w : ℕ) → spent_slot image s ts w ≡ true → (c : Coin) × (get_or s w None ≡ Some c)
spent_live image s ts w e = go (any_mem (λ t. slot_has image s t.node w) ts e)
  where
    go : (t : Target) × (Mem t ts) × (slot_has image s t.node w ≡ true) → (c : Coin) × (get_or s w None ≡ Some c)
    go (t, m, h) = slot_has_live image s t.node w h

-- the slots that are left once those of the targets are blanked
abbrev pub left : Image → Slots → List Target → Slots
left image s ts = map (λ w. cond (spent_slot image s ts w) None (get_or s w None)) (below (length s))

pub length_left : (image : Image) (s : Slots) (ts : List Target) → length (left image s ts) ≡ length s
length_left image s ts = length_map_below (λ w. cond (spent_slot image s ts w) None (get_or s w None)) (length s)

pub left_at : (image : Image) (s : Slots) (ts : List Target) (i : ℕ) → i < length s
    → get_or (left image s ts) i None ≡ cond (spent_slot image s ts i) None (get_or s i None)
left_at image s ts i l = get_or_below (λ w. cond (spent_slot image s ts w) None (get_or s w None)) None (length s) i l
