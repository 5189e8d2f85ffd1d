-- The register: a list of slots, the watched ones in the order watched, and the earlier pairs of these two lists. It is given the
-- wallet's calls with their arguments, and nothing else of the wallet.
use Rattle.std.specs.Prelude.{ℕ, ◌+◌, min, Bool, not, ◌&&◌, List, [], ◌∷◌, ◌++◌, length, Some, None, ◌==◌, nat_eq, nat_le, nat_lt}
use Rattle.utreexo.specs.Bytes.{Bytes}
use Rattle.utreexo.specs.Lists.{filter, any, first}
use Rattle.utreexo.specs.Values.{Image}
use Rattle.utreexo.specs.Forest.{Slots, roots_of}
use Rattle.utreexo.specs.Blocks.{entries, spent_count, coin_count, ascending}
use Rattle.utreexo.specs.Checks.{Cause, cause, refusal, granted, refused, Step, step, when_granted, push, most_slots, read_causes, targets_of, place_causes, blank_over}
use Rattle.utreexo.specs.Wallet.{View, position_of, Call, take_block, check_block, watch, let_go, show, take_back}
use Rattle.utreexo.specs.Collection.{held_at, view_of, genuine, spent_slot, slots_after, slots_named, card}

-- all slots, and the numbers of the watched ones in the order watched
pub record Collection : Type 0 where
  pub slots : Slots
  pub watched : List ℕ

-- the two lists as they are, and earlier ones, the newest first, with room for so many
pub record Register : Type 0 where
  pub room : ℕ
  pub current : Collection
  pub marks : List Collection

-- a register is made empty, with the room of a wallet of as many places
abbrev pub new_register : ℕ → Register
new_register places = record { room = min places 64; current = record { slots = []; watched = [] }; marks = [] }

-- count, roots and watched coins, as a wallet has them
abbrev pub register_view : Image → Register → View
register_view image r = view_of image r.current.slots r.current.watched

-- the register with other watched slots
abbrev pub with_watched : Register → List ℕ → Register
with_watched r ws = record { room = r.room; current = record { slots = r.current.slots; watched = ws }; marks = r.marks }

-- the slot is live and its position has the number p
abbrev pub has_position : Image → Slots → ℕ → ℕ → Bool
has_position image s p w = any (λ h. nat_eq (position_of (length s) h) p) (held_at image s w)

-- Take and check have the wallet's causes, except that the proof is judged by the slots themselves.
abbrev pub register_take_causes : Image → Slots → Bytes → List Cause
register_take_causes image s bs =
    let b = entries bs in
    read_causes bs ++ (cause 4 (not (ascending b.targets)) ∷ place_causes (length s) b
    ++ (cause 9 (any (blank_over (length s) (roots_of image s)) (targets_of (length s) b))
    ∷ cause 10 (not (genuine image s b))
    ∷ cause 11 (nat_lt most_slots (length s + length b.coins)) ∷ []))

-- Watch likewise; and it looks at watched slots where a wallet looks at its shelf.
abbrev pub register_watch_causes : Image → Register → Bytes → List Cause
register_watch_causes image r bs =
    let s = r.current.slots in
    let b = entries bs in
    read_causes bs ++ (cause 4 (not (ascending b.targets))
    ∷ cause 5 (not (spent_count bs == 1 && coin_count bs == 0))
    ∷ place_causes (length s) b
    ++ (cause 9 (any (blank_over (length s) (roots_of image s)) (targets_of (length s) b))
    ∷ cause 10 (not (genuine image s b))
    ∷ cause 11 (nat_lt most_slots (length s + length b.coins))
    ∷ cause 12 (any (λ p. any (has_position image s p) r.current.watched) b.targets)
    ∷ cause 13 (nat_le 8 (length r.current.watched)) ∷ []))

-- a call's answer, and the register after it
abbrev pub register_step : Image → Call → Register → Step Register
register_step image (take_block b) r =
    let s = r.current.slots in
    when_granted (refusal (register_take_causes image s b))
    (record {
      room = r.room;
      current = record { slots = slots_after image b s; watched = filter (λ w. not (spent_slot image s (targets_of (length s) (entries b)) w)) r.current.watched };
      marks = push r.room r.current r.marks;
    }) r
register_step image (check_block b) r = when_granted (refusal (register_take_causes image r.current.slots b)) r r
register_step image (watch b) r =
    when_granted (refusal (register_watch_causes image r b)) (with_watched r (r.current.watched ++ slots_named image r.current.slots (entries b))) r
register_step image (let_go p) r =
    let s = r.current.slots in
    when_granted (refusal (cause 15 (not (any (has_position image s p) r.current.watched)) ∷ []))
    (with_watched r (filter (λ w. not (has_position image s p w)) r.current.watched)) r
register_step image (show p out) r =
    let s = r.current.slots in
    step (elim (first (has_position image s p) r.current.watched) [ None ↦ refused 15 | Some w ↦ card image s w out ]) r
register_step image take_back r =
    elim r.marks [ [] ↦ step (refused 14) r | m ∷ ms ↦ step (granted []) (record { room = r.room; current = m; marks = ms }) ]
