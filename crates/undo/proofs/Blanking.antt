-- What a block blanks, and its mark, as the code makes them, are those of the definitions.
use Rattle.std.proofs.Common.{◌≡◌, ℕ, zero, suc, ◌+◌, ◌^◌, ◌<◌, ◌≤◌, Bool, true, false, cond, not, ◌||◌, eqb, List, [], ◌∷◌, ◌++◌, map, length, get_or, set, take, Some, None, Option, sym, refl, ap, ◌∙◌, ap₂, inl, inr, arith, length-set, length-append, get_or-set_other, get_or-set_same, ext_get_or, take_all, subst}
use lib.ListN.{length-map}
use Rattle.std.proofs.lemmas.List.{get_or_past, get_or_append_left}
use Rattle.std.proofs.lemmas.Bool.{cases_lt, cases_eq, eq-eqb, ne_eqb, eqb-true, or_parts, not-false}
use Rattle.utreexo.specs.declared.types.Coin.{Coin}
use Rattle.utreexo.specs.Bytes.{Bytes}
use Rattle.utreexo.specs.Lists.{below, filter, any}
use Rattle.utreexo.specs.Values.{Image}
use Rattle.utreexo.specs.Forest.{Slots}
use Rattle.utreexo.specs.Claims.{Target}
use Rattle.utreexo.specs.Blocks.{entries}
use Rattle.utreexo.specs.Checks.{push, targets_of}
use Rattle.utreexo.specs.Collection.{slot_has, spent_slot, target_live, slots_after, slots_named}
use Rattle.utreexo.specs.Bridge.{Undo, undone, undo_of as undo_for}
use Rattle.laws.proofs.Logic.{iff_bool, true_false, eqb_cases, EqbCases}
use Rattle.laws.proofs.Order.{Mem}
use Rattle.laws.proofs.Members.{map_ext, filter_mem, all_mem}
use Rattle.laws.proofs.Ranges.{mem_below, get_or_below, length_map_below}
use Rattle.laws.proofs.Live.{LiveAt, target_is, slot_make, slot_has_is, slot_has_make, live_once}
use Rattle.laws.proofs.Slots.{left, length_left, left_at, slot_coin}
use Rattle.promise.proofs.Undone.{undone_after}
use Rattle.undo.specs.declared.mark.Blanked.{Blanked}
use Rattle.undo.specs.declared.mark.Mark.{Mark}
use Rattle.undo.specs.Marks.{names, coin_there, listed, blanked, undo_of, target_entry}
use Rattle.undo.proofs.Loops.{blanks}
use Rattle.undo.proofs.Undoing.{here_named, here_coin, past_named, past_coin, Undoable}

-- what blanking makes of one slot
length_blanks : (bs : List Blanked) (s : Slots) → length (blanks bs s) ≡ length s
length_blanks [] s = refl
length_blanks (b ∷ bs) s = length_blanks bs (set s b.slot.number None) ∙ length-set s b.slot.number None

blank_here : (s : Slots) (i : ℕ) → get_or (set s i None) i None ≡ None
blank_here s i = elim (cases_lt i (length s)) [
  | inl l ↦ get_or-set_same s i None None l
  | inr l ↦ get_or_past (set s i None) i None (let e = length-set s i None in omega arith)
]

blanks_at : (bs : List Blanked) (s : Slots) (i : ℕ) → get_or (blanks bs s) i None ≡ cond (names bs i) None (get_or s i None)
blanks_at [] s i = refl
blanks_at (b ∷ bs) s i = blanks_at bs (set s b.slot.number None) i ∙ elim (cases_eq i b.slot.number) [
  | inl q ↦
      ap (λ z. cond (names bs i) None z) (ap (λ z. get_or (set s z None) i None) (sym q) ∙ blank_here s i) ∙ none_both (names bs i)
      ∙ sym (ap (λ z. cond z None (get_or s i None)) (here_named b bs i (eq-eqb b.slot.number i (sym q))))
  | inr n ↦
      ap (λ z. cond (names bs i) None z) (get_or-set_other s b.slot.number i None None n)
      ∙ sym (ap (λ z. cond z None (get_or s i None)) (past_named b bs i (ne_eqb b.slot.number i (λ q. n (sym q)))))
]
  where
    none_both : (t : Bool) → cond {A = Option Coin} t None None ≡ None
    none_both true = refl
    none_both false = refl

pub blanks_so : (bs : List Blanked) (s : Slots) → blanks bs s ≡ blanked bs s
blanks_so bs s =
    let m = length_map_below (λ w. cond (names bs w) None (get_or s w None)) (length s) in
    let n = length_blanks bs s in
    ext_get_or None (blanks bs s) (blanked bs s) (n ∙ sym m)
    (λ i l. blanks_at bs s i ∙ sym (get_or_below (λ w. cond (names bs w) None (get_or s w None)) None (length s) i (omega arith)))

filter_ext : {A : Type 0} (p q : A → Bool) (xs : List A) → ((x : A) → p x ≡ q x) → filter p xs ≡ filter q xs
filter_ext p q [] e = refl
filter_ext p q (x ∷ xs) e = ap₂ (λ b ys. cond b (x ∷ ys) ys) (e x) (filter_ext p q xs e)

-- the newest so many of marks that can be undone
undoable_take : (n : ℕ) (ms : List Undo) (s : Slots) → Undoable ms s → Undoable (take n ms) s
undoable_take zero ms s u = tt
undoable_take (suc n) [] s u = tt
undoable_take (suc n) (m ∷ ms) s u = (u.0, u.1, undoable_take n ms (undone m s) u.2)

module _ (image : Image) (s : Slots) (small : length s < 2 ^ 32) where
  abbrev entry : Target → Blanked
  entry t = target_entry image s t

  abbrev LiveAll : List Target → Type 0
  LiveAll ts = any (λ t. not (target_live image s t)) ts ≡ false

  live_head : (t : Target) (ts : List Target) → LiveAll (t ∷ ts) → target_live image s t ≡ true
  live_head t ts e = not-false (target_live image s t) (or_parts (not (target_live image s t)) (any (λ t. not (target_live image s t)) ts) e).0

  live_tail : (t : Target) (ts : List Target) → LiveAll (t ∷ ts) → LiveAll ts
  live_tail t ts e = (or_parts (not (target_live image s t)) (any (λ t. not (target_live image s t)) ts) e).1

  -- the slot of a live target, and its coin
  target_slot : (t : Target) → target_live image s t ≡ true → (i : ℕ) × ((entry t).slot.number ≡ i) × LiveAt s t.node.row t.node.place i t.coin
  target_slot t e =
      let (i, a) = target_is image s small t e in
      (i, ap (λ z. elim z [ None ↦ 0 | Some w ↦ w ]) (slot_make image s small t.node.row t.node.place i t.coin a), a)

  same_slot : (t : Target) (w : ℕ) → target_live image s t ≡ true → eqb (entry t).slot.number w ≡ slot_has image s t.node w
  same_slot t w e =
      let (i, n, a) = target_slot t e in
      iff_bool (eqb (entry t).slot.number w) (slot_has image s t.node w)
      (λ h. slot_has_make image s small t.node.row t.node.place w t.coin (subst (λ z. LiveAt s t.node.row t.node.place z t.coin) (sym n ∙ eqb-true (entry t).slot.number w h) a))
      (λ h. let (c, b) = slot_has_is image s small t.node.row t.node.place w h in
      eq-eqb (entry t).slot.number w (n ∙ live_once image s small t.node.row t.node.place i w t.coin c a b))

  pub named_spent : (ts : List Target) (w : ℕ) → LiveAll ts → names (map entry ts) w ≡ spent_slot image s ts w
  named_spent [] w e = refl
  named_spent (t ∷ ts) w e = ap₂ ◌||◌ (same_slot t w (live_head t ts e)) (named_spent ts w (live_tail t ts e))

  pub coin_spent : (ts : List Target) (w : ℕ) → LiveAll ts → names (map entry ts) w ≡ true → get_or s w None ≡ Some (coin_there (map entry ts) w)
  coin_spent [] w e h = absurd (true_false false h refl)
  coin_spent (t ∷ ts) w e h = go (eqb_cases (entry t).slot.number w) (coin_spent ts w (live_tail t ts e))
    where
      go : EqbCases (entry t).slot.number w → (names (map entry ts) w ≡ true → get_or s w None ≡ Some (coin_there (map entry ts) w))
          → get_or s w None ≡ Some (coin_there (map entry (t ∷ ts)) w)
      go (inl (q, same)) ih =
          let (i, n, a) = target_slot t (live_head t ts e) in
          ap (λ z. get_or s z None) (sym (sym n ∙ same)) ∙ a.live ∙ ap (λ z. Some z) (sym (here_coin (entry t) (map entry ts) w q))
      go (inr (q, other)) ih =
          ih (sym (past_named (entry t) (map entry ts) w q) ∙ h) ∙ ap (λ z. Some z) (sym (past_coin (entry t) (map entry ts) w q))

  -- Of a block whose targets are live:
  module _ (b : Bytes) (lives : LiveAll (targets_of (length s) (entries b))) where
    abbrev ts : List Target
    ts = targets_of (length s) (entries b)

    -- the slots that are left
    left_so : blanked (map entry ts) s ≡ left image s ts
    left_so =
        map_ext (λ w. cond (names (map entry ts) w) None (get_or s w None)) (λ w. cond (spent_slot image s ts w) None (get_or s w None)) (below (length s))
        (λ w m. ap (λ z. cond z None (get_or s w None)) (named_spent ts w lives))

    -- the slots after the block, where the keeper has room
    pub slots_so : (limit : ℕ) → length s + length (entries b).coins ≤ limit
        → take limit (blanked (map entry ts) s ++ map (λ c. Some c) (entries b).coins) ≡ slots_after image b s
    slots_so limit room =
        ap (λ z. take limit (z ++ map (λ c. Some c) (entries b).coins)) left_so
        ∙ take_all limit (left image s ts ++ map (λ c. Some c) (entries b).coins)
        (let x = length-append (left image s ts) (map (λ c. Some c) (entries b).coins) in
        let y = length_left image s ts in
        let z = length-map (entries b).coins (λ c. Some c) in omega arith)

    module _ (r : Mark) (count : r.count ≡ length s) (lists : listed r ≡ map entry ts) where
      -- the mark
      spent_so : (undo_of r).spent ≡ slots_named image s (entries b)
      spent_so =
          ap₂ (λ bs n. filter (names bs) (below n)) lists count
          ∙ filter_ext (names (map entry ts)) (spent_slot image s ts) (below (length s)) (λ w. named_spent ts w lives)

      coins_so : map (coin_there (listed r)) (slots_named image s (entries b)) ≡ map (slot_coin s) (slots_named image s (entries b))
      coins_so =
          ap (λ bs. map (coin_there bs) (slots_named image s (entries b))) lists
          ∙ map_ext (coin_there (map entry ts)) (slot_coin s) (slots_named image s (entries b)) (λ w m.
          let h = filter_mem (spent_slot image s ts) (below (length s)) w m in
          let f = coin_spent ts w lives (named_spent ts w lives ∙ h.1) in
          let g : slot_coin s w ≡ coin_there (map entry ts) w = cc in
          sym g)

      pub mark_so : undo_of r ≡ undo_for image s b
      mark_so =
          ap (λ n. record { count = n; spent = (undo_of r).spent; coins = (undo_of r).coins }) count
          ∙ ap₂ (λ ws cs. record { count = length s; spent = ws; coins = cs }) spent_so (ap (map (coin_there (listed r))) spent_so ∙ coins_so)

      -- the marks after the block can be undone
      pub still_undoable : (ms : List Undo) → Undoable ms s → Undoable (push 64 (undo_of r) ms) (slots_after image b s)
      still_undoable ms u = (
        (let x = length_left image s ts in let y = length-append (left image s ts) new in omega (arith, count)),
        all_mem (λ w. get_or (slots_after image b s) w None ≡ None) (undo_of r).spent (λ w m. blank w (filter_mem (names (listed r)) (below r.count) w m)),
        undoable_take 63 ms (undone (undo_of r) (slots_after image b s))
            (subst (λ t. Undoable ms t) (sym (ap (λ u. undone u (slots_after image b s)) mark_so ∙ undone_after image s b)) u),
      )
        where
          new : Slots
          new = map (λ c. Some c) (entries b).coins

          blank : (w : ℕ) → Mem w (below r.count) × (names (listed r) w ≡ true) → get_or (slots_after image b s) w None ≡ None
          blank w h =
              let l : w < length s = omega (arith, mem_below r.count w h.0, count) in
              get_or_append_left (left image s ts) new None w (let x = length_left image s ts in omega arith) ∙ left_at image s ts w l
              ∙ ap (λ z. cond z None (get_or s w None)) (sym (named_spent ts w lives) ∙ ap (λ bs. names bs w) (sym lists) ∙ h.1)
