-- The code's undoing of a mark is the definitions' where the slots that the mark names are blank.
use Rattle.std.proofs.Common.{◌≡◌, ℕ, ◌<◌, ◌≤◌, Bool, true, false, cond, not, ◌||◌, ◌&&◌, eqb, leb, ◌⊎◌, List, [], ◌∷◌, map, length, get_or, ext_get_or, set, take, is_some, Some, None, Option, sym, refl, ap, ◌∙◌, inl, inr, arith, length-set, length-take, get_or-set_other, get_or-set_same, get_or-take}
use Rattle.std.proofs.lemmas.List.{get_or_past}
use Rattle.std.proofs.lemmas.Bool.{cases_lt, cases_eq, cases_Bool, eq-eqb, ne_eqb, and_parts, and_from, le-leb, leb-true, not-true}
use Rattle.std.specs.List.{AllByRecursion}
use Rattle.utreexo.specs.declared.types.Coin.{Coin}
use Rattle.utreexo.specs.Lists.{below, any, first}
use Rattle.utreexo.specs.Forest.{Slots}
use Rattle.utreexo.specs.Collection.{no_coin}
use Rattle.utreexo.specs.Bridge.{Undo, undone}
use Rattle.laws.proofs.Logic.{true_false}
use Rattle.laws.proofs.Order.{Mem}
use Rattle.laws.proofs.Members.{mem_filter, filter_mem, mem_all, all_mem, any_none, none_any}
use Rattle.laws.proofs.Ranges.{below_mem, mem_below, get_or_below, length_map_below}
use Rattle.promise.proofs.Undone.{refills}
use Rattle.undo.specs.declared.mark.Blanked.{Blanked}
use Rattle.undo.specs.declared.mark.Mark.{Mark}
use Rattle.undo.specs.Marks.{names, coin_there, listed, filled, undone_by, undo_of, undoable}
use Rattle.undo.proofs.Loops.{fills}

-- what filling makes of one slot: a blank one gets the coin that is there first, a live one keeps its own
abbrev filled_one : Slots → ℕ → Coin → Slots
filled_one s w c = cond (is_some (get_or s w None)) s (set s w (Some c))

length_one : (s : Slots) (w : ℕ) (c : Coin) → length (filled_one s w c) ≡ length s
length_one s w c = go (is_some (get_or s w None))
  where
    go : (b : Bool) → length (cond b s (set s w (Some c))) ≡ length s
    go true = refl
    go false = length-set s w (Some c)

pub length_fills : (bs : List Blanked) (s : Slots) → length (fills bs s) ≡ length s
length_fills [] s = refl
length_fills (b ∷ bs) s = length_fills bs (filled_one s b.slot.number b.coin) ∙ length_one s b.slot.number b.coin

one_other : (s : Slots) (w i : ℕ) (c : Coin) → ¬ (i ≡ w) → get_or (filled_one s w c) i None ≡ get_or s i None
one_other s w i c n = go (is_some (get_or s w None))
  where
    go : (b : Bool) → get_or (cond b s (set s w (Some c))) i None ≡ get_or s i None
    go true = refl
    go false = get_or-set_other s w i (Some c) None n

one_live : (s : Slots) (w i : ℕ) (c e : Coin) → get_or s i None ≡ Some e → get_or (filled_one s w c) i None ≡ Some e
one_live s w i c e h = elim (cases_eq i w) [
  | inr n ↦ one_other s w i c n ∙ h
  | inl q ↦
      let f : get_or s w None ≡ Some e = ap (λ z. get_or s z None) (sym q) ∙ h in
      ap (λ b. get_or (cond b s (set s w (Some c))) i None) (ap is_some f) ∙ h
]

one_blank : (s : Slots) (w : ℕ) (c : Coin) → w < length s → get_or s w None ≡ None → get_or (filled_one s w c) w None ≡ Some c
one_blank s w c l h = ap (λ b. get_or (cond b s (set s w (Some c))) w None) (ap is_some h) ∙ get_or-set_same s w (Some c) None l

pub fills_live : (bs : List Blanked) (s : Slots) (i : ℕ) (c : Coin) → get_or s i None ≡ Some c → get_or (fills bs s) i None ≡ Some c
fills_live [] s i c e = e
fills_live (b ∷ bs) s i c e = fills_live bs (filled_one s b.slot.number b.coin) i c (one_live s b.slot.number i b.coin c e)

-- whether a slot is among those of a mark, and its coin there: at the first entry, and past it
pub here_named : (b : Blanked) (bs : List Blanked) (i : ℕ) → eqb b.slot.number i ≡ true → names (b ∷ bs) i ≡ true
here_named b bs i t = ap (λ z. z || names bs i) t

pub here_coin : (b : Blanked) (bs : List Blanked) (i : ℕ) → eqb b.slot.number i ≡ true → coin_there (b ∷ bs) i ≡ b.coin
here_coin b bs i t = ap (λ z. elim (cond z (Some b) (first (λ (x : Blanked). eqb x.slot.number i) bs)) [ None ↦ no_coin | Some x ↦ x.coin ]) t

pub past_named : (b : Blanked) (bs : List Blanked) (i : ℕ) → eqb b.slot.number i ≡ false → names (b ∷ bs) i ≡ names bs i
past_named b bs i t = ap (λ z. z || names bs i) t

pub past_coin : (b : Blanked) (bs : List Blanked) (i : ℕ) → eqb b.slot.number i ≡ false → coin_there (b ∷ bs) i ≡ coin_there bs i
past_coin b bs i t = ap (λ z. elim (cond z (Some b) (first (λ (x : Blanked). eqb x.slot.number i) bs)) [ None ↦ no_coin | Some x ↦ x.coin ]) t

-- what filling makes of a blank slot
abbrev pub refill_of : List Blanked → ℕ → Option Coin
refill_of bs i = cond (names bs i) (Some (coin_there bs i)) None

here_refill : (b : Blanked) (bs : List Blanked) (i : ℕ) → eqb b.slot.number i ≡ true → refill_of (b ∷ bs) i ≡ Some b.coin
here_refill b bs i t =
    ap (λ z. cond z (Some (coin_there (b ∷ bs) i)) None) (here_named b bs i t) ∙ ap (λ z. Some z) (here_coin b bs i t)

past_refill : (b : Blanked) (bs : List Blanked) (i : ℕ) → eqb b.slot.number i ≡ false → refill_of (b ∷ bs) i ≡ refill_of bs i
past_refill b bs i t =
    ap (λ z. cond z (Some (coin_there (b ∷ bs) i)) None) (past_named b bs i t) ∙ ap (λ z. cond (names bs i) (Some z) None) (past_coin b bs i t)

pub fills_blank : (bs : List Blanked) (s : Slots) (i : ℕ) → i < length s → get_or s i None ≡ None → get_or (fills bs s) i None ≡ refill_of bs i
fills_blank [] s i l e = e
fills_blank (b ∷ bs) s i l e = elim (cases_eq i b.slot.number) [
  | inl q ↦
      let here : get_or (filled_one s b.slot.number b.coin) i None ≡ Some b.coin =
      ap (λ z. get_or (filled_one s b.slot.number b.coin) z None) q ∙ one_blank s b.slot.number b.coin (omega arith) (ap (λ z. get_or s z None) (sym q) ∙ e) in
      fills_live bs (filled_one s b.slot.number b.coin) i b.coin here ∙ sym (here_refill b bs i (eq-eqb b.slot.number i (sym q)))
  | inr n ↦
      fills_blank bs (filled_one s b.slot.number b.coin) i (let z = length_one s b.slot.number b.coin in omega arith) (one_other s b.slot.number i b.coin n ∙ e)
      ∙ sym (past_refill b bs i (ne_eqb b.slot.number i (λ q. n (sym q))))
]

-- each slot once these are filled
fills_at : (bs : List Blanked) (s : Slots) (i : ℕ) → i < length s → get_or (fills bs s) i None ≡ filled bs i (get_or s i None)
fills_at bs s i l = go (get_or s i None) refl
  where
    go : (x : Option Coin) → get_or s i None ≡ x → get_or (fills bs s) i None ≡ filled bs i x
    go None e = fills_blank bs s i l e
    go (Some c) e = fills_live bs s i c e

pub fills_so : (bs : List Blanked) (s : Slots) → fills bs s ≡ map (λ w. filled bs w (get_or s w None)) (below (length s))
fills_so bs s =
    let m = length_map_below (λ w. filled bs w (get_or s w None)) (length s) in
    let n = length_fills bs s in
    ext_get_or None (fills bs s) (map (λ w. filled bs w (get_or s w None)) (below (length s))) (n ∙ sym m)
    (λ i l. fills_at bs s i (omega arith) ∙ sym (get_or_below (λ w. filled bs w (get_or s w None)) None (length s) i (omega arith)))

module _ (r : Mark) (s : Slots) (few : r.count ≤ length s) (blank : AllByRecursion (λ w. get_or s w None ≡ None) (undo_of r).spent) where
  abbrev bs : List Blanked
  bs = listed r

  abbrev t : Slots
  t = take r.count s

  -- undoing a mark, if its slots are blank
  undone_so : undone_by r s ≡ undone (undo_of r) s
  undone_so = sym (fills_so bs t) ∙ sym (refills (fills bs t) (coin_there bs) (undo_of r).spent t (sym (length_fills bs t)) at there)
    where
      blank_at : (w : ℕ) → Mem w (undo_of r).spent → get_or t w None ≡ None
      blank_at w m = get_or-take r.count s w None (mem_below r.count w (filter_mem (names bs) (below r.count) w m).0) ∙ mem_all (λ w. get_or s w None ≡ None) (undo_of r).spent w blank m

      at : (i : ℕ) → (get_or t i None ≡ get_or (fills bs t) i None) ⊎ Mem i (undo_of r).spent
      at i = go (get_or t i None) refl
        where
          go : (x : Option Coin) → get_or t i None ≡ x → (get_or t i None ≡ get_or (fills bs t) i None) ⊎ Mem i (undo_of r).spent
          go (Some c) e = inl (e ∙ sym (fills_live bs t i c e))
          go None e = elim (cases_lt i (length t)) [
            | inr past ↦ inl (e ∙ sym (get_or_past (fills bs t) i None (let z = length_fills bs t in omega arith)))
            | inl within ↦ (elim (cases_Bool (names bs i)) [
              | inl named ↦ inr (mem_filter (names bs) (below r.count) i (below_mem r.count i (let z = length-take r.count s in omega arith)) named)
              | inr other ↦ inl (e ∙ sym (fills_blank bs t i within e ∙ ap (λ z. cond z (Some (coin_there bs i)) None) other))
            ])
          ]

      there : (w : ℕ) → Mem w (undo_of r).spent → get_or (fills bs t) w None ≡ Some (coin_there bs w)
      there w m =
          let h = filter_mem (names bs) (below r.count) w m in
          let l : w < length t = omega (arith, mem_below r.count w h.0, length-take r.count s) in
          fills_blank bs t w l (blank_at w m) ∙ ap (λ z. cond z (Some (coin_there bs w)) None) h.1

-- Marks that can be undone, as facts.
abbrev pub Undoable : List Undo → Slots → Type 0
Undoable [] s = Unit {0}
Undoable (m ∷ ms) s = (m.count ≤ length s) × AllByRecursion (λ w. get_or s w None ≡ None) m.spent × Undoable ms (undone m s)

absent : (x : Option Coin) → is_some x ≡ false → x ≡ None
absent None e = refl
absent (Some c) e = absurd (true_false true refl e)

pub undoable_is : (ms : List Undo) (s : Slots) → undoable ms s ≡ true → Undoable ms s
undoable_is [] s e = tt
undoable_is (m ∷ ms) s e =
    let (a, f) = and_parts (leb m.count (length s)) (not (any (λ w. is_some (get_or s w None)) m.spent) && undoable ms (undone m s)) e in
    let (b, d) = and_parts (not (any (λ w. is_some (get_or s w None)) m.spent)) (undoable ms (undone m s)) f in (
      leb-true m.count (length s) a,
      all_mem (λ w. get_or s w None ≡ None) m.spent (λ w n. absent (get_or s w None)
          (any_none (λ w. is_some (get_or s w None)) m.spent w (not-true (any (λ w. is_some (get_or s w None)) m.spent) b) n)),
      undoable_is ms (undone m s) d,
    )

-- so undoing a mark that can be undone is that of the definitions
pub undone_if : (r : Mark) (s : Slots) → undoable (undo_of r ∷ []) s ≡ true → undone_by r s ≡ undone (undo_of r) s
undone_if r s e = let u = undoable_is (undo_of r ∷ []) s e in undone_so r s u.0 u.1

pub undoable_make : (ms : List Undo) (s : Slots) → Undoable ms s → undoable ms s ≡ true
undoable_make [] s u = refl
undoable_make (m ∷ ms) s u =
    and_from (leb m.count (length s)) (not (any (λ w. is_some (get_or s w None)) m.spent) && undoable ms (undone m s)) (le-leb m.count (length s) u.0)
    (and_from (not (any (λ w. is_some (get_or s w None)) m.spent)) (undoable ms (undone m s))
    (ap not (none_any (λ w. is_some (get_or s w None)) m.spent (λ w n. ap is_some (mem_all (λ w. get_or s w None ≡ None) m.spent w u.1 n))))
    (undoable_make ms (undone m s) u.2))
