-- The coin with a position, and its card.
use Rattle.std.proofs.Common.{◌≡◌, ℕ, zero, suc, ◌+◌, ◌^◌, ◌<◌, ◌≤◌, Bool, true, false, cond, not, ◌||◌, ltb, List, [], ◌∷◌, length, take, drop, map, get_or, slice_get, is_some, Some, None, sym, refl, ap, ◌∙◌, subst, inl, inr, arith}
use Rattle.std.specs.List.{remove}
use Rattle.std.proofs.lemmas.Bool.{eqb-true, le-ltb, not-false}
use Rattle.std.proofs.lemmas.List.{get_or-map, get_or-take, length-take, length-take-le, length-map}
use Rattle.std.proofs.lemmas.Option.{slice_get-get_or}
use Rattle.utreexo.specs.Bytes.{Bytes}
use Rattle.utreexo.specs.Lists.{any, first}
use Rattle.utreexo.specs.Forest.{at_node}
use Rattle.utreexo.specs.Blocks.{composed}
use Rattle.utreexo.specs.Checks.{cause, refusal, Answer, granted, refused, over, output, compose}
use Rattle.utreexo.specs.Wallet.{Held, View, position_of, card_of, shown}
use Rattle.laws.proofs.Order.{Mem}
use Rattle.laws.proofs.Members.{first_some, mem_append, take_mem, any_none, none_any}
use Rattle.laws.proofs.Positions.{over_tree}
use Rattle.place.specs.Nodes.{position_at}
use Rattle.shelf.specs.declared.held.Held.{Held as HeldCode}
use Rattle.shelf.specs.declared.table.Shelf.{Shelf}
use Rattle.shelf.specs.Held.{held_of, shelf_of, in_its_tree, astray}
use Rattle.shelf.specs.Finding.{index_of, has_position}
use Rattle.shelf.specs.Shown.{card_at}
use Rattle.shelf.proofs.Finding.{with, without}
use Rattle.shelf.proofs.Standing.{standing_over}
use Rattle.shelf.proofs.Closing.{shelf_length}

-- the number of a coin that is found
pub index_low : (s : Shelf) (q : Held → Bool) (i : ℕ) → index_of q (shelf_of s) ≡ Some i → i < s.len
index_low s q i e = let w = (with q (shelf_of s) i e).within in let n = shelf_length s in omega arith

-- the coin that has the position, in the array
pub coin_first : (s : Shelf) (q : Held → Bool) (i : ℕ) → index_of q (shelf_of s) ≡ Some i → (d : HeldCode) → first q (shelf_of s) ≡ Some (held_of (get_or s.coins i d))
coin_first s q i e d =
    let w = with q (shelf_of s) i e in
    let l = index_low s q i e in
    let n = shelf_length s in
    let long : length (take s.len s.coins) ≡ s.len = length-take-le s.len s.coins (let f = s.few in let g = s.eight in omega arith) in
    w.is_first (held_of d)
    ∙ ap (λ h. Some h) (get_or-map held_of (take s.len s.coins) i d (held_of d) (omega arith) ∙ ap held_of (get_or-take s.len s.coins i d l))

-- a path has few hashes
pub path_few : (r : HeldCode) → length (take r.len r.path) ≤ 31
path_few r = let f = r.fits in let l = length-take r.len r.path in omega arith

-- its card is what compose writes
pub shown_card : (v : View) (p : ℕ) (out : Bytes) (h : Held) → first (has_position v.count p) v.shelf ≡ Some h → length h.path ≤ 31
    → compose (p ∷ []) (h.coin ∷ []) h.path [] out ≡ shown v p out
shown_card v p out h e few =
    let at : position_of v.count h ≡ p = eqb-true (position_of v.count h) p (first_some (has_position v.count p) v.shelf h e).1 in
    let low : ltb 992 (length h.path) ≡ false = le-ltb 992 (length h.path) (omega arith) in
    let long : Bool → List ℕ → Answer
    = λ b ps. let card = composed (record { targets = ps; spent = h.coin ∷ []; hashes = h.path; coins = [] }) in
    elim (refusal (cause 2 (b || false) ∷ cause 3 false ∷ cause 19 (ltb (length out) (length card)) ∷ [])) [ Some k ↦ refused k | None ↦ granted (over card out) ] in
    ap (λ b. long b (p ∷ [])) low ∙ ap (λ q. long false (q ∷ [])) (sym at)
    ∙ ap (λ z. elim z [ None ↦ refused 15 | Some h ↦ output [] (card_of v.count h) out ]) (sym e)

pub card_shown : (v : View) (p : ℕ) (h : Held) → first (has_position v.count p) v.shelf ≡ Some h
    → composed (record { targets = p ∷ []; spent = h.coin ∷ []; hashes = h.path; coins = [] }) ≡ card_at v p
card_shown v p h e =
    let at : position_of v.count h ≡ p = eqb-true (position_of v.count h) p (first_some (has_position v.count p) v.shelf h e).1 in
    ap (λ q. composed (record { targets = q ∷ []; spent = h.coin ∷ []; hashes = h.path; coins = [] })) (sym at)
    ∙ ap (λ z. elim z [ None ↦ [] | Some h ↦ card_of v.count h ]) (sym e)

-- where none has it
pub shown_none : (v : View) (p : ℕ) (out : Bytes) → index_of (has_position v.count p) v.shelf ≡ None → refused 15 ≡ shown v p out
shown_none v p out e =
    ap (λ z. elim z [ None ↦ refused 15 | Some h ↦ output [] (card_of v.count h) out ]) (sym (without (has_position v.count p) v.shelf e).no_first)

-- letting go of a coin: refused where none has the position
pub gone_none : (q : Held → Bool) (hs : List Held) → index_of q hs ≡ None → refusal (cause 15 (not (any q hs)) ∷ []) ≡ Some 15
gone_none q hs e = ap (λ b. refusal (cause 15 (not b) ∷ [])) (without q hs e).none

pub gone : (q : Held → Bool) (hs : List Held) (i : ℕ) → index_of q hs ≡ Some i → refusal (cause 15 (not (any q hs)) ∷ []) ≡ None
gone q hs i e = ap (λ b. refusal (cause 15 (not b) ∷ [])) (with q hs i e).some

-- the others stay in their trees
pub astray_remove : (n : ℕ) (hs : List Held) (i : ℕ) → astray n hs ≡ false → astray n (remove hs i) ≡ false
astray_remove n hs i e =
    none_any (λ h. not (in_its_tree n h)) (remove hs i) (λ h m. any_none (λ h. not (in_its_tree n h)) hs h e (elim (mem_append (take i hs) (drop (suc i) hs) h m) [
      | inl x ↦ take_mem i hs h x
      | inr x ↦ drop_mem (suc i) hs h x
    ]))
  where
    drop_mem : (k : ℕ) (xs : List Held) (x : Held) → Mem x (drop k xs) → Mem x xs
    drop_mem zero xs x m = m
    drop_mem (suc k) [] x m = m
    drop_mem (suc k) (y ∷ ys) x m = inr (drop_mem k ys x m)

-- The positions of the coins.
element : {A : Type 0} (xs : List A) (i : ℕ) (d : A) → i < length xs → Mem (get_or xs i d) xs
element [] i d l = absurd (omega arith)
element (x ∷ xs) zero d l = inl refl
element (x ∷ xs) (suc i) d l = inr (element xs i d (omega arith))

pub position_here : (n : ℕ) → n < 2 ^ 32 → (h : Held) → in_its_tree n h ≡ true → position_at n (at_node h.row h.place) ≡ Some (position_of n h)
position_here n small h s =
    ap (λ z. cond (is_some z) (Some (position_of n h)) None) (over_tree n h.row h.place (h.row + length h.path) small (standing_over n h s))

pub position_in : (n : ℕ) → n < 2 ^ 32 → (rs : List HeldCode) (i : ℕ) (r : HeldCode) → astray n (map held_of rs) ≡ false → i < length rs → r ≡ get_or rs i r
    → position_at n (at_node r.row r.place) ≡ slice_get (map (position_of n) (map held_of rs)) i
position_in n small rs i r e l is =
    let hs = map held_of rs in
    let long : length hs ≡ length rs = length-map rs held_of in
    let here : get_or hs i (held_of r) ≡ held_of r = get_or-map held_of rs i r (held_of r) l ∙ ap held_of (sym is) in
    let s : in_its_tree n (held_of r) ≡ true
    = not-false (in_its_tree n (held_of r)) (any_none (λ h. not (in_its_tree n h)) hs (held_of r) e (subst (λ h. Mem h hs) here (element hs i (held_of r) (omega arith)))) in
    position_here n small (held_of r) s
    ∙ sym (slice_get-get_or (map (position_of n) hs) i 0 (let m = length-map hs (position_of n) in omega arith)
    ∙ ap (λ x. Some x) (get_or-map (position_of n) hs i (held_of r) 0 (omega arith) ∙ ap (position_of n) here))
