-- A row's targets, and how they are merged in. Assumes nothing.
use Rattle.std.proofs.Common.{◌≡◌, ℕ, suc, ◌+◌, ◌<◌, ◌≤◌, Bool, true, false, cond, eqb, ltb, List, [], ◌∷◌, ◌++◌, map, length, get_or, take, drop, sym, refl, ap, ◌∙◌, arith}
use Rattle.std.proofs.lemmas.List.{drop_more, drop_all, append_assoc, length-take, length-drop, length-append, length-map, length_push}
use Rattle.std.specs.List.{prefix_len}
use Rattle.climb.specs.declared.item.Item.{Item}
use Rattle.targets.specs.declared.spend.Spend.{Spend}
use Rattle.utreexo.specs.Values.{Image}
use Rattle.climb.specs.Rows.{weave, merge, left_of, spent_item, front, past}
use Rattle.targets.specs.Spends.{target_of, targets}
use Rattle.climb.specs.Held.{Counted}
use Rattle.climb.proofs.Merged.{length_merge}

merge_none : (xs : List Item) → merge left_of xs [] ≡ xs
merge_none [] = refl
merge_none (x ∷ xs) = ap (λ (l : List Item). x ∷ l) (merge_none xs)

-- how many items in front are left of place o
abbrev pub before : ℕ → List Item → ℕ
before o xs = prefix_len (λ x. ltb x.place o) xs

one_more : (k : ℕ) → 1 + k ≡ suc k
one_more k = omega arith

-- those that are left of an item come before it
merge_next : (xs : List Item) (y : Item) (ys : List Item) → merge left_of xs (y ∷ ys) ≡ take (before y.place xs) xs ++ (y ∷ merge left_of (drop (before y.place xs) xs) ys)
merge_next [] y ys = refl
merge_next (x ∷ xs) y ys = go (ltb x.place y.place) (merge_next xs y ys)
  where
    go : (b : Bool) → merge left_of xs (y ∷ ys) ≡ take (before y.place xs) xs ++ (y ∷ merge left_of (drop (before y.place xs) xs) ys)
        → cond b (x ∷ merge left_of xs (y ∷ ys)) (y ∷ weave left_of x (λ l. merge left_of xs l) ys)
        ≡ take (cond b (1 + before y.place xs) 0) (x ∷ xs) ++ (y ∷ merge left_of (drop (cond b (1 + before y.place xs) 0) (x ∷ xs)) ys)
    go true ih = rw (one_more (before y.place xs)) (ap (λ (l : List Item). x ∷ l) ih)
    go false ih = refl

module _ (image : Image) (xs : List Item) (ss : List Spend) where
  -- the items and the targets that are left give the rest
  pub record Merging (out rest : List Item) (i : ℕ) : Type 0 where
    pub few : length out + length rest + length (drop i ss) ≤ length xs + length ss
    pub ahead : out ++ merge left_of rest (map (spent_item image) (targets (drop i ss))) ≡ merge left_of xs (map (spent_item image) (targets ss))

module _ {image : Image} {xs : List Item} {ss : List Spend} where
  module _ {out rest : List Item} {i : ℕ} (was : Merging image xs ss out rest i) where
    pub merging_more : (d : Spend) → i < length ss → {k : ℕ} → k ≡ before (get_or ss i d).node.place rest → {front back : List Item} → front ≡ take k rest → back ≡ drop k rest
        → {mid : List Item} → mid ≡ out ++ front → {p : Item} → p ≡ spent_item image (target_of (get_or ss i d)) → {out' : List Item} → out' ≡ mid ++ (p ∷ []) → Merging image xs ss out' back (i + 1)
    merging_more d lt {k} ke {front} {back} fe be {mid} me {p} pe {out'} oe =
        let s : Spend = get_or ss i d in
        let later : List Item = map (spent_item image) (targets (drop (i + 1) ss)) in
        let w = was in
        let next : merge left_of rest (map (spent_item image) (targets (drop i ss))) ≡ front ++ (p ∷ merge left_of back later) =
        ap (λ l. merge left_of rest (map (spent_item image) (targets l))) (drop_more ss i d lt) ∙ merge_next rest (spent_item image (target_of s)) later
        ∙ rw (fe, be, ke, pe) in
        let a = length-drop i ss in
        let b = length-drop (i + 1) ss in
        let c = ap length fe ∙ length-take k rest in
        let e = ap length be ∙ length-drop k rest in
        let f = ap length me ∙ length-append out front in
        let g = ap length oe ∙ length_push mid p in
        record {
          few = omega arith;
          ahead = rw (oe, me) (append_assoc (out ++ front) (p ∷ []) (merge left_of back later) ∙ append_assoc out front (p ∷ merge left_of back later) ∙ ap (λ (l : List Item). out ++ l) (sym next) ∙ w.ahead);
        }

    pub merging_all : length ss ≤ i → out ++ rest ≡ merge left_of xs (map (spent_item image) (targets ss))
    merging_all ge = sym (ap (λ (l : List Item). out ++ l) (ap (λ l. merge left_of rest (map (spent_item image) (targets l))) (drop_all i ss ge) ∙ merge_none rest)) ∙ was.ahead

-- the targets of one row ---------------------------------------------------------

module _ (r : ℕ) where
  -- how many targets in front are of row r
  abbrev pub of_row : List Spend → ℕ
  of_row ss = prefix_len (λ s. eqb s.node.row r) ss

  pub counted : (ss : List Spend) → Counted r ss (of_row ss)
  counted [] = record { within = omega arith; taken = refl; rest = refl }
  counted (s ∷ ss) = record { within = go_within (eqb s.node.row r) (counted ss); taken = go_taken (eqb s.node.row r) (counted ss); rest = go_rest (eqb s.node.row r) (counted ss) }
    where
      go_within : (b : Bool) → Counted r ss (of_row ss) → cond b (1 + of_row ss) 0 ≤ suc (length ss)
      go_within true w = let l = w.within in omega arith
      go_within false w = omega arith

      go_taken : (b : Bool) → Counted r ss (of_row ss) → targets (take (cond b (1 + of_row ss) 0) (s ∷ ss)) ≡ cond b (target_of s ∷ front r (targets ss)) []
      go_taken true w = rw (one_more (of_row ss)) (ap (λ l. target_of s ∷ l) w.taken)
      go_taken false w = refl

      go_rest : (b : Bool) → Counted r ss (of_row ss) → targets (drop (cond b (1 + of_row ss) 0) (s ∷ ss)) ≡ cond b (past r (targets ss)) (target_of s ∷ targets ss)
      go_rest true w = rw (one_more (of_row ss)) w.rest
      go_rest false w = refl

-- no more items come up than went in
pub few_left : (image : Image) {r k : ℕ} {ss here higher : List Spend} (carried : List Item) {items : List Item} (parents : List Item) → Counted r ss k → here ≡ take k ss → higher ≡ drop k ss
    → items ≡ merge left_of carried (map (spent_item image) (targets here)) → length parents ≤ length items → length carried + length ss ≤ 32 → length parents + length higher ≤ 32
few_left image {r} {k} {ss} {here} {higher} carried parents w e f m l few =
    let a = ap length e ∙ length-take k ss in
    let b = ap length f ∙ length-drop k ss in
    let c = ap length m in
    let d = length_merge left_of carried (map (spent_item image) (targets here)) in
    let n = length-map (targets here) (spent_item image) ∙ length-map here target_of in
    let i = w.within in
    omega arith
