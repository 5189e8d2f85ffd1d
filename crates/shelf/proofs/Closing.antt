-- A coin taken off the shelf: those after it move up.
use Rattle.std.proofs.Common.{◌≡◌, ℕ, suc, ◌+◌, ◌-◌, ◌<◌, ◌≤◌, List, ◌++◌, length, take, drop, map, sym, ap, ◌∙◌, ap₂, arith}
use Rattle.std.specs.List.{remove, copy_within}
use Rattle.std.proofs.lemmas.List.{map-append, take-map, drop-map, take-take, take_rest, drop-take, length-take-le, length-drop, length-map}
use Rattle.std.proofs.Math.Seq.{take-append-add}
use Rattle.std.proofs.lemmas.List.Edits.{take-paste}
use Rattle.shelf.specs.declared.held.Held.{Held as HeldCode}
use Rattle.shelf.specs.declared.table.Shelf.{Shelf}
use Rattle.shelf.specs.Held.{held_of, shelf_of}

map_remove : {A B : Type 0} (f : A → B) (xs : List A) (i : ℕ) → map f (remove xs i) ≡ remove (map f xs) i
map_remove f xs i = map-append f (take i xs) (drop (suc i) xs) ∙ ap₂ (λ a b. a ++ b) (sym (take-map f i xs)) (sym (drop-map f (suc i) xs))

-- the first n, with the gap at i closed, are the first n but the one at i
gap_closed : {A : Type 0} (xs : List A) (i n : ℕ) → i < n → n ≤ length xs → take (n - 1) (copy_within xs (i + 1) (length xs) i) ≡ remove (take n xs) i
gap_closed xs i n l g =
    let L = length xs in
    let m = n - suc i in
    let front = take i xs in
    let rest = drop (suc i) xs in
    let long : length front ≡ i = length-take-le i xs (omega arith) in
    let next : i + 1 ≡ suc i = omega arith in
    let all : take (i + (L - (i + 1))) (copy_within xs (i + 1) L i) ≡ front ++ drop (i + 1) xs =
    take-paste xs i (drop (i + 1) xs) (L - (i + 1)) (omega arith) (let d = length-drop (i + 1) xs in omega arith) ∙ ap (λ z. front ++ z) (take_rest xs (i + 1)) in
    let cut : n - 1 ≡ length front + m = omega arith in
    let whole : n ≡ suc i + m = omega arith in
    sym (take-take (n - 1) (i + (L - (i + 1))) (copy_within xs (i + 1) L i) (omega arith))
    ∙ ap (take (n - 1)) (all ∙ ap (λ k. front ++ drop k xs) next)
    ∙ ap (λ k. take k (front ++ rest)) cut ∙ take-append-add front rest m
    ∙ ap₂ (λ a b. a ++ b) (sym (take-take i n xs (omega arith))) (sym (drop-take (suc i) m xs) ∙ ap (λ k. drop (suc i) (take k xs)) (sym whole))

-- as many coins as the shelf says
pub shelf_length : (s : Shelf) → length (shelf_of s) ≡ s.len
shelf_length s =
    let e = s.eight in
    let f = s.few in
    length-map (take s.len s.coins) held_of ∙ length-take-le s.len s.coins (omega arith)

pub shelf_closed : (rs : List HeldCode) (i n : ℕ) → i < n → n ≤ length rs → map held_of (take (n - 1) (copy_within rs (i + 1) (length rs) i)) ≡ remove (map held_of (take n rs)) i
shelf_closed rs i n l g = ap (map held_of) (gap_closed rs i n l g) ∙ map_remove held_of (take n rs) i
