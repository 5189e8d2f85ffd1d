-- A list whose elements are changed one after the other, seen through a function.
use Rattle.std.proofs.Common.{◌≡◌, ℕ, ◌+◌, ◌<◌, List, ◌++◌, map, length, get_or, set, take, drop, sym, ap, ◌∙◌}
use Rattle.std.proofs.lemmas.List.{map-set, get_or-map}
use Rattle.std.proofs.Math.Seq.{take-append_seam}
use Rattle.std.proofs.lemmas.List.Edits.{map_over_more}

pub seen_more : {X Y : Type 0} (h : X → Y) (f : Y → Y) (was : List Y) (xs : List X) (i : ℕ) (d y : X) → i < length was → i < length xs
    → h y ≡ f (h (get_or xs i d)) → map h xs ≡ map f (take i was) ++ drop i was → map h (set xs i y) ≡ map f (take (i + 1) was) ++ drop (i + 1) was
seen_more h f was xs i d y lw lx e so =
    let x = h (get_or xs i d) in
    map-set h xs i y ∙ ap (set (map h xs) i) e ∙ map_over_more f was (map h xs) i x lw so (sym (get_or-map h xs i d x lx))

-- the front of a list, once others are there
pub front_replaced : {X : Type 0} (n : ℕ) (new xs : List X) → length new ≡ n → take n (new ++ drop n xs) ≡ new
front_replaced n new xs e = ap (λ (m : ℕ). take m (new ++ drop n xs)) (sym e) ∙ take-append_seam new (drop n xs)
