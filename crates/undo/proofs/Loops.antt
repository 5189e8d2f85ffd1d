-- What the loops over a mark's slots make of a list of slots, one after the other.
use Rattle.std.proofs.Common.{◌≡◌, ℕ, ◌≤◌, cond, List, [], ◌∷◌, length, drop, get_or, set, is_some, Some, None, Option, sym, ap, ◌∙◌}
use Rattle.std.proofs.lemmas.List.{drop_all}
use Rattle.utreexo.specs.Forest.{Slots}
use Rattle.undo.specs.declared.mark.Blanked.{Blanked}
use Rattle.undo.specs.Marks.{present}

abbrev pub blanks : List Blanked → Slots → Slots
blanks [] s = s
blanks (b ∷ bs) s = blanks bs (set s b.slot.number None)

-- where they are blank
abbrev pub fills : List Blanked → Slots → Slots
fills [] s = s
fills (b ∷ bs) s = fills bs (cond (is_some (get_or s b.slot.number None)) s (set s b.slot.number (Some b.coin)))

-- at the end of such a loop
pub ended : (f : List Blanked → Slots → Slots) (xs : List (Option Blanked)) (i : ℕ) (s t : Slots) → length xs ≤ i → f [] t ≡ t
    → f (present (drop i xs)) t ≡ f (present xs) s → t ≡ f (present xs) s
ended f xs i s t l none e = sym none ∙ ap (λ ys. f (present ys) t) (sym (drop_all i xs l)) ∙ e
