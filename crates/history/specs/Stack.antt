-- A history in a lent slice: the marks that a ring holds of it, the newest first.
use Rattle.std.specs.Prelude.{◌≡◌, ℕ, suc, ◌+◌, ◌<◌, ◌≤◌, min, List, [], ◌∷◌, ◌++◌, reverse, length, take, drop, Some, None, Option}
use Rattle.history.specs.declared.Ring.{Ring}

-- how many marks a slice has room for
abbrev pub room : {M : Type 0} → List M → ℕ
room marks = min (length marks) 64

-- the whole slice, from place n back to its front and then from its end back
unfoldable pub turned : {M : Type 0} → ℕ → List M → List M
turned n marks = reverse (take (suc n) marks) ++ reverse (drop (suc n) marks)

-- the marks that are held, the newest first; every ring has such a list in every slice
unfoldable pub stack : {M : Type 0} → List M → Ring → List M
stack marks r = take r.held (turned r.newest (take (room marks) marks))

abbrev pub newest_of : {M : Type 0} → List M → Option M
newest_of [] = None
newest_of (m ∷ ms) = Some m

abbrev pub older : {M : Type 0} → List M → List M
older [] = []
older (m ∷ ms) = ms

-- In a circle of c places, q comes after p: the next number, and after the last place the first.
abbrev pub Next : ℕ → ℕ → ℕ → Type 0
Next c p q = (p + 1 < c → q ≡ p + 1) × (c ≤ p + 1 → q ≡ 0)
