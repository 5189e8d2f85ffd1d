-- The fold over the rows, on lists of places: which are covered, and which lack a sibling.
use Rattle.std.proofs.Common.{ℕ, zero, suc, ◌+◌, ◌/◌, ◌^◌, cond, List, [], ◌∷◌, ◌++◌, map, length, ltb}
use Rattle.utreexo.specs.Forest.{position}
use Rattle.utreexo.specs.Claims.{Target}
use Rattle.climb.specs.Rows.{top, beside, lones, merge, front, past}

-- the places above those that are no root
abbrev pub ups : ℕ → List ℕ → List ℕ
ups w [] = []
ups w (x ∷ []) = cond (top w x) [] (x / 2 ∷ [])
ups w (x ∷ (y ∷ ys)) = cond (top w x) (ups w (y ∷ ys)) (cond (beside x y) (x / 2 ∷ ups w ys) (x / 2 ∷ ups w (y ∷ ys)))

-- what is left of the targets at row r
abbrev pub pasts : ℕ → List Target → List Target
pasts zero ts = ts
pasts (suc r) ts = past r (pasts r ts)

abbrev pub spot : Target → ℕ
spot t = t.node.place

-- the covered places of row r, of the forest of n slots
abbrev pub full : ℕ → List Target → ℕ → List ℕ
full n ts zero = map spot (front 0 ts)
full n ts (suc r) = merge ltb (ups (n / 2 ^ r) (full n ts r)) (map spot (front (suc r) (pasts (suc r) ts)))

-- the places that come from the row below
abbrev pub carried : ℕ → List Target → ℕ → List ℕ
carried n ts zero = []
carried n ts (suc r) = ups (n / 2 ^ r) (full n ts r)

-- how many hashes the rows below row r take
abbrev pub used : ℕ → List Target → ℕ → ℕ
used n ts zero = 0
used n ts (suc r) = used n ts r + length (lones (n / 2 ^ r) (full n ts r))

-- the siblings missing in row r, their numbers, and those of f rows from row r on
abbrev pub absent : ℕ → List Target → ℕ → List ℕ
absent n ts r = lones (n / 2 ^ r) (full n ts r)

abbrev pub numbers : ℕ → List Target → ℕ → List ℕ
numbers n ts r = map (position n r) (absent n ts r)

abbrev pub wanted : ℕ → List Target → ℕ → ℕ → List ℕ
wanted n ts r zero = []
wanted n ts r (suc f) = numbers n ts r ++ wanted n ts (suc r) f
