-- A forest of n slots: its trees, the slots that a block spends, and one that is added.
use Rattle.std.proofs.Common.{◌≡◌, ℕ, zero, suc, ◌/◌, ◌%◌, Bool, cond, ◌&&◌, eqb, List, get_or, is_some, Some, None, Option}
use Rattle.laws.proofs.Place.{up}
use Rattle.laws.proofs.Tree.{Preimage, struck, place}
use Rattle.laws.proofs.Claim.{claim, newer}

-- (k, p) is a whole tree: bit k of n is one, and p is the place of its run
pub record Top (n k p : ℕ) : Type 0 where
  pub count : up k n ≡ suc p
  pub even : p % 2 ≡ 0

-- The row of the tree over place o of row r, where there are m whole runs of row r. The first number bounds the search.
abbrev pub top_row_of : ℕ → ℕ → ℕ → ℕ → ℕ
top_row_of zero r o m = r
top_row_of (suc f) r o m = cond (eqb m (suc o) && eqb (o % 2) 0) r (top_row_of f (suc r) (o / 2) (m / 2))

-- the row of the tree of slot i
abbrev pub row_of_tree : ℕ → ℕ → ℕ
row_of_tree n i = top_row_of n 0 i n

-- the slots whose position is a target's
abbrev pub spends : {C : Type 0} → (ℕ → Option C) → ℕ → (ℕ → ℕ → Option C) → ℕ → Bool
spends slot n tgt i = is_some (tgt (struck slot 0 i (row_of_tree n i)) (place slot 0 i (row_of_tree n i)))

-- a root after its targets are spent
abbrev pub renew : {C V : Type 0} → (Preimage C V → V) → (ℕ → ℕ → Option C) → (ℕ → ℕ → V) → ℕ → ℕ → Option V → Option V
renew image tgt hash k p None = None
renew image tgt hash k p (Some v) = newer image (claim tgt hash k p) v

-- a new coin takes the next slot
abbrev pub put : {C : Type 0} → (ℕ → Option C) → ℕ → C → ℕ → Option C
put slot n c i = cond (eqb i n) (Some c) (slot i)

-- A forest's slots as a list.
abbrev pub slot_of : {C : Type 0} → List (Option C) → ℕ → Option C
slot_of s i = get_or s i None
