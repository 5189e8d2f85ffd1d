-- What a proof claims of the positions at, above and beside its targets.
use Rattle.std.proofs.Common.{◌≡◌, ℕ, zero, suc, ◌+◌, ◌*◌, ◌/◌, ◌%◌, Bool, true, false, cond, ◌||◌, List, [], ◌∷◌, Some, None, Option}
use Rattle.laws.proofs.Place.{sib}
use Rattle.laws.proofs.Tree.{Preimage, of_coin, of_two, Tree, coin, fork, count_struck, with_bit}
use Rattle.laws.proofs.Value.{push_o, join_o, value}

-- a target with its coin; a position that is not covered, with its hash; any other covered position
pub data Assertion (C V : Type 0) : Type 0 where
  target : C → Assertion C V
  by_hash : V → Assertion C V
  node : Assertion C V → Assertion C V → Assertion C V

-- whether a claim has a target
abbrev pub covers : {C V : Type 0} → Assertion C V → Bool
covers (target c) = true
covers (by_hash v) = false
covers (node a b) = true

-- a claim in row 0, and one above two others
abbrev pub leaf_claim : {C V : Type 0} → Option C → V → Assertion C V
leaf_claim (Some c) v = target c
leaf_claim None v = by_hash v

abbrev pub parent_claim : {C V : Type 0} → Option C → Assertion C V → Assertion C V → V → Assertion C V
parent_claim (Some c) a b v = target c
parent_claim None a b v = cond (covers a || covers b) (node a b) (by_hash v)

-- the claim at row r and place o, from the targets and the hashes by row and place
abbrev pub claim : {C V : Type 0} → (ℕ → ℕ → Option C) → (ℕ → ℕ → V) → ℕ → ℕ → Assertion C V
claim tgt hash zero o = leaf_claim (tgt 0 o) (hash 0 o)
claim tgt hash (suc r) o = parent_claim (tgt (suc r) o) (claim tgt hash r (2 * o)) (claim tgt hash r (2 * o + 1)) (hash (suc r) o)

-- one of the two children of a position is covered
abbrev pub child_covered : {C V : Type 0} → (ℕ → ℕ → Option C) → (ℕ → ℕ → V) → ℕ → ℕ → Bool
child_covered tgt hash r o = covers (claim tgt hash r (2 * o)) || covers (claim tgt hash r (2 * o + 1))

-- no covered position lies below a target
abbrev pub Apart : {C V : Type 0} → (ℕ → ℕ → Option C) → (ℕ → ℕ → V) → Type 0
Apart tgt hash = (r o : ℕ) → covers (claim tgt hash r o) ≡ true → tgt (suc r) (o / 2) ≡ None

module _ {C V : Type 0} (image : Preimage C V → V) where
  -- the value claimed
  abbrev pub asserted : Assertion C V → V
  asserted (target c) = image (of_coin c)
  asserted (by_hash v) = v
  asserted (node a b) = image (of_two (asserted a) (asserted b))

  -- the input claimed, of a covered position
  abbrev pub asserted_input : Assertion C V → Option (Preimage C V)
  asserted_input (target c) = Some (of_coin c)
  asserted_input (by_hash v) = None
  asserted_input (node a b) = Some (of_two (asserted a) (asserted b))

  -- the value after the targets are spent
  abbrev pub after_value : Assertion C V → Option V
  after_value (target c) = None
  after_value (by_hash v) = Some v
  after_value (node a b) = join_o image (after_value a) (after_value b)

  -- every target is right and every hash fresh
  abbrev pub Matches : Assertion C V → Tree C → Type 0
  Matches (target c) (coin i x) = c ≡ x
  Matches (target c) (fork x y) = ⊥
  Matches (by_hash v) t = v ≡ value image t
  Matches (node a b) (coin i x) = ⊥
  Matches (node a b) (fork x y) = Matches a x × Matches b y

  -- What a kept path becomes. The hash v beside the position of claim a: its new value.
  abbrev pub newer : Assertion C V → V → Option V
  newer a v = cond (covers a) (after_value a) (Some v)

  module _ (tgt : ℕ → ℕ → Option C) (hash : ℕ → ℕ → V) where
    -- the path from row r, place o
    abbrev pub refresh : ℕ → ℕ → List V → List V
    refresh r o [] = []
    refresh r o (v ∷ vs) = push_o (newer (claim tgt hash r (sib o)) v) (refresh (suc r) (o / 2) vs)

    -- how many more bits are struck out
    abbrev pub rise : ℕ → ℕ → List V → ℕ
    rise r o [] = 0
    rise r o (v ∷ vs) = count_struck (newer (claim tgt hash r (sib o)) v) (rise (suc r) (o / 2) vs)

    -- the place with those closed up
    abbrev pub shift : ℕ → ℕ → List V → ℕ
    shift r o [] = o
    shift r o (v ∷ vs) = with_bit (newer (claim tgt hash r (sib o)) v) (shift (suc r) (o / 2) vs) (o % 2)
