-- Values of trees and of runs, and the path of a slot.
use Rattle.std.proofs.Common.{ℕ, zero, suc, ◌+◌, ◌*◌, ◌/◌, Bool, cond, List, [], ◌∷◌, Some, None, Option}
use Rattle.laws.proofs.Place.{sib}
use Rattle.laws.proofs.Tree.{map_o, Preimage, of_coin, of_two, Tree, coin, fork, merge, subtree}

-- a value, if there is one, in front
abbrev pub push_o : {A : Type 0} → Option A → List A → List A
push_o None l = l
push_o (Some v) l = v ∷ l

-- a slot blanked
abbrev pub blank : {C : Type 0} → (ℕ → Bool) → (ℕ → Option C) → ℕ → Option C
blank dead slot i = cond (dead i) None (slot i)

-- a tree with some slots blanked
abbrev pub prune : {C : Type 0} → (ℕ → Bool) → Tree C → Option (Tree C)
prune dead (coin i c) = cond (dead i) None (Some (coin i c))
prune dead (fork x y) = merge (prune dead x) (prune dead y)

module _ {C V : Type 0} (image : Preimage C V → V) where
  -- two values side by side; a blank one gives way
  abbrev pub join_o : Option V → Option V → Option V
  join_o None y = y
  join_o (Some a) None = Some a
  join_o (Some a) (Some b) = Some (image (of_two a b))

  -- the value over the run of row r and place o
  abbrev pub value_under : (ℕ → Option C) → ℕ → ℕ → Option V
  value_under slot zero o = map_o (λ c. image (of_coin c)) (slot o)
  value_under slot (suc r) o = join_o (value_under slot r (2 * o)) (value_under slot r (2 * o + 1))

  -- the value of a tree
  abbrev pub value : Tree C → V
  value (coin i c) = image (of_coin c)
  value (fork x y) = image (of_two (value x) (value y))

  -- what the value of a tree is the image of
  abbrev pub input_of : Tree C → Preimage C V
  input_of (coin i c) = of_coin c
  input_of (fork x y) = of_two (value x) (value y)

  -- the values over the siblings of the run (j, o), up to f rows higher, from the bottom
  abbrev pub path : (ℕ → Option C) → ℕ → ℕ → ℕ → List V
  path slot j o zero = []
  path slot j o (suc f) = push_o (value_under slot j (sib o)) (path slot (suc j) (o / 2) f)

  -- the values at the siblings of the place c, d rows below the top of t, going up
  abbrev pub sibs : Tree C → ℕ → ℕ → List V
  sibs t zero c = []
  sibs t (suc d) c = push_o (map_o value (subtree t (suc d) (sib c))) (sibs t d (c / 2))
