-- Runs of slots, the collapsed tree over a run, and where a run's tree is in a larger one. In a collapsed tree a blank half takes
-- no room: its sibling has the place of both. The theory's counterparts of definitions have names in camelCase.
use Rattle.std.proofs.Common.{ℕ, zero, suc, ◌+◌, ◌*◌, ◌/◌, ◌%◌, Some, None, Option}
use Rattle.laws.proofs.Place.{sib}

-- what there may be, mapped
abbrev pub map_o : {A B : Type 0} → (A → B) → Option A → Option B
map_o f None = None
map_o f (Some a) = Some (f a)

-- what is hashed
pub data Preimage (Coin Value : Type 0) : Type 0 where
  of_coin : Coin → Preimage Coin Value
  of_two : Value → Value → Preimage Coin Value

-- a leaf has its slot's number beside its coin
pub data Tree (Coin : Type 0) : Type 0 where
  coin : ℕ → Coin → Tree Coin
  fork : Tree Coin → Tree Coin → Tree Coin

-- two trees side by side; a blank one gives way
abbrev pub merge : {C : Type 0} → Option (Tree C) → Option (Tree C) → Option (Tree C)
merge None y = y
merge (Some a) None = Some a
merge (Some a) (Some b) = Some (fork a b)

-- the collapsed tree over the run of row r and place o
abbrev pub grow : {C : Type 0} → (ℕ → Option C) → ℕ → ℕ → Option (Tree C)
grow slot zero o = map_o (coin o) (slot o)
grow slot (suc r) o = merge (grow slot r (2 * o)) (grow slot r (2 * o + 1))

-- the child of low bit b
abbrev pub child : {C : Type 0} → ℕ → Option (Tree C) → Option (Tree C)
child b None = None
child b (Some (coin i c)) = None
child zero (Some (fork x y)) = Some x
child (suc b) (Some (fork x y)) = Some y

-- the subtree d rows below the top of t, at place o of that row
abbrev pub subtree : {C : Type 0} → Tree C → ℕ → ℕ → Option (Tree C)
subtree t zero o = Some t
subtree t (suc d) o = child (o % 2) (subtree t d (o / 2))

-- the same where there may be no tree
abbrev pub subtree_o : {C : Type 0} → Option (Tree C) → ℕ → ℕ → Option (Tree C)
subtree_o None d o = None
subtree_o (Some t) d o = subtree t d o

-- Of the run (j, o), f rows below the top: how many bits above it are struck out, how many are
-- not, and the place with the struck bits closed up. A bit is struck out where the sibling is blank.
abbrev pub count_struck : {A : Type 0} → Option A → ℕ → ℕ
count_struck None n = suc n
count_struck (Some _) n = n

abbrev pub count_kept : {A : Type 0} → Option A → ℕ → ℕ
count_kept None n = n
count_kept (Some _) n = suc n

abbrev pub with_bit : {A : Type 0} → Option A → ℕ → ℕ → ℕ
with_bit None q b = q
with_bit (Some _) q b = 2 * q + b

abbrev pub struck : {C : Type 0} → (ℕ → Option C) → ℕ → ℕ → ℕ → ℕ
struck slot j o zero = 0
struck slot j o (suc f) = count_struck (grow slot j (sib o)) (struck slot (suc j) (o / 2) f)

abbrev pub depth : {C : Type 0} → (ℕ → Option C) → ℕ → ℕ → ℕ → ℕ
depth slot j o zero = 0
depth slot j o (suc f) = count_kept (grow slot j (sib o)) (depth slot (suc j) (o / 2) f)

abbrev pub place : {C : Type 0} → (ℕ → Option C) → ℕ → ℕ → ℕ → ℕ
place slot j o zero = o
place slot j o (suc f) = with_bit (grow slot j (sib o)) (place slot (suc j) (o / 2) f) (o % 2)
