-- Where a run's tree is in the tree above it, and which run's tree is at a place.
use Rattle.std.proofs.Common.{◌≡◌, ℕ, zero, suc, ◌+◌, ◌*◌, ◌/◌, ◌%◌, ◌<◌, ◌⊎◌, Some, None, Option, sym, refl, ap, ◌∙◌, subst, inl, inr, arith}
use Rattle.laws.proofs.Logic.{never}
use Rattle.laws.proofs.Place.{up, sib}
use Rattle.laws.proofs.Places.{by_half, half_even, half_odd, mod_even, mod_odd, sib_even, sib_odd, with_bit_half, with_bit_mod}
use Rattle.laws.proofs.Tree.{map_o, Tree, coin, fork, merge, grow, child, subtree, count_struck, count_kept, with_bit, struck, depth, place}

-- a fork with the tree of low bit b first named
abbrev pub fork_at : {C : Type 0} → ℕ → Tree C → Tree C → Tree C
fork_at zero u v = fork u v
fork_at (suc b) u v = fork v u

-- its child of that bit
pub child_fork_at : {C : Type 0} (b : ℕ) (u v : Tree C) → child b (Some (fork_at b u v)) ≡ Some u
child_fork_at zero u v = refl
child_fork_at (suc b) u v = refl

module _ {C : Type 0} (slot : ℕ → Option C) where
  -- a run whose sibling is blank has its parent's tree
  pub alone : (j o : ℕ) (u : Tree C) → grow slot j o ≡ Some u → grow slot j (sib o) ≡ None → grow slot (suc j) (o / 2) ≡ Some u
  alone j o = by_half (λ o. (u : Tree C) → grow slot j o ≡ Some u → grow slot j (sib o) ≡ None → grow slot (suc j) (o / 2) ≡ Some u)
      (λ h u e n. let n' : grow slot j (2 * h + 1) ≡ None = rw sib_even at n in rw (half_even, e, n'))
      (λ h u e n. let n' : grow slot j (2 * h) ≡ None = rw sib_odd at n in rw (half_odd, e, n'))
      o

  -- a run whose sibling is not: the parent forks
  pub two_runs : (j o : ℕ) (u v : Tree C) → grow slot j o ≡ Some u → grow slot j (sib o) ≡ Some v
      → grow slot (suc j) (o / 2) ≡ Some (fork_at (o % 2) u v)
  two_runs j o = by_half (λ o. (u v : Tree C) → grow slot j o ≡ Some u → grow slot j (sib o) ≡ Some v → grow slot (suc j) (o / 2) ≡ Some (fork_at (o % 2) u v))
      (λ h u v e n. let n' : grow slot j (2 * h + 1) ≡ Some v = rw sib_even at n in rw (half_even, mod_even, e, n'))
      (λ h u v e n. let n' : grow slot j (2 * h) ≡ Some v = rw sib_odd at n in rw (half_odd, mod_odd, e, n'))
      o

  -- above a run that is not blank no run is
  pub above_some : (f j o k p : ℕ) (u : Tree C) → j + f ≡ k → up f o ≡ p → grow slot j o ≡ Some u → (t : Tree C) × (grow slot k p ≡ Some t)
  above_some zero j o k p u here above e = let q : j ≡ k = omega arith in (u, cc)
  above_some (suc f) j o k p u here above e = go (grow slot j (sib o)) refl (λ w. above_some f (suc j) (o / 2) k p w (omega arith) above)
    where
      go : (x : Option (Tree C)) → grow slot j (sib o) ≡ x → ((w : Tree C) → grow slot (suc j) (o / 2) ≡ Some w → (t : Tree C) × (grow slot k p ≡ Some t))
          → (t : Tree C) × (grow slot k p ≡ Some t)
      go None n ih = ih u (alone j o u e n)
      go (Some v) n ih = ih (fork_at (o % 2) u v) (two_runs j o u v e n)

  -- the tree of a run is the subtree at the run's place
  pub run_subtree : (f j o k p : ℕ) (t u : Tree C) → grow slot k p ≡ Some t → j + f ≡ k → up f o ≡ p → grow slot j o ≡ Some u
      → subtree t (depth slot j o f) (place slot j o f) ≡ Some u
  run_subtree zero j o k p t u root here above e =
      let q : j ≡ k = omega arith in cc
  run_subtree (suc f) j o k p t u root here above e = go (grow slot j (sib o)) refl (run_subtree f (suc j) (o / 2) k p t)
    where
      go : (x : Option (Tree C)) → grow slot j (sib o) ≡ x
          → ((w : Tree C) → grow slot k p ≡ Some t → suc j + f ≡ k → up f (o / 2) ≡ p → grow slot (suc j) (o / 2) ≡ Some w
          → subtree t (depth slot (suc j) (o / 2) f) (place slot (suc j) (o / 2) f) ≡ Some w)
          → subtree t (count_kept x (depth slot (suc j) (o / 2) f)) (with_bit x (place slot (suc j) (o / 2) f) (o % 2)) ≡ Some u
      go None n ih = ih u root (omega arith) above (alone j o u e n)
      go (Some v) n ih =
          rw (with_bit_half, with_bit_mod, ih (fork_at (o % 2) u v) root (omega arith) above (two_runs j o u v e n)) (child_fork_at (o % 2) u v)

-- what a merged, and what a child, is part of
pub merged : {C : Type 0} (x y : Option (Tree C)) (u : Tree C) → merge x y ≡ Some u
    → ((x ≡ None) × (y ≡ Some u)) ⊎ (((x ≡ Some u) × (y ≡ None)) ⊎ ((a : Tree C) × (b : Tree C) × (x ≡ Some a) × (y ≡ Some b) × (u ≡ fork a b)))
merged None y u e = inl (refl, e)
merged (Some a) None u e = inr (inl (e, refl))
merged (Some a) (Some b) u e = inr (inr (a, b, refl, refl, cc))

pub child_of : {C : Type 0} (b : ℕ) (x : Option (Tree C)) (u : Tree C) → child b x ≡ Some u → (v : Tree C) × (x ≡ Some (fork_at b u v))
child_of b None u e = absurd (never u e)
child_of b (Some (coin i c)) u e = absurd (never u e)
child_of zero (Some (fork x y)) u e = (y, cc)
child_of (suc b) (Some (fork x y)) u e = (x, cc)

-- a run of row 0 has no fork, and its coin is the slot's
pub no_fork : {C : Type 0} (o : ℕ) (z : Option C) (x y : Tree C) → map_o (coin o) z ≡ Some (fork x y) → ⊥
no_fork o None x y e = never (fork x y) e
no_fork o (Some c) x y e = let z : ◌≡◌ {A = ℕ} 0 1 = cc in omega arith

pub one_coin : {C : Type 0} (o i : ℕ) (z : Option C) (c : C) → map_o (coin o) z ≡ Some (coin i c) → (o ≡ i) × (z ≡ Some c)
one_coin o i None c e = absurd (never (coin i c) e)
one_coin o i (Some z) c e = (cc, cc)

-- the tree of the run (j, o) is d rows below the top (k, p), at place c
pub record At {C : Type 0} (slot : ℕ → Option C) (k p d c j o : ℕ) : Type 0 where
  pub above : ℕ
  pub rows : j + above ≡ k
  pub tops : up above o ≡ p
  pub deep : depth slot j o above ≡ d
  pub placed : place slot j o above ≡ c

module _ {C : Type 0} (slot : ℕ → Option C) (k p : ℕ) where
  -- the top itself, and a run one row lower, on its own or beside another
  pub at_top : At slot k p 0 p k p
  at_top = record { above = 0; rows = omega arith; tops = refl; deep = refl; placed = refl }

  pub at_lower : (d c j o : ℕ) → At slot k p d c (suc j) (o / 2) → grow slot j (sib o) ≡ None → At slot k p d c j o
  at_lower d c j o a n =
      record { above = suc a.above; rows = omega arith; tops = a.tops; deep = rw n a.deep; placed = rw n a.placed }

  pub at_split : (d c j o : ℕ) (v : Tree C) → At slot k p d c (suc j) (o / 2) → grow slot j (sib o) ≡ Some v → At slot k p (suc d) (2 * c + o % 2) j o
  at_split d c j o v a n =
      record { above = suc a.above; rows = omega arith; tops = a.tops; deep = rw n (ap suc a.deep); placed = rw n (ap (λ q. 2 * q + o % 2) a.placed) }

  -- down to the row at which a fork's two runs part
  pub parts : (j o d c : ℕ) (x y : Tree C) → At slot k p d c j o → grow slot j o ≡ Some (fork x y)
      → (i : ℕ) × (h : ℕ) × (At slot k p d c (suc i) h) × (grow slot i (2 * h) ≡ Some x) × (grow slot i (2 * h + 1) ≡ Some y)
  parts zero o d c x y a e = absurd (no_fork o (slot o) x y e)
  parts (suc j) o d c x y a e =
      elim (merged (grow slot j (2 * o)) (grow slot j (2 * o + 1)) (fork x y) e) [
        | inl n ↦ parts j (2 * o + 1) d c x y (at_lower d c j (2 * o + 1) (rw half_odd a) (rw sib_odd n.0)) n.1
        | inr (inl n) ↦ parts j (2 * o) d c x y (at_lower d c j (2 * o) (rw half_even a) (rw sib_even n.1)) n.0
        | inr (inr n) ↦ (j, o, a, cc, cc)
      ]

  -- a subtree is the tree of a run at its place
  pub found : (t : Tree C) → grow slot k p ≡ Some t → (d c : ℕ) (u : Tree C) → up d c ≡ p → subtree t d c ≡ Some u
      → (j : ℕ) × (o : ℕ) × (At slot k p d c j o) × (grow slot j o ≡ Some u)
  found t root zero c u q e = (k, p, subst (λ x. At slot k p 0 x k p) (sym q) at_top, cc)
  found t root (suc d) c u q e =
      let (v, w) = child_of (c % 2) (subtree t d (c / 2)) u e in
      go (c % 2) refl v (found t root d (c / 2) (fork_at (c % 2) u v) q w)
    where
      go : (b : ℕ) → c % 2 ≡ b → (v : Tree C)
          → ((j : ℕ) × (o : ℕ) × (At slot k p d (c / 2) j o) × (grow slot j o ≡ Some (fork_at b u v)))
          → (j : ℕ) × (o : ℕ) × (At slot k p (suc d) c j o) × (grow slot j o ≡ Some u)
      go zero m v (j, o, a, g) =
          let (i, h, a', x, y) = parts j o d (c / 2) u v a g in
          (i, 2 * h, subst (λ z. At slot k p (suc d) z i (2 * h)) (omega (arith)) (at_split d (c / 2) i (2 * h) v (rw half_even a') (rw sib_even y)), x)
      go (suc b) m v (j, o, a, g) =
          let (i, h, a', x, y) = parts j o d (c / 2) v u a g in
          (i, 2 * h + 1, subst (λ z. At slot k p (suc d) z i (2 * h + 1)) (omega arith) (at_split d (c / 2) i (2 * h + 1) v (rw half_odd a') (rw sib_odd x)), y)

  -- a coin's run is its slot
  pub coin_run : (j o d c i : ℕ) (x : C) → At slot k p d c j o → grow slot j o ≡ Some (coin i x) → (At slot k p d c 0 i) × (slot i ≡ Some x)
  coin_run zero o d c i x a e =
      let (q, s) = one_coin o i (slot o) x e in
      (subst (λ z. At slot k p d c 0 z) q a, ap slot (sym q) ∙ s)
  coin_run (suc j) o d c i x a e =
      elim (merged (grow slot j (2 * o)) (grow slot j (2 * o + 1)) (coin i x) e) [
        | inl n ↦ coin_run j (2 * o + 1) d c i x (at_lower d c j (2 * o + 1) (rw half_odd a) (rw sib_odd n.0)) n.1
        | inr (inl n) ↦ coin_run j (2 * o) d c i x (at_lower d c j (2 * o) (rw half_even a) (rw sib_even n.1)) n.0
        | inr (inr n) ↦ let z : ◌≡◌ {A = ℕ} 0 1 = cc in absurd (omega arith)
      ]

module _ {C : Type 0} (slot : ℕ → Option C) where
  -- each bit is struck out or not
  pub rows_split : (f j o : ℕ) → struck slot j o f + depth slot j o f ≡ f
  rows_split zero j o = refl
  rows_split (suc f) j o = go (grow slot j (sib o)) (rows_split f (suc j) (o / 2))
    where
      go : (x : Option (Tree C)) → struck slot (suc j) (o / 2) f + depth slot (suc j) (o / 2) f ≡ f
          → count_struck x (struck slot (suc j) (o / 2) f) + count_kept x (depth slot (suc j) (o / 2) f) ≡ suc f
      go None e = omega arith
      go (Some v) e = omega arith

  -- the bits above the top stay
  pub place_up : (f j o : ℕ) → up (depth slot j o f) (place slot j o f) ≡ up f o
  place_up zero j o = refl
  place_up (suc f) j o = go (grow slot j (sib o)) (place_up f (suc j) (o / 2))
    where
      go : (x : Option (Tree C)) → up (depth slot (suc j) (o / 2) f) (place slot (suc j) (o / 2) f) ≡ up f (o / 2)
          → up (count_kept x (depth slot (suc j) (o / 2) f)) (with_bit x (place slot (suc j) (o / 2) f) (o % 2)) ≡ up f (o / 2)
      go None e = e
      go (Some v) e = ap (up (depth slot (suc j) (o / 2) f)) (with_bit_half (place slot (suc j) (o / 2) f) o) ∙ e

  -- a coin's place is its slot's position
  pub record CoinSlot (k p r o i : ℕ) (x : C) : Type 0 where
    pub live : slot i ≡ Some x
    pub within : up k i ≡ p
    pub row : struck slot 0 i k ≡ r
    pub at : place slot 0 i k ≡ o

  -- so of each coin of a tree
  pub coin_slot : (k p : ℕ) (t : Tree C) → grow slot k p ≡ Some t → (d r o i : ℕ) (x : C) → d + r ≡ k → up d o ≡ p → subtree t d o ≡ Some (coin i x)
      → CoinSlot k p r o i x
  coin_slot k p t root d r o i x n q e = go (found slot k p t root d o (coin i x) q e)
    where
      go : (j : ℕ) × (h : ℕ) × (At slot k p d o j h) × (grow slot j h ≡ Some (coin i x)) → CoinSlot k p r o i x
      go (j, h, a, g) =
          let (b, l) = coin_run slot k p j h d o i x a g in
          let f : b.above ≡ k = omega arith in
          let s : struck slot 0 i k + depth slot 0 i k ≡ k = rows_split k 0 i in
          let m : depth slot 0 i k ≡ d = rw f at b.deep in
          record { live = l; within = rw f at b.tops; row = omega arith; at = rw f at b.placed }

  -- a live slot's coin is at its position
  pub coin_there : (k p : ℕ) (t : Tree C) → grow slot k p ≡ Some t → (i : ℕ) (x : C) → slot i ≡ Some x → up k i ≡ p
      → subtree t (depth slot 0 i k) (place slot 0 i k) ≡ Some (coin i x)
  coin_there k p t root i x l q = run_subtree slot k 0 i k p t (coin i x) root (omega arith) q (rw l)

  -- a fork is above row 0
  pub fork_high : (k p : ℕ) (t : Tree C) → grow slot k p ≡ Some t → (d o : ℕ) (x y : Tree C) → up d o ≡ p → subtree t d o ≡ Some (fork x y) → d < k
  fork_high k p t root d o x y q e = go (found slot k p t root d o (fork x y) q e)
    where
      fin : (i : ℕ) × (h : ℕ) × (At slot k p d o (suc i) h) × (grow slot i (2 * h) ≡ Some x) × (grow slot i (2 * h + 1) ≡ Some y) → d < k
      fin (i, h, a, _, _) = omega (arith, rows_split a.above (suc i) h)

      go : (j : ℕ) × (h : ℕ) × (At slot k p d o j h) × (grow slot j h ≡ Some (fork x y)) → d < k
      go (j, h, a, g) = fin (parts slot k p j h d o x y a g)
