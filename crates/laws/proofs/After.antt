-- The after-value at a root is the value of the tree with the targets' slots blanked.
use Rattle.std.proofs.Common.{◌≡◌, ℕ, zero, suc, ◌+◌, ◌*◌, Bool, true, false, cond, ◌||◌, is_some, Some, None, Option, sym, refl, ap, ◌∙◌, arith}
use Rattle.laws.proofs.Place.{up}
use Rattle.laws.proofs.Places.{half_even, half_odd, mod_even, mod_odd}
use Rattle.laws.proofs.Tree.{map_o, Preimage, of_coin, Tree, coin, fork, merge, grow, subtree, struck, place}
use Rattle.laws.proofs.Value.{blank, prune, join_o, value_under, value}
use Rattle.laws.proofs.Claim.{Assertion, target, by_hash, node, covers, leaf_claim, parent_claim, claim, after_value, Matches}
use Rattle.laws.proofs.Where.{CoinSlot, coin_slot, fork_high}

-- a tree that may be absent, with some slots blanked
abbrev pub prune_o : {C : Type 0} → (ℕ → Bool) → Option (Tree C) → Option (Tree C)
prune_o dead None = None
prune_o dead (Some t) = prune dead t

-- blanking slots of two merged trees
pub merge_none : {C : Type 0} (x : Option (Tree C)) → merge x None ≡ x
merge_none None = refl
merge_none (Some a) = refl

pub prune_o_merge : {C : Type 0} (dead : ℕ → Bool) (x y : Option (Tree C)) → prune_o dead (merge x y) ≡ merge (prune_o dead x) (prune_o dead y)
prune_o_merge dead None y = refl
prune_o_merge dead (Some a) None = sym (merge_none (prune dead a))
prune_o_merge dead (Some a) (Some b) = refl

-- the collapsed tree of the slots with some blanked
pub grow_blank : {C : Type 0} (dead : ℕ → Bool) (slot : ℕ → Option C) (r o : ℕ) → grow (blank dead slot) r o ≡ prune_o dead (grow slot r o)
grow_blank {C} dead slot zero o = go (dead o) (slot o) refl
  where
    go : (b : Bool) (z : Option C) → dead o ≡ b → map_o (coin o) (cond b None z) ≡ prune_o dead (map_o (coin o) z)
    go true None e = refl
    go false None e = refl
    go true (Some c) e = rw e
    go false (Some c) e = rw e
grow_blank {C} dead slot (suc r) o =
    rw (grow_blank dead slot r (2 * o), grow_blank dead slot r (2 * o + 1)) (sym (prune_o_merge dead (grow slot r (2 * o)) (grow slot r (2 * o + 1))))

module _ {C V : Type 0} (image : Preimage C V → V) where
  pub value_merge : (x y : Option (Tree C)) → map_o (value image) (merge x y) ≡ join_o image (map_o (value image) x) (map_o (value image) y)
  value_merge None y = refl
  value_merge (Some a) None = refl
  value_merge (Some a) (Some b) = refl

  -- the value over a run is that of its tree
  pub value_grow : (slot : ℕ → Option C) (r o : ℕ) → value_under image slot r o ≡ map_o (value image) (grow slot r o)
  value_grow slot zero o = go (slot o)
    where
      go : (z : Option C) → map_o (λ c. image (of_coin c)) z ≡ map_o (value image) (map_o (coin o) z)
      go None = refl
      go (Some c) = refl
  value_grow slot (suc r) o =
      rw (value_grow slot r (2 * o), value_grow slot r (2 * o + 1)) (sym (value_merge (grow slot r (2 * o)) (grow slot r (2 * o + 1))))

module _ {C V : Type 0} (image : Preimage C V → V) (dead : ℕ → Bool) where
  -- what a claim's after-value is, by the claim's kind
  pub after_target : (c : C) (u : Tree C) → Matches image (target c) u → ((i : ℕ) (x : C) → u ≡ coin i x → dead i ≡ true)
      → None ≡ map_o (value image) (prune dead u)
  after_target c (coin i x) m s = rw (s i x refl)
  after_target c (fork x y) m s = absurd m

  pub after_leaf : (z : Option C) (h : V) (u : Tree C) → Matches image (leaf_claim z h) u
      → (covers (leaf_claim {C = C} {V = V} z h) ≡ false → prune dead u ≡ Some u) → ((i : ℕ) (x : C) → u ≡ coin i x → dead i ≡ is_some z)
      → after_value image (leaf_claim z h) ≡ map_o (value image) (prune dead u)
  after_leaf None h u m f s = rw (f refl) (ap (λ v. Some v) m)
  after_leaf (Some c) h u m f s = after_target c u m s

  pub after_parent : (z : Option C) (a b : Assertion C V) (h : V) (u : Tree C) → Matches image (parent_claim z a b h) u
      → (covers (parent_claim z a b h) ≡ false → prune dead u ≡ Some u) → ((i : ℕ) (x : C) → u ≡ coin i x → dead i ≡ is_some z)
      → ((x y : Tree C) → u ≡ fork x y → Matches image a x → Matches image b y
      → (after_value image a ≡ map_o (value image) (prune dead x)) × (after_value image b ≡ map_o (value image) (prune dead y)))
      → after_value image (parent_claim z a b h) ≡ map_o (value image) (prune dead u)
  after_parent (Some c) a b h u m f s g = after_target c u m s
  after_parent None a b h u m f s g = go (covers a || covers b) u m f g
    where
      go : (q : Bool) (u : Tree C) → Matches image (cond q (node a b) (by_hash h)) u → (covers (cond q (node a b) (by_hash h)) ≡ false → prune dead u ≡ Some u)
          → ((x y : Tree C) → u ≡ fork x y → Matches image a x → Matches image b y
          → (after_value image a ≡ map_o (value image) (prune dead x)) × (after_value image b ≡ map_o (value image) (prune dead y)))
          → after_value image (cond q (node a b) (by_hash h)) ≡ map_o (value image) (prune dead u)
      go false u m f g = rw (f refl) (ap (λ v. Some v) m)
      go true (coin i x) m f g = absurd m
      go true (fork x y) m f g =
          let (l, r) = g x y refl m.0 m.1 in
          rw (l, r) (sym (value_merge image (prune dead x) (prune dead y)))

  -- a claim that covers nothing has no target, and its children cover nothing
  pub clear_leaf : (z : Option C) (h : V) → covers (leaf_claim z h) ≡ false → is_some z ≡ false
  clear_leaf None h e = refl
  clear_leaf (Some c) h e = e

  -- so does one above two others
  pub clear_parent : (z : Option C) (a b : Assertion C V) (h : V) → covers (parent_claim z a b h) ≡ false
      → (is_some z ≡ false) × (covers a ≡ false) × (covers b ≡ false)
  clear_parent (Some c) a b h e = let z : ◌≡◌ {A = ℕ} 0 1 = cc in absurd (omega arith)
  clear_parent None a b h e = go (covers a) (covers b) e
    where
      go : (p q : Bool) → covers (cond (p || q) (node a b) (by_hash h)) ≡ false → (is_some {T = C} None ≡ false) × (p ≡ false) × (q ≡ false)
      go false false e = (refl, refl, refl)
      go true q e = let z : ◌≡◌ {A = ℕ} 0 1 = cc in absurd (omega arith)
      go false true e = let z : ◌≡◌ {A = ℕ} 0 1 = cc in absurd (omega arith)

-- a slot is blanked where its position is a target
abbrev pub spent_by : {C : Type 0} → (ℕ → Option C) → (ℕ → ℕ → Option C) → ℕ → ℕ → Bool
spent_by slot tgt k i = is_some (tgt (struck slot 0 i k) (place slot 0 i k))

module _ {C V : Type 0} (image : Preimage C V → V) (slot : ℕ → Option C) (tgt : ℕ → ℕ → Option C) (hash : ℕ → ℕ → V)
    (k p : ℕ) (t : Tree C) (root : grow slot k p ≡ Some t) where
  pub spent_coin : (r d o i : ℕ) (x : C) → d + r ≡ k → up d o ≡ p → subtree t d o ≡ Some (coin i x) → spent_by slot tgt k i ≡ is_some (tgt r o)
  spent_coin r d o i x n q s =
      let a : CoinSlot slot k p r o i x = coin_slot slot k p t root d r o i x n q s in
      let e = a.row in let f = a.at in cc

  -- below a position that is not covered nothing is blanked
  pub clear : (r d o : ℕ) (u : Tree C) → d + r ≡ k → up d o ≡ p → subtree t d o ≡ Some u → covers (claim tgt hash r o) ≡ false
      → prune (spent_by slot tgt k) u ≡ Some u
  clear zero d o (coin i x) n q s c =
      rw (spent_coin 0 d o i x n q s, clear_leaf image (spent_by slot tgt k) (tgt 0 o) (hash 0 o) c)
  clear zero d o (fork x y) n q s c = absurd (omega (arith, fork_high slot k p t root d o x y q s))
  clear (suc r) d o (coin i x) n q s c =
      rw (
        spent_coin (suc r) d o i x n q s,
        (clear_parent image (spent_by slot tgt k) (tgt (suc r) o) (claim tgt hash r (2 * o)) (claim tgt hash r (2 * o + 1)) (hash (suc r) o) c).0,
      )
  clear (suc r) d o (fork x y) n q s c =
      let (_, a, b) = clear_parent image (spent_by slot tgt k) (tgt (suc r) o) (claim tgt hash r (2 * o)) (claim tgt hash r (2 * o + 1)) (hash (suc r) o) c in
      rw (
        clear r (suc d) (2 * o) x (omega arith) (rw half_even q) (rw (mod_even, half_even, s)) a,
        clear r (suc d) (2 * o + 1) y (omega arith) (rw half_odd q) (rw (mod_odd, half_odd, s)) b,
      )

  -- at each position whose claim matches, the after-value is the value with the spent slots blanked
  pub after_matches : (r d o : ℕ) (u : Tree C) → d + r ≡ k → up d o ≡ p → subtree t d o ≡ Some u → Matches image (claim tgt hash r o) u
      → after_value image (claim tgt hash r o) ≡ map_o (value image) (prune (spent_by slot tgt k) u)
  after_matches zero d o u n q s m =
      after_leaf image (spent_by slot tgt k) (tgt 0 o) (hash 0 o) u m (clear 0 d o u n q s)
      (λ i x e. spent_coin 0 d o i x n q (s ∙ ap (λ w. Some w) e))
  after_matches (suc r) d o u n q s m =
      after_parent image (spent_by slot tgt k) (tgt (suc r) o) (claim tgt hash r (2 * o)) (claim tgt hash r (2 * o + 1)) (hash (suc r) o) u m
      (clear (suc r) d o u n q s)
      (λ i x e. spent_coin (suc r) d o i x n q (s ∙ ap (λ w. Some w) e))
      (λ x y e l g. (
        after_matches r (suc d) (2 * o) x (omega arith) (rw half_even q) (rw (mod_even, half_even, s, e)) l,
        after_matches r (suc d) (2 * o + 1) y (omega arith) (rw half_odd q) (rw (mod_odd, half_odd, s, e)) g,
      ))
