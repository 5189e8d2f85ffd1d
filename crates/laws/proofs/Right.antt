-- A claim that matches, read by position: every target is a live slot's, and every hash is fresh.
use Rattle.std.proofs.Common.{◌≡◌, ℕ, zero, suc, ◌+◌, ◌*◌, ◌/◌, true, false, Some, None, Option, sym, refl, ap, ◌∙◌, arith}
use Rattle.laws.proofs.Place.{up, sib}
use Rattle.laws.proofs.Places.{by_half, half_even, half_odd, mod_even, mod_odd, sib_half}
use Rattle.laws.proofs.Tree.{Preimage, Tree, coin, fork, subtree}
use Rattle.laws.proofs.Value.{value}
use Rattle.laws.proofs.Claim.{target, node, covers, claim, Matches, Apart, child_covered}
use Rattle.laws.proofs.Evidence.{either}
use Rattle.laws.proofs.Matching.{uncovered}
use Rattle.laws.proofs.Covers.{cover_here, cover_up}

module _ {C V : Type 0} (image : Preimage C V → V) (tgt : ℕ → ℕ → Option C) (hash : ℕ → ℕ → V) (t : Tree C)
    (apart : Apart tgt hash) where
  -- the tree at a position matches its claim
  pub record Met (r d o : ℕ) : Type 0 where
    pub tree : Tree C
    pub found : subtree t d o ≡ Some tree
    pub match : Matches image (claim tgt hash r o) tree

  -- so it does at both children of a covered position that is no target
  met_children : (r d h : ℕ) → tgt (suc r) h ≡ None → child_covered tgt hash r h ≡ true
      → Met (suc r) d h → Met r (suc d) (2 * h) × Met r (suc d) (2 * h + 1)
  met_children r d h n c m = go m.tree m.found (rw (n, c) at m.match)
    where
      go : (w : Tree C) → subtree t d h ≡ Some w → Matches image (node (claim tgt hash r (2 * h)) (claim tgt hash r (2 * h + 1))) w
          → Met r (suc d) (2 * h) × Met r (suc d) (2 * h + 1)
      go (coin i x) s m = absurd m
      go (fork x y) s m =
          (record { tree = x; found = rw (mod_even, half_even, s); match = m.0 }, record { tree = y; found = rw (mod_odd, half_odd, s); match = m.1 })

  met_child : (r d o : ℕ) → tgt (suc r) (o / 2) ≡ None → child_covered tgt hash r (o / 2) ≡ true
      → Met (suc r) d (o / 2) → Met r (suc d) o
  met_child r d = by_half _
      (λ h n c m. (met_children r d h (rw half_even at n) (rw half_even at c) (rw half_even at m)).0)
      (λ h n c m. (met_children r d h (rw half_odd at n) (rw half_odd at c) (rw half_odd at m)).1)

  module _ (k p : ℕ) (match : covers (claim tgt hash k p) ≡ true → Matches image (claim tgt hash k p) t) where
    -- at each covered position there is a tree, which matches
    pub met : (d r o : ℕ) → d + r ≡ k → up d o ≡ p → covers (claim tgt hash r o) ≡ true → Met r d o
    met zero r o n q c =
        let e : r ≡ k = omega arith in
        record { tree = t; found = refl; match = rw (e, q) (match (rw (e, q) at c)) }
    met (suc d) r o n q c =
        met_child r d o (apart r o c) (either image tgt hash t r o c) (met d (suc r) (o / 2) (omega arith) q (cover_up tgt hash r o c))

    -- a needed position: its sibling is covered
    pub met_needed : (d r o : ℕ) → suc d + r ≡ k → up (suc d) o ≡ p → covers (claim tgt hash r (sib o)) ≡ true → Met r (suc d) o
    met_needed d r o n q c =
        met_child r d o (rw sib_half at (apart r (sib o) c)) (rw sib_half at (either image tgt hash t r (sib o) c))
        (met d (suc r) (o / 2) (omega arith) q (rw sib_half at (cover_up tgt hash r (sib o) c)))

    -- a needed hash is the value at its position
    pub fresh_at : (d r o : ℕ) → suc d + r ≡ k → up (suc d) o ≡ p → covers (claim tgt hash r o) ≡ false → covers (claim tgt hash r (sib o)) ≡ true
        → (u : Tree C) × (subtree t (suc d) o ≡ Some u) × (hash r o ≡ value image u)
    fresh_at d r o n q f c =
        let m = met_needed d r o n q c in
        (m.tree, m.found, rw (uncovered tgt hash r o f) at m.match)

    -- at a target's position is its coin
    pub right_at : (d r o : ℕ) (c : C) → d + r ≡ k → up d o ≡ p → tgt r o ≡ Some c → (i : ℕ) × (subtree t d o ≡ Some (coin i c))
    right_at d r o c n q e = go m.tree m.found (rw (is_target r o c e) at m.match)
      where
        is_target : (r o : ℕ) (c : C) → tgt r o ≡ Some c → claim tgt hash r o ≡ target c
        is_target zero o c e = rw e
        is_target (suc r) o c e = rw e

        m : Met r d o
        m = met d r o n q (cover_here tgt hash r o c e)

        go : (w : Tree C) → subtree t d o ≡ Some w → Matches image (target c) w → (i : ℕ) × (subtree t d o ≡ Some (coin i c))
        go (coin i x) s w = (i, s ∙ ap (λ y. Some (coin i y)) (sym w))
        go (fork x y) s w = absurd w
