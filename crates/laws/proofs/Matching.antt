-- A claim with right targets and fresh hashes matches its tree, and what matches fits.
use Rattle.std.proofs.Common.{◌≡◌, ℕ, zero, suc, ◌+◌, ◌*◌, ◌%◌, Bool, true, false, ◌||◌, ◌⊎◌, Some, None, Option, refl, ap, subst, ap₂, inl, inr, arith}
use Rattle.laws.proofs.Logic.{never, or_split, or_flip, true_false}
use Rattle.laws.proofs.Place.{up, sib}
use Rattle.laws.proofs.Places.{half_even, half_odd, mod_even, mod_odd, sib_even, sib_odd}
use Rattle.laws.proofs.Tree.{Preimage, of_coin, of_two, Tree, coin, fork, child, subtree}
use Rattle.laws.proofs.Value.{value}
use Rattle.laws.proofs.Claim.{Assertion, target, by_hash, node, covers, leaf_claim, parent_claim, claim, asserted, Matches, child_covered}

module _ {C V : Type 0} (image : Preimage C V → V) where
  -- a proof that matches fits
  pub matches_asserted : (a : Assertion C V) (u : Tree C) → Matches image a u → asserted image a ≡ value image u
  matches_asserted (target c) (coin i x) m = ap (λ y. image (of_coin y)) m
  matches_asserted (target c) (fork x y) m = absurd m
  matches_asserted (by_hash v) u m = m
  matches_asserted (node a b) (coin i x) m = absurd m
  matches_asserted (node a b) (fork x y) m = ap₂ (λ v w. image (of_two v w)) (matches_asserted a x m.0) (matches_asserted b y m.1)

module _ {C V : Type 0} (tgt : ℕ → ℕ → Option C) (hash : ℕ → ℕ → V) where
  -- what is not covered has its hash
  pub uncovered : (r o : ℕ) → covers (claim tgt hash r o) ≡ false → claim tgt hash r o ≡ by_hash (hash r o)
  uncovered zero o e = go (tgt 0 o) e
    where
      go : (z : Option C) → covers (leaf_claim z (hash 0 o)) ≡ false → leaf_claim z (hash 0 o) ≡ by_hash (hash 0 o)
      go None e = refl
      go (Some c) e = absurd (true_false true refl e)
  uncovered (suc r) o e = go (tgt (suc r) o) (child_covered tgt hash r o) refl e
    where
      go : (z : Option C) (b : Bool) → child_covered tgt hash r o ≡ b
          → covers (parent_claim z (claim tgt hash r (2 * o)) (claim tgt hash r (2 * o + 1)) (hash (suc r) o)) ≡ false
          → parent_claim z (claim tgt hash r (2 * o)) (claim tgt hash r (2 * o + 1)) (hash (suc r) o) ≡ by_hash (hash (suc r) o)
      go None true q e = absurd (true_false true refl (rw q at e))
      go None false q e = rw q
      go (Some c) b q e = absurd (true_false true refl e)

  -- a covered position is a target, or a node of its children's claims
  pub cover_kind : (r o : ℕ) → covers (claim tgt hash (suc r) o) ≡ true
      → ((c : C) × (tgt (suc r) o ≡ Some c))
      ⊎ ((tgt (suc r) o ≡ None) × (child_covered tgt hash r o ≡ true))
  cover_kind r o e = go (tgt (suc r) o) refl (child_covered tgt hash r o) refl
    where
      go : (z : Option C) → tgt (suc r) o ≡ z → (b : Bool) → child_covered tgt hash r o ≡ b
          → ((c : C) × (tgt (suc r) o ≡ Some c))
          ⊎ ((tgt (suc r) o ≡ None) × (child_covered tgt hash r o ≡ true))
      go (Some c) q b w = inl (c, q)
      go None q true w = inr (q, w)
      go None q false w = absurd (true_false false (rw (q, w) at e) refl)

-- above any subtree there is a fork
fork_of : {C : Type 0} (b : ℕ) (z : Option (Tree C)) (u : Tree C) → child b z ≡ Some u → (x : Tree C) × (y : Tree C) × (z ≡ Some (fork x y))
fork_of b None u e = absurd (never u e)
fork_of b (Some (coin i c)) u e = absurd (never u e)
fork_of zero (Some (fork x y)) u e = (x, y, refl)
fork_of (suc b) (Some (fork x y)) u e = (x, y, refl)

above_even : {C : Type 0} (t : Tree C) (d h : ℕ) → (u : Tree C) × (subtree t (suc d) (2 * h) ≡ Some u)
    → (x : Tree C) × (y : Tree C) × (subtree t d h ≡ Some (fork x y))
above_even t d h (u, s) = fork_of (2 * h % 2) (subtree t d h) u (rw half_even at s)

above_odd : {C : Type 0} (t : Tree C) (d h : ℕ) → (u : Tree C) × (subtree t (suc d) (2 * h + 1) ≡ Some u)
    → (x : Tree C) × (y : Tree C) × (subtree t d h ≡ Some (fork x y))
above_odd t d h (u, s) = fork_of ((2 * h + 1) % 2) (subtree t d h) u (rw half_odd at s)

module _ {C V : Type 0} (image : Preimage C V → V) (tgt : ℕ → ℕ → Option C) (hash : ℕ → ℕ → V) (k p : ℕ) (t : Tree C)
    (right : (d r o : ℕ) (c : C) → d + r ≡ k → up d o ≡ p → tgt r o ≡ Some c → (i : ℕ) × (subtree t d o ≡ Some (coin i c))) where
  -- a covered position has a tree
  pub covered_tree : (r d o : ℕ) → d + r ≡ k → up d o ≡ p → covers (claim tgt hash r o) ≡ true → (u : Tree C) × (subtree t d o ≡ Some u)
  covered_tree zero d o n q e = go (tgt 0 o) refl e
    where
      go : (z : Option C) → tgt 0 o ≡ z → covers (leaf_claim z (hash 0 o)) ≡ true → (u : Tree C) × (subtree t d o ≡ Some u)
      go None w e = absurd (true_false false e refl)
      go (Some c) w e = let (i, s) = right d 0 o c n q w in (coin i c, s)
  covered_tree (suc r) d o n q e =
      elim (cover_kind tgt hash r o e) [
        | inl w ↦ (let (c, z) = w in let (i, s) = right d (suc r) o c n q z in (coin i c, s))
        | inr w ↦ elim (or_split (covers (claim tgt hash r (2 * o))) (covers (claim tgt hash r (2 * o + 1))) w.1) [
          | inl a ↦ (let (x, y, s) = above_even t d o (covered_tree r (suc d) (2 * o) (omega arith) (rw half_even q) a) in (fork x y, s))
          | inr a ↦ (let (x, y, s) = above_odd t d o (covered_tree r (suc d) (2 * o + 1) (omega arith) (rw half_odd q) a.1) in (fork x y, s))
        ]
      ]

  -- at the parent of a covered position there is a fork
  pub covered_fork : (r d o : ℕ) → suc d + r ≡ k → up d o ≡ p → child_covered tgt hash r o ≡ true
      → (x : Tree C) × (y : Tree C) × (subtree t d o ≡ Some (fork x y))
  covered_fork r d o n q e =
      elim (or_split (covers (claim tgt hash r (2 * o))) (covers (claim tgt hash r (2 * o + 1))) e) [
        | inl a ↦ above_even t d o (covered_tree r (suc d) (2 * o) n (rw half_even q) a)
        | inr a ↦ above_odd t d o (covered_tree r (suc d) (2 * o + 1) n (rw half_odd q) a.1)
      ]

  module _ (fresh : (d r o : ℕ) (u : Tree C) → suc d + r ≡ k → up (suc d) o ≡ p → covers (claim tgt hash r o) ≡ false → covers (claim tgt hash r (sib o)) ≡ true
      → subtree t (suc d) o ≡ Some u → hash r o ≡ value image u) where
    matches_coin : (c : C) (i : ℕ) (u : Tree C) → coin i c ≡ u → Matches image (target c) u
    matches_coin c i u e = subst (λ w. Matches image (target c) w) e refl

    side : (d r o : ℕ) (u : Tree C) → suc d + r ≡ k → up (suc d) o ≡ p → (covers (claim tgt hash r o) || covers (claim tgt hash r (sib o))) ≡ true
        → subtree t (suc d) o ≡ Some u → (covers (claim tgt hash r o) ≡ true → Matches image (claim tgt hash r o) u) → Matches image (claim tgt hash r o) u
    side d r o u n q e s ih =
        elim (or_split (covers (claim tgt hash r o)) (covers (claim tgt hash r (sib o))) e) [
          | inl a ↦ ih a
          | inr a ↦ rw (uncovered tgt hash r o a.0) (fresh d r o u n q a.0 a.1 s)
        ]

    -- every target right and every hash fresh: the claim matches
    pub matches_made : (r d o : ℕ) (u : Tree C) → d + r ≡ k → up d o ≡ p
        → covers (claim tgt hash r o) ≡ true → subtree t d o ≡ Some u → Matches image (claim tgt hash r o) u
    matches_made zero d o u n q e s = go (tgt 0 o) refl e
      where
        go : (z : Option C) → tgt 0 o ≡ z → covers (leaf_claim z (hash 0 o)) ≡ true → Matches image (leaf_claim z (hash 0 o)) u
        go None w e = absurd (true_false false e refl)
        go (Some c) w e = let (i, g) = right d 0 o c n q w in matches_coin c i u (cc)
    matches_made (suc r) d o u n q e s =
        elim (cover_kind tgt hash r o e) [
          | inl w ↦ (let (c, z) = w in let (i, g) = right d (suc r) o c n q z in rw z (matches_coin c i u (cc)))
          | inr w ↦ rw (w.0, w.1) (go w.1 (covered_fork r d o (omega arith) q w.1)
              (λ x. matches_made r (suc d) (2 * o) x (omega arith) (rw half_even q)) (λ y. matches_made r (suc d) (2 * o + 1) y (omega arith) (rw half_odd q)))
        ]
      where
        go : child_covered tgt hash r o ≡ true
            → (x : Tree C) × (y : Tree C) × (subtree t d o ≡ Some (fork x y))
            → ((x : Tree C) → covers (claim tgt hash r (2 * o)) ≡ true → subtree t (suc d) (2 * o) ≡ Some x → Matches image (claim tgt hash r (2 * o)) x)
            → ((y : Tree C) → covers (claim tgt hash r (2 * o + 1)) ≡ true
            → subtree t (suc d) (2 * o + 1) ≡ Some y → Matches image (claim tgt hash r (2 * o + 1)) y)
            → Matches image (node (claim tgt hash r (2 * o)) (claim tgt hash r (2 * o + 1))) u
        go c (x, y, g) f h =
            let a : subtree t (suc d) (2 * o) ≡ Some x = rw (mod_even, half_even, g) in
            let b : subtree t (suc d) (2 * o + 1) ≡ Some y = rw (mod_odd, half_odd, g) in
            let z : fork x y ≡ u = cc in
            subst (λ w. Matches image (node (claim tgt hash r (2 * o)) (claim tgt hash r (2 * o + 1))) w) z (
              side d r (2 * o) x (omega arith) (rw half_even q) (rw sib_even c) a (λ e. f x e a),
              side d r (2 * o + 1) y (omega arith) (rw half_odd q)
                  (rw sib_odd (or_flip (covers (claim tgt hash r (2 * o))) (covers (claim tgt hash r (2 * o + 1))) c)) b (λ e. h y e b),
            )
