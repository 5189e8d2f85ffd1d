-- A position is covered if and only if a target lies at it or beneath it.
use Rattle.std.proofs.Common.{◌≡◌, ℕ, zero, suc, ◌+◌, ◌*◌, ◌/◌, true, false, Some, None, Option, sym, refl, ap, ◌∙◌, subst, inl, inr, arith}
use Rattle.laws.proofs.Logic.{or_split, true_false, or_true}
use Rattle.laws.proofs.Place.{up}
use Rattle.laws.proofs.Places.{by_half, half_even, half_odd, up_suc}
use Rattle.laws.proofs.Claim.{covers, leaf_claim, parent_claim, claim, Apart, child_covered}
use Rattle.laws.proofs.Matching.{cover_kind}

module _ {C V : Type 0} (tgt : ℕ → ℕ → Option C) (hash : ℕ → ℕ → V) where
  -- a target covers its own position, and what covers a position covers those above it
  pub cover_here : (r o : ℕ) (c : C) → tgt r o ≡ Some c → covers (claim tgt hash r o) ≡ true
  cover_here zero o c e = rw e
  cover_here (suc r) o c e = rw e

  pub cover_up : (r o : ℕ) → covers (claim tgt hash r o) ≡ true → covers (claim tgt hash (suc r) (o / 2)) ≡ true
  cover_up r = by_half _
      (λ h e. rw half_even (go h (tgt (suc r) h) (rw e)))
      (λ h e. rw half_odd (go h (tgt (suc r) h) (rw e (or_true (covers (claim tgt hash r (2 * h)))))))
    where
      go : (h : ℕ) (z : Option C) → child_covered tgt hash r h ≡ true
          → covers (parent_claim z (claim tgt hash r (2 * h)) (claim tgt hash r (2 * h + 1)) (hash (suc r) h)) ≡ true
      go h None e = rw e
      go h (Some c) e = refl

  pub cover_above : (d r k o : ℕ) → d + r ≡ k → covers (claim tgt hash r o) ≡ true → covers (claim tgt hash k (up d o)) ≡ true
  cover_above zero r k o n e = let w : r ≡ k = omega arith in rw (← w) e
  cover_above (suc d) r k o n e = cover_above d (suc r) k (o / 2) (omega arith) (cover_up r o e)

  pub cover_made : (e r r' o : ℕ) (c : C) → tgt r o ≡ Some c → r + e ≡ r' → covers (claim tgt hash r' (up e o)) ≡ true
  cover_made zero r r' o c s q = let w : r ≡ r' = omega arith in rw (← w) (cover_here r o c s)
  cover_made (suc e) r zero o c s q = absurd (omega arith)
  cover_made (suc e) r (suc r') o c s q =
      subst (λ x. covers (claim tgt hash (suc r') x) ≡ true) (sym (up_suc e o)) (cover_up r' (up e o) (cover_made e r r' o c s (omega arith)))

  -- a target at the position (r, o) or beneath it
  pub record Under (r o : ℕ) : Type 0 where
    pub row : ℕ
    pub at : ℕ
    pub coin : C
    pub is : tgt row at ≡ Some coin
    pub rows : ℕ
    pub sum : row + rows ≡ r
    pub above : up rows at ≡ o

  -- what is covered has a target at it or beneath it
  pub cover_found : (r o : ℕ) → covers (claim tgt hash r o) ≡ true → Under r o
  cover_found zero o e = go (tgt 0 o) refl e
    where
      go : (z : Option C) → tgt 0 o ≡ z → covers (leaf_claim z (hash 0 o)) ≡ true → Under 0 o
      go None q e = absurd (true_false false e refl)
      go (Some c) q e = record { row = 0; at = o; coin = c; is = q; rows = 0; sum = refl; above = refl }
  cover_found (suc r) o e =
      elim (cover_kind tgt hash r o e) [
        | inl w ↦ record { row = suc r; at = o; coin = w.0; is = w.1; rows = 0; sum = omega arith; above = refl }
        | inr w ↦ elim (or_split (covers (claim tgt hash r (2 * o))) (covers (claim tgt hash r (2 * o + 1))) w.1) [
          | inl a ↦ higher (2 * o) (half_even o) (cover_found r (2 * o) a)
          | inr a ↦ higher (2 * o + 1) (half_odd o) (cover_found r (2 * o + 1) a.1)
        ]
      ]
    where
      higher : (h : ℕ) → h / 2 ≡ o → Under r h → Under (suc r) o
      higher h q u =
          record {
            row = u.row;
            at = u.at;
            coin = u.coin;
            is = u.is;
            rows = suc u.rows;
            sum = omega arith;
            above = up_suc u.rows u.at ∙ ap (λ x. x / 2) u.above ∙ q;
          }

  -- where no target lies above another, no covered position lies below a target
  pub apart_of : ((r o r' e o' : ℕ) (c c' : C) → tgt r o ≡ Some c → tgt r' o' ≡ Some c' → r' + suc e ≡ r → up (suc e) o' ≡ o → ⊥)
      → Apart tgt hash
  apart_of none r o e = go (tgt (suc r) (o / 2)) refl (cover_found r o e)
    where
      go : (z : Option C) → tgt (suc r) (o / 2) ≡ z → Under r o → z ≡ None
      go None q u = refl
      go (Some c) q u =
          absurd (none (suc r) (o / 2) u.row u.rows u.at c u.coin q u.is (omega arith) (up_suc u.rows u.at ∙ ap (λ x. x / 2) u.above))
