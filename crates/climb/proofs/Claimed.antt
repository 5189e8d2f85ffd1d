-- Claims by row: at a target, above covered places, and where nothing is covered. Assumes nothing.
use Rattle.std.proofs.Common.{◌≡◌, ℕ, zero, suc, ◌+◌, ◌*◌, ◌/◌, ◌%◌, Bool, true, false, cond, eqb, List, [], ◌∷◌, Some, None, Option, sym, refl, ap, ◌∙◌, subst, inl, inr, arith}
use Rattle.std.proofs.lemmas.Bool.{and_parts, and_from, eqb-true, eq-eqb, ne_eqb, both_ways}
use Rattle.utreexo.specs.declared.types.Value.{Value}
use Rattle.laws.proofs.Order.{Mem}
use Rattle.utreexo.specs.Values.{Image}
use Rattle.utreexo.specs.Forest.{Node, at_node}
use Rattle.utreexo.specs.Claims.{Target, same_node, covered, target_at, Proof, Claim, spent, given, both, claim_at}
use Rattle.targets.proofs.Valid.{Later, Sorted}
use Rattle.climb.specs.Rows.{spent_item, twin, hashed, lone}
use Rattle.climb.specs.Entries.{item_of}
use Rattle.laws.proofs.Logic.{true_false}
use Rattle.laws.proofs.Members.{first_some, first_none}
use Rattle.climb.proofs.Covers.{Under, under_covered, under_at}

same_is : (d : Node) (r o : ℕ) → same_node d (at_node r o) ≡ true → (d.row ≡ r) × (d.place ≡ o)
same_is d r o e = let (a, b) = and_parts (eqb d.row r) (eqb d.place o) e in (eqb-true d.row r a, eqb-true d.place o b)

is_same : (d : Node) (r o : ℕ) → d.row ≡ r → d.place ≡ o → same_node d (at_node r o) ≡ true
is_same d r o a b = and_from (eqb d.row r) (eqb d.place o) (eq-eqb d.row r a) (eq-eqb d.place o b)

later_not : (t u : Target) → Later t u → t.node.row ≡ u.node.row → t.node.place ≡ u.node.place → ⊥
later_not t u (inl h) a b = omega arith
later_not t u (inr h) a b = let c = h.1 in omega arith

-- one target at most to a place
pub one_target : (ts : List Target) → Sorted ts → (t u : Target) → Mem t ts → Mem u ts → t.node.row ≡ u.node.row → t.node.place ≡ u.node.place → t ≡ u
one_target [] s t u m k a b = absurd m
one_target (x ∷ xs) s t u (inl e) (inl f) a b = e ∙ sym f
one_target (x ∷ xs) s t u (inl e) (inr k) a b =
    absurd (later_not x u (s.0 u k) (ap (λ (z : Target). z.node.row) (sym e) ∙ a) (ap (λ (z : Target). z.node.place) (sym e) ∙ b))
one_target (x ∷ xs) s t u (inr m) (inl f) a b =
    absurd (later_not x t (s.0 t m) (ap (λ (z : Target). z.node.row) (sym f) ∙ sym a) (ap (λ (z : Target). z.node.place) (sym f) ∙ sym b))
one_target (x ∷ xs) s t u (inr m) (inr k) a b = one_target xs s.1 t u m k a b

module _ (ts : List Target) where
  pub target_some : (r o : ℕ) (t : Target) → target_at ts (at_node r o) ≡ Some t → Mem t ts × (t.node.row ≡ r) × (t.node.place ≡ o)
  target_some r o t e = let (m, s) = first_some (λ (u : Target). same_node u.node (at_node r o)) ts t e in let (a, b) = same_is t.node r o s in (m, a, b)

  pub at_target : Sorted ts → (t : Target) → Mem t ts → target_at ts (at_node t.node.row t.node.place) ≡ Some t
  at_target s t m = go (target_at ts (at_node t.node.row t.node.place)) refl
    where
      fin : (u : Target) → Mem u ts × (u.node.row ≡ t.node.row) × (u.node.place ≡ t.node.place) → u ≡ t
      fin u (k, a, b) = one_target ts s u t k m a b

      go : (x : Option Target) → target_at ts (at_node t.node.row t.node.place) ≡ x → x ≡ Some t
      go None e = absurd (true_false (same_node t.node (at_node t.node.row t.node.place)) (is_same t.node t.node.row t.node.place refl refl) (first_none (λ (u : Target). same_node u.node (at_node t.node.row t.node.place)) ts t e m))
      go (Some u) e = ap Some (fin u (target_some t.node.row t.node.place u e))

  pub no_target : (r o : ℕ) → ((t : Target) → Mem t ts → t.node.row ≡ r → t.node.place ≡ o → ⊥) → target_at ts (at_node r o) ≡ None
  no_target r o g = go (target_at ts (at_node r o)) refl
    where
      go : (x : Option Target) → target_at ts (at_node r o) ≡ x → x ≡ None
      go None e = refl
      go (Some t) e = let (m, a, b) = target_some r o t e in absurd (g t m a b)

module _ (p : Proof) where
  abbrev inner : ℕ → ℕ → Bool → Claim
  inner r o c = elim c [ false ↦ given (p.hash (suc r) o) | true ↦ both (claim_at p r (2 * o)) (claim_at p r (2 * o + 1)) ]

  abbrev outer₀ : ℕ → Option Target → Claim
  outer₀ o x = elim x [ None ↦ given (p.hash 0 o) | Some t ↦ spent t.coin ]

  abbrev outer : ℕ → ℕ → Option Target → Claim
  outer r o x = elim x [ None ↦ inner r o (covered p.targets (at_node (suc r) o)) | Some t ↦ spent t.coin ]

  pub claim_spent : (r o : ℕ) (t : Target) → target_at p.targets (at_node r o) ≡ Some t → claim_at p r o ≡ spent t.coin
  claim_spent zero o t e = ap (outer₀ o) e
  claim_spent (suc r) o t e = ap (outer r o) e

  pub claim_given : (r o : ℕ) → target_at p.targets (at_node r o) ≡ None → covered p.targets (at_node r o) ≡ false → claim_at p r o ≡ given (p.hash r o)
  claim_given zero o e f = ap (outer₀ o) e
  claim_given (suc r) o e f = ap (outer r o) e ∙ ap (inner r o) f

  pub claim_both : (r o : ℕ) → target_at p.targets (at_node (suc r) o) ≡ None → covered p.targets (at_node (suc r) o) ≡ true → claim_at p (suc r) o ≡ both (claim_at p r (2 * o)) (claim_at p r (2 * o + 1))
  claim_both r o e f = ap (outer r o) e ∙ ap (inner r o) f

-- nothing covered: no target either
pub clear_target : (ts : List Target) (r o : ℕ) → covered ts (at_node r o) ≡ false → target_at ts (at_node r o) ≡ None
clear_target ts r o e =
    no_target ts r o (λ t m a b. both_ways (covered ts (at_node r o)) e (under_covered ts r o (subst (λ x. Under ts x o) a (subst (λ x. Under ts t.node.row x) b (under_at ts t m)))))

module _ (image : Image) (p : Proof) where
  pub item_spent : (t : Target) (c : Claim) (o : ℕ) → o ≡ t.node.place → c ≡ spent t.coin → item_of image p c o ≡ spent_item image t
  item_spent t c o e f = ap (λ (x : ℕ). item_of image p c x) e ∙ ap (λ (x : Claim). item_of image p x t.node.place) f

  -- the item above two, by their claims
  pub item_both : (c a b : Claim) (x h : ℕ) → c ≡ both a b → x / 2 ≡ h → item_of image p c h ≡ twin image (item_of image p a x) (item_of image p b (x + 1))
  item_both c a b x h e f = ap (λ (k : Claim). item_of image p k h) e ∙ ap (λ (k : ℕ). item_of image p (both a b) k) (sym f)

  pub item_left : (c a b : Claim) (x : ℕ) (g : Value) → x % 2 ≡ 0 → c ≡ both a b → b ≡ given g → item_of image p c (x / 2) ≡ lone image (item_of image p a x) g
  item_left c a b x g m e f =
      let t = eq-eqb (x % 2) 0 m in
      ap (λ (k : Claim). item_of image p k (x / 2)) (e ∙ ap (λ (k : Claim). both a k) f) ∙ sym (ap (λ (k : Bool). cond k (twin image (item_of image p a x) (hashed image x g)) (twin image (hashed image x g) (item_of image p a x))) t)

  pub item_right : (c a b : Claim) (x : ℕ) (g : Value) → (x % 2 ≡ 0 → ⊥) → c ≡ both a b → a ≡ given g → item_of image p c (x / 2) ≡ lone image (item_of image p b x) g
  item_right c a b x g m e f =
      let t = ne_eqb (x % 2) 0 m in
      ap (λ (k : Claim). item_of image p k (x / 2)) (e ∙ ap (λ (k : Claim). both k b) f) ∙ sym (ap (λ (k : Bool). cond k (twin image (item_of image p b x) (hashed image x g)) (twin image (hashed image x g) (item_of image p b x))) t)
