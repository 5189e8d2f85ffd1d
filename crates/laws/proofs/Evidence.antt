-- Where a proof fits but does not match, the highest difference shows two inputs with one image.
use Rattle.std.proofs.Common.{◌≡◌, ℕ, zero, suc, ◌+◌, ◌*◌, ◌/◌, ◌<◌, Bool, true, false, cond, ◌||◌, Some, None, Option, sym, refl, ap, ◌∙◌, arith}
use Rattle.laws.proofs.Logic.{never, or_true}
use Rattle.laws.proofs.Place.{up}
use Rattle.laws.proofs.Places.{by_half, half_even, half_odd, mod_even, mod_odd}
use Rattle.laws.proofs.Tree.{map_o, Preimage, of_two, Tree, coin, fork, subtree}
use Rattle.laws.proofs.Value.{value, input_of}
use Rattle.laws.proofs.Claim.{Assertion, target, by_hash, node, covers, leaf_claim, parent_claim, claim, asserted, asserted_input, Matches, Apart}
use Rattle.laws.proofs.Claim.{child_covered}

module _ {C V : Type 0} (image : Preimage C V → V) where
  -- the value of a tree is the image of its input
  pub value_input : (u : Tree C) → value image u ≡ image (input_of image u)
  value_input (coin i c) = refl
  value_input (fork x y) = refl

  -- the value claimed is the image of the input claimed
  pub asserted_image : (a : Assertion C V) (i : Preimage C V) → asserted_input image a ≡ Some i → asserted image a ≡ image i
  asserted_image (target c) i e = cc
  asserted_image (by_hash v) i e = absurd (never i e)
  asserted_image (node a b) i e = cc

  -- a tree whose input is a pair is a fork, and the pair is the values of its two parts
  pub forked : (z : Option (Tree C)) (v w : V) → map_o (input_of image) z ≡ Some (of_two v w)
      → (x : Tree C) × (y : Tree C) × (z ≡ Some (fork x y)) × (value image x ≡ v) × (value image y ≡ w)
  forked None v w e = absurd (never (of_two v w) e)
  forked (Some (coin i c)) v w e = let z : ◌≡◌ {A = ℕ} 0 1 = cc in absurd (omega arith)
  forked (Some (fork x y)) v w e = (x, y, refl, cc, cc)

  -- the input agrees wherever the position is covered
  abbrev pub Same : Assertion C V → Tree C → Type 0
  Same a u = covers a ≡ true → Some (input_of image u) ≡ asserted_input image a

  -- a position that agrees matches: a target, and one in row 0
  pub match_target : (c : C) (u : Tree C) → Same (target c) u → Matches image (target c) u
  match_target c (coin i x) s = let e = s refl in cc
  match_target c (fork x y) s = let e = s refl in let z : ◌≡◌ {A = ℕ} 0 1 = cc in omega arith

  pub match_leaf : (z : Option C) (h : V) (u : Tree C) → value image u ≡ asserted image (leaf_claim z h)
      → Same (leaf_claim z h) u → Matches image (leaf_claim z h) u
  match_leaf None h u v s = sym v
  match_leaf (Some c) h u v s = match_target c u s

  -- a position matches if its children do
  pub match_parent : (z : Option C) (a b : Assertion C V) (h : V) (u : Tree C)
      → value image u ≡ asserted image (parent_claim z a b h) → Same (parent_claim z a b h) u
      → ((x y : Tree C) → u ≡ fork x y → value image x ≡ asserted image a → value image y ≡ asserted image b → Matches image a x × Matches image b y)
      → Matches image (parent_claim z a b h) u
  match_parent (Some c) a b h u v s f = match_target c u s
  match_parent None a b h u v s f = go (covers a || covers b) u v s f
    where
      go : (q : Bool) (u : Tree C) → value image u ≡ asserted image (cond q (node a b) (by_hash h)) → Same (cond q (node a b) (by_hash h)) u
          → ((x y : Tree C) → u ≡ fork x y → value image x ≡ asserted image a → value image y ≡ asserted image b → Matches image a x × Matches image b y)
          → Matches image (cond q (node a b) (by_hash h)) u
      go false u v s f = sym v
      go true (coin i c) v s f = let e = s refl in let z : ◌≡◌ {A = ℕ} 0 1 = cc in omega arith
      go true (fork x y) v s f = let e = s refl in f x y refl (cc) (cc)

module _ {C V : Type 0} (image : Preimage C V → V) (tgt : ℕ → ℕ → Option C) (hash : ℕ → ℕ → V) (t : Tree C) where
  -- the forest's own input at the place o, d rows below the top
  abbrev pub own_at : ℕ → ℕ → Option (Preimage C V)
  own_at d o = map_o (input_of image) (subtree t d o)

  -- the claimed input at row r and place o
  abbrev pub asserted_at : ℕ → ℕ → Option (Preimage C V)
  asserted_at r o = asserted_input image (claim tgt hash r o)

  -- the forest's own value there is the one claimed
  pub record Holds (r d o : ℕ) : Type 0 where
    pub tree : Tree C
    pub found : subtree t d o ≡ Some tree
    pub same : value image tree ≡ asserted image (claim tgt hash r o)

  -- the root
  pub holds_root : (k p : ℕ) → asserted image (claim tgt hash k p) ≡ value image t → Holds k 0 p
  holds_root k p fits = record { tree = t; found = refl; same = sym fits }

  -- a child of a position that is covered, is no target, and agrees
  pub holds_child : (r d o : ℕ) → tgt (suc r) (o / 2) ≡ None
      → child_covered tgt hash r (o / 2) ≡ true
      → own_at d (o / 2) ≡ asserted_at (suc r) (o / 2) → Holds r (suc d) o
  holds_child r d = by_half _
      (λ h n q e. (go h (rw half_even at n) (rw half_even at q) (rw half_even at e)).0)
      (λ h n q e. (go h (rw half_odd at n) (rw half_odd at q) (rw half_odd at e)).1)
    where
      two : (h : ℕ) → (x : Tree C) × (y : Tree C) × (subtree t d h ≡ Some (fork x y))
          × (value image x ≡ asserted image (claim tgt hash r (2 * h))) × (value image y ≡ asserted image (claim tgt hash r (2 * h + 1)))
          → Holds r (suc d) (2 * h) × Holds r (suc d) (2 * h + 1)
      two h (x, y, s, vx, vy) =
          (record { tree = x; found = rw (mod_even, half_even, s); same = vx }, record { tree = y; found = rw (mod_odd, half_odd, s); same = vy })

      go : (h : ℕ) → tgt (suc r) h ≡ None
          → child_covered tgt hash r h ≡ true
          → own_at d h ≡ asserted_at (suc r) h → Holds r (suc d) (2 * h) × Holds r (suc d) (2 * h + 1)
      go h n q e =
          two h (forked image (subtree t d h) (asserted image (claim tgt hash r (2 * h))) (asserted image (claim tgt hash r (2 * h + 1))) (rw (n, q) at e))

  -- one of two siblings is covered
  pub either : (r o : ℕ) → covers (claim tgt hash r o) ≡ true
      → child_covered tgt hash r (o / 2) ≡ true
  either r = by_half _ (λ h e. rw (half_even, e)) (λ h e. rw (half_odd, e) (or_true (covers (claim tgt hash r (2 * h)))))

  -- a covered position, where every covered position of a higher row agrees
  pub first_holds : (k p : ℕ) → Apart tgt hash → asserted image (claim tgt hash k p) ≡ value image t
      → (d r o : ℕ) → d + r ≡ k → up d o ≡ p → covers (claim tgt hash r o) ≡ true
      → ((d' r' o' : ℕ) → d' + r' ≡ k → up d' o' ≡ p → r < r' → covers (claim tgt hash r' o') ≡ true → own_at d' o' ≡ asserted_at r' o')
      → Holds r d o
  first_holds k p apart fits zero r o n q c above =
      let e : r ≡ k = omega arith in holds_root r o (rw (e, q) fits)
  first_holds k p apart fits (suc d) r o n q c above =
      holds_child r d o (apart r o c) (either r o c)
      (above d (suc r) (o / 2) (omega arith) q (omega arith) (rw (apart r o c, either r o c)))

  -- there the forest has an input of its own, with the image of the one claimed
  pub evidence : (r d o : ℕ) (i : Preimage C V) → Holds r d o → asserted_at r o ≡ Some i → (j : Preimage C V) × (own_at d o ≡ Some j) × (image j ≡ image i)
  evidence r d o i H e =
      let s = H.found in let v = H.same in
      (input_of image H.tree, ap (map_o (input_of image)) s, sym (value_input image H.tree) ∙ v ∙ asserted_image image (claim tgt hash r o) i e)

  module _ (k p : ℕ) (agree : (r d o : ℕ) → d + r ≡ k → up d o ≡ p → covers (claim tgt hash r o) ≡ true → own_at d o ≡ asserted_at r o) where
    -- a position of which no covered one beneath differs matches
    pub matches : (r d o : ℕ) (u : Tree C) → d + r ≡ k → up d o ≡ p → subtree t d o ≡ Some u → value image u ≡ asserted image (claim tgt hash r o)
        → Matches image (claim tgt hash r o) u
    matches zero d o u n q s v =
        match_leaf image (tgt 0 o) (hash 0 o) u v (λ c. rw s at (agree 0 d o n q c))
    matches (suc r) d o u n q s v =
        match_parent image (tgt (suc r) o) (claim tgt hash r (2 * o)) (claim tgt hash r (2 * o + 1)) (hash (suc r) o) u v
        (λ c. rw s at (agree (suc r) d o n q c))
        (λ x y e vx vy. (
          matches r (suc d) (2 * o) x (omega arith) (rw half_even q) (rw (mod_even, half_even, s, e)) vx,
          matches r (suc d) (2 * o + 1) y (omega arith) (rw half_odd q) (rw (mod_odd, half_odd, s, e)) vy,
        ))

    -- no covered position differs: every target is right and every hash fresh
    pub all_match : asserted image (claim tgt hash k p) ≡ value image t → Matches image (claim tgt hash k p) t
    all_match fits = matches k 0 p t (omega arith) refl refl (sym fits)
