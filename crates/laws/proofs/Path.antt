-- The path of a slot is the values at the siblings of its position; how a block changes it.
use Rattle.std.proofs.Common.{◌≡◌, ℕ, zero, suc, ◌+◌, ◌-◌, ◌*◌, ◌/◌, ◌%◌, ◌<◌, Bool, true, false, cond, Some, None, Option, refl, ap, ◌∙◌, subst, arith}
use Rattle.laws.proofs.Place.{up, sib}
use Rattle.laws.proofs.Places.{by_half, half_even, half_odd, mod_even, mod_odd, sib_half, sib_mod, with_bit_half, with_bit_mod}
use Rattle.laws.proofs.Tree.{map_o, Preimage, Tree, grow, child, subtree, count_struck, count_kept, with_bit, struck, depth, place}
use Rattle.laws.proofs.Value.{push_o, blank, prune, value, path, sibs}
use Rattle.laws.proofs.Claim.{Assertion, node, covers, claim, after_value, Matches, newer, refresh, rise, shift, Apart}
use Rattle.laws.proofs.Where.{fork_at, child_of, alone, two_runs, run_subtree, rows_split, place_up}
use Rattle.laws.proofs.After.{grow_blank, value_grow, spent_by, clear, after_matches}
use Rattle.laws.proofs.Evidence.{either}

pub child_other : {C : Type 0} (b : ℕ) (u v : Tree C) → b < 2 → child (1 - b) (Some (fork_at b u v)) ≡ Some v
child_other zero u v l = refl
child_other (suc b) u v l = let e : b ≡ 0 = omega arith in rw e

-- the sibling of the first child named
pub other_subtree : {C : Type 0} (t : Tree C) (d q o : ℕ) (u v : Tree C) → subtree t d q ≡ Some (fork_at (o % 2) u v)
    → subtree t (suc d) (sib (2 * q + o % 2)) ≡ Some v
other_subtree t d q o u v e =
    rw (sib_mod, sib_half, with_bit_mod, with_bit_half, e) (child_other (o % 2) u v (omega arith))

module _ {C V : Type 0} (image : Preimage C V → V) (slot : ℕ → Option C) where
  -- the path of a run is the values at the siblings of its position
  pub path_sibs : (f j o k p : ℕ) (t u : Tree C) → grow slot k p ≡ Some t → j + f ≡ k → up f o ≡ p → grow slot j o ≡ Some u
      → path image slot j o f ≡ sibs image t (depth slot j o f) (place slot j o f)
  path_sibs zero j o k p t u root here above e = refl
  path_sibs (suc f) j o k p t u root here above e =
      rw (value_grow image slot j (sib o)) (go (grow slot j (sib o)) refl (λ w. path_sibs f (suc j) (o / 2) k p t w root (omega arith) above))
    where
      go : (x : Option (Tree C)) → grow slot j (sib o) ≡ x
          → ((w : Tree C) → grow slot (suc j) (o / 2) ≡ Some w
          → path image slot (suc j) (o / 2) f ≡ sibs image t (depth slot (suc j) (o / 2) f) (place slot (suc j) (o / 2) f))
          → push_o (map_o (value image) x) (path image slot (suc j) (o / 2) f)
          ≡ sibs image t (count_kept x (depth slot (suc j) (o / 2) f)) (with_bit x (place slot (suc j) (o / 2) f) (o % 2))
      go None n ih = ih u (alone slot j o u e n)
      go (Some v) n ih =
          let w = two_runs slot j o u v e n in
          let s = run_subtree slot f (suc j) (o / 2) k p t (fork_at (o % 2) u v) root (omega arith) above w in
          let y = other_subtree t (depth slot (suc j) (o / 2) f) (place slot (suc j) (o / 2) f) o u v s in
          let z = with_bit_half (place slot (suc j) (o / 2) f) o in
          let i = ih (fork_at (o % 2) u v) w in
          cc

-- the counts and places of the theory, of a mapped option
pub struck_map : {A B : Type 0} (f : A → B) (x : Option A) (n : ℕ) → count_struck (map_o f x) n ≡ count_struck x n
struck_map f None n = refl
struck_map f (Some a) n = refl

pub with_bit_map : {A B : Type 0} (f : A → B) (x : Option A) (q b : ℕ) → with_bit (map_o f x) q b ≡ with_bit x q b
with_bit_map f None q b = refl
with_bit_map f (Some a) q b = refl

pub struck_add : {A : Type 0} (x : Option A) (n a b : ℕ) → n ≡ a + b → count_struck x n ≡ a + count_struck x b
struck_add None n a b e = omega arith
struck_add (Some v) n a b e = e

abbrev pick_side : {A : Type 0} → ℕ → A → A → A
pick_side zero a b = a
pick_side (suc n) a b = b

claim_pick : {C V : Type 0} (tgt : ℕ → ℕ → Option C) (hash : ℕ → ℕ → V) (r o : ℕ)
    → pick_side (o % 2) (claim tgt hash r (2 * (o / 2))) (claim tgt hash r (2 * (o / 2) + 1)) ≡ claim tgt hash r o
claim_pick tgt hash r = by_half _ (λ h. rw (mod_even, half_even)) (λ h. rw (mod_odd, half_odd))

match_child : {C V : Type 0} (image : Preimage C V → V) (n : ℕ) (a b : Assertion C V) (u v : Tree C)
    → Matches image (node a b) (fork_at n u v) → Matches image (pick_side n a b) u
match_child image zero a b u v m = m.0
match_child image (suc n) a b u v m = m.1

module _ {C V : Type 0} (image : Preimage C V → V) (slot : ℕ → Option C) (tgt : ℕ → ℕ → Option C) (hash : ℕ → ℕ → V)
    (k p : ℕ) (t : Tree C) (root : grow slot k p ≡ Some t)
    (apart : Apart tgt hash)
    (match : covers (claim tgt hash k p) ≡ true → Matches image (claim tgt hash k p) t) where
  -- where the root's claim matches, so does that of each covered position
  pub match_at : (d r o : ℕ) (u : Tree C) → d + r ≡ k → up d o ≡ p → subtree t d o ≡ Some u → covers (claim tgt hash r o) ≡ true
      → Matches image (claim tgt hash r o) u
  match_at zero r o u n q s c =
      let e : r ≡ k = omega arith in
      let g : t ≡ u = cc in
      rw (e, q) (subst (λ w. Matches image (claim tgt hash k p) w) g (match (rw (e, q) at c)))
  match_at (suc d) r o u n q s c =
      go (child_of (o % 2) (subtree t d (o / 2)) u s) (λ w z. match_at d (suc r) (o / 2) w (omega arith) q z)
    where
      go : (v : Tree C) × (subtree t d (o / 2) ≡ Some (fork_at (o % 2) u v))
          → ((w : Tree C) → subtree t d (o / 2) ≡ Some w → covers (claim tgt hash (suc r) (o / 2)) ≡ true → Matches image (claim tgt hash (suc r) (o / 2)) w)
          → Matches image (claim tgt hash r o) u
      go (v, z) ih =
          let a = apart r o c in
          let e = either image tgt hash t r o c in
          subst (λ w. Matches image w u) (claim_pick tgt hash r o)
          (match_child image (o % 2) (claim tgt hash r (2 * (o / 2))) (claim tgt hash r (2 * (o / 2) + 1)) u v
          (rw (a, e) at (ih (fork_at (o % 2) u v) z (rw (a, e)))))

  -- the new value at any position of the tree
  pub newer_at : (d r o : ℕ) (u : Tree C) → d + r ≡ k → up d o ≡ p → subtree t d o ≡ Some u
      → newer image (claim tgt hash r o) (value image u) ≡ map_o (value image) (prune (spent_by slot tgt k) u)
  newer_at d r o u n q s = go (covers (claim tgt hash r o)) refl
    where
      go : (b : Bool) → covers (claim tgt hash r o) ≡ b
          → cond b (after_value image (claim tgt hash r o)) (Some (value image u)) ≡ map_o (value image) (prune (spent_by slot tgt k) u)
      go true c = after_matches image slot tgt hash k p t root r d o u n q s (match_at d r o u n q s c)
      go false c = rw (clear image slot tgt hash k p t root r d o u n q s c)

  -- the slots after the targets are spent
  abbrev pub left_side : ℕ → Option C
  left_side = blank (spent_by slot tgt k) slot

  -- the path, and the position, of a run of the forest before
  pub record Refreshed (j o f r : ℕ) : Type 0 where
    pub hashes : path image left_side j o f ≡ refresh image tgt hash r (place slot j o f) (path image slot j o f)
    pub row : struck left_side j o f ≡ struck slot j o f + rise image tgt hash r (place slot j o f) (path image slot j o f)
    pub at : place left_side j o f ≡ shift image tgt hash r (place slot j o f) (path image slot j o f)

  -- after the targets are spent, path, row and place are the refreshed ones
  pub refreshes : (f j o r : ℕ) (u : Tree C) → j + f ≡ k → up f o ≡ p → grow slot j o ≡ Some u → j + struck slot j o f ≡ r → Refreshed j o f r
  refreshes zero j o r u here above e y = record { hashes = refl; row = refl; at = refl }
  refreshes (suc f) j o r u here above e y = go (grow slot j (sib o)) refl (λ w q g z. refreshes f (suc j) (o / 2) q w (omega arith) above g z) y
    where
      go : (x : Option (Tree C)) → grow slot j (sib o) ≡ x
          → ((w : Tree C) (q : ℕ) → grow slot (suc j) (o / 2) ≡ Some w → suc j + struck slot (suc j) (o / 2) f ≡ q → Refreshed (suc j) (o / 2) f q)
          → j + count_struck x (struck slot (suc j) (o / 2) f) ≡ r
          → Refreshed j o (suc f) r
      go None n ih y =
          let i = ih u r (alone slot j o u e n) (omega arith) in
          let a = value_grow image left_side j (sib o) in
          let b = value_grow image slot j (sib o) in
          let c = grow_blank (spent_by slot tgt k) slot j (sib o) in
          let h = i.hashes in
          let l = i.row in
          let m = i.at in
          let q : suc (struck left_side (suc j) (o / 2) f)
          ≡ suc (struck slot (suc j) (o / 2) f) + rise image tgt hash r (place slot (suc j) (o / 2) f) (path image slot (suc j) (o / 2) f) = omega arith in
          record { hashes = cc; row = cc; at = cc }
      go (Some v) n ih y =
          let w = two_runs slot j o u v e n in
          let i = ih (fork_at (o % 2) u v) (suc r) w (omega arith) in
          let s = run_subtree slot f (suc j) (o / 2) k p t (fork_at (o % 2) u v) root (omega arith) above w in
          let os = other_subtree t (depth slot (suc j) (o / 2) f) (place slot (suc j) (o / 2) f) o u v s in
          let z = with_bit_half (place slot (suc j) (o / 2) f) o in
          let x = with_bit_mod (place slot (suc j) (o / 2) f) o in
          let a = value_grow image left_side j (sib o) in
          let b = value_grow image slot j (sib o) in
          let c = grow_blank (spent_by slot tgt k) slot j (sib o) in
          let d = newer_at (suc (depth slot (suc j) (o / 2) f)) r (sib (2 * (place slot (suc j) (o / 2) f) + o % 2)) v
          (omega (arith, rows_split slot f (suc j) (o / 2)))
          (ap (up (depth slot (suc j) (o / 2) f)) (sib_half (2 * place slot (suc j) (o / 2) f + o % 2) ∙ z) ∙ place_up slot f (suc j) (o / 2) ∙ above)
          os in
          let h = i.hashes in
          let l = i.row in
          let m = i.at in
          let g = struck_add (prune (spent_by slot tgt k) v) (struck left_side (suc j) (o / 2) f) (struck slot (suc j) (o / 2) f)
          (rise image tgt hash (suc r) (place slot (suc j) (o / 2) f) (path image slot (suc j) (o / 2) f)) l in
          let g' = struck_map (value image) (prune (spent_by slot tgt k) v)
          (rise image tgt hash (suc r) (place slot (suc j) (o / 2) f) (path image slot (suc j) (o / 2) f)) in
          let g'' = with_bit_map (value image) (prune (spent_by slot tgt k) v)
          (shift image tgt hash (suc r) (place slot (suc j) (o / 2) f) (path image slot (suc j) (o / 2) f)) (o % 2) in
          record { hashes = cc; row = cc; at = cc }
