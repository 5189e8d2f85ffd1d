-- The whole forest: a proof that fits and nowhere differs gives the new roots and the new paths.
use Rattle.std.proofs.Common.{◌≡◌, ℕ, ◌+◌, ◌<◌, true, Some, None, Option, sym, refl, ap, ◌∙◌, subst, arith}
use Rattle.laws.proofs.Logic.{never}
use Rattle.laws.proofs.Place.{up}
use Rattle.laws.proofs.Tree.{map_o, Preimage, Tree, coin, grow, struck, place, subtree_o}
use Rattle.laws.proofs.Value.{blank, value, input_of, value_under, path}
use Rattle.laws.proofs.Claim.{covers, claim, asserted, asserted_input, refresh, rise, shift, Apart}
use Rattle.laws.proofs.Forest.{Top}
use Rattle.laws.proofs.Where.{above_some}
use Rattle.laws.proofs.After.{value_grow, spent_by}
use Rattle.laws.proofs.Append.{stays}
use Rattle.laws.proofs.Evidence.{first_holds, evidence, all_match}
use Rattle.laws.proofs.Covers.{cover_above}
use Rattle.laws.proofs.Path.{refreshes}
use Rattle.laws.proofs.Tops.{remains, remains_inside, RootMatches}

module _ {C V : Type 0} (image : Preimage C V → V) (slot : ℕ → Option C) (n : ℕ) (tgt : ℕ → ℕ → Option C) (hash : ℕ → ℕ → V) where
  -- the forest's own input at place o, d rows below the top of the tree (k, p)
  abbrev pub own_input_in : ℕ → ℕ → ℕ → ℕ → Option (Preimage C V)
  own_input_in k p d o = map_o (input_of image) (subtree_o (grow slot k p) d o)

  -- the claimed image at each covered root is the root
  abbrev pub Fits : Type 0
  Fits = (k p : ℕ) → Top n k p → covers (claim tgt hash k p) ≡ true → value_under image slot k p ≡ Some (asserted image (claim tgt hash k p))

  -- a position of the forest
  pub record In (k p d r o : ℕ) : Type 0 where
    pub top : Top n k p
    pub rows : d + r ≡ k
    pub above : up d o ≡ p

  abbrev pub Agrees : ℕ → ℕ → ℕ → ℕ → ℕ → Type 0
  Agrees k p d r o = own_input_in k p d o ≡ asserted_input image (claim tgt hash r o)

  rooted : (k p : ℕ) (v : V) → value_under image slot k p ≡ Some v → (t : Tree C) × (grow slot k p ≡ Some t) × (value image t ≡ v)
  rooted k p v e = go (grow slot k p) refl (sym (value_grow image slot k p) ∙ e)
    where
      go : (x : Option (Tree C)) → grow slot k p ≡ x → map_o (value image) x ≡ Some v → (t : Tree C) × (grow slot k p ≡ Some t) × (value image t ≡ v)
      go None q w = absurd (never v w)
      go (Some t) q w = (t, q, cc)

  -- nowhere a difference
  pub roots_match : Fits → ((k p d r o : ℕ) → In k p d r o → covers (claim tgt hash r o) ≡ true → Agrees k p d r o)
      → (k p : ℕ) → Top n k p → RootMatches image slot n tgt hash k p
  roots_match fits agree k p top t root c =
      let e = fits k p top c in
      let g = value_grow image slot k p in
      let w : asserted image (claim tgt hash k p) ≡ value image t = cc in
      all_match image tgt hash t k p (λ r d o e q w. rw root at (agree k p d r o (record { top = top; rows = e; above = q }) w)) w

  -- The highest difference: the forest has an input of its own there, and the two inputs have one image.
  pub difference : Fits → Apart tgt hash
      → (k p d r o : ℕ) (i : Preimage C V) → In k p d r o → covers (claim tgt hash r o) ≡ true → asserted_input image (claim tgt hash r o) ≡ Some i
      → ((d' r' o' : ℕ) → In k p d' r' o' → r < r' → covers (claim tgt hash r' o') ≡ true → Agrees k p d' r' o')
      → (j : Preimage C V) × (own_input_in k p d o ≡ Some j) × (image j ≡ image i)
  difference fits apart k p d r o i a c e above =
      go (rooted k p (asserted image (claim tgt hash k p)) (fits k p a.top
      (subst (λ x. covers (claim tgt hash k x) ≡ true) a.above (cover_above tgt hash d r k o a.rows c))))
    where
      go : (t : Tree C) × (grow slot k p ≡ Some t) × (value image t ≡ asserted image (claim tgt hash k p))
          → (j : Preimage C V) × (own_input_in k p d o ≡ Some j) × (image j ≡ image i)
      go (t, root, w) =
          rw root (evidence image tgt hash t r d o i
          (first_holds image tgt hash t k p apart (sym w) d r o a.rows a.above c
          (λ d' r' o' x y l z. rw root at (above d' r' o' (record { top = a.top; rows = x; above = y }) l z))) e)

  module _ (good : (k p : ℕ) → Top n k p → RootMatches image slot n tgt hash k p)
      (apart : Apart tgt hash) where
    -- what a live slot's path and position become
    pub record Watched (k i r : ℕ) : Type 0 where
      pub hashes : path image (remains image slot n tgt hash) 0 i k ≡ refresh image tgt hash r (place slot 0 i k) (path image slot 0 i k)
      pub row : struck (remains image slot n tgt hash) 0 i k ≡ r + rise image tgt hash r (place slot 0 i k) (path image slot 0 i k)
      pub at : place (remains image slot n tgt hash) 0 i k ≡ shift image tgt hash r (place slot 0 i k) (path image slot 0 i k)

    -- its path, row and place after the block are the refreshed ones
    pub watched : (k p i r : ℕ) (c : C) → Top n k p → up k i ≡ p → slot i ≡ Some c → struck slot 0 i k ≡ r → Watched k i r
    watched k p i r c top q live e = go (above_some slot k 0 i k p (coin i c) (omega arith) q (rw live))
      where
        go : (t : Tree C) × (grow slot k p ≡ Some t) → Watched k i r
        go (t, root) =
            let a = refreshes image slot tgt hash k p t root apart (good k p top t root) k 0 i r (coin i c) (omega arith) q (rw live) (omega arith) in
            let b = stays image (remains image slot n tgt hash) (blank (spent_by slot tgt k) slot) k p
            (λ i q. remains_inside image slot n tgt hash k p i top q) k 0 i (omega arith) q in
            record {
              hashes = b.hashes ∙ a.hashes;
              row = b.row ∙ a.row ∙ ap (λ x. x + rise image tgt hash r (place slot 0 i k) (path image slot 0 i k)) e;
              at = b.at ∙ a.at;
            }
