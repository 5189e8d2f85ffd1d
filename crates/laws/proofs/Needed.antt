-- The positions that a proof needs, the hashes given for them, and the values there.
use Rattle.std.proofs.Common.{◌≡◌, ℕ, suc, ◌+◌, ◌-◌, ◌/◌, ◌^◌, ◌<◌, true, false, not, ◌&&◌, List, [], ◌∷◌, map, length, is_some, Some, None, Option, sym, refl, ap, ◌∙◌, ap₂, inl, inr, add-one, arith}
use Rattle.std.proofs.lemmas.Bool.{eq-eqb, ne_eqb, and_parts, not-true}
use Rattle.utreexo.specs.declared.types.Coin.{Coin}
use Rattle.utreexo.specs.declared.types.Value.{Value}
use Rattle.utreexo.specs.Lists.{below}
use Rattle.utreexo.specs.Values.{Image}
use Rattle.utreexo.specs.Forest.{Slots, Node, at_node, rows, position, locate, tree_of, sibling}
use Rattle.utreexo.specs.Claims.{Target, covered, is_needed, needed_at, needed, no_value, pick}
use Rattle.utreexo.specs.Collection.{image_of, own_input, value_at, fresh_value}
use Rattle.laws.proofs.Logic.{true_false, eqb_cases, EqbCases}
use Rattle.laws.proofs.Order.{Mem, From}
use Rattle.laws.proofs.Members.{filter_mem, mem_filter}
use Rattle.laws.proofs.Ordered.{from_mem, filter_from}
use Rattle.laws.proofs.Ranges.{below_mem, below_from}
use Rattle.laws.proofs.Place.{up, sib}
use Rattle.laws.proofs.Tree.{map_o, Tree, grow, subtree}
use Rattle.laws.proofs.Value.{value, input_of}
use Rattle.laws.proofs.Claim.{covers, claim}
use Rattle.laws.proofs.Forest.{slot_of, Top}
use Rattle.laws.proofs.Evidence.{value_input}
use Rattle.laws.proofs.Tops.{Over}
use Rattle.laws.proofs.Strikes.{inp, img, sibling_sib}
use Rattle.laws.proofs.Positions.{locate_at, locate_is, position_low, over_tree, tree_over}
use Rattle.laws.proofs.Claiming.{tgt, cover_same}
use Rattle.laws.proofs.Live.{top_over}
use Rattle.laws.proofs.Own.{own_same}

-- a proof's hashes by position
pub pick_map : (f : ℕ → Value) (qs : List ℕ) (q : ℕ) → Mem q qs → pick qs (map f qs) q ≡ f q
pick_map f [] q m = absurd m
pick_map f (x ∷ qs) q m = go (eqb_cases q x) m (pick_map f qs q)
  where
    go : EqbCases q x → Mem q (x ∷ qs) → (Mem q qs → pick qs (map f qs) q ≡ f q) → pick (x ∷ qs) (map f (x ∷ qs)) q ≡ f q
    go (inl e) m ih = rw e.0 (ap f (sym e.1))
    go (inr e) (inl m) ih = absurd (e.1 m)
    go (inr e) (inr m) ih = rw e.0 (ih m)

-- hashes that are right at each position are the whole list
pub map_pick : (f : ℕ → Value) (a : ℕ) (qs : List ℕ) (hs : List Value) → From a qs → length hs ≡ length qs
    → ((q : ℕ) → Mem q qs → pick qs hs q ≡ f q) → hs ≡ map f qs
map_pick f a [] [] fr l g = refl
map_pick f a [] (h ∷ hs) fr l g = absurd (omega arith)
map_pick f a (q ∷ qs) [] fr l g = absurd (omega arith)
map_pick f a (q ∷ qs) (h ∷ hs) fr l g =
    ap₂ (λ x y. x ∷ y) (rw (eq-eqb q q refl) at (g q (inl refl)))
    (map_pick f (suc q) qs hs fr.1 (omega arith)
    (λ z m. let n : ¬ (z ≡ q) = omega (arith, from_mem (suc q) qs z fr.1 m) in rw (ne_eqb z q n) at (g z (inr m))))

-- the needed positions ascend
pub needed_from : (n : ℕ) (ts : List Target) → From 0 (needed n ts)
needed_from n ts = filter_from (needed_at n ts) 0 (below (2 ^ (rows n + 1) - 1)) (below_from (2 ^ (rows n + 1) - 1))

-- the hash that a proof gives for a place
abbrev pub hash_of : ℕ → List Target → List Value → ℕ → ℕ → Value
hash_of n ts hs r o = pick (needed n ts) hs (position n r o)

module _ (image : Image) (s : Slots) (small : length s < 2 ^ 32) (ts : List Target) (hs : List Value) where
  abbrev hash : ℕ → ℕ → Value
  hash = hash_of (length s) ts hs

  -- a position below a root is needed if it is not covered and its sibling is
  pub needed_mem : (k p d r o : ℕ) → Top (length s) k p → suc d + r ≡ k → up (suc d) o ≡ p → covers (claim (tgt ts) hash r o) ≡ false
      → covers (claim (tgt ts) hash r (sib o)) ≡ true → Mem (position (length s) r o) (needed (length s) ts)
  needed_mem k p d r o t e q c c' =
      let v = top_over (length s) k p (suc d) r o t e q in
      let l = locate_at (length s) small r o k v in
      let w = over_tree (length s) (r + 1) (o / 2) k small (top_over (length s) k p d (r + 1) (o / 2) t (omega arith) q) in
      let x : is_some (tree_of (length s) (at_node (r + 1) (o / 2))) ≡ true = ap is_some w in
      let y : covered ts (at_node r o) ≡ false = cover_same ts hash r o ∙ c in
      let z : covered ts (at_node r (sibling o)) ≡ true = ap (λ h. covered ts (at_node r h)) (sibling_sib o) ∙ cover_same ts hash r (sib o) ∙ c' in
      let u : is_needed (length s) ts (at_node r o) ≡ true = rw (x, y, z) in
      let a : needed_at (length s) ts (position (length s) r o) ≡ is_needed (length s) ts (at_node r o) =
      ap (λ z. elim z [ None ↦ false | Some e ↦ is_needed (length s) ts e ]) l in
      mem_filter (needed_at (length s) ts) (below (2 ^ (rows (length s) + 1) - 1)) (position (length s) r o)
      (below_mem (2 ^ (rows (length s) + 1) - 1) (position (length s) r o) (position_low (length s) small r o k v))
      (a ∙ u)

  -- what is known of a needed position
  pub record Needed (q : ℕ) : Type 0 where
    pub row : ℕ
    pub place : ℕ
    pub is : locate (length s) q ≡ Some (at_node row place)
    pub number : position (length s) row place ≡ q
    pub tree : ℕ
    pub above : Over (length s) (suc row) (place / 2) tree
    pub bare : covers (claim (tgt ts) hash row place) ≡ false
    pub beside : covers (claim (tgt ts) hash row (sib place)) ≡ true

  -- each number in the list is that of a needed position
  pub needed_is : (q : ℕ) → Mem q (needed (length s) ts) → Needed q
  needed_is q m = go (locate (length s) q) refl (filter_mem (needed_at (length s) ts) (below (2 ^ (rows (length s) + 1) - 1)) q m).1
    where
      fin : (e : Node) → locate (length s) q ≡ Some e → (z : Option ℕ) → tree_of (length s) (at_node (e.row + 1) (e.place / 2)) ≡ z
          → (is_some z && (not (covered ts e) && covered ts (at_node e.row (sibling e.place)))) ≡ true → Needed q
      fin e l None w n = absurd (true_false false n refl)
      fin e l (Some k) w n =
          let (a, b) = and_parts (not (covered ts e)) (covered ts (at_node e.row (sibling e.place))) n in
          record {
            row = e.row;
            place = e.place;
            is = l;
            number = (locate_is (length s) q e l).number;
            tree = k;
            above = rw add-one at (tree_over (length s) (e.row + 1) (e.place / 2) k w);
            bare = sym (cover_same ts hash e.row e.place) ∙ not-true (covered ts e) a;
            beside = sym (cover_same ts hash e.row (sib e.place)) ∙ ap (λ h. covered ts (at_node e.row h)) (sym (sibling_sib e.place)) ∙ b;
          }

      go : (z : Option Node) → locate (length s) q ≡ z → elim z [ None ↦ false | Some e ↦ is_needed (length s) ts e ] ≡ true → Needed q
      go None l n = absurd (true_false false n refl)
      go (Some e) l n = fin e l (tree_of (length s) (at_node (e.row + 1) (e.place / 2))) refl n

  -- the value of the tree at a position
  pub value_there : (k p : ℕ) (top : Top (length s) k p) (t u : Tree Coin) → grow (slot_of s) k p ≡ Some t
      → (d r o : ℕ) → d + r ≡ k → up d o ≡ p → subtree t d o ≡ Some u
      → fresh_value image s (position (length s) r o) ≡ value (img image) u
  value_there k p top t u root d r o e q f =
      let l = locate_at (length s) small r o k (top_over (length s) k p d r o top e q) in
      let a : own_input image s r o ≡ map_o inp (map_o (input_of (img image)) (subtree t d o)) = own_same image s small k p top (Some t) root r d o e q in
      let b : own_input image s r o ≡ Some (inp (input_of (img image) u)) = cc in
      let v = value_input (img image) u in
      let c : value_at image s (at_node r o) ≡ Some (value (img image) u) = ap (image_of image) b ∙ ap (λ x. Some x) (sym v) in
      ap (λ z. elim z [ None ↦ no_value | Some e ↦ (elim (value_at image s e) [ None ↦ no_value | Some v ↦ v ]) ]) l
      ∙ ap (λ z. elim z [ None ↦ no_value | Some v ↦ v ]) c
