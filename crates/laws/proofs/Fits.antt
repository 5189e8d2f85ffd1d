-- A proof fits the roots of the definitions exactly if its claims fit in the theory.
use Rattle.std.proofs.Common.{◌≡◌, ℕ, ◌^◌, ◌<◌, Bool, true, false, cond, not, ◌&&◌, List, length, get_or, is_some, Some, None, Option, sym, refl, ap, ◌∙◌, arith}
use Rattle.std.proofs.lemmas.Bool.{and_parts, not-false, not-true}
use Rattle.utreexo.specs.declared.types.Coin.{Coin}
use Rattle.utreexo.specs.declared.types.Value.{Value}
use Rattle.utreexo.specs.Lists.{any, below}
use Rattle.utreexo.specs.Values.{Image, same_value}
use Rattle.utreexo.specs.Forest.{Slots, at_node, bit, tree_place, root_of, roots_of, value_over}
use Rattle.utreexo.specs.Claims.{Target, covered, proof_of, claim_at, claimed, root_claim, root_covered, fits_root, fits, Proof}
use Rattle.utreexo.specs.Checks.{blank_over}
use Rattle.utreexo.specs.Collection.{target_live}
use Rattle.laws.proofs.Logic.{never, true_false, some_inj}
use Rattle.laws.proofs.Order.{Mem}
use Rattle.laws.proofs.Members.{any_none, none_any}
use Rattle.laws.proofs.Ranges.{below_mem, get_or_below}
use Rattle.laws.proofs.Place.{up}
use Rattle.laws.proofs.Same.{value_eq, eq_value}
use Rattle.laws.proofs.Tree.{map_o, Tree, grow}
use Rattle.laws.proofs.Value.{value, value_under}
use Rattle.laws.proofs.Claim.{covers, claim, asserted}
use Rattle.laws.proofs.Forest.{slot_of, Top, row_of_tree}
use Rattle.laws.proofs.After.{value_grow}
use Rattle.laws.proofs.Tops.{Over}
use Rattle.laws.proofs.Block.{Fits}
use Rattle.laws.proofs.Strikes.{img, value_same}
use Rattle.laws.proofs.Positions.{over_low, over_tree, top_bit, bit_top}
use Rattle.laws.proofs.Claiming.{tgt, cover_same, claim_is, claimed_asserted}
use Rattle.laws.proofs.Live.{top_over, LiveAt, live_over, live_root, target_is}
use Rattle.laws.proofs.Needed.{hash_of}

module _ (image : Image) (s : Slots) (small : length s < 2 ^ 32) (ts : List Target) (hs : List Value) where
  abbrev hash : ℕ → ℕ → Value
  hash = hash_of (length s) ts hs

  abbrev proof : Proof
  proof = proof_of (length s) ts hs

  abbrev roots : List (Option Value)
  roots = roots_of image s

  -- at every covered root the value claimed is the root's
  abbrev pub ClaimsFit : Type 0
  ClaimsFit = Fits (img image) (slot_of s) (length s) (tgt ts) hash

  -- the root that the definitions list is the value over the tree
  pub root_value : (k p : ℕ) → Top (length s) k p → get_or roots k None ≡ value_under (img image) (slot_of s) k p
  root_value k p t =
      let (b, q) = top_bit (length s) k p t in
      get_or_below (root_of image s) None 32 k (over_low (length s) k p k small (top_over (length s) k p 0 k p t (omega arith) refl))
      ∙ ap (λ x. cond x (value_over image s k (tree_place (length s) k)) None) b ∙ ap (value_over image s k) q ∙ value_same image s k p

  -- no target with its coin lies in a blank tree
  pub none_blank : ((t : Target) → Mem t ts → target_live image s t ≡ true) → any (blank_over (length s) roots) ts ≡ false
  none_blank right = none_any (blank_over (length s) roots) ts (λ t m. go t (target_is image s small t (right t m)))
    where
      go : (t : Target) → (i : ℕ) × LiveAt s t.node.row t.node.place i t.coin → blank_over (length s) roots t ≡ false
      go t (i, a) = fin (live_root image s small (row_of_tree (length s) i) p v.top v.rows t.node.row t.node.place i t.coin v.sum refl a)
        where
          v : Over (length s) t.node.row t.node.place (row_of_tree (length s) i)
          v = live_over image s small t.node.row t.node.place i t.coin a

          p : ℕ
          p = up v.rows t.node.place

          fin : (x : Tree Coin) × (grow (slot_of s) (row_of_tree (length s) i) p ≡ Some x) → blank_over (length s) roots t ≡ false
          fin (x, root) =
              let a = over_tree (length s) t.node.row t.node.place (row_of_tree (length s) i) small v in
              let b = root_value (row_of_tree (length s) i) p v.top ∙ value_grow (img image) (slot_of s) (row_of_tree (length s) i) p
              ∙ ap (map_o (value (img image))) root in
              ap (λ z. elim z [ None ↦ true | Some k ↦ not (is_some (get_or roots k None)) ]) a ∙ ap (λ z. not (is_some z)) b

  -- a root is covered, and claims a value, as in the theory
  pub root_cover : (k p : ℕ) → Top (length s) k p → root_covered image proof k ≡ covers (claim (tgt ts) hash k p)
  root_cover k p t =
      let (b, q) = top_bit (length s) k p t in
      ap (λ x. x && covered ts (at_node k (tree_place (length s) k))) b ∙ ap (λ x. covered ts (at_node k x)) q ∙ cover_same ts hash k p

  pub root_asserted : (k p : ℕ) → Top (length s) k p → claimed image (root_claim image proof k) ≡ asserted (img image) (claim (tgt ts) hash k p)
  root_asserted k p t =
      let (b, q) = top_bit (length s) k p t in
      ap (λ x. claimed image (claim_at proof k x)) q ∙ ap (claimed image) (claim_is proof k p)
      ∙ claimed_asserted image (claim (tgt ts) hash k p)

  -- the test of one root: covered or not, the root, and the value claimed
  abbrev fits_test : Bool → Option Value → Value → Bool
  fits_test b z w = elim b [ false ↦ true | true ↦ (elim z [ None ↦ false | Some v ↦ same_value v w ]) ]

  fits_is : (b : Bool) (z : Option Value) (w : Value) → b ≡ true → fits_test b z w ≡ true → z ≡ Some w
  fits_is true None w e f = absurd (true_false false f refl)
  fits_is true (Some v) w e f = ap (λ x. Some x) (value_eq v w f)
  fits_is false z w e f = absurd (true_false false e refl)

  fits_ok : (b : Bool) (z : Option Value) (w : Value) → (b ≡ true → z ≡ Some w) → fits_test b z w ≡ true
  fits_ok true None w f = absurd (never w (f refl))
  fits_ok true (Some v) w f = eq_value v w (some_inj v w (f refl))
  fits_ok false z w f = refl

  -- the test of fitting, both ways
  pub fits_claims : fits image proof roots ≡ true → ClaimsFit
  fits_claims e k p t c =
      let l = over_low (length s) k p k small (top_over (length s) k p 0 k p t (omega arith) refl) in
      let unfit : (ℕ → Bool) = (λ k. not (fits_root image proof roots k)) in
      let a = any_none unfit (below 32) k (not-true (any unfit (below 32)) e) (below_mem 32 k l) in
      let b = not-false (fits_root image proof roots k) a in
      let f = fits_is (root_covered image proof k) (get_or roots k None) (claimed image (root_claim image proof k)) (root_cover k p t ∙ c) b in
      sym (root_value k p t) ∙ f ∙ ap (λ x. Some x) (root_asserted k p t)

  pub claims_fits : ClaimsFit → fits image proof roots ≡ true
  claims_fits f =
      ap not (none_any (λ k. not (fits_root image proof roots k)) (below 32) (λ k m. ap not (go k)))
    where
      go : (k : ℕ) → fits_root image proof roots k ≡ true
      go k =
          fits_ok (root_covered image proof k) (get_or roots k None) (claimed image (root_claim image proof k))
          (λ c. let (b, d) = and_parts (bit (length s) k) (covered ts (at_node k (tree_place (length s) k))) c in
          let t = bit_top (length s) k b in
          root_value k (tree_place (length s) k) t ∙ f k (tree_place (length s) k) t (sym (root_cover k (tree_place (length s) k) t) ∙ c)
          ∙ ap (λ x. Some x) (sym (root_asserted k (tree_place (length s) k) t)))
