-- The slots that a genuine block leaves, and their roots.
use Rattle.std.proofs.Common.{◌≡◌, ℕ, ◌^◌, ◌<◌, ◌≤◌, Bool, true, false, cond, ◌&&◌, List, map, length, get_or, is_some, Some, None, Option, sym, refl, ap, ◌∙◌, subst, ap₂, inl, inr, arith}
use mathlib.Core.Path.{fun_ext}
use lib.ListN.{get_or-eq_default}
use Rattle.std.proofs.lemmas.Bool.{cases_lt}
use Rattle.utreexo.specs.declared.types.Coin.{Coin}
use Rattle.utreexo.specs.declared.types.Value.{Value}
use Rattle.utreexo.specs.Lists.{below}
use Rattle.utreexo.specs.Values.{Image}
use Rattle.utreexo.specs.Forest.{Slots, Node, at_node, bit, tree_place, root_of, roots_of, value_over}
use Rattle.utreexo.specs.Claims.{Target, covered, proof_of, after, root_claim, root_after, Proof}
use Rattle.utreexo.specs.Collection.{slot_has, spent_slot}
use Rattle.laws.proofs.Logic.{never, true_false, iff_bool}
use Rattle.laws.proofs.Members.{any_mem, mem_any, map_ext}
use Rattle.laws.proofs.Ranges.{get_or_below, mem_below}
use Rattle.laws.proofs.Slots.{left, length_left, left_at}
use Rattle.laws.proofs.Value.{value_under}
use Rattle.laws.proofs.Claim.{covers, claim, asserted, after_value, Assertion}
use Rattle.laws.proofs.Forest.{slot_of, Top, spends, renew}
use Rattle.laws.proofs.Tops.{remains, root_renewed}
use Rattle.laws.proofs.Strikes.{img, value_same}
use Rattle.laws.proofs.Positions.{bit_top}
use Rattle.laws.proofs.Claiming.{tgt, tgt_some, tgt_there, claim_is, after_same}
use Rattle.laws.proofs.Live.{slot_has_make, slot_has_is, slot_row, slot_place, live_at}
use Rattle.laws.proofs.Needed.{hash_of}
use Rattle.laws.proofs.Fits.{root_value, root_cover}
use Rattle.laws.proofs.Genuine.{right_match, right_fits, Placed, RightProof, RootsMatch}

module _ (image : Image) (s : Slots) (small : length s < 2 ^ 32) (ts : List Target) (hs : List Value) where
  abbrev hash : ℕ → ℕ → Value
  hash = hash_of (length s) ts hs

  abbrev proof : Proof
  proof = proof_of (length s) ts hs

  -- what remains of the slots, as the theory has it
  abbrev pub remains_of : ℕ → Option Coin
  remains_of = remains (img image) (slot_of s) (length s) (tgt ts) hash

  -- the claim at the root of the tree of row k
  abbrev top_claim : ℕ → Assertion Coin Value
  top_claim k = claim (tgt ts) hash k (tree_place (length s) k)

  module _ (placed : Placed (length s) ts) (right : RightProof image s ts hs) where
    -- a live slot is spent exactly if its position is a target
    spent_same : (i : ℕ) (c : Coin) → get_or s i None ≡ Some c → spent_slot image s ts i ≡ spends (slot_of s) (length s) (tgt ts) i
    spent_same i c l = iff_bool (spent_slot image s ts i) (spends (slot_of s) (length s) (tgt ts) i) to from
      where
        to : spent_slot image s ts i ≡ true → spends (slot_of s) (length s) (tgt ts) i ≡ true
        to e =
            let (t, m, b) = any_mem (λ t. slot_has image s t.node i) ts e in
            let (c', a) = slot_has_is image s small t.node.row t.node.place i b in
            let (x, w) = tgt_there ts t m in
            ap is_some (ap₂ (tgt ts) a.row a.at ∙ w)

        from : spends (slot_of s) (length s) (tgt ts) i ≡ true → spent_slot image s ts i ≡ true
        from e = go (tgt ts (slot_row s i) (slot_place s i)) refl e
          where
            go : (z : Option Coin) → tgt ts (slot_row s i) (slot_place s i) ≡ z → is_some z ≡ true → spent_slot image s ts i ≡ true
            go None q e = absurd (true_false false e refl)
            go (Some x) q e =
                let (t, m, w, _) = tgt_some ts (slot_row s i) (slot_place s i) x q in
                mem_any (λ t. slot_has image s t.node i) ts t m
                (subst (λ (d : Node). slot_has image s d i ≡ true) (sym w)
                (slot_has_make image s small (slot_row s i) (slot_place s i) i c (live_at s i c l)))

    -- so the slots left are those that remain in the theory
    left_slot : (i : ℕ) → slot_of (left image s ts) i ≡ remains_of i
    left_slot i = elim (cases_lt i (length s)) [ inl l ↦ left_at image s ts i l ∙ go (get_or s i None) refl | inr l ↦ high l ]
      where
        none : (b : Bool) → cond {A = Option Coin} b None None ≡ None
        none true = refl
        none false = refl

        go : (z : Option Coin) → get_or s i None ≡ z → cond (spent_slot image s ts i) None z ≡ cond (spends (slot_of s) (length s) (tgt ts) i) None z
        go None e = none (spent_slot image s ts i) ∙ sym (none (spends (slot_of s) (length s) (tgt ts) i))
        go (Some c) e = ap (λ b. cond b None (Some c)) (spent_same i c e)

        high : length s ≤ i → slot_of (left image s ts) i ≡ remains_of i
        high l =
            get_or-eq_default (left image s ts) None (let k = (length_left image s ts) in let x : length (left image s ts) ≤ i = omega arith in x)
            ∙ sym (ap (cond (spends (slot_of s) (length s) (tgt ts) i) None) (get_or-eq_default s None l) ∙ none (spends (slot_of s) (length s) (tgt ts) i))

    -- the same of the functions, for rewriting
    pub left_slots : slot_of (left image s ts) ≡ remains_of
    left_slots = fun_ext left_slot

    -- every tree's claim matches
    pub roots_match : RootsMatch image s small ts hs
    roots_match = right_match image s small ts hs placed right

    -- the root after the block is that of the slots left
    root_left : (k : ℕ) → k < 32 → root_after image proof (roots_of image s) k ≡ root_of image (left image s ts) k
    root_left k l = go (bit (length s) k) refl
      where
        left_bit : bit (length (left image s ts)) k ≡ bit (length s) k
        left_bit = ap (λ n. bit n k) (length_left image s ts)

        go : (b : Bool) → bit (length s) k ≡ b → root_after image proof (roots_of image s) k ≡ root_of image (left image s ts) k
        go false e =
            ap (λ b. cond (b && covered ts (at_node k (tree_place (length s) k))) (after image (root_claim image proof k))
            (get_or (roots_of image s) k None)) e
            ∙ get_or_below (root_of image s) None 32 k l ∙ ap (λ b. cond b (value_over image s k (tree_place (length s) k)) None) e
            ∙ sym (ap (λ b. cond b (value_over image (left image s ts) k (tree_place (length (left image s ts)) k)) None) (left_bit ∙ e))
        go true e = front ∙ sym back
          where
            top : Top (length s) k (tree_place (length s) k)
            top = bit_top (length s) k e

            back : root_of image (left image s ts) k ≡ value_under (img image) remains_of k (tree_place (length s) k)
            back =
                ap (λ b. cond b (value_over image (left image s ts) k (tree_place (length (left image s ts)) k)) None) (left_bit ∙ e)
                ∙ ap (λ n. value_over image (left image s ts) k (tree_place n k)) (length_left image s ts)
                ∙ value_same image (left image s ts) k (tree_place (length s) k)
                ∙ ap (λ f. value_under (img image) f k (tree_place (length s) k)) left_slots

            new_claim : after image (root_claim image proof k) ≡ after_value (img image) (top_claim k)
            new_claim = ap (after image) (claim_is proof k (tree_place (length s) k)) ∙ after_same image (top_claim k)

            fin : (b : Bool) → covers (top_claim k) ≡ b → (z : Option Value) → value_under (img image) (slot_of s) k (tree_place (length s) k) ≡ z
                → cond b (after_value (img image) (top_claim k)) z ≡ renew (img image) (tgt ts) hash k (tree_place (length s) k) z
            fin true c None v =
                absurd (never (asserted (img image) (top_claim k)) (sym v ∙ right_fits image s small ts hs placed right k (tree_place (length s) k) top c))
            fin true c (Some w) v = rw c
            fin false c None v = refl
            fin false c (Some w) v = rw c

            front : root_after image proof (roots_of image s) k ≡ value_under (img image) remains_of k (tree_place (length s) k)
            front =
                ap (λ b. cond b (after image (root_claim image proof k)) (get_or (roots_of image s) k None))
                (root_cover image s small ts hs k (tree_place (length s) k) top)
                ∙ ap₂ (λ x y. cond (covers (top_claim k)) x y) new_claim (root_value image s small ts hs k (tree_place (length s) k) top)
                ∙ fin (covers (top_claim k)) refl (value_under (img image) (slot_of s) k (tree_place (length s) k)) refl
                ∙ sym (root_renewed (img image) (slot_of s) (length s) (tgt ts) hash k (tree_place (length s) k) top
                (roots_match k (tree_place (length s) k) top))

    -- the renewed roots are the roots of what is left
    pub roots_left : map (root_after image proof (roots_of image s)) (below 32) ≡ roots_of image (left image s ts)
    roots_left =
        map_ext (root_after image proof (roots_of image s)) (root_of image (left image s ts)) (below 32) (λ k m. root_left k (mem_below 32 k m))
