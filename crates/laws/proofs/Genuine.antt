-- A genuine block fits, and its claims match; claims that match make a block genuine.
use Rattle.std.proofs.Common.{◌≡◌, ℕ, suc, ◌+◌, ◌/◌, ◌^◌, ◌<◌, true, false, not, ◌&&◌, List, length, Some, None, Option, sym, refl, ap, ◌∙◌, subst, inl, inr, arith}
use Rattle.std.proofs.lemmas.Bool.{cases_Bool}
use Rattle.utreexo.specs.declared.types.Coin.{Coin}
use Rattle.utreexo.specs.declared.types.Value.{Value}
use Rattle.utreexo.specs.Lists.{any}
use Rattle.utreexo.specs.Values.{Image}
use Rattle.utreexo.specs.Forest.{Slots, Node, position}
use Rattle.utreexo.specs.Claims.{Target, beneath, same_node, needed, pick}
use Rattle.utreexo.specs.Blocks.{ascending}
use Rattle.utreexo.specs.Checks.{above_another, named}
use Rattle.utreexo.specs.Collection.{target_live, fresh_value, fresh}
use Rattle.laws.proofs.Logic.{never, true_false}
use Rattle.laws.proofs.Order.{Mem, From}
use Rattle.laws.proofs.Members.{any_none}
use Rattle.laws.proofs.Place.{up, sib}
use Rattle.laws.proofs.Places.{sib_half}
use Rattle.laws.proofs.Tree.{map_o, Tree, grow}
use Rattle.laws.proofs.Value.{value, value_under}
use Rattle.laws.proofs.Claim.{covers, claim, asserted, Apart}
use Rattle.laws.proofs.Forest.{slot_of, Top}
use Rattle.laws.proofs.Where.{coin_slot}
use Rattle.laws.proofs.After.{value_grow}
use Rattle.laws.proofs.Matching.{matches_made, matches_asserted}
use Rattle.laws.proofs.Covers.{cover_found, cover_made, cover_above, cover_up, apart_of}
use Rattle.laws.proofs.Right.{right_at, fresh_at}
use Rattle.laws.proofs.Tops.{Over, RootMatches}
use Rattle.laws.proofs.Strikes.{img}
use Rattle.laws.proofs.Positions.{locate_is}
use Rattle.laws.proofs.Claiming.{up_beneath, node_eq, tgt, Sole, tgt_some, tgt_sole, named_sole, named_mem, ascending_in}
use Rattle.laws.proofs.Live.{LiveAt, coin_slot_live, live_there, live_root, target_make, target_is}
use Rattle.laws.proofs.Needed.{hash_of, pick_map, map_pick, needed_mem, Needed, needed_is, value_there}
use Rattle.laws.proofs.Fits.{ClaimsFit}

-- targets of a forest of n slots: no two have one position, none lies above another, and each is in the forest
pub record Placed (n : ℕ) (ts : List Target) : Type 0 where
  pub sole : Sole ts
  pub alone : above_another ts ≡ false
  pub within : (t : Target) → Mem t ts → (k : ℕ) × Over n t.node.row t.node.place k

-- so are those that ascending positions name
pub named_placed : (n : ℕ) (ps : List ℕ) (cs : List Coin) → ascending ps ≡ true → above_another (named n ps cs) ≡ false → Placed n (named n ps cs)
named_placed n ps cs ascends alone = record {
  sole = named_sole n 0 ps cs (ascending_in ps ascends);
  alone = alone;
  within = λ t m. (let a = named_mem n ps cs t m in let f = locate_is n a.number t.node a.is in (f.top, f.over));
}

-- a genuine proof: each target is live, and the hashes are the fresh ones
pub record RightProof (image : Image) (s : Slots) (ts : List Target) (hs : List Value) : Type 0 where
  pub live : (t : Target) → Mem t ts → target_live image s t ≡ true
  pub new : hs ≡ fresh image s ts

module _ (image : Image) (s : Slots) (small : length s < 2 ^ 32) (ts : List Target) (hs : List Value) where
  abbrev hash : ℕ → ℕ → Value
  hash = hash_of (length s) ts hs

  -- every covered tree matches its claim
  abbrev pub RootsMatch : Type 0
  RootsMatch = (k p : ℕ) → Top (length s) k p → RootMatches (img image) (slot_of s) (length s) (tgt ts) hash k p

  module _ (placed : Placed (length s) ts) where
    -- no covered position lies below a target
    pub apart : Apart (tgt ts) hash
    apart = apart_of (tgt ts) hash never_above
      where
        never_above : (r o r' e o' : ℕ) (c c' : Coin) → tgt ts r o ≡ Some c → tgt ts r' o' ≡ Some c' → r' + suc e ≡ r → up (suc e) o' ≡ o → ⊥
        never_above r o r' e o' c c' a b w q =
            let (t, m, x, _) = tgt_some ts r o c a in
            let (u, k, y, _) = tgt_some ts r' o' c' b in
            let i = any_none (λ t. any (λ u. beneath u.node t.node && not (same_node u.node t.node)) ts) ts t placed.alone m in
            let j = any_none (λ u. beneath u.node t.node && not (same_node u.node t.node)) ts u i k in
            let xr = ap (λ d. d.row) x in
            let xp = ap (λ d. d.place) x in
            let yr = ap (λ d. d.row) y in
            let yp = ap (λ d. d.place) y in
            let f : beneath u.node t.node ≡ true = up_beneath u.node t.node (suc e) (omega arith) (ap (up (suc e)) yp ∙ q ∙ sym xp) in
            fin t u (omega arith) f j
          where
            fin : (t u : Target) → u.node.row < t.node.row → beneath u.node t.node ≡ true
                → (beneath u.node t.node && not (same_node u.node t.node)) ≡ false → ⊥
            fin t u l f j =
                elim (cases_Bool (same_node u.node t.node)) [
                  | inl n ↦ (let z = ap (λ d. d.row) (node_eq u.node t.node n) in omega arith)
                  | inr n ↦ true_false true refl (rw (f, n) at j)
                ]

    -- of a genuine proof
    module _ (right : RightProof image s ts hs) where
      -- each target is a live slot's position with its coin
      pub target_live_at : (r o : ℕ) (c : Coin) → tgt ts r o ≡ Some c → (i : ℕ) × LiveAt s r o i c
      target_live_at r o c e =
          let (t, m, x, y) = tgt_some ts r o c e in
          let (i, a) = target_is image s small t (right.live t m) in
          (i, subst (λ c. LiveAt s r o i c) y (subst (λ (d : Node). LiveAt s d.row d.place i t.coin) x a))

      -- so the claims match
      pub right_match : RootsMatch
      right_match k p top t root c =
          matches_made (img image) (tgt ts) hash k p t
          (λ d r o c e q w. let (i, a) = target_live_at r o c w in (i, live_there image s small k p top t root d r o i c e q a))
          (λ d r o u e q x y f.
          ap (λ h. pick (needed (length s) ts) h (position (length s) r o)) right.new
          ∙ pick_map (fresh_value image s) (needed (length s) ts) (position (length s) r o) (needed_mem image s small ts hs k p d r o top e q x y)
          ∙ value_there image s small ts hs k p top t u root (suc d) r o e q f)
          k 0 p t (omega arith) refl c refl

      -- and the proof fits
      pub right_fits : ClaimsFit image s small ts hs
      right_fits k p top c =
          let u = cover_found (tgt ts) hash k p c in
          let (i, a) = target_live_at u.row u.at u.coin u.is in
          go (live_root image s small k p top u.rows u.row u.at i u.coin (omega (arith, u.sum)) u.above a)
        where
          go : (t : Tree Coin) × (grow (slot_of s) k p ≡ Some t) → value_under (img image) (slot_of s) k p ≡ Some (asserted (img image) (claim (tgt ts) hash k p))
          go (t, root) =
              value_grow (img image) (slot_of s) k p ∙ ap (map_o (value (img image))) root
              ∙ ap (λ x. Some x) (sym (matches_asserted (img image) (claim (tgt ts) hash k p) t (right_match k p top t root c)))

    -- the other way round: of a proof that fits, and whose claims match
    module _ (fit : ClaimsFit image s small ts hs) (match : RootsMatch) where
      -- a covered root is not blank
      root_there : (k p : ℕ) → Top (length s) k p → covers (claim (tgt ts) hash k p) ≡ true → (t : Tree Coin) × (grow (slot_of s) k p ≡ Some t)
      root_there k p top c = go (grow (slot_of s) k p) refl
        where
          go : (x : Option (Tree Coin)) → grow (slot_of s) k p ≡ x → (t : Tree Coin) × (grow (slot_of s) k p ≡ Some t)
          go None e = absurd (never (asserted (img image) (claim (tgt ts) hash k p))
              (sym (value_grow (img image) (slot_of s) k p ∙ ap (map_o (value (img image))) e) ∙ fit k p top c))
          go (Some t) e = (t, e)

      -- where all claims match, each target has its coin
      pub match_right : (t : Target) → Mem t ts → target_live image s t ≡ true
      match_right t m = go (placed.within t m)
        where
          go : (k : ℕ) × Over (length s) t.node.row t.node.place k → target_live image s t ≡ true
          go (k, v) = fin (root_there k (up v.rows t.node.place) v.top
              (cover_made (tgt ts) hash v.rows t.node.row k t.node.place t.coin (tgt_sole ts placed.sole t m) (omega (arith, v.sum))))
            where
              fin : (x : Tree Coin) × (grow (slot_of s) k (up v.rows t.node.place) ≡ Some x) → target_live image s t ≡ true
              fin (x, root) =
                  let r = t.node.row in
                  let o = t.node.place in
                  let p = up v.rows o in
                  let (i, f) = right_at (img image) (tgt ts) hash x apart k p (match k p v.top x root)
                  v.rows r o t.coin v.sum refl (tgt_sole ts placed.sole t m) in
                  target_make image s small t i (coin_slot_live image s small k p v.top r o i t.coin
                  (coin_slot (slot_of s) k p x root v.rows r o i t.coin v.sum refl f))

      -- and the hashes are the fresh ones
      pub match_fresh : From 0 (needed (length s) ts) → length hs ≡ length (needed (length s) ts) → hs ≡ fresh image s ts
      match_fresh from len = map_pick (fresh_value image s) 0 (needed (length s) ts) hs from len (λ q m. go q (needed_is image s small ts hs q m))
        where
          go : (q : ℕ) → Needed image s small ts hs q → pick (needed (length s) ts) hs q ≡ fresh_value image s q
          go q a =
              fin a.above.rows (up a.above.rows (a.place / 2)) refl a.above.top a.above.sum
              (root_there a.tree (up a.above.rows (a.place / 2)) a.above.top
              (cover_above (tgt ts) hash a.above.rows (suc a.row) a.tree (a.place / 2) a.above.sum
              (rw sib_half at (cover_up (tgt ts) hash a.row (sib a.place) a.beside))))
            where
              fin : (d p : ℕ) → up d (a.place / 2) ≡ p → (top : Top (length s) a.tree p) → d + suc a.row ≡ a.tree
                  → (t : Tree Coin) × (grow (slot_of s) a.tree p ≡ Some t) → pick (needed (length s) ts) hs q ≡ fresh_value image s q
              fin d p w top sum (t, root) =
                  let (u, f, g) = fresh_at (img image) (tgt ts) hash t apart a.tree p (match a.tree p top t root)
                  d a.row a.place (omega arith) w a.bare a.beside in
                  ap (pick (needed (length s) ts) hs) (sym a.number) ∙ g
                  ∙ sym (value_there image s small ts hs a.tree p top t u root (suc d) a.row a.place (omega arith) w f)
                  ∙ ap (fresh_value image s) a.number
