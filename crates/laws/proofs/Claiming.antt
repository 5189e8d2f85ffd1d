-- The targets, covered positions and claims of the definitions are the theory's.
use Rattle.std.proofs.Common.{◌≡◌, ℕ, zero, suc, ◌+◌, ◌-◌, ◌*◌, ◌/◌, ◌^◌, Bool, true, false, cond, ◌||◌, eqb, ltb, leb, List, [], ◌∷◌, Some, None, Option, sym, refl, ap, ◌∙◌, subst, ap₂, inl, inr, arith}
use Rattle.std.proofs.lemmas.Bool.{eq-eqb, eqb-true, le-leb, leb-true, ltb-true, and_parts, and_from}
use Rattle.utreexo.specs.declared.types.Coin.{Coin}
use Rattle.utreexo.specs.declared.types.Input.TheVariants.{Pair}
use Rattle.utreexo.specs.declared.types.Value.{Value}
use Rattle.utreexo.specs.Values.{Image, join}
use Rattle.utreexo.specs.Forest.{Node, at_node, locate, position}
use Rattle.utreexo.specs.Claims.{Target, beneath, same_node, covered, target_at, Proof, Claim, spent, given, both, claim_at, claimed, claimed_input, after}
use Rattle.utreexo.specs.Blocks.{ascends_from, ascending}
use Rattle.utreexo.specs.Checks.{named}
use Rattle.laws.proofs.Logic.{never, iff_bool, some_inj}
use Rattle.laws.proofs.Order.{Mem, From}
use Rattle.laws.proofs.Members.{any_mem, mem_any, first_some, first_mem}
use Rattle.laws.proofs.Ordered.{from_mem}
use Rattle.laws.proofs.Place.{up}
use Rattle.laws.proofs.Places.{up_shr}
use Rattle.laws.proofs.Tree.{map_o}
use Rattle.laws.proofs.Claim.{Assertion, target, by_hash, node, covers, leaf_claim, parent_claim, claim, asserted, asserted_input, after_value}
use Rattle.laws.proofs.Covers.{cover_found, cover_made}
use Rattle.laws.proofs.Strikes.{inp, img, join_same}
use Rattle.laws.proofs.Positions.{locate_is}

-- one position lies at or beneath another: some rows up it is the other
pub beneath_up : (d e : Node) → beneath d e ≡ true → (f : ℕ) × (d.row + f ≡ e.row) × (up f d.place ≡ e.place)
beneath_up d e t =
    let (a, b) = and_parts (leb d.row e.row) (eqb (d.place / 2 ^ (e.row - d.row)) e.place) t in
    let l = leb-true d.row e.row a in
    (e.row - d.row, omega arith, up_shr (e.row - d.row) d.place ∙ eqb-true (d.place / 2 ^ (e.row - d.row)) e.place b)

pub up_beneath : (d e : Node) (f : ℕ) → d.row + f ≡ e.row → up f d.place ≡ e.place → beneath d e ≡ true
up_beneath d e f s q =
    let w : f ≡ e.row - d.row = omega arith in
    and_from (leb d.row e.row) (eqb (d.place / 2 ^ (e.row - d.row)) e.place) (le-leb d.row e.row (omega arith))
    (eq-eqb (d.place / 2 ^ (e.row - d.row)) e.place (sym (up_shr (e.row - d.row) d.place) ∙ ap (λ x. up x d.place) (sym w) ∙ q))

-- the test of two positions is exact
pub node_eq : (d e : Node) → same_node d e ≡ true → d ≡ e
node_eq d e t =
    let (a, b) = and_parts (eqb d.row e.row) (eqb d.place e.place) t in
    let p = eqb-true d.row e.row a in
    let q = eqb-true d.place e.place b in
    λ i. record { row = p i; place = q i }

pub eq_node : (d e : Node) → d.row ≡ e.row → d.place ≡ e.place → same_node d e ≡ true
eq_node d e p q = and_from (eqb d.row e.row) (eqb d.place e.place) (eq-eqb d.row e.row p) (eq-eqb d.place e.place q)

-- the coin of the target at a position
abbrev pub tgt : List Target → ℕ → ℕ → Option Coin
tgt ts r o = map_o (λ t. t.coin) (target_at ts (at_node r o))

-- no two targets have one position
abbrev pub Sole : List Target → Type 0
Sole ts = (t u : Target) → Mem t ts → Mem u ts → t.node ≡ u.node → t ≡ u

module _ (ts : List Target) where
  -- the target that gives a position its coin
  pub tgt_some : (r o : ℕ) (c : Coin) → tgt ts r o ≡ Some c → (t : Target) × (Mem t ts) × (t.node ≡ at_node r o) × (t.coin ≡ c)
  tgt_some r o c e = go (target_at ts (at_node r o)) refl e
    where
      go : (z : Option Target) → target_at ts (at_node r o) ≡ z → map_o (λ t. t.coin) z ≡ Some c
          → (t : Target) × (Mem t ts) × (t.node ≡ at_node r o) × (t.coin ≡ c)
      go None q e = absurd (never c e)
      go (Some t) q e =
          let (m, s) = first_some (λ t. same_node t.node (at_node r o)) ts t q in (t, m, node_eq t.node (at_node r o) s, some_inj t.coin c e)

  -- each target gives its position a coin
  pub tgt_there : (t : Target) → Mem t ts → (c : Coin) × (tgt ts t.node.row t.node.place ≡ Some c)
  tgt_there t m =
      let (u, e, _, _) = first_mem (λ u. same_node u.node t.node) ts t m (eq_node t.node t.node refl refl) in (u.coin, ap (map_o (λ t. t.coin)) e)

  -- its own, where no two targets have one position
  pub tgt_sole : Sole ts → (t : Target) → Mem t ts → tgt ts t.node.row t.node.place ≡ Some t.coin
  tgt_sole sole t m =
      let (u, e, w, s) = first_mem (λ u. same_node u.node t.node) ts t m (eq_node t.node t.node refl refl) in
      ap (map_o (λ t. t.coin)) e ∙ ap (λ x. Some x.coin) (sole u t w m (node_eq u.node t.node s))

  -- covered by the definitions, covered in the theory
  pub cover_same : (hash : ℕ → ℕ → Value) (r o : ℕ) → covered ts (at_node r o) ≡ covers (claim (tgt ts) hash r o)
  cover_same hash r o = iff_bool (covered ts (at_node r o)) (covers (claim (tgt ts) hash r o)) to from
    where
      to : covered ts (at_node r o) ≡ true → covers (claim (tgt ts) hash r o) ≡ true
      to e =
          let (t, m, b) = any_mem (λ t. beneath t.node (at_node r o)) ts e in
          let (f, s, q) = beneath_up t.node (at_node r o) b in
          let (c, w) = tgt_there t m in
          subst (λ x. covers (claim (tgt ts) hash r x) ≡ true) q (cover_made (tgt ts) hash f t.node.row r t.node.place c w s)

      from : covers (claim (tgt ts) hash r o) ≡ true → covered ts (at_node r o) ≡ true
      from e =
          let u = cover_found (tgt ts) hash r o e in
          let (t, m, q, _) = tgt_some u.row u.at u.coin u.is in
          mem_any (λ t. beneath t.node (at_node r o)) ts t m
          (subst (λ d. beneath d (at_node r o) ≡ true) (sym q) (up_beneath (at_node u.row u.at) (at_node r o) u.rows u.sum u.above))

-- a claim of the theory as one of the definitions
abbrev pub as_claim : Assertion Coin Value → Claim
as_claim (target c) = spent c
as_claim (by_hash v) = given v
as_claim (node a b) = both (as_claim a) (as_claim b)

module _ (p : Proof) where
  -- the claim at each position is the theory's
  pub claim_is : (r o : ℕ) → claim_at p r o ≡ as_claim (claim (tgt p.targets) p.hash r o)
  claim_is zero o = go (target_at p.targets (at_node 0 o))
    where
      go : (z : Option Target) → elim z [ None ↦ given (p.hash 0 o) | Some t ↦ spent t.coin ] ≡ as_claim (leaf_claim (map_o (λ t. t.coin) z) (p.hash 0 o))
      go None = refl
      go (Some t) = refl
  claim_is (suc r) o = go (target_at p.targets (at_node (suc r) o)) refl (claim_is r (2 * o)) (claim_is r (2 * o + 1))
    where
      L : Assertion Coin Value
      L = claim (tgt p.targets) p.hash r (2 * o)

      K : Assertion Coin Value
      K = claim (tgt p.targets) p.hash r (2 * o + 1)

      two : (b : Bool) → claim_at p r (2 * o) ≡ as_claim L → claim_at p r (2 * o + 1) ≡ as_claim K
          → elim b [ false ↦ given (p.hash (suc r) o) | true ↦ both (claim_at p r (2 * o)) (claim_at p r (2 * o + 1)) ]
          ≡ as_claim (cond b (node L K) (by_hash (p.hash (suc r) o)))
      two false l k = refl
      two true l k = ap₂ (λ x y. both x y) l k

      covers_two : (b : Bool) → covers (cond b (node L K) (by_hash (p.hash (suc r) o))) ≡ b
      covers_two true = refl
      covers_two false = refl

      go : (z : Option Target) → target_at p.targets (at_node (suc r) o) ≡ z → claim_at p r (2 * o) ≡ as_claim L → claim_at p r (2 * o + 1) ≡ as_claim K
          → elim z [
            | None ↦ (elim (covered p.targets (at_node (suc r) o)) [
              | false ↦ given (p.hash (suc r) o)
              | true ↦ both (claim_at p r (2 * o)) (claim_at p r (2 * o + 1))
            ])
            | Some t ↦ spent t.coin
          ]
          ≡ as_claim (parent_claim (map_o (λ t. t.coin) z) L K (p.hash (suc r) o))
      go (Some t) e l k = refl
      go None e l k =
          let a : covered p.targets (at_node (suc r) o) ≡ covers (parent_claim (tgt p.targets (suc r) o) L K (p.hash (suc r) o)) =
          cover_same p.targets p.hash (suc r) o in
          let b : covered p.targets (at_node (suc r) o) ≡ (covers L || covers K) =
          a ∙ ap (λ z. covers (parent_claim (map_o (λ t. t.coin) z) L K (p.hash (suc r) o))) e ∙ covers_two (covers L || covers K) in
          subst (λ w. elim w [ false ↦ given (p.hash (suc r) o) | true ↦ both (claim_at p r (2 * o)) (claim_at p r (2 * o + 1)) ]
          ≡ as_claim (cond (covers L || covers K) (node L K) (by_hash (p.hash (suc r) o)))) (sym b) (two (covers L || covers K) l k)

module _ (image : Image) where
  -- and so are the value claimed, the input claimed and the after-value
  pub claimed_asserted : (a : Assertion Coin Value) → claimed image (as_claim a) ≡ asserted (img image) a
  claimed_asserted (target c) = refl
  claimed_asserted (by_hash v) = refl
  claimed_asserted (node a b) = ap₂ (λ x y. image (Pair x y)) (claimed_asserted a) (claimed_asserted b)

  pub input_asserted : (a : Assertion Coin Value) → claimed_input image (as_claim a) ≡ map_o inp (asserted_input (img image) a)
  input_asserted (target c) = refl
  input_asserted (by_hash v) = refl
  input_asserted (node a b) = ap₂ (λ x y. Some (Pair x y)) (claimed_asserted a) (claimed_asserted b)

  pub after_same : (a : Assertion Coin Value) → after image (as_claim a) ≡ after_value (img image) a
  after_same (target c) = refl
  after_same (by_hash v) = refl
  after_same (node a b) = ap₂ (join image) (after_same a) (after_same b) ∙ join_same image (after_value (img image) a) (after_value (img image) b)

-- Targets named by ascending positions have one position each.
pub ascends_in : (y : ℕ) (zs : List ℕ) → ascends_from y zs ≡ true → From (suc y) zs
ascends_in y [] e = tt
ascends_in y (z ∷ zs) e = let (a, b) = and_parts (ltb y z) (ascends_from z zs) e in (ltb-true y z a, ascends_in z zs b)

-- positions that ascend by the test ascend
pub ascending_in : (zs : List ℕ) → ascending zs ≡ true → From 0 zs
ascending_in [] e = tt
ascending_in (x ∷ xs) e = (omega arith, ascends_in x xs e)

-- the number that named a target
pub record Named (n : ℕ) (ps : List ℕ) (t : Target) : Type 0 where
  pub number : ℕ
  pub here : Mem number ps
  pub is : locate n number ≡ Some t.node

-- a target that is named has its number among the positions
pub named_mem : (n : ℕ) (ps : List ℕ) (cs : List Coin) (t : Target) → Mem t (named n ps cs) → Named n ps t
named_mem n [] cs t m = absurd m
named_mem n (p ∷ ps) [] t m = absurd m
named_mem n (p ∷ ps) (c ∷ cs) t m = go (locate n p) refl m (named_mem n ps cs t)
  where
    later : Named n ps t → Named n (p ∷ ps) t
    later a = record { number = a.number; here = inr a.here; is = a.is }

    go : (z : Option Node) → locate n p ≡ z → Mem t (elim z [ None ↦ named n ps cs | Some e ↦ record { node = e; coin = c } ∷ named n ps cs ])
        → (Mem t (named n ps cs) → Named n ps t) → Named n (p ∷ ps) t
    go None q m ih = later (ih m)
    go (Some e) q (inl w) ih = record { number = p; here = inl refl; is = q ∙ ap (λ t. Some t.node) (sym w) }
    go (Some e) q (inr m) ih = later (ih m)

-- targets named by numbers that ascend have different positions
pub named_sole : (n a : ℕ) (ps : List ℕ) (cs : List Coin) → From a ps → Sole (named n ps cs)
named_sole n a [] cs f t u m k e = absurd m
named_sole n a (p ∷ ps) [] f t u m k e = absurd m
named_sole n a (p ∷ ps) (c ∷ cs) f t u m k e = go (locate n p) refl m k (named_sole n (suc p) ps cs f.1)
  where
    clash : (e t u : Target) → locate n p ≡ Some e.node → t ≡ e → Mem u (named n ps cs) → t.node ≡ u.node → ⊥
    clash e t u q w k same =
        let b = named_mem n ps cs u k in
        let x = (locate_is n p e.node q).number in
        let y = (locate_is n b.number u.node b.is).number in
        let z : p ≡ b.number = sym x ∙ ap (λ d. position n d.row d.place) (ap (λ t. t.node) (sym w) ∙ same) ∙ y in
        omega (arith, from_mem (suc p) ps b.number f.1 b.here)

    go : (z : Option Node) → locate n p ≡ z → Mem t (elim z [ None ↦ named n ps cs | Some e ↦ record { node = e; coin = c } ∷ named n ps cs ])
        → Mem u (elim z [ None ↦ named n ps cs | Some e ↦ record { node = e; coin = c } ∷ named n ps cs ])
        → Sole (named n ps cs) → t ≡ u
    go None q m k ih = ih t u m k e
    go (Some d) q (inl w) (inl v) ih = w ∙ sym v
    go (Some d) q (inl w) (inr k) ih = absurd (clash (record { node = d; coin = c }) t u q w k e)
    go (Some d) q (inr m) (inl v) ih = absurd (clash (record { node = d; coin = c }) u t q v m (sym e))
    go (Some d) q (inr m) (inr k) ih = ih t u m k e
