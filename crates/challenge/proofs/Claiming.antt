-- What the code finds of a block's claims: targets' coins, hashes and claimed values. Assumes nothing.
use Rattle.std.proofs.Common.{◌≡◌, ℕ, suc, ◌+◌, ◌-◌, ◌*◌, ◌/◌, ◌^◌, ◌<◌, ◌≤◌, Bool, true, false, cond, eqb, ◌&&◌, ◌⊎◌, List, [], ◌∷◌, map, length, get_or, Some, None, Option, MatchOption, sym, refl, ap, ap₂, ◌∙◌, subst, inl, inr, arith}
use Rattle.std.specs.List.{find, zip, All, AllByRecursion}
use Rattle.std.specs.Option.{option_map, IsSomeAnd}
use Rattle.std.specs.Simd.{first_chunks}
use Rattle.std.proofs.lemmas.Bool.{both_ways, cases_Bool, cases_eq, eq-eqb, eqb-true, ne_eqb, and_from, and_parts}
use Rattle.std.proofs.lemmas.List.{same_lists, get_or-map, length-map}
use Rattle.std.proofs.lemmas.List.Elements.{recursion_from_All}
use Rattle.std.proofs.Math.Nat.{div-le_self}
use denote.Ref.{Bor}
use Rattle.laws.proofs.Logic.{some_inj}
use Rattle.laws.proofs.Ranges.{get_or_below, length_map_below}
use Rattle.utreexo.specs.declared.types.Coin.{Coin}
use Rattle.utreexo.specs.declared.types.Value.{Value}
use Rattle.utreexo.specs.Bytes.{Bytes, part, value_in}
use Rattle.utreexo.specs.Forest.{Node as ForestNode, at_node, locate, position}
use Rattle.utreexo.specs.Claims.{Target, target_at, needed, pick, no_value}
use Rattle.place.specs.declared.Node.{Node}
use Rattle.place.specs.Nodes.{node_of, inside}
use Rattle.targets.specs.declared.spend.Spend.{Spend}
use Rattle.targets.specs.declared.placed.Targets.{Targets}
use Rattle.targets.specs.Spends.{target_of, targets}
use Rattle.targets.specs.Targets.{placed}
use Rattle.targets.proofs.Inside.{locates, tree_inside}
use Rattle.climb.specs.Held.{hashes_in}
use Rattle.climb.specs.Claimed.{claims}
use Rattle.climb.specs.Needed.{numbered}
use Rattle.climb.proofs.Chunks.{chunk_at, length_chunks}
use Rattle.laws.proofs.Logic.{never}
use Rattle.laws.proofs.Members.{filter_mem, mem_filter}
use Rattle.laws.proofs.Ranges.{below_mem}
use Rattle.utreexo.specs.Lists.{below}
use Rattle.utreexo.specs.Values.{Image}
use Rattle.utreexo.specs.declared.types.Input.TheVariants.{Leaf, Pair}
use Rattle.utreexo.specs.Claims.{Proof, covered, spent, given, claim_at, claimed, claimed_input}
use Rattle.targets.proofs.Inside.{half_row, row_low, inside_tree}
use Rattle.climb.specs.declared.item.Item.{Item}
use Rattle.climb.specs.declared.after.AfterValues.{AfterValues}
use Rattle.climb.specs.Rows.{lookup}
use Rattle.climb.specs.Entries.{entry}
use Rattle.climb.specs.After.{row_lists, covered_places, Fills}
use Rattle.climb.proofs.Claimed.{claim_spent, claim_given, claim_both, clear_target}
use Rattle.climb.proofs.Lookups.{lookup_some, lookup_none, lookup_find}
use Rattle.challenge.specs.Claimed.{coin_of}

-- Targets ----------------------------------------------------------------------------

abbrev pub same_place : Node → Node → Bool
same_place d e = eqb d.row e.row && eqb d.place e.place

find_target : (d : Node) (ss : List Spend) → option_map target_of (find (λ s. same_place s.node d) ss) ≡ target_at (targets ss) (node_of d)
find_target d [] = refl
find_target d (s ∷ ss) = go (same_place s.node d) (find_target d ss)
  where
    go : (b : Bool) → option_map target_of (find (λ s. same_place s.node d) ss) ≡ target_at (targets ss) (node_of d)
        → option_map target_of (cond b (Some s) (find (λ s. same_place s.node d) ss)) ≡ cond b (Some (target_of s)) (target_at (targets ss) (node_of d))
    go true ih = refl
    go false ih = ih

pub coin_found : (d : Node) (ss : List Spend) (x : Option (Bor Spend)) (r : Option Coin) → option_map (λ b. b.now) x ≡ find (λ s. same_place s.node d) ss
    → MatchOption x (r ≡ None) (λ b. IsSomeAnd r (λ c. c ≡ b.now.coin)) → r ≡ coin_of (target_at (targets ss) (node_of d))
coin_found d ss None r e h = h ∙ ap coin_of (ap (option_map target_of) e ∙ find_target d ss)
coin_found d ss (Some b) None e h = absurd h
coin_found d ss (Some b) (Some c) e h = ap Some h ∙ ap coin_of (ap (option_map target_of) e ∙ find_target d ss)

-- Hashes -----------------------------------------------------------------------------

-- two places of the forest have two numbers
same_number : (n : ℕ) → n < 2 ^ 32 → (d e : Node) → d.place < n / 2 ^ d.row → e.place < n / 2 ^ e.row
    → eqb (position n e.row e.place) (position n d.row d.place) ≡ same_place d e
same_number n small d e l m = go (cases_eq (position n e.row e.place) (position n d.row d.place)) (cases_Bool (same_place d e))
  where
    one : position n e.row e.place ≡ position n d.row d.place → at_node e.row e.place ≡ at_node d.row d.place
    one q = some_inj (at_node e.row e.place) (at_node d.row d.place) (sym (locates n e.row e.place small m) ∙ ap (locate n) q ∙ locates n d.row d.place small l)

    go : (position n e.row e.place ≡ position n d.row d.place) ⊎ (position n e.row e.place ≡ position n d.row d.place → ⊥) → (same_place d e ≡ true) ⊎ (same_place d e ≡ false)
        → eqb (position n e.row e.place) (position n d.row d.place) ≡ same_place d e
    go (inl q) s =
        let z = one q in
        eq-eqb (position n e.row e.place) (position n d.row d.place) q
        ∙ sym (and_from (eqb d.row e.row) (eqb d.place e.place) (eq-eqb d.row e.row (ap (λ (x : ForestNode). x.row) (sym z))) (eq-eqb d.place e.place (ap (λ (x : ForestNode). x.place) (sym z))))
    go (inr q) (inl s) =
        let (a, b) = and_parts (eqb d.row e.row) (eqb d.place e.place) s in
        absurd (q (ap₂ (position n) (sym (eqb-true d.row e.row a)) (sym (eqb-true d.place e.place b))))
    go (inr q) (inr s) = ne_eqb (position n e.row e.place) (position n d.row d.place) q ∙ sym s

abbrev pub hash_of : Option (Node × Bytes) → Value
hash_of None = no_value
hash_of (Some p) = value_in p.1

module _ (n : ℕ) (small : n < 2 ^ 32) (d : Node) (l : d.place < n / 2 ^ d.row) where
  abbrev at_place : Node × Bytes → Bool
  at_place p = same_place p.0 d

  pick_found : (ds : List Node) (cs : List Bytes) → AllByRecursion (λ e. e.place < n / 2 ^ e.row) ds
      → hash_of (find at_place (zip ds cs)) ≡ pick (numbered n (map node_of ds)) (map value_in cs) (position n d.row d.place)
  pick_found [] cs a = refl
  pick_found (e ∷ ds) [] a = refl
  pick_found (e ∷ ds) (c ∷ cs) a = go (same_place e d) (same_number n small e d a.0 l) (pick_found ds cs a.1)
    where
      go : (b : Bool) → eqb (position n d.row d.place) (position n e.row e.place) ≡ b
          → hash_of (find at_place (zip ds cs)) ≡ pick (numbered n (map node_of ds)) (map value_in cs) (position n d.row d.place)
          → hash_of (cond b (Some (e, c)) (find at_place (zip ds cs)))
          ≡ cond (eqb (position n d.row d.place) (position n e.row e.place)) (value_in c) (pick (numbered n (map node_of ds)) (map value_in cs) (position n d.row d.place))
      go true q ih = rw q refl
      go false q ih = rw q ih

module _ (bytes : Bytes) where
  abbrev chunks : List Bytes
  chunks = first_chunks 32 (length bytes / 32) bytes

  many : length chunks ≡ length bytes / 32
  many = length_chunks 32 (length bytes / 32) bytes

  chunk_values : map value_in chunks ≡ hashes_in bytes
  chunk_values =
      let a : length (map value_in chunks) ≡ length bytes / 32 = length-map chunks value_in ∙ many in
      let b : length (hashes_in bytes) ≡ length bytes / 32 = length_map_below (λ i. value_in (part (32 * i) 32 bytes)) (length bytes / 32) in
      same_lists (map value_in chunks) (hashes_in bytes) (a ∙ sym b) (λ k e h. each k e (omega arith))
    where
      each : (k : ℕ) (e : Value) → k < length bytes / 32 → get_or (map value_in chunks) k e ≡ get_or (hashes_in bytes) k e
      each k e h =
          let m = many in
          get_or-map value_in chunks k [] e (omega arith) ∙ ap value_in (chunk_at 32 (length bytes / 32) k bytes [] h)
          ∙ sym (get_or_below (λ i. value_in (part (32 * i) 32 bytes)) e (length bytes / 32) k h)

pub hash_found : (t : Targets) (bytes : Bytes) (ds : List Node) (d : Node) → t.count < 2 ^ 32 → inside t.count (node_of d) ≡ true
    → numbered t.count (map node_of ds) ≡ needed t.count (placed t) → All (λ e. inside t.count e ≡ true) (map node_of ds)
    → {chunks : List Bytes} → chunks ≡ first_chunks 32 (length bytes / 32) bytes → {x : Option (Node × Bytes)} → x ≡ find (λ p. same_place p.0 d) (zip ds chunks)
    → hash_of x ≡ (claims t bytes).hash d.row d.place
hash_found t bytes ds d small i are all {chunks} ce {x} e =
    ap hash_of (e ∙ ap (λ l. find (λ p. same_place p.0 d) (zip ds l)) ce)
    ∙ pick_found t.count small d (tree_inside t.count d.row d.place small i) ds (first_chunks 32 (length bytes / 32) bytes) (each ds (recursion_from_All (λ e. inside t.count e ≡ true) (map node_of ds) all))
    ∙ ap₂ (λ qs hs. pick qs hs (position t.count d.row d.place)) are (chunk_values bytes)
  where
    each : (es : List Node) → AllByRecursion (λ e. inside t.count e ≡ true) (map node_of es) → AllByRecursion (λ e. e.place < t.count / 2 ^ e.row) es
    each [] a = tt
    each (e ∷ es) a = (tree_inside t.count e.row e.place small a.0, each es a.1)

pub hash_read : (x : Option (Bor Node × Bor Bytes)) (v : Value) {P : Type 0} {Q : Bor Node × Bor Bytes → Type 0} → MatchOption x P Q → (P → v ≡ no_value) → ((p : Bor Node × Bor Bytes) → Q p → v ≡ value_in p.1.now)
    → v ≡ hash_of (option_map (λ p. (p.0.now, p.1.now)) x)
hash_read None v h f g = f h
hash_read (Some p) v h f g = g p h

-- Claimed values ---------------------------------------------------------------------

module _ (image : Image) (t : Targets) (bytes : Bytes) (table : AfterValues) (small : t.count < 2 ^ 32) (filled : Fills image (claims t bytes) table) where
  abbrev proof : Proof
  proof = claims t bytes

  -- what a row is searched for: its item, or else nothing is covered and the place is claimed by its hash
  pub claim_looked : (d : Node) → inside t.count (node_of d) ≡ true → {row : List Item} → row ≡ get_or (row_lists table) d.row [] → (x : Option Item) → x ≡ find (λ i. eqb i.place d.place) row
      → MatchOption x (proof.hash d.row d.place ≡ claimed image (claim_at proof d.row d.place)) (λ i. i.claim ≡ claimed image (claim_at proof d.row d.place))
  claim_looked d i {row} re x e = go (covered (placed t) (node_of d)) refl x (e ∙ lookup_find row d.place ∙ ap (λ (l : List Item). lookup l d.place) (re ∙ filled d.row low))
    where
      l : d.place < t.count / 2 ^ d.row
      l = tree_inside t.count d.row d.place small i

      low : d.row < 32
      low = row_low t.count d.row d.place small l

      go : (b : Bool) → covered (placed t) (node_of d) ≡ b → (x : Option Item) → x ≡ lookup (map (entry image proof d.row) (covered_places t.count (placed t) d.row)) d.place
          → MatchOption x (proof.hash d.row d.place ≡ claimed image (claim_at proof d.row d.place)) (λ i. i.claim ≡ claimed image (claim_at proof d.row d.place))
      go true q x e = found x (e ∙ lookup_some image proof d.row (covered_places t.count (placed t) d.row) d.place (mem_filter (λ o. covered (placed t) (at_node d.row o)) (below (t.count / 2 ^ d.row)) d.place (below_mem (t.count / 2 ^ d.row) d.place l) q))
        where
          found : (x : Option Item) → x ≡ Some (entry image proof d.row d.place) → MatchOption x (proof.hash d.row d.place ≡ claimed image (claim_at proof d.row d.place)) (λ i. i.claim ≡ claimed image (claim_at proof d.row d.place))
          found None z = absurd (never (entry image proof d.row d.place) z)
          found (Some i) z = ap (λ (i : Item). i.claim) (some_inj i (entry image proof d.row d.place) z)
      go false q x e = missing x (e ∙ lookup_none image proof d.row (covered_places t.count (placed t) d.row) d.place
          (λ m. both_ways (covered (placed t) (node_of d)) q (filter_mem (λ o. covered (placed t) (at_node d.row o)) (below (t.count / 2 ^ d.row)) d.place m).1))
        where
          missing : (x : Option Item) → x ≡ None → MatchOption x (proof.hash d.row d.place ≡ claimed image (claim_at proof d.row d.place)) (λ i. i.claim ≡ claimed image (claim_at proof d.row d.place))
          missing None z = sym (ap (claimed image) (claim_given proof d.row d.place (clear_target (placed t) d.row d.place q) q))
          missing (Some i) z = absurd (never i (sym z))

-- Claimed inputs ---------------------------------------------------------------------

no_coin_target : (x : Option Target) → None ≡ coin_of x → x ≡ None
no_coin_target None e = refl
no_coin_target (Some t) e = absurd (never t.coin e)

coin_target : (x : Option Target) (c : Coin) → Some c ≡ coin_of x → (t : Target) × (x ≡ Some t) × (t.coin ≡ c)
coin_target None c e = absurd (never c (sym e))
coin_target (Some t) c e = (t, refl, some_inj t.coin c (sym e))

-- both children of a place of the forest are in it
pub record Children (n b o : ℕ) : Type 0 where
  pub fit : 2 * o + 1 < 2 ^ 32
  pub left : inside n (at_node b (2 * o)) ≡ true
  pub right : inside n (at_node b (2 * o + 1)) ≡ true

pub children : (n r b o : ℕ) → n < 2 ^ 32 → inside n (at_node r o) ≡ true → 1 ≤ r → b ≡ r - 1 → Children n b o
children n r b o small i low e =
    let one : r ≡ suc b = omega arith in
    let l : o < n / 2 ^ suc b = subst (λ x. o < n / 2 ^ x) one (tree_inside n r o small i) in
    let h = half_row n b in
    let d = div-le_self n (2 ^ b) in
    record { fit = omega arith; left = inside_tree n b (2 * o) small (omega arith); right = inside_tree n b (2 * o + 1) small (omega arith) }

module _ (image : Image) (p : Proof) (r o : ℕ) where
  pub input_spent : (c : Coin) → Some c ≡ coin_of (target_at p.targets (at_node r o)) → Some (Leaf c) ≡ claimed_input image (claim_at p r o)
  input_spent c e = go (coin_target (target_at p.targets (at_node r o)) c e)
    where
      go : (t : Target) × (target_at p.targets (at_node r o) ≡ Some t) × (t.coin ≡ c) → Some (Leaf c) ≡ claimed_input image (claim_at p r o)
      go (t, q, z) = ap (λ (x : Coin). Some (Leaf x)) (sym z) ∙ ap (claimed_input image) (sym (claim_spent p r o t q))

  pub input_low : r ≡ 0 → None ≡ coin_of (target_at p.targets (at_node r o)) → None ≡ claimed_input image (claim_at p r o)
  input_low e q =
      subst (λ x. None ≡ coin_of (target_at p.targets (at_node x o)) → None ≡ claimed_input image (claim_at p x o)) (sym e)
      (λ k. sym (ap (claimed_input image) (low (target_at p.targets (at_node 0 o)) (no_coin_target (target_at p.targets (at_node 0 o)) k)))) q
    where
      low : (x : Option Target) → x ≡ None → elim x [ None ↦ given (p.hash 0 o) | Some t ↦ spent t.coin ] ≡ given (p.hash 0 o)
      low None e = refl
      low (Some t) e = absurd (never t (sym e))

  pub input_both : (b : ℕ) → r ≡ suc b → None ≡ coin_of (target_at p.targets (at_node r o)) → covered p.targets (at_node r o) ≡ true
      → (v w : Value) → v ≡ claimed image (claim_at p b (2 * o)) → w ≡ claimed image (claim_at p b (2 * o + 1)) → Some (Pair v w) ≡ claimed_input image (claim_at p r o)
  input_both b e q k v w l m =
      ap₂ (λ (x y : Value). Some (Pair x y)) l m
      ∙ subst (λ x. None ≡ coin_of (target_at p.targets (at_node x o)) → covered p.targets (at_node x o) ≡ true
      → Some (Pair (claimed image (claim_at p b (2 * o))) (claimed image (claim_at p b (2 * o + 1)))) ≡ claimed_input image (claim_at p x o)) (sym e)
      (λ q k. sym (ap (claimed_input image) (claim_both p b o (no_coin_target (target_at p.targets (at_node (suc b) o)) q) k))) q k
