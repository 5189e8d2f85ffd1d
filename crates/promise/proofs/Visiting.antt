-- A challenge finds two inputs of one image, or finds every claim to be right.
use Rattle.std.proofs.Common.{◌≡◌, ℕ, zero, suc, ◌+◌, ◌-◌, ◌^◌, ◌<◌, ◌≤◌, Bool, true, false, cond, ◌⊎◌, List, [], ◌∷◌, ◌++◌, reverse, length, Some, None, Option, sym, refl, ap, ◌∙◌, subst, inl, inr, arith}
use mathlib.Core.List.{reverse-append}
use Rattle.std.proofs.lemmas.Bool.{cases_eq}
use Rattle.utreexo.specs.declared.types.Coin.{Coin}
use Rattle.utreexo.specs.declared.types.Input.{Input}
use Rattle.utreexo.specs.declared.types.Value.{Value}
use Rattle.utreexo.specs.Lists.{below, filter}
use Rattle.utreexo.specs.Values.{Image, same_input}
use Rattle.utreexo.specs.Forest.{Slots, Node, at_node, rows, position, locate}
use Rattle.utreexo.specs.Claims.{Target, covered, proof_of, claim_at, claimed_input}
use Rattle.utreexo.specs.Collection.{own_input, Verdict, differs, covered_at, visited, compared, visit}
use Rattle.utreexo.specs.Promise.{Evidence}
use Rattle.laws.proofs.Logic.{never, true_false, some_inj}
use Rattle.laws.proofs.Members.{filter_append}
use Rattle.laws.proofs.Place.{up}
use Rattle.laws.proofs.Same.{input_eq, input_apart}
use Rattle.laws.proofs.Tree.{map_o, Preimage, of_coin, of_two, grow}
use Rattle.laws.proofs.Claim.{Assertion, target, by_hash, node, covers, claim, asserted_input, Apart}
use Rattle.laws.proofs.Forest.{slot_of}
use Rattle.laws.proofs.Tops.{Over}
use Rattle.laws.proofs.Block.{own_input_in, In, roots_match, difference}
use Rattle.laws.proofs.Strikes.{inp, img}
use Rattle.laws.proofs.Positions.{Located, locate_at, locate_is, position_low, position_higher}
use Rattle.laws.proofs.Claiming.{tgt, cover_same, claim_is, input_asserted}
use Rattle.laws.proofs.Live.{top_over}
use Rattle.laws.proofs.Own.{own_same}
use Rattle.laws.proofs.Needed.{hash_of}
use Rattle.laws.proofs.Fits.{ClaimsFit}
use Rattle.laws.proofs.Genuine.{RootsMatch}

-- the numbers below k that pass, the highest first
abbrev down : (ℕ → Bool) → ℕ → List ℕ
down p zero = []
down p (suc k) = cond (p k) (k ∷ down p k) (down p k)

-- the positions that pass, the highest number first
reverse_down : (p : ℕ → Bool) (k : ℕ) → reverse (filter p (below k)) ≡ down p k
reverse_down p zero = refl
reverse_down p (suc k) =
    ap reverse (filter_append p (below k) (k ∷ [])) ∙ reverse-append (filter p (below k)) (filter p (k ∷ [])) ∙ go (p k) (reverse_down p k)
  where
    go : (b : Bool) → reverse (filter p (below k)) ≡ down p k → reverse (cond b (k ∷ []) []) ++ reverse (filter p (below k)) ≡ cond b (k ∷ down p k) (down p k)
    go true e = ap (λ z. k ∷ z) e
    go false e = e

inp_inj : (i j : Preimage Coin Value) → inp i ≡ inp j → i ≡ j
inp_inj (of_coin a) (of_coin b) e = cc
inp_inj (of_coin a) (of_two b c) e = let z : ◌≡◌ {A = ℕ} 0 1 = cc in absurd (omega arith)
inp_inj (of_two b c) (of_coin a) e = let z : ◌≡◌ {A = ℕ} 0 1 = cc in absurd (omega arith)
inp_inj (of_two a b) (of_two c d) e = cc

inps_inj : (i j : Option (Preimage Coin Value)) → map_o inp i ≡ map_o inp j → i ≡ j
inps_inj None None e = refl
inps_inj None (Some j) e = absurd (never (inp j) e)
inps_inj (Some i) None e = absurd (never (inp i) (sym e))
inps_inj (Some i) (Some j) e = ap (λ x. Some x) (inp_inj i j (some_inj (inp i) (inp j) e))

asserted_some : (image : Image) (a : Assertion Coin Value) → covers a ≡ true → (i : Preimage Coin Value) × (asserted_input (img image) a ≡ Some i)
asserted_some image (target c) e = (of_coin c, refl)
asserted_some image (by_hash v) e = absurd (true_false false e refl)
asserted_some image (node a b) e = (_, refl)

module _ (image : Image) (s : Slots) (small : length s < 2 ^ 32) (ts : List Target) (hs : List Value)
    (fit : ClaimsFit image s small ts hs) (apart : Apart (tgt ts) (hash_of (length s) ts hs)) where
  -- the hashes, the claims and the inputs that the theory has of this proof
  abbrev hash : ℕ → ℕ → Value
  hash = hash_of (length s) ts hs

  abbrev claims : ℕ → ℕ → Assertion Coin Value
  claims = claim (tgt ts) hash

  abbrev InTree : ℕ → ℕ → ℕ → ℕ → ℕ → Type 0
  InTree = In (img image) (slot_of s) (length s) (tgt ts) hash

  abbrev own_in_tree : ℕ → ℕ → ℕ → ℕ → Option (Preimage Coin Value)
  own_in_tree = own_input_in (img image) (slot_of s) (length s) (tgt ts) hash

  -- the input that the proof claims at a position
  abbrev claimed_there : ℕ → ℕ → Option Input
  claimed_there r o = claimed_input image (claim_at (proof_of (length s) ts hs) r o)

  -- the verdict of a visit of the covered positions below a number
  abbrev verdict : ℕ → Verdict
  verdict k = visit image s (proof_of (length s) ts hs) (down (covered_at (length s) ts) k)

  -- claimed and own input agree at a position, and from a number on
  abbrev AgreeAt : ℕ → ℕ → Type 0
  AgreeAt r o = own_input image s r o ≡ claimed_there r o

  -- each covered position whose number is at least k agrees
  abbrev AgreeFrom : ℕ → Type 0
  AgreeFrom k = (q : ℕ) (e : Node) → k ≤ q → locate (length s) q ≡ Some e → covered ts e ≡ true → AgreeAt e.row e.place

  -- they are the own and the claimed input of the definitions
  own_in : (k p d r o : ℕ) → InTree k p d r o → own_input image s r o ≡ map_o inp (own_in_tree k p d o)
  own_in k p d r o a = own_same image s small k p a.top (grow (slot_of s) k p) refl r d o a.rows a.above

  claim_in : (r o : ℕ) → claimed_there r o ≡ map_o inp (asserted_input (img image) (claims r o))
  claim_in r o = ap (claimed_input image) (claim_is (proof_of (length s) ts hs) r o) ∙ input_asserted image (claims r o)

  over_inside : (r o k : ℕ) (v : Over (length s) r o k) → InTree k (up v.rows o) v.rows r o
  over_inside r o k v = record { top = v.top; rows = v.sum; above = refl }

  -- own and claimed input of a position, with one image
  abbrev FoundTwo : ℕ → ℕ → Type 0
  FoundTwo r o = (x : Input) × (y : Input) × (own_input image s r o ≡ Some x) × (claimed_there r o ≡ Some y) × (image x ≡ image y)

  -- a covered position has such inputs, if each one of a higher number agrees
  two_inputs : (q : ℕ) (e : Node) → locate (length s) q ≡ Some e → covered ts e ≡ true → AgreeFrom (suc q) → FoundTwo e.row e.place
  two_inputs q e l c above = go (locate_is (length s) q e l)
    where
      go : Located (length s) q e → FoundTwo e.row e.place
      go f = last (asserted_some image (claims e.row e.place) cov)
        where
          cov : covers (claims e.row e.place) ≡ true
          cov = sym (cover_same ts hash e.row e.place) ∙ c

          here : InTree f.top (up f.over.rows e.place) f.over.rows e.row e.place
          here = over_inside e.row e.place f.top f.over

          last : (i : Preimage Coin Value) × (asserted_input (img image) (claims e.row e.place) ≡ Some i) → FoundTwo e.row e.place
          last (i, w) =
              let (j, x, y) = difference (img image) (slot_of s) (length s) (tgt ts) hash fit apart
              f.top (up f.over.rows e.place) f.over.rows e.row e.place i here cov w
              (λ d' r' o' a b z.
              let u = top_over (length s) f.top (up f.over.rows e.place) d' r' o' a.top a.rows a.above in
              let h = position_higher (length s) small e.row e.place f.top r' o' f.over b in
              let g = above (position (length s) r' o') (at_node r' o') (omega (arith, h, f.number))
              (locate_at (length s) small r' o' f.top u) (cover_same ts hash r' o' ∙ z) in
              inps_inj (own_in_tree f.top (up f.over.rows e.place) d' o') (asserted_input (img image) (claims r' o'))
              (sym (own_in f.top (up f.over.rows e.place) d' r' o' a) ∙ g ∙ claim_in r' o')) in (
                inp j,
                inp i,
                own_in f.top (up f.over.rows e.place) f.over.rows e.row e.place here ∙ ap (map_o inp) x,
                claim_in e.row e.place ∙ ap (map_o inp) w,
                y,
              )

  -- what a challenge may end with
  abbrev Outcome : Verdict → Type 0
  Outcome v = Evidence image v ⊎ AgreeFrom 0

  -- going down, all that were visited agree, or there is evidence
  visiting : (k : ℕ) → AgreeFrom k → Outcome (verdict k)
  visiting zero agree = inr agree
  visiting (suc k) agree = go (covered_at (length s) ts k) refl (visiting k)
    where
      bare : covered_at (length s) ts k ≡ false → AgreeFrom k
      bare n q e l w c =
          elim (cases_eq q k) [
            | inl x ↦ absurd (true_false (covered ts e) c
                (sym (ap (λ z. elim z [ None ↦ false | Some e ↦ covered ts e ]) (ap (locate (length s)) (sym x) ∙ w)) ∙ n))
            | inr x ↦ agree q e (omega arith) w c
          ]

      more : (e : Node) → locate (length s) k ≡ Some e → AgreeAt e.row e.place → AgreeFrom k
      more e w a q d l w' c =
          elim (cases_eq q k) [
            | inl x ↦ (let z : e ≡ d = some_inj e d (sym w ∙ ap (locate (length s)) (sym x) ∙ w') in
                subst (λ (d : Node). AgreeAt d.row d.place) z a)
            | inr x ↦ agree q d (omega arith) w' c
          ]

      judge : (e : Node) → locate (length s) k ≡ Some e → (AgreeFrom k → Outcome (verdict k))
          → (x y : Input) → own_input image s e.row e.place ≡ Some x → claimed_there e.row e.place ≡ Some y → image x ≡ image y
          → (b : Bool) → same_input x y ≡ b → Outcome (cond b (verdict k) (differs k x y))
      judge e w ih x y a c i true q = ih (more e w (a ∙ ap (λ z. Some z) (input_eq x y q) ∙ sym c))
      judge e w ih x y a c i false q = inl (input_apart x y q, i)

      here : (z : Option Node) → locate (length s) k ≡ z → elim z [ None ↦ false | Some e ↦ covered ts e ] ≡ true
          → (AgreeFrom k → Outcome (verdict k))
          → Outcome (elim z [
            | None ↦ verdict k
            | Some e ↦ compared k (own_input image s e.row e.place) (claimed_there e.row e.place) (verdict k)
          ])
      here None w n ih = absurd (true_false false n refl)
      here (Some e) w n ih =
          let (x, y, a, c, i) = two_inputs k e w n agree in
          subst (λ z. Outcome (compared k z (claimed_there e.row e.place) (verdict k))) (sym a)
          (subst (λ z. Outcome (compared k (Some x) z (verdict k))) (sym c) (judge e w ih x y a c i (same_input x y) refl))

      go : (b : Bool) → covered_at (length s) ts k ≡ b → (AgreeFrom k → Outcome (verdict k))
          → Outcome (visit image s (proof_of (length s) ts hs) (cond b (k ∷ down (covered_at (length s) ts) k) (down (covered_at (length s) ts) k)))
      go true n ih = here (locate (length s) k) refl n ih
      go false n ih = ih (bare n)

  -- where all agree, every claim matches
  agree_match : AgreeFrom 0 → RootsMatch image s small ts hs
  agree_match agree =
      roots_match (img image) (slot_of s) (length s) (tgt ts) hash fit
      (λ k p d r o a c.
      let u = top_over (length s) k p d r o a.top a.rows a.above in
      inps_inj (own_in_tree k p d o) (asserted_input (img image) (claims r o))
      (sym (own_in k p d r o a)
      ∙ agree (position (length s) r o) (at_node r o) (omega arith) (locate_at (length s) small r o k u) (cover_same ts hash r o ∙ c)
      ∙ claim_in r o))

  -- every position of the forest has a number below this
  high : AgreeFrom (2 ^ (rows (length s) + 1) - 1)
  high q e l w c =
      let f = locate_is (length s) q e w in
      absurd (omega (arith, position_low (length s) small e.row e.place f.top f.over, f.number))

  -- the challenge finds evidence, or every claim matches
  pub challenged : Evidence image (visit image s (proof_of (length s) ts hs) (visited (length s) ts)) ⊎ RootsMatch image s small ts hs
  challenged =
      elim (visiting (2 ^ (rows (length s) + 1) - 1) high) [
        | inl e ↦ inl (subst (λ l. Evidence image (visit image s (proof_of (length s) ts hs) l))
            (sym (reverse_down (covered_at (length s) ts) (2 ^ (rows (length s) + 1) - 1))) e)
        | inr a ↦ inr (agree_match a)
      ]
