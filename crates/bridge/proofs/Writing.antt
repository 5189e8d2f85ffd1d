-- What a written block spends, and the chain of checks before it is written.
use Rattle.std.proofs.Common.{◌≡◌, ℕ, ◌+◌, ◌<◌, ◌≤◌, Bool, true, false, not, ◌||◌, eqb, ltb, List, [], ◌∷◌, ◌++◌, length, get_or, take, is_some, Some, None, Option, Ok, Err, Result, IsErrAnd, sym, refl, ap, ◌∙◌, ap₂, arith}
use Rattle.std.proofs.lemmas.Bool.{le-ltb, ltb-false, eq-eqb, or_parts}
use Rattle.std.proofs.lemmas.List.{take_more, map-append, length-map}
use Rattle.std.specs.List.{list_any}
use Rattle.utreexo.specs.declared.types.Coin.{Coin}
use Rattle.utreexo.specs.declared.types.Position.{Position}
use Rattle.utreexo.specs.declared.types.Value.{Value}
use Rattle.utreexo.specs.Bytes.{Bytes}
use Rattle.utreexo.specs.Lists.{any}
use Rattle.utreexo.specs.Values.{Image}
use Rattle.utreexo.specs.Forest.{Slots, Node, locate}
use Rattle.utreexo.specs.Blocks.{composed, ascending}
use Rattle.utreexo.specs.Checks.{Cause, cause, refusal, granted, refused, over, output, most_slots, named, above_another, compose_causes, compose, outside}
use Rattle.utreexo.specs.Collection.{coin_at, no_coin, coins_at, fresh, block_for, write_causes, write}
use Rattle.refusal.specs.declared.Refusal.{Refusal}
use Rattle.refusal.specs.Numbers.{number}
use Rattle.utreexo.specs.Outcomes.{answered}
use Rattle.laws.proofs.Causes.{refusal_none, refusal_some, free, freed}
use Rattle.block.specs.Compose.{numbers}
use Rattle.targets.specs.Targets.{target_causes}
use Rattle.bridge.specs.Spends.{coin_having, coin_or, lacks}

pub turned : (x : Option Coin) (r : Bool) → is_some x ≡ not r → r ≡ not (is_some x)
turned x true e = ap not (sym e)
turned x false e = ap not (sym e)

module _ (image : Image) (s : Slots) where
  at_position : (x : Option Node) → elim x [ None ↦ no_coin | Some e ↦ (elim (coin_at image s e) [ None ↦ no_coin | Some c ↦ c ]) ] ≡ coin_or (elim x [ None ↦ None | Some e ↦ coin_at image s e ])
  at_position None = refl
  at_position (Some e) = go (coin_at image s e)
    where
      go : (x : Option Coin) → elim x [ None ↦ no_coin | Some c ↦ c ] ≡ coin_or x
      go None = refl
      go (Some c) = refl

  pub coins_more : (ps : List Position) (i : ℕ) (d : Position) (c : Coin) (cs : List Coin) → i < length ps → c ≡ coin_or (coin_having image s (get_or ps i d).number)
      → cs ≡ coins_at image s (numbers (take i ps)) → cs ++ c ∷ [] ≡ coins_at image s (numbers (take (i + 1) ps))
  coins_more ps i d c cs l e f =
      ap₂ (λ xs x. xs ++ x ∷ []) f (e ∙ sym (at_position (locate (length s) (get_or ps i d).number)))
      ∙ sym (ap (coins_at image s) (ap numbers (take_more ps i d l) ∙ map-append (λ (p : Position). p.number) (take i ps) (get_or ps i d ∷ []))
      ∙ map-append (λ p. elim (locate (length s) p) [ None ↦ no_coin | Some e ↦ (elim (coin_at image s e) [ None ↦ no_coin | Some c ↦ c ]) ]) (numbers (take i ps)) ((get_or ps i d).number ∷ []))

  -- whether a position has no coin, and whether some one has none
  pub lacks_so : (p : ℕ) → not (is_some (coin_having image s p)) ≡ lacks image s p
  lacks_so p = go (locate (length s) p)
    where
      go : (x : Option Node) → not (is_some (elim x [ None ↦ None | Some e ↦ coin_at image s e ])) ≡ elim x [ None ↦ true | Some e ↦ not (is_some (coin_at image s e)) ]
      go None = refl
      go (Some e) = refl

  pub any_lacks : (ps : List Position) → list_any (λ p. lacks image s p.number) ps ≡ any (lacks image s) (numbers ps)
  any_lacks [] = refl
  any_lacks (p ∷ ps) = ap (λ b. lacks image s p.number || b) (any_lacks ps)

  -- The chain of checks, for as many positions and coins as a block can have.
  module _ (ps : List ℕ) (cs : List Coin) (few : length ps ≤ 32) (few_coins : length cs ≤ 32) where
    abbrev mid : List Cause
    mid = cause 4 (not (ascending ps)) ∷ cause 6 (any (outside (length s)) ps) ∷ cause 7 (above_another (named (length s) ps (coins_at image s ps))) ∷ []

    abbrev last : Bool → Bool → List Cause
    last a d = cause 11 a ∷ cause 16 d ∷ []

    abbrev all_causes : List Cause
    all_causes = write_causes image s ps cs

    abbrev ends : List Cause
    ends = last (ltb most_slots (length s + length cs)) (any (lacks image s) ps)

    within : (ltb 32 (length ps) || ltb 32 (length cs)) ≡ false
    within = ap₂ ◌||◌ (le-ltb 32 (length ps) few) (le-ltb 32 (length cs) few_coins)

    whole : refusal all_causes ≡ refusal (mid ++ ends)
    whole = refusal_none (cause 2 (ltb 32 (length ps) || ltb 32 (length cs)) ∷ []) (mid ++ ends) (freed (cause 2 (ltb 32 (length ps) || ltb 32 (length cs)) ∷ []) (within, tt))

    module _ (n : ℕ) (count : n ≡ length s) (spent : List Coin) (are : spent ≡ coins_at image s ps) where
      many : not (eqb (length ps) (length (coins_at image s ps))) ≡ false
      many = ap not (eq-eqb (length ps) (length (coins_at image s ps)) (sym (length-map ps (λ p. elim (locate (length s) p) [ None ↦ no_coin | Some e ↦ (elim (coin_at image s e) [ None ↦ no_coin | Some c ↦ c ]) ]))))

      places : refusal (target_causes n ps spent) ≡ refusal mid
      places =
          ap₂ (λ n cs. refusal (target_causes n ps cs)) count are
          ∙ refusal_none (cause 2 (ltb 32 (length ps)) ∷ cause 3 (not (eqb (length ps) (length (coins_at image s ps)))) ∷ []) mid
          (freed (cause 2 (ltb 32 (length ps)) ∷ cause 3 (not (eqb (length ps) (length (coins_at image s ps)))) ∷ []) (le-ltb 32 (length ps) few, (many, tt)))

      pub not_placed : (k : ℕ) → refusal (target_causes n ps spent) ≡ Some k → refusal all_causes ≡ Some k
      not_placed k e = whole ∙ refusal_some mid ends k (sym places ∙ e)

      module _ (none : refusal (target_causes n ps spent) ≡ None) where
        with_last : (a d : Bool) → ltb most_slots (length s + length cs) ≡ a → any (lacks image s) ps ≡ d → refusal all_causes ≡ refusal (last a d)
        with_last a d e f = whole ∙ refusal_none mid ends (sym places ∙ none) ∙ ap₂ (λ a d. refusal (last a d)) e f

        pub too_many : (k : ℕ) → refusal (cause 11 (ltb most_slots (n + length cs)) ∷ []) ≡ Some k → refusal all_causes ≡ Some k
        too_many k e =
            whole ∙ refusal_none mid ends (sym places ∙ none) ∙ refusal_some (cause 11 (ltb most_slots (length s + length cs)) ∷ []) (cause 16 (any (lacks image s) ps) ∷ []) k
            (ap (λ n. refusal (cause 11 (ltb most_slots (n + length cs)) ∷ [])) (sym count) ∙ e)

        pub missing : n + length cs ≤ most_slots → any (lacks image s) ps ≡ true → refusal all_causes ≡ Some 16
        missing l e = with_last false true (le-ltb most_slots (length s + length cs) (omega arith)) e

        pub all_pass : n + length cs ≤ most_slots → any (lacks image s) ps ≡ false → refusal all_causes ≡ None
        all_pass l e = with_last false false (le-ltb most_slots (length s + length cs) (omega arith)) e

-- Outputs ---------------------------------------------------------------------------------

pub output_refused : (causes : List Cause) (r out : Bytes) (k : ℕ) → refusal causes ≡ Some k → output causes r out ≡ refused k
output_refused causes r out k e = ap (λ z. elim z [ Some k ↦ refused k | None ↦ granted (over r out) ]) (refusal_some causes (cause 19 (ltb (length out) (length r)) ∷ []) k e)

pub output_free : (causes : List Cause) (r out : Bytes) → refusal causes ≡ None → output causes r out ≡ output [] r out
output_free causes r out e = ap (λ z. elim z [ Some k ↦ refused k | None ↦ granted (over r out) ]) (refusal_none causes (cause 19 (ltb (length out) (length r)) ∷ []) e)

-- a block of such parts is composed
pub composed_so : (ps : List ℕ) (spent : List Coin) (hashes : List Value) (cs : List Coin) (out : Bytes) → length ps ≤ 32 → length spent ≡ length ps → length hashes ≤ 992 → length cs ≤ 32
    → compose ps spent hashes cs out ≡ output [] (composed (record { targets = ps; spent = spent; hashes = hashes; coins = cs })) out
composed_so ps spent hashes cs out few same few_hashes few_coins =
    let r = composed (record { targets = ps; spent = spent; hashes = hashes; coins = cs }) in
    let causes = compose_causes (length ps) (length spent) (length hashes) (length cs) in
    output_free causes r out (freed causes (
      ap₂ ◌||◌ (le-ltb 32 (length ps) few) (ap₂ ◌||◌ (le-ltb 32 (length spent) (omega arith)) (ap₂ ◌||◌ (le-ltb 992 (length hashes) few_hashes) (le-ltb 32 (length cs) few_coins))),
      (ap not (eq-eqb (length ps) (length spent) (sym same)), tt),
    ))

module _ (image : Image) (s : Slots) (ps : List ℕ) (cs : List Coin) (out : Bytes) where
  pub written_so : refusal (write_causes image s ps cs) ≡ None → (spent : List Coin) (hashes : List Value) → spent ≡ coins_at image s ps
      → hashes ≡ fresh image s (named (length s) ps (coins_at image s ps)) → length hashes ≤ 992 → compose ps spent hashes cs out ≡ write image s ps cs out
  written_so none spent hashes are fresh_are few =
      let (f, rest) = free (write_causes image s ps cs) none in
      let (a, b) = or_parts (ltb 32 (length ps)) (ltb 32 (length cs)) f in
      composed_so ps spent hashes cs out (ltb-false 32 (length ps) a)
      (ap length are ∙ length-map ps (λ p. elim (locate (length s) p) [ None ↦ no_coin | Some e ↦ (elim (coin_at image s e) [ None ↦ no_coin | Some c ↦ c ]) ])) few (ltb-false 32 (length cs) b)
      ∙ ap₂ (λ us hs. output [] (composed (record { targets = ps; spent = us; hashes = hs; coins = cs })) out) are fresh_are
      ∙ sym (output_free (write_causes image s ps cs) (composed (block_for image s ps cs)) out none)

  pub not_written : (r : Result ℕ Refusal) (e : Refusal) → IsErrAnd r (λ y. y ≡ e) → refusal (write_causes image s ps cs) ≡ Some (number e)
      → answered r out ≡ write image s ps cs out
  not_written (Ok n) e h k = absurd h
  not_written (Err y) e h k =
      ap (λ (x : Refusal). refused (number x)) h ∙ sym (output_refused (write_causes image s ps cs) (composed (block_for image s ps cs)) out (number e) k)
