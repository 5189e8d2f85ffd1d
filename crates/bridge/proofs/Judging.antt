-- What the checks of a block find.
use Rattle.std.proofs.Common.{◌≡◌, ℕ, zero, suc, ◌+◌, ◌*◌, ◌/◌, ◌^◌, ◌&&◌, ext_get_or, ◌<◌, ◌≤◌, Bool, true, false, not, ◌||◌, List, [], ◌∷◌, ◌++◌, map, length, get_or, take, None, Option, sym, refl, ap, ◌∙◌, subst, ap₂, arith}
use Rattle.std.specs.List.{All, list_all, zip}
use Rattle.std.specs.Simd.{first_chunks}
use Rattle.utreexo.specs.Bytes.{Bytes, part, value_in}
use Rattle.utreexo.specs.Values.{same_value}
use Rattle.utreexo.specs.Claims.{no_value}
use Rattle.utreexo.specs.Collection.{same_values}
use Rattle.climb.specs.Held.{hashes_in}
use Rattle.climb.proofs.Chunks.{chunk_at, length_chunks}
use Rattle.laws.proofs.Ranges.{get_or_below, length_map_below}
use Rattle.std.specs.Option.{MatchOption}
use Rattle.std.proofs.lemmas.List.{take_more, map-append, length-map, get_or-map, length-take-le}
use Rattle.std.proofs.lemmas.Simd.{map-map}
use Rattle.std.proofs.lemmas.List.Elements.{All-get_or}
use Rattle.std.proofs.lemmas.Bool.{or_left, or_right}
use Rattle.utreexo.specs.declared.types.Value.{Value}
use Rattle.utreexo.specs.Lists.{any}
use Rattle.utreexo.specs.Values.{Image}
use Rattle.utreexo.specs.Forest.{Slots, position}
use Rattle.utreexo.specs.Claims.{Target, needed}
use Rattle.utreexo.specs.Collection.{target_live, fresh_value, fresh}
use Rattle.place.specs.declared.Node.{Node}
use Rattle.place.specs.Nodes.{node_of, inside, number_at}
use Rattle.climb.specs.declared.needed.Needed.{Needed}
use Rattle.climb.specs.Needed.{nodes_of, numbered}
use Rattle.laws.proofs.Count.{needed_few}
use Rattle.laws.proofs.Members.{any_append}
use Rattle.targets.specs.declared.spend.Spend.{Spend}
use Rattle.targets.specs.Spends.{target_of, targets}
use Rattle.undo.specs.declared.mark.Blanked.{Blanked}
use Rattle.undo.specs.Marks.{target_entry}

module _ (image : Image) (s : Slots) where
  abbrev pub dead : Target → Bool
  dead t = not (target_live image s t)

  -- the slots of the first i targets were found
  pub record SoFar (spends : List Spend) (i : ℕ) (found : List Blanked) : Type 0 where
    pub none : any dead (targets (take i spends)) ≡ false
    pub are : found ≡ map (target_entry image s) (targets (take i spends))

  pub so_far_none : (spends : List Spend) (found : List Blanked) → found ≡ [] → SoFar spends 0 found
  so_far_none spends found e = record { none = refl; are = e }

  targets_more : (spends : List Spend) (i : ℕ) (x : Spend) → i < length spends → get_or spends i x ≡ x → targets (take (i + 1) spends) ≡ targets (take i spends) ++ target_of x ∷ []
  targets_more spends i x l e = ap targets (take_more spends i x l) ∙ ap (λ z. targets (take i spends ++ z ∷ [])) e ∙ map-append target_of (take i spends) (x ∷ [])

  or_one : (b : Bool) → b ≡ false → (b || false) ≡ false
  or_one b e = ap (λ z. z || false) e

  pub so_far_more : (spends : List Spend) (i : ℕ) (x : Spend) (found : List Blanked) (b : Blanked) → i < length spends → get_or spends i x ≡ x → target_live image s (target_of x) ≡ true
      → b ≡ target_entry image s (target_of x) → SoFar spends i found → SoFar spends (i + 1) (found ++ b ∷ [])
  so_far_more spends i x found b l e live q f =
      let m = targets_more spends i x l e in
      record {
        none = ap (any dead) m ∙ any_append dead (targets (take i spends)) (target_of x ∷ []) ∙ ap₂ ◌||◌ f.none (or_one (dead (target_of x)) (ap not live));
        are = ap₂ (λ ys y. ys ++ y ∷ []) f.are q ∙ sym (ap (map (target_entry image s)) m ∙ map-append (target_entry image s) (targets (take i spends)) (target_of x ∷ []));
      }

  -- a target that is not live
  dead_there : (spends : List Spend) (i : ℕ) (d : Spend) → i < length spends → target_live image s (target_of (get_or spends i d)) ≡ false → any dead (targets spends) ≡ true
  dead_there [] i d l e = absurd (omega arith)
  dead_there (x ∷ xs) zero d l e = or_left (dead (target_of x)) (any dead (targets xs)) (ap not e)
  dead_there (x ∷ xs) (suc i) d l e = or_right (dead (target_of x)) (any dead (targets xs)) (dead_there xs i d (omega arith) e)

  pub not_found : {A : Type 0} (spends : List Spend) (ts : List Target) (i : ℕ) (d : Spend) (Q : A → Type 0) (o : Option A) → targets spends ≡ ts → i < length spends
      → target_live image s (target_of (get_or spends i d)) ≡ false → o ≡ None → MatchOption o (any dead ts ≡ true) Q
  not_found spends ts i d Q o are l e none =
      subst (λ o. MatchOption o (any dead ts ≡ true) Q) (sym none) (ap (any dead) (sym are) ∙ dead_there spends i d l e)

-- The fresh values at needed places, in a forest of n slots.
module _ (image : Image) (s : Slots) (n : ℕ) (forest : n ≡ length s) where
  abbrev pub fresh_there : Node → Value
  fresh_there d = fresh_value image s (number_at n (node_of d))

  pub fresh_more : (ds : List Node) (i : ℕ) (d : Node) (v : Value) (vs : List Value) → i < length ds → inside n (node_of (get_or ds i d)) ≡ true
      → (inside (length s) (node_of (get_or ds i d)) ≡ true → v ≡ fresh_value image s (number_at (length s) (node_of (get_or ds i d))))
      → vs ≡ map fresh_there (take i ds) → vs ++ v ∷ [] ≡ map fresh_there (take (i + 1) ds)
  fresh_more ds i d v vs l e f h =
      let w : v ≡ fresh_there (get_or ds i d) =
      f (ap (λ n. inside n (node_of (get_or ds i d))) (sym forest) ∙ e) ∙ ap (λ n. fresh_value image s (number_at n (node_of (get_or ds i d)))) (sym forest) in
      ap₂ (λ xs x. xs ++ x ∷ []) h w ∙ sym (ap (map fresh_there) (take_more ds i d l) ∙ map-append fresh_there (take i ds) (get_or ds i d ∷ []))

  module _ (t : Needed) (ds : List Node) (ts : List Target) (are : map node_of ds ≡ nodes_of t) (positions : numbered n (nodes_of t) ≡ needed n ts) where
    pub there : (i : ℕ) (d : Node) → i < length ds → All (λ e. inside n e ≡ true) (nodes_of t) → inside n (node_of (get_or ds i d)) ≡ true
    there i d l all =
        let h : All (λ e. inside n e ≡ true) (map node_of ds) = subst (All (λ e. inside n e ≡ true)) (sym are) all in
        ap (inside n) (sym (get_or-map node_of ds i d (node_of d) l))
        ∙ All-get_or (λ e. inside n e ≡ true) (map node_of ds) i (node_of d) (omega (arith, length-map ds node_of)) h

    pub few_nodes : length s < 2 ^ 32 → length ts ≤ 32 → length ds ≤ 992
    few_nodes small few =
        let a = length-map ds node_of in
        let b = ap length are in
        let c = length-map (nodes_of t) (λ d. position n d.row d.place) in
        let d = ap length positions in
        let e = ap (λ n. length (needed n ts)) forest in
        let f = needed_few image s small ts [] in
        omega arith

    pub all_fresh : map fresh_there ds ≡ fresh image s ts
    all_fresh =
        sym (map-map (fresh_value image s) (λ d. number_at n (node_of d)) ds) ∙ ap (map (fresh_value image s)) (sym (map-map (number_at n) node_of ds) ∙ ap (map (number_at n)) are ∙ positions)
        ∙ ap (λ n. map (fresh_value image s) (needed n ts)) forest

    pub length_made : (i : ℕ) (vs : List Value) → i ≤ length ds → vs ≡ map fresh_there (take i ds) → length vs ≡ i
    length_made i vs l e = ap length e ∙ length-map (take i ds) fresh_there ∙ length-take-le i ds l

-- Hashes as bytes against values, of which there are as many.
abbrev pub same_read : Bytes × Value → Bool
same_read p = same_value (value_in p.0) p.1

same_zip : (cs : List Bytes) (vs : List Value) → length cs ≡ length vs → list_all same_read (zip cs vs) ≡ same_values (map value_in cs) vs
same_zip [] [] e = refl
same_zip [] (v ∷ vs) e = absurd (omega arith)
same_zip (c ∷ cs) [] e = absurd (omega arith)
same_zip (c ∷ cs) (v ∷ vs) e = ap (λ b. same_value (value_in c) v && b) (same_zip cs vs (omega arith))

chunks_read : (bs : Bytes) → map value_in (first_chunks 32 (length bs / 32) bs) ≡ hashes_in bs
chunks_read bs =
    ext_get_or no_value (map value_in (first_chunks 32 (length bs / 32) bs)) (hashes_in bs)
    (length-map (first_chunks 32 (length bs / 32) bs) value_in ∙ length_chunks 32 (length bs / 32) bs ∙ sym (length_map_below (λ i. value_in (part (32 * i) 32 bs)) (length bs / 32)))
    (λ i l.
    let n : i < length bs / 32 = (let a = length-map (first_chunks 32 (length bs / 32) bs) value_in in let b = length_chunks 32 (length bs / 32) bs in omega arith) in
    get_or-map value_in (first_chunks 32 (length bs / 32) bs) i [] no_value (let b = length_chunks 32 (length bs / 32) bs in omega arith)
    ∙ ap value_in (chunk_at 32 (length bs / 32) i bs [] n) ∙ sym (get_or_below (λ i. value_in (part (32 * i) 32 bs)) no_value (length bs / 32) i n))

pub hashes_same : (bs : Bytes) (cs : List Bytes) (vs : List Value) (r : Bool) → cs ≡ first_chunks 32 (length bs / 32) bs → length vs ≡ length (hashes_in bs) → r ≡ list_all same_read (zip cs vs)
    → r ≡ same_values (hashes_in bs) vs
hashes_same bs cs vs r e long h =
    let k = length_chunks 32 (length bs / 32) bs in
    let m = length_map_below (λ i. value_in (part (32 * i) 32 bs)) (length bs / 32) in
    let j = ap length e in
    h ∙ same_zip cs vs (omega arith) ∙ ap (λ z. same_values z vs) (ap (map value_in) e ∙ chunks_read bs)
