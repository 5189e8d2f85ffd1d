-- A card that adds no coin: its one target, and the tree that its coin is in.
use Rattle.std.proofs.Common.{◌≡◌, ℕ, ◌+◌, ◌*◌, ◌/◌, ◌^◌, ◌<◌, true, false, not, ◌&&◌, ◌||◌, eqb, List, [], ◌∷◌, map, length, get_or, replicate, is_some, Some, None, Option, sym, refl, ap, ◌∙◌, subst, ap₂, arith}
use Rattle.std.proofs.lemmas.Bool.{and_parts, and_from, eqb-true, eq-eqb, not-false}
use Rattle.std.proofs.lemmas.List.{length-replicate}
use Rattle.utreexo.specs.declared.types.Coin.{Coin}
use Rattle.utreexo.specs.declared.types.Value.{Value}
use Rattle.utreexo.specs.Bytes.{Bytes, part, number_in, coin_in}
use Rattle.utreexo.specs.Lists.{any, below}
use Rattle.utreexo.specs.Values.{Image}
use Rattle.utreexo.specs.Forest.{Slots, Node, bit, tree_place, locate}
use Rattle.utreexo.specs.Claims.{Target, needed}
use Rattle.utreexo.specs.Blocks.{entries, spent_count, hash_count, coin_count}
use Rattle.utreexo.specs.Checks.{cause, refusal, named, targets_of}
use Rattle.laws.proofs.Logic.{true_false}
use Rattle.laws.proofs.Causes.{Free, free, freed}
use Rattle.laws.proofs.Place.{up}
use Rattle.laws.proofs.Places.{up_shr}
use Rattle.laws.proofs.Tops.{Over}
use Rattle.laws.proofs.Positions.{locate_is, top_bit}
use Rattle.laws.proofs.Lone.{needed_count}
use Rattle.block.specs.declared.entry.Counts.{Counts}
use Rattle.block.specs.Reader.{counts_in}
use Rattle.targets.specs.declared.spend.Spend.{Spend}
use Rattle.targets.specs.Spends.{target_of, targets}
use Rattle.shelf.specs.Held.{in_its_tree}
use Rattle.proof.specs.Accepts.{judge_causes}
use Rattle.wallet.specs.Cards.{card_causes, held_with, IsOf}

-- the first of one target
pub any_first : (ss : List Spend) (t : Target) → targets ss ≡ t ∷ [] → 0 < length ss
any_first [] t e = (let z : ◌≡◌ {A = ℕ} 0 1 = ap length e in absurd (omega arith))
any_first (s ∷ ss) t e = omega arith

first_is : (ss : List Spend) (t : Target) (d : Spend) → targets ss ≡ t ∷ [] → target_of (get_or ss 0 d) ≡ t
first_is [] t d e = (let z : ◌≡◌ {A = ℕ} 0 1 = ap length e in absurd (omega arith))
first_is (s ∷ ss) t d e = ap head e
  where
    head : List Target → Target
    head [] = t
    head (x ∷ xs) = x

-- one target needs as many hashes as there are rows above it, up to the root
needed_slots : (image : Image) (s : Slots) → length s < 2 ^ 32 → (t : Target) (k : ℕ) (o : Over (length s) t.node.row t.node.place k)
    → length (needed (length s) (t ∷ [])) ≡ o.rows
needed_slots image s small t k o = needed_count image s small t [] k (up o.rows t.node.place) o.rows o.top o.sum refl

needed_rows : (image : Image) (n : ℕ) → n < 2 ^ 32 → (t : Target) (k : ℕ) (o : Over n t.node.row t.node.place k) → length (needed n (t ∷ [])) ≡ o.rows
needed_rows image n small t k o =
    let blank : Slots = replicate n None in
    subst (λ m. m < 2 ^ 32 → (o : Over m t.node.row t.node.place k) → length (needed m (t ∷ [])) ≡ o.rows) (length-replicate n None)
    (λ small o. needed_slots image blank small t k o) small o

-- with that many its coin is in a tree
with_hashes : (image : Image) (n : ℕ) → n < 2 ^ 32 → (t : Target) (k : ℕ) (o : Over n t.node.row t.node.place k) (hashes : List Value)
    → length hashes ≡ length (needed n (t ∷ [])) → in_its_tree n (held_with t hashes) ≡ true
with_hashes image n small t k o hashes e =
    let long : length hashes ≡ o.rows = e ∙ needed_rows image n small t k o in
    let sum : t.node.row + length hashes ≡ k = omega (arith, o.sum) in
    let (b, p) = top_bit n k (up o.rows t.node.place) o.top in
    let at : t.node.place / 2 ^ length hashes ≡ tree_place n k = ap (λ d. t.node.place / 2 ^ d) long ∙ sym (up_shr o.rows t.node.place) ∙ sym p in
    ap (λ k. bit n k && eqb (t.node.place / 2 ^ length hashes) (tree_place n k)) sum
    ∙ and_from (bit n k) (eqb (t.node.place / 2 ^ length hashes) (tree_place n k)) b (eq-eqb (t.node.place / 2 ^ length hashes) (tree_place n k) at)

module _ (image : Image) (n : ℕ) (small : n < 2 ^ 32) (roots : List (Option Value)) (bs : Bytes) (c : Counts) (counted : c ≡ counts_in bs)
    (card : refusal (cause 5 (not (eqb c.spent 1 && eqb c.coins 0)) ∷ []) ≡ None)
    (judged : refusal (judge_causes image n roots (entries bs)) ≡ None) where
  is_card : not (eqb (spent_count bs) 1 && eqb (coin_count bs) 0) ≡ false
  is_card =
      ap (λ (c : Counts). not (eqb c.spent 1 && eqb c.coins 0)) (sym counted) ∙ (free (cause 5 (not (eqb c.spent 1 && eqb c.coins 0)) ∷ []) card).0

  counts : (spent_count bs ≡ 1) × (coin_count bs ≡ 0)
  counts =
      let (a, b) = and_parts (eqb (spent_count bs) 1) (eqb (coin_count bs) 0) (not-false (eqb (spent_count bs) 1 && eqb (coin_count bs) 0) is_card) in
      (eqb-true (spent_count bs) 1 a, eqb-true (coin_count bs) 0 b)

  none : Free (judge_causes image n roots (entries bs))
  none = free (judge_causes image n roots (entries bs)) judged

  pub card_passed : refusal (card_causes image n roots bs) ≡ None
  card_passed = freed (card_causes image n roots bs) (none.0, (is_card, none.1))

  abbrev p₀ : ℕ
  p₀ = number_in (part (6 + 8 * 0) 8 bs)

  abbrev c₀ : Coin
  c₀ = coin_in (part (6 + 8 * 1 + 32 * 0) 32 bs)

  numbers : (entries bs).targets ≡ p₀ ∷ []
  numbers = ap (λ d. map (λ i. number_in (part (6 + 8 * i) 8 bs)) (below d)) counts.0

  coins : (entries bs).spent ≡ c₀ ∷ []
  coins = ap (λ d. map (λ i. coin_in (part (6 + 8 * d + 32 * i) 32 bs)) (below d)) counts.0

  -- the target that it names is in the forest
  record Found : Type 0 where
    node : Node
    located : locate n p₀ ≡ Some node
    one : targets_of n (entries bs) ≡ record { node = node; coin = c₀ } ∷ []

  found : Found
  found = go (locate n p₀) refl
    where
      here : (not (is_some (locate n p₀)) || false) ≡ false
      here = ap (any (λ p. not (is_some (locate n p)))) (sym numbers) ∙ none.1.0

      go : (z : Option Node) → locate n p₀ ≡ z → Found
      go None q = absurd (true_false true refl (sym (ap (λ z. not (is_some z) || false) q) ∙ here))
      go (Some e) q =
          record {
            node = e;
            located = q;
            one = ap₂ (named n) numbers coins ∙ ap (λ z. elim z [ None ↦ [] | Some e ↦ record { node = e; coin = c₀ } ∷ [] ]) q;
          }

  pub some_target : (ss : List Spend) → targets ss ≡ targets_of n (entries bs) → 0 < length ss
  some_target ss e = any_first ss (record { node = found.node; coin = c₀ }) (e ∙ found.one)

  pub is_of : (ss : List Spend) (d : Spend) → targets ss ≡ targets_of n (entries bs) → IsOf n bs (get_or ss 0 d)
  is_of ss d e =
      let t : Target = record { node = found.node; coin = c₀ } in
      let same = first_is ss t d (e ∙ found.one) in
      let place = locate_is n p₀ found.node found.located in
      let few : length (entries bs).hashes ≡ length (needed n (t ∷ []))
      = eqb-true (length (entries bs).hashes) (length (needed n (targets_of n (entries bs)))) (not-false _ none.1.1.1.0) ∙ ap (λ ts. length (needed n ts)) found.one in
      record {
        number = p₀;
        named = numbers;
        located = found.located ∙ ap (λ (t : Target). Some t.node) (sym same);
        one = found.one ∙ ap (λ t. t ∷ []) (sym same);
        no_coin = ap (λ a. map (λ i. coin_in (part (6 + 40 * spent_count bs + 32 * hash_count bs + 32 * i) 32 bs)) (below a)) counts.1;
        in_tree = ap (λ t. in_its_tree n (held_with t (entries bs).hashes)) same ∙ with_hashes image n small t place.top place.over (entries bs).hashes few;
      }
