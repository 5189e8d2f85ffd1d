-- The values and the struck paths of the definitions are the theory's.
use Rattle.std.proofs.Common.{◌≡◌, ℕ, zero, suc, ◌+◌, ◌*◌, ◌/◌, ◌%◌, ◌^◌, map, get_or, Some, None, Option, sym, refl, ap, ◌∙◌, ap₂, inl, inr, arith}
use Rattle.utreexo.specs.declared.types.Coin.{Coin}
use Rattle.utreexo.specs.declared.types.Input.{Input}
use Rattle.utreexo.specs.declared.types.Input.TheVariants.{Leaf, Pair}
use Rattle.utreexo.specs.declared.types.Value.{Value}
use Rattle.utreexo.specs.Values.{Image, join}
use Rattle.utreexo.specs.Forest.{Slots, leaf_value, value_over, sibling, Struck, keep_bit, strike, siblings_of}
use Rattle.laws.proofs.Logic.{eqb_cases}
use Rattle.laws.proofs.Order.{range}
use Rattle.laws.proofs.Ranges.{below_range}
use Rattle.laws.proofs.Place.{sib}
use Rattle.laws.proofs.Places.{up_shr, up_suc}
use Rattle.laws.proofs.Tree.{map_o, Preimage, of_coin, of_two, Tree, grow, count_struck, with_bit, struck, place}
use Rattle.laws.proofs.Value.{push_o, value_under, value, path, join_o}
use Rattle.laws.proofs.Forest.{slot_of}
use Rattle.laws.proofs.After.{value_grow}

-- inputs and images of the theory
abbrev pub inp : Preimage Coin Value → Input
inp (of_coin c) = Leaf c
inp (of_two a b) = Pair a b

abbrev pub img : Image → Preimage Coin Value → Value
img image i = image (inp i)

-- the sibling
pub sibling_sib : (o : ℕ) → sibling o ≡ sib o
unfolding sib
sibling_sib o = elim (eqb_cases (o % 2) 0) [ inl h ↦ rw h.0 (omega arith) | inr h ↦ rw h.0 (omega arith) ]

-- the place one row higher
pub shr_next : (i j o : ℕ) → i / 2 ^ j ≡ o → i / 2 ^ suc j ≡ o / 2
shr_next i j o e = sym (up_shr (suc j) i) ∙ up_suc j i ∙ ap (λ x. x / 2) (up_shr j i ∙ e)

module _ (image : Image) where
  -- the value over one slot, and two values joined
  pub leaf_same : (z : Option Coin) → leaf_value image z ≡ map_o (λ c. img image (of_coin c)) z
  leaf_same None = refl
  leaf_same (Some c) = refl

  pub join_same : (a b : Option Value) → join image a b ≡ join_o (img image) a b
  join_same None b = refl
  join_same (Some a) None = refl
  join_same (Some a) (Some b) = refl

  -- the value over a run
  pub value_same : (s : Slots) (r o : ℕ) → value_over image s r o ≡ value_under (img image) (slot_of s) r o
  value_same s zero o = leaf_same (get_or s o None)
  value_same s (suc r) o =
      ap₂ (join image) (value_same s r (2 * o)) (value_same s r (2 * o + 1))
      ∙ join_same (value_under (img image) (slot_of s) r (2 * o)) (value_under (img image) (slot_of s) r (2 * o + 1))

  -- row, place and path of a run, by the theory
  abbrev pub struck_run : (ℕ → Option Coin) → ℕ → ℕ → ℕ → Struck
  struck_run slot j o f = record { row = struck slot j o f; place = place slot j o f; path = path (img image) slot j o f }

  -- one bit more
  pub struck_run_step : (slot : ℕ → Option Coin) (j o f : ℕ)
      → keep_bit o (value_under (img image) slot j (sib o)) (struck_run slot (suc j) (o / 2) f) ≡ struck_run slot j o (suc f)
  struck_run_step slot j o f =
      rw (value_grow (img image) slot j (sib o)) (go (grow slot j (sib o)))
    where
      go : (x : Option (Tree Coin)) → keep_bit o (map_o (value (img image)) x) (struck_run slot (suc j) (o / 2) f)
          ≡ record {
            row = count_struck x (struck slot (suc j) (o / 2) f);
            place = with_bit x (place slot (suc j) (o / 2) f) (o % 2);
            path = push_o (map_o (value (img image)) x) (path (img image) slot (suc j) (o / 2) f);
          }
      go None =
          let e : struck slot (suc j) (o / 2) f + 1 ≡ suc (struck slot (suc j) (o / 2) f) = omega arith in
          ap (λ n. record { row = n; place = place slot (suc j) (o / 2) f; path = path (img image) slot (suc j) (o / 2) f }) e
      go (Some v) = refl

  -- striking the values beside a run and those above it gives them
  pub strike_run : (s : Slots) (i f j o : ℕ) → i / 2 ^ j ≡ o
      → strike (map (λ j. value_over image s j (sibling (i / 2 ^ j))) (range j f)) o ≡ struck_run (slot_of s) j o f
  strike_run s i zero j o e = refl
  strike_run s i (suc f) j o e =
      let a = value_same s j (sib o) in
      let b : value_over image s j (sibling (i / 2 ^ j)) ≡ value_under (img image) (slot_of s) j (sib o) =
      ap (value_over image s j) (ap sibling e ∙ sibling_sib o) ∙ a in
      ap₂ (keep_bit o) b (strike_run s i f (suc j) (o / 2) (shr_next i j o e)) ∙ struck_run_step (slot_of s) j o f

  -- so of a slot in a tree of row k
  pub strike_slot : (s : Slots) (i k : ℕ) → strike (siblings_of image s i k) i ≡ struck_run (slot_of s) 0 i k
  strike_slot s i k =
      ap (λ l. strike (map (λ j. value_over image s j (sibling (i / 2 ^ j))) l) i) (below_range k) ∙ strike_run s i k 0 i (sym (up_shr 0 i))
