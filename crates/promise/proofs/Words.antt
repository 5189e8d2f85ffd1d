-- Words that fit: where all coins of the slots fit, so do all values over them.
use Rattle.std.proofs.Common.{◌≡◌, ℕ, zero, suc, ◌+◌, ◌*◌, Bool, true, false, cond, List, [], ◌∷◌, map, length, get_or, Some, None, Option, sym, refl, subst, inl, inr, arith}
use Rattle.std.specs.List.{AllByRecursion}
use Rattle.std.proofs.ByRecursion.{All-drop}
use Rattle.utreexo.specs.declared.types.Coin.{Coin}
use Rattle.utreexo.specs.declared.types.Input.{Input}
use Rattle.utreexo.specs.declared.types.Input.TheVariants.{Leaf}
use Rattle.utreexo.specs.declared.types.Value.{Value}
use Rattle.utreexo.specs.Bytes.{Bytes, Octets}
use Rattle.utreexo.specs.Lists.{below}
use Rattle.utreexo.specs.Values.{Image, CoinFits, ValueFits, InputFits, ImageFits}
use Rattle.utreexo.specs.Forest.{Slots, Node, at_node, locate}
use Rattle.utreexo.specs.Claims.{no_value}
use Rattle.utreexo.specs.Blocks.{entries}
use Rattle.utreexo.specs.Checks.{Answer, granted, refused, targets_of}
use Rattle.utreexo.specs.Collection.{spent_slot, slots_after, slot_at, coin_at, image_of, paired, own_input, value_at, fresh_value}
use Rattle.utreexo.specs.Bridge.{BridgeCall, bridge_take, bridge_take_back, GivenOctets, as_call}
use Rattle.utreexo.specs.Promise.{stand, standing, bridge_run}
use Rattle.laws.proofs.Logic.{never}
use Rattle.laws.proofs.Order.{Mem}
use Rattle.laws.proofs.Members.{mem_append, map_mem, get_or_mem}
use Rattle.promise.proofs.Octets.{added_fits}
use Rattle.promise.proofs.Built.{built, bridge_slots}

-- every coin of the slots fits
abbrev pub SlotsFit : Slots → Type 0
SlotsFit s = (w : ℕ) (c : Coin) → get_or s w None ≡ Some c → CoinFits c

-- what there may be fits
abbrev MaybeInputFits : Option Input → Type 0
MaybeInputFits None = Unit {0}
MaybeInputFits (Some i) = InputFits i

abbrev MaybeValueFits : Option Value → Type 0
MaybeValueFits None = Unit {0}
MaybeValueFits (Some v) = ValueFits v

-- the value of no account fits
no_value_fits : ValueFits no_value
no_value_fits = (omega arith, omega arith, omega arith, omega arith)

-- a pair of values that fit fits
paired_fits : (a b : Option Value) → MaybeValueFits a → MaybeValueFits b → MaybeInputFits (paired a b)
paired_fits None b f g = tt
paired_fits (Some a) None f g = tt
paired_fits (Some a) (Some b) f g = (f, g)

module _ (image : Image) (image_fits : ImageFits image) where
  -- the image of what fits fits
  image_of_fits : (x : Option Input) → MaybeInputFits x → MaybeValueFits (image_of image x)
  image_of_fits None f = tt
  image_of_fits (Some i) f = image_fits i f

  module _ (s : Slots) (slots_fit : SlotsFit s) where
    coin_fits : (d : Node) (c : Coin) → coin_at image s d ≡ Some c → CoinFits c
    coin_fits d c e = go (slot_at image s d) e
      where
        go : (x : Option ℕ) → ◌≡◌ {A = Option Coin} (elim x [ None ↦ None | Some w ↦ get_or s w None ]) (Some c) → CoinFits c
        go None q = let z : ◌≡◌ {A = ℕ} 0 1 = cc in absurd (omega arith)
        go (Some w) q = slots_fit w c q

    -- the own input at each position fits
    own_fits : (r o : ℕ) → MaybeInputFits (own_input image s r o)
    own_fits zero o = go (coin_at image s (at_node 0 o)) refl
      where
        go : (x : Option Coin) → coin_at image s (at_node 0 o) ≡ x → MaybeInputFits (elim x [ None ↦ None | Some c ↦ Some (Leaf c) ])
        go None e = tt
        go (Some c) e = coin_fits (at_node 0 o) c e
    own_fits (suc r) o = go (coin_at image s (at_node (suc r) o)) refl (own_fits r (2 * o)) (own_fits r (2 * o + 1))
      where
        go : (x : Option Coin) → coin_at image s (at_node (suc r) o) ≡ x
            → MaybeInputFits (own_input image s r (2 * o)) → MaybeInputFits (own_input image s r (2 * o + 1))
            → MaybeInputFits (elim x [
              | None ↦ paired (image_of image (own_input image s r (2 * o))) (image_of image (own_input image s r (2 * o + 1)))
              | Some c ↦ Some (Leaf c)
            ])
        go None e l k = paired_fits (image_of image (own_input image s r (2 * o))) (image_of image (own_input image s r (2 * o + 1)))
            (image_of_fits (own_input image s r (2 * o)) l) (image_of_fits (own_input image s r (2 * o + 1)) k)
        go (Some c) e l k = coin_fits (at_node (suc r) o) c e

    -- and so does each fresh value
    pub fresh_fits : (p : ℕ) → ValueFits (fresh_value image s p)
    fresh_fits p = go (locate (length s) p)
      where
        one : (x : Option Value) → MaybeValueFits x → ValueFits (elim x [ None ↦ no_value | Some v ↦ v ])
        one None f = no_value_fits
        one (Some v) f = f

        go : (x : Option Node) → ValueFits (elim x [ None ↦ no_value | Some e ↦ (elim (value_at image s e) [ None ↦ no_value | Some v ↦ v ]) ])
        go None = no_value_fits
        go (Some e) = one (value_at image s e) (image_of_fits (own_input image s e.row e.place) (own_fits e.row e.place))

-- blocks of bytes leave slots that fit
after_fits : (image : Image) (b : Bytes) (s : Slots) → Octets b → SlotsFit s → SlotsFit (slots_after image b s)
after_fits image b s o f w c e =
    elim (mem_append (map (λ w. cond (dead w) None (get_or s w None)) (below (length s))) (map (λ c. Some c) (entries b).coins) (Some c)
    (get_or_mem (slots_after image b s) w c e)) [
      | inl m ↦ old (map_mem (λ w. cond (dead w) None (get_or s w None)) (below (length s)) (Some c) m)
      | inr m ↦ new (map_mem (λ c. Some c) (entries b).coins (Some c) m)
    ]
  where
    dead : ℕ → Bool
    dead w = spent_slot image s (targets_of (length s) (entries b)) w

    still : (t : Bool) (x : Option Coin) → Some c ≡ cond t None x → x ≡ Some c
    still true x q = absurd (never c (sym q))
    still false x q = sym q

    old : (v : ℕ) × (Mem v (below (length s))) × (Some c ≡ cond (dead v) None (get_or s v None)) → CoinFits c
    old (v, n, q) = f v c (still (dead v) (get_or s v None) q)

    new : (d : Coin) × (Mem d (entries b).coins) × (Some c ≡ Some d) → CoinFits c
    new (d, n, q) = let z : c ≡ d = cc in subst CoinFits (sym z) (added_fits b o d n)

-- so all slots that blocks of bytes make fit
built_fits : (image : Image) (bs : List Bytes) → AllByRecursion Octets bs → SlotsFit (built image bs)
built_fits image [] a w c e = absurd (never c e)
built_fits image (b ∷ bs) a w c e = after_fits image b (built image bs) a.0 (built_fits image bs a.1) w c e

-- where the blocks of calls are bytes, so are those that stand
stand_octets : (c : BridgeCall) (a : Answer) (bs : List Bytes) → GivenOctets c → AllByRecursion Octets bs → AllByRecursion Octets (stand (as_call c) a bs)
stand_octets (bridge_take b) (granted o) bs g h = (g, h)
stand_octets (bridge_take b) (refused k) bs g h = h
stand_octets bridge_take_back (granted o) bs g h = All-drop Octets 1 bs h
stand_octets bridge_take_back (refused k) bs g h = h

-- the standing blocks of a bridge that is given bytes are bytes
standing_octets : (fed : List BridgeCall) (ans : List Answer) (bs : List Bytes) → AllByRecursion GivenOctets fed → AllByRecursion Octets bs
    → AllByRecursion Octets (standing (map as_call fed) ans bs)
standing_octets [] ans bs g h = h
standing_octets (c ∷ cs) [] bs g h = h
standing_octets (c ∷ cs) (a ∷ ans) bs g h = standing_octets cs ans (stand (as_call c) a bs) g.1 (stand_octets c a bs g.0 h)

-- the slots of a bridge that is given bytes fit
pub bridge_fits : (image : Image) (capacity : ℕ) (fed : List BridgeCall) → AllByRecursion GivenOctets fed → SlotsFit (bridge_run image capacity fed).state.slots
bridge_fits image capacity fed octets =
    subst SlotsFit (sym (bridge_slots image capacity fed))
    (built_fits image (standing (map as_call fed) (bridge_run image capacity fed).answers [])
    (standing_octets fed (bridge_run image capacity fed).answers [] octets tt))
