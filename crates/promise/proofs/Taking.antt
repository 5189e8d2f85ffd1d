-- A block taken: the wallet's view follows the register's, and the two answers agree or the block is caught.
use Rattle.std.proofs.Common.{◌≡◌, ℕ, ◌+◌, ◌^◌, ◌<◌, true, cond, not, ltb, ◌⊎◌, List, [], ◌∷◌, map, length, get_or, Some, None, sym, refl, ap, ◌∙◌, ap₂, inl, inr, arith, length-append}
use lib.ListN.{length-map, get_or-append}
use Rattle.std.proofs.lemmas.Bool.{not-false, not-true, ltb-false}
use Rattle.utreexo.specs.declared.types.Coin.{Coin}
use Rattle.utreexo.specs.Bytes.{Bytes}
use Rattle.utreexo.specs.Lists.{filter}
use Rattle.utreexo.specs.Values.{Image}
use Rattle.utreexo.specs.Forest.{Slots}
use Rattle.utreexo.specs.Claims.{Target}
use Rattle.utreexo.specs.Blocks.{entries}
use Rattle.utreexo.specs.Checks.{Cause, cause, refusal, most_slots, targets_of}
use Rattle.utreexo.specs.Wallet.{spend, add_all, view_after, take_causes}
use Rattle.utreexo.specs.Collection.{view_of, genuine, spent_slot, slots_after}
use Rattle.utreexo.specs.Register.{Collection, register_take_causes}
use Rattle.laws.proofs.Logic.{true_false}
use Rattle.laws.proofs.Members.{filter_mem, mem_all}
use Rattle.laws.proofs.Causes.{Free, free, freed, free_left, refusals, free_right}
use Rattle.laws.proofs.Slots.{slot_low, left, length_left, Lives, left_at}
use Rattle.laws.proofs.Genuine.{RightProof}
use Rattle.promise.specs.Theorems.{BlocksStep}
use Rattle.promise.proofs.Carrying.{added_all}
use Rattle.promise.proofs.Spending.{roots_left}
use Rattle.promise.proofs.Refreshing.{shelf_left}
use Rattle.promise.proofs.Shelves.{Once, once_filter}
use Rattle.promise.proofs.Caught.{early, fitting, FitsNotGenuine, Passed, early_passed, genuine_right, genuine_fits}

-- what holds of the register's slots and watched slots at all times
pub record Sound (p : Collection) : Type 0 where
  pub small : length p.slots < 2 ^ 32
  pub live : Lives p.slots p.watched
  pub once : Once p.watched

-- slots and watched slots, as the register has them
abbrev pub collection : Slots → List ℕ → Collection
collection s ws = record { slots = s; watched = ws }

module _ (image : Image) (s : Slots) (ws : List ℕ) (bs : Bytes) (small : length s < 2 ^ 32) (live : Lives s ws) where
  abbrev ts : List Target
  ts = targets_of (length s) (entries bs)

  -- the watched slots that a block does not spend
  abbrev remaining : List ℕ
  remaining = filter (λ w. not (spent_slot image s ts w)) ws

  abbrev late : List Cause
  late = cause 11 (ltb most_slots (length s + length (entries bs).coins)) ∷ []

  module _ (granted : refusal (register_take_causes image s bs) ≡ None) where
    -- no cause holds: neither before the proof is tried, nor from there on
    abbrev from_proof : List Cause
    from_proof = cause 10 (not (genuine image s (entries bs))) ∷ late

    none_early : Free (early image s bs)
    none_early = free_left (early image s bs) from_proof (free (register_take_causes image s bs) granted)

    none_late : Free from_proof
    none_late = free_right (early image s bs) from_proof (free (register_take_causes image s bs) granted)

    is_genuine : genuine image s (entries bs) ≡ true
    is_genuine = not-false (genuine image s (entries bs)) none_late.0

    room : length s + length (entries bs).coins < 2 ^ 32
    room = let b = ltb-false most_slots (length s + length (entries bs).coins) none_late.1.0 in omega arith

    passed : Passed image s bs
    passed = early_passed image s bs (freed (early image s bs) none_early)

    right : RightProof image s ts (entries bs).hashes
    right = genuine_right image s bs small passed is_genuine

    -- the slots that are left
    abbrev rest : Slots
    rest = left image s ts

    -- the view once the targets are spent, before coins are added
    spent_view : spend image (entries bs) (view_of image s ws) ≡ view_of image rest remaining
    spent_view =
        let l = length_left image s ts in
        let r = roots_left image s small ts (entries bs).hashes passed.placed right in
        let h = shelf_left image s small ts (entries bs).hashes passed.placed right ws live in
        λ i. record { count = sym l i; roots = r i; shelf = h i }

    rest_live : Lives rest remaining
    rest_live w m =
        let (x, y) = filter_mem (λ w. not (spent_slot image s ts w)) ws w m in
        let (c, e) = live w x in
        let f = not-true (spent_slot image s ts w) y in
        (c, left_at image s ts w (slot_low s w c e) ∙ ap₂ (λ b z. cond b None z) f e)

    rest_room : length rest + length (entries bs).coins < 2 ^ 32
    rest_room =
        let l = length_left image s ts in
        let r = room in
        omega arith

    -- the view after the block is that of the slots after it
    pub taken_view : view_after image bs (view_of image s ws) ≡ view_of image (slots_after image bs s) remaining
    taken_view = ap (λ v. add_all image v (entries bs).coins) spent_view ∙ added_all image (entries bs).coins rest remaining rest_room rest_live

    -- and they are sound
    pub taken_sound : Once ws → Sound (collection (slots_after image bs s) remaining)
    taken_sound once =
        let l = length-append rest (map (λ c. Some c) (entries bs).coins) in
        let m = length-map (entries bs).coins (λ c. Some c) in
        let r = rest_room in
        record {
          small = omega arith;
          live = λ w m. (let (c, e) = rest_live w m in (c, get_or-append rest (map (λ c. Some c) (entries bs).coins) None w (slot_low rest w c e) ∙ e));
          once = once_filter (λ w. not (spent_slot image s ts w)) ws once;
        }

  -- taking and checking: wallet and register refuse alike, or the block fits and is not genuine
  pub take_judged : (refusal (take_causes image (view_of image s ws) bs) ≡ refusal (register_take_causes image s bs))
      ⊎ FitsNotGenuine image s bs
  take_judged =
      refusals (early image s bs) late late (fitting image s bs) (genuine image s (entries bs)) refl
      (λ e g. genuine_fits image s bs small (early_passed image s bs e) g)

  -- a block that the register takes, the wallet takes
  taken_fits : refusal (register_take_causes image s bs) ≡ None → refusal (take_causes image (view_of image s ws) bs) ≡ None
  taken_fits granted =
      elim take_judged [
        | inl e ↦ e ∙ granted
        | inr (a, b, c) ↦ absurd (true_false (genuine image s (entries bs)) (is_genuine granted) c)
      ]

-- the step of a block that the register takes, on a wallet's view
pub blocks_step : BlocksStep register_take_causes
blocks_step image s small ws all bs granted = (taken_fits image s ws bs small live granted, taken_view image s ws bs small live granted)
  where
    live : Lives s ws
    live w m = mem_all (λ w. (c : Coin) × (get_or s w None ≡ Some c)) ws w all m
