-- A block that a bridge writes: a wallet of the same slots takes it, and so does the bridge.
use Rattle.std.proofs.Common.{◌≡◌, ℕ, zero, suc, ◌+◌, ◌^◌, ◌<◌, ◌≤◌, Bool, true, false, cond, not, eqb, ltb, leb, List, [], ◌∷◌, ◌++◌, length, drop, is_some, None, sym, refl, ap, ◌∙◌, subst, arith, pow_mono}
use lib.ListN.{length-map}
use Rattle.std.specs.List.{AllByRecursion}
use Rattle.std.proofs.ByRecursion.{All-map}
use Rattle.std.proofs.lemmas.Bool.{or_parts, ltb-false, le-ltb, eq-eqb, not_from_true, not-false}
use Rattle.utreexo.specs.declared.types.Coin.{Coin}
use Rattle.utreexo.specs.Bytes.{Bytes}
use Rattle.utreexo.specs.Lists.{any}
use Rattle.utreexo.specs.Values.{Image, CoinFits, ValueFits, ImageFits}
use Rattle.utreexo.specs.Forest.{Slots, least_from, rows, roots_of, locate}
use Rattle.utreexo.specs.Claims.{Target, proof_of, needed, fits}
use Rattle.utreexo.specs.Blocks.{Block, composed, entries, ascending}
use Rattle.utreexo.specs.Checks.{Cause, cause, refusal, read_causes, most_slots, named, targets_of, place_causes, proof_causes, above_another}
use Rattle.utreexo.specs.Wallet.{View, take_causes}
use Rattle.utreexo.specs.Collection.{target_live, same_values, fresh_value, fresh, view_of, coins_at, block_for, write_causes}
use Rattle.utreexo.specs.Bridge.{bridge_take_causes}
use Rattle.laws.proofs.Order.{Mem}
use Rattle.laws.proofs.Members.{none_any, all_mem, mem_all}
use Rattle.laws.proofs.Causes.{Free, freed, free, free_append}
use Rattle.laws.proofs.Same.{values_refl}
use Rattle.laws.proofs.Positions.{locate_is, position_low}
use Rattle.laws.proofs.Live.{coin_is, target_make}
use Rattle.laws.proofs.Fits.{claims_fits, none_blank}
use Rattle.laws.proofs.Genuine.{right_fits, named_placed}
use Rattle.laws.proofs.Count.{needed_few}
use Rattle.promise.specs.Theorems.{Fitting}
use Rattle.promise.proofs.Composed.{coins_read, coins_read_length, read_most, read_back, readable}
use Rattle.promise.proofs.Words.{SlotsFit, fresh_fits}
use Rattle.promise.proofs.Naming.{LiveNamed, named_live, coin_of, coin_named, named_true, named_few}

-- the forest has at most 33 rows
least_top : (f k n : ℕ) → least_from f k n ≤ k + f
least_top zero k n = omega arith
least_top (suc f) k n = go (leb n (2 ^ k)) (least_top f (suc k) n)
  where
    go : (t : Bool) → least_from f (suc k) n ≤ suc k + f → cond t k (least_from f (suc k) n) ≤ k + suc f
    go true h = omega arith
    go false h = omega arith

-- the causes of a wallet and of a bridge against a block, with its entries apart
abbrev take_causes_with : Image → View → Bytes → Block → List Cause
take_causes_with image v bs b =
    read_causes bs ++ (cause 4 (not (ascending b.targets)) ∷ place_causes v.count b ++ (proof_causes image v.count v.roots b
    ++ (cause 11 (ltb most_slots (v.count + length b.coins)) ∷ [])))

abbrev bridge_take_causes_with : Image → ℕ → Slots → Bytes → Block → List Cause
bridge_take_causes_with image capacity s bs b =
    read_causes bs ++ (cause 4 (not (ascending b.targets)) ∷ place_causes (length s) b
    ++ (cause 11 (ltb most_slots (length s + length b.coins))
    ∷ cause 16 (any (λ t. not (target_live image s t)) (targets_of (length s) b))
    ∷ cause 17 (not (same_values b.hashes (fresh image s (targets_of (length s) b))))
    ∷ cause 18 (ltb capacity (length s + length b.coins)) ∷ []))

module _ (image : Image) (s : Slots) (image_fits : ImageFits image) (slots_fit : SlotsFit s) (ps : List ℕ) (cs : List Coin)
    (ok : refusal (write_causes image s ps cs) ≡ None) where
  -- the block, and its bytes
  abbrev block : Block
  block = block_for image s ps cs

  abbrev bs : Bytes
  bs = composed block

  abbrev ts : List Target
  ts = named (length s) ps (coins_at image s ps)

  -- no cause holds against writing; what each one tells
  write_free : Free (write_causes image s ps cs)
  write_free = free (write_causes image s ps cs) ok

  few : (length ps ≤ 32) × (length cs ≤ 32)
  few =
      let p = or_parts (ltb 32 (length ps)) (ltb 32 (length cs)) write_free.0 in
      (ltb-false 32 (length ps) p.0, ltb-false 32 (length cs) p.1)

  ascends : not (ascending ps) ≡ false
  ascends = write_free.1.0

  inside : any (λ p. not (is_some (locate (length s) p))) ps ≡ false
  inside = write_free.1.1.0

  alone : above_another ts ≡ false
  alone = write_free.1.1.1.0

  room : length s + length cs ≤ most_slots
  room = ltb-false most_slots (length s + length cs) write_free.1.1.1.1.0

  live : AllByRecursion (LiveNamed image s) ps
  live = named_live image s ps write_free.1.1.1.1.1.0

  write_small : length s < 2 ^ 32
  write_small = omega (arith, room)

  -- every target is a live slot's, with its coin
  right : (t : Target) → Mem t ts → target_live image s t ≡ true
  right t m =
      let (i, a) = coin_is image s write_small t.node.row t.node.place t.coin (named_true image s ps live t m) in
      target_make image s write_small t i a

  -- so a proof with the fresh hashes fits
  fits_fresh : fits image (proof_of (length s) ts (fresh image s ts)) (roots_of image s) ≡ true
  fits_fresh =
      claims_fits image s write_small ts (fresh image s ts)
      (right_fits image s write_small ts (fresh image s ts)
      (named_placed (length s) ps (coins_at image s ps) (not-false (ascending ps) ascends) alone)
      (record { live = right; new = refl }))

  -- the block is within the limits of its form
  pub fitting : Fitting block
  fitting = record {
    same = sym e;
    few_spent = omega (arith, few.0, e);
    few_hashes = (let a = length-map (needed (length s) ts) (fresh_value image s) in
        let b = needed_few image s write_small ts [] in
        let c = named_few image s ps (coins_at image s ps) in
        omega (arith, few.0));
    few_coins = few.1;
    targets_fit = all_mem (λ p. p < 2 ^ 64) ps (λ p m. position_fits p (mem_all (LiveNamed image s) ps p live m));
    spent_fit = All-map CoinFits (coin_of image s) ps
        (all_mem (λ p. CoinFits (coin_of image s p)) ps (λ p m. coin_ok p (mem_all (LiveNamed image s) ps p live m)));
    hashes_fit = All-map ValueFits (fresh_value image s) (needed (length s) ts)
        (all_mem (λ p. ValueFits (fresh_value image s p)) (needed (length s) ts) (λ p m. fresh_fits image image_fits s slots_fit p));
  }
    where
      e : length (coins_at image s ps) ≡ length ps
      e = length-map ps (coin_of image s)

      position_fits : (p : ℕ) → LiveNamed image s p → p < 2 ^ 64
      position_fits p n =
          let f = locate_is (length s) p n.node n.located in
          let a = position_low (length s) write_small n.node.row n.node.place f.top f.over in
          let b = least_top 33 0 (length s) in
          let c : 2 ^ (rows (length s) + 1) ≤ 2 ^ 34 = pow_mono {i = rows (length s) + 1} {j = 34} (omega arith) in
          let d = f.number in
          omega arith

      coin_ok : (p : ℕ) → LiveNamed image s p → CoinFits (coin_of image s p)
      coin_ok p n =
          let (w, z) = coin_is image s write_small n.node.row n.node.place n.coin n.has_coin in
          subst CoinFits (sym (coin_named image s p n)) (slots_fit w n.coin z.live)

  -- the block as it is read: all but the new coins, of which there are as many
  abbrev as_read : Block
  as_read = record { targets = ps; spent = coins_at image s ps; hashes = fresh image s ts; coins = coins_read block fitting }

  -- so no cause holds against it: reading it, its count of hashes, and the slots that it adds
  reads : Free (read_causes bs)
  reads = free (read_causes bs) (readable block fitting)

  as_many : not (eqb (length (fresh image s ts)) (length (needed (length s) ts))) ≡ false
  as_many =
      not_from_true (eqb (length (fresh image s ts)) (length (needed (length s) ts)))
      (eq-eqb (length (fresh image s ts)) (length (needed (length s) ts)) (length-map (needed (length s) ts) (fresh_value image s)))

  within : (most : ℕ) → length s + length cs ≤ most → ltb most (length s + length as_read.coins) ≡ false
  within most l = ap (λ z. ltb most (length s + z)) (coins_read_length block fitting) ∙ le-ltb most (length s + length cs) l

  -- a wallet of these slots takes the block
  pub taken : (ws : List ℕ) → refusal (take_causes image (view_of image s ws) bs) ≡ None
  taken ws =
      let causes = take_causes_with image (view_of image s ws) bs in
      let blank = none_blank image s write_small ts (fresh image s ts) right in
      let fit = ap not fits_fresh in
      subst (λ b. refusal (causes b) ≡ None) (sym (read_most block fitting))
      (freed (causes as_read) (free_append (read_causes bs) (drop 3 (causes as_read)) reads
      (ascends, (inside, (alone, (as_many, (blank, (fit, (within most_slots room, tt)))))))))

  -- and so does a bridge of these slots, if it has the capacity
  pub bridge_taken : (capacity : ℕ) → length s + length cs ≤ capacity → refusal (bridge_take_causes image capacity s bs) ≡ None
  bridge_taken capacity enough =
      let causes = bridge_take_causes_with image capacity s bs in
      let all_live = none_any (λ t. not (target_live image s t)) ts (λ t m. ap not (right t m)) in
      let same = ap not (values_refl (fresh image s ts)) in
      subst (λ b. refusal (causes b) ≡ None) (sym (read_most block fitting))
      (freed (causes as_read) (free_append (read_causes bs) (drop 3 (causes as_read)) reads
      (ascends, (inside, (alone, (as_many, (within most_slots room, (all_live, (same, (within capacity enough, tt))))))))))

  -- it is read as the block that was asked for
  pub written_read : AllByRecursion CoinFits cs → entries bs ≡ block
  written_read coins_fit = read_back block fitting coins_fit
