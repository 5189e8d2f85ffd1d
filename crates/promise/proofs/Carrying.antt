-- The carry of one coin to its end, and of a block's coins.
use Rattle.std.proofs.Common.{◌≡◌, ℕ, zero, suc, ◌+◌, ◌-◌, ◌/◌, ◌%◌, ◌^◌, ◌<◌, Bool, true, false, cond, eqb, List, [], ◌∷◌, ◌++◌, map, length, get_or, set, Some, None, sym, refl, ap, ◌∙◌, subst, ap₂, inl, inr, append_assoc, append-nil, add-one, arith, length-append}
use lib.ListN.{get_or-append}
use Rattle.std.proofs.lemmas.Bool.{ne_eqb, le-ltb, cases_lt, cases_eq}
use Rattle.utreexo.specs.declared.types.Coin.{Coin}
use Rattle.utreexo.specs.Lists.{below}
use Rattle.utreexo.specs.Values.{Image, join}
use Rattle.utreexo.specs.Forest.{Slots, bit, tree_place, root_of, roots_of, value_over}
use Rattle.utreexo.specs.Wallet.{carry, add, add_all}
use Rattle.utreexo.specs.Collection.{all_held, view_of, no_coin}
use Rattle.laws.proofs.Logic.{true_false, eqb_cases, ltb_cases, EqbCases, LtbCases}
use Rattle.laws.proofs.Order.{Mem}
use Rattle.laws.proofs.Members.{map_ext}
use Rattle.laws.proofs.Ranges.{get_or_below, set_below}
use Rattle.laws.proofs.Place.{up}
use Rattle.laws.proofs.Places.{up_suc, up_lt, up_shr, up_span}
use Rattle.laws.proofs.Slots.{slot_low, slot_coin, Lives}
use Rattle.laws.proofs.Tree.{map_o, of_coin}
use Rattle.laws.proofs.Value.{value_under}
use Rattle.laws.proofs.Forest.{slot_of, Top, row_of_tree}
use Rattle.laws.proofs.Append.{value_below, stays, slots_append}
use Rattle.laws.proofs.Tops.{tree_row_is, put_below, put_here}
use Rattle.laws.proofs.Strikes.{img, value_same}
use Rattle.laws.proofs.Positions.{top_bit, bit_top}
use Rattle.laws.proofs.Live.{held_in, held_of, slot_top}
use Rattle.promise.proofs.Adding.{all_held_map}
use Rattle.promise.proofs.Stages.{row_at, row_here, row_else, bit_odd, bit_even, bit_same, place_same, up_all, next, stage_roots, stage_shelf, stage, low}
use Rattle.promise.proofs.Stages.{carried, stage_next, run_value, stage_root, stage_held, stage_joined, stage_ended}

module _ (image : Image) (s : Slots) (c : Coin) (small : suc (length s) < 2 ^ 32) (ws : List ℕ) (live : Lives s ws) where
  -- the slots with the coin added
  abbrev grown : Slots
  grown = s ++ Some c ∷ []

  -- their count, the theory of them, and the watched slots
  length_grown : length grown ≡ suc (length s)
  length_grown = length-append s (Some c ∷ []) ∙ (let e : length s + 1 ≡ suc (length s) = omega arith in e)

  grown_slots : slot_of grown ≡ (next s c)
  grown_slots = slots_append s c

  grown_live : Lives grown ws
  grown_live w m = let (x, e) = live w m in (x, get_or-append s (Some c ∷ []) None w (slot_low s w x e) ∙ e)

  coin_grown : (w : ℕ) → Mem w ws → slot_coin grown w ≡ slot_coin s w
  coin_grown w m =
      let (x, e) = live w m in
      ap (λ z. elim z [ None ↦ no_coin | Some c ↦ c ]) (get_or-append s (Some c ∷ []) None w (slot_low s w x e))

  -- a row with no tree: the carry ends
  module _ (k : ℕ) (l : k < 32) (b : bit (length s) k ≡ false) (up_next : up k (suc (length s)) ≡ suc (up k (length s)))
      (ones : (j : ℕ) → j < k → bit (suc (length s)) j ≡ false) where
    even : up k (length s) % 2 ≡ 0
    even = bit_even (length s) k b

    above_same : (j : ℕ) → k < j → up j (suc (length s)) ≡ up j (length s)
    above_same j g =
        let half : suc (up k (length s)) / 2 ≡ up k (length s) / 2 = omega (arith, even) in
        let a : up (suc k) (suc (length s)) ≡ up (suc k) (length s) =
        up_suc k (suc (length s)) ∙ ap (λ z. z / 2) up_next ∙ half ∙ sym (up_suc k (length s)) in
        up_all (suc k) j (j - suc k) (suc (length s)) (length s) (omega arith) a

    new_top : Top (suc (length s)) k (up k (length s))
    new_top = record { count = up_next; even = even }

    root_one : (j : ℕ) → cond (eqb j k) (run_value image s c k) (stage_root image s c k j) ≡ root_of image grown j
    root_one j = go (eqb_cases j k) (ltb_cases j k)
      where
        value_grown : (r o : ℕ) → value_over image grown r o ≡ value_under (img image) (next s c) r o
        value_grown r o = value_same image grown r o ∙ ap (λ f. value_under (img image) f r o) grown_slots

        bit_grown : bit (length grown) j ≡ bit (suc (length s)) j
        bit_grown = ap (λ n. bit n j) length_grown

        go : EqbCases j k → LtbCases j k
            → cond (eqb j k) (run_value image s c k) (stage_root image s c k j) ≡ root_of image grown j
        go (inl e) q =
            let (x, y) = top_bit (suc (length s)) k (up k (length s)) new_top in
            ap (λ b. cond b (run_value image s c k) (stage_root image s c k j)) e.0
            ∙ sym (ap (root_of image grown) e.1 ∙ ap (λ n. cond (bit n k) (value_over image grown k (tree_place n k)) None) length_grown
            ∙ ap₂ (λ b p. cond b (value_over image grown k p) None) x y ∙ value_grown k (up k (length s)))
        go (inr e) (inl q) =
            ap₂ (λ b d. cond b (run_value image s c k) (cond d None (root_of image s j))) e.0 q.0
            ∙ sym (ap (λ b. cond b (value_over image grown j (tree_place (length grown) j)) None) (bit_grown ∙ ones j q.1))
        go (inr e) (inr q) =
            let a = above_same j (omega (arith, q.1, e.1)) in
            ap₂ (λ b d. cond b (run_value image s c k) (cond d None (root_of image s j))) e.0 q.0
            ∙ two (bit (length s) j) refl
            ∙ sym (ap (λ n. cond (bit n j) (value_over image grown j (tree_place n j)) None) length_grown
            ∙ ap₂ (λ b p. cond b (value_over image grown j p) None) (bit_same (suc (length s)) (length s) j a) (place_same (suc (length s)) (length s) j a))
          where
            two : (b : Bool) → bit (length s) j ≡ b
                → cond b (value_over image s j (tree_place (length s) j)) None ≡ cond b (value_over image grown j (tree_place (length s) j)) None
            two false e = refl
            two true e =
                let t = bit_top (length s) j e in
                let x = t.count in
                value_same image s j (tree_place (length s) j)
                ∙ value_below (img image) (slot_of s) (next s c) (length s) (put_below (slot_of s) (length s) c) j (tree_place (length s) j) (omega arith)
                ∙ sym (value_grown j (tree_place (length s) j))

    roots_end : set (stage_roots image s c k) k (run_value image s c k) ≡ roots_of image grown
    roots_end =
        set_below (stage_root image s c k) (run_value image s c k) 32 k
        ∙ map_ext (λ j. cond (eqb j k) (run_value image s c k) (stage_root image s c k j)) (root_of image grown) (below 32) (λ j m. root_one j)

    row_end : (w : ℕ) → w < length s → row_at (length s) k w ≡ row_of_tree (suc (length s)) w
    row_end w g = go (eqb_cases (up k w) (up k (length s)))
      where
        go : EqbCases (up k w) (up k (length s))
            → row_at (length s) k w ≡ row_of_tree (suc (length s)) w
        go (inl e) = row_here (length s) k w e.1 ∙ sym (tree_row_is (suc (length s)) k (up k (length s)) w new_top e.1)
        go (inr e) = row_else (length s) k w e.1 ∙ fin (row_of_tree (length s) w) (slot_top (length s) w g)
          where
            fin : (j : ℕ) → Top (length s) j (up j w) → j ≡ row_of_tree (suc (length s)) w
            fin j t =
                elim (cases_lt k j) [
                  | inl x ↦ high x
                  | inr x ↦ (elim (cases_eq j k) [ inl y ↦ absurd (same y) | inr y ↦ absurd (lower (let z : j < k = omega arith in z)) ])
                ]
              where
                high : k < j → j ≡ row_of_tree (suc (length s)) w
                high x = sym (tree_row_is (suc (length s)) j (up j w) w (record { count = above_same j x ∙ t.count; even = t.even }) refl)

                same : j ≡ k → ⊥
                same y =
                    let t' : Top (length s) k (up k w) = subst (λ r. Top (length s) r (up r w)) y t in
                    true_false (bit (length s) k) (top_bit (length s) k (up k w) t').0 b

                lower : j < k → ⊥
                lower x =
                    let a = t.count in
                    let d = t.even in
                    let half : up j w / 2 ≡ up j (length s) / 2 = omega arith in
                    e.1 (up_all (suc j) k (k - suc j) w (length s) (omega arith) (up_suc j w ∙ half ∙ sym (up_suc j (length s))))

    shelf_end : stage_shelf image s c ws k ≡ all_held image grown ws
    shelf_end =
        map_ext (stage_held image s c k) (λ w. held_in image (slot_of grown) (row_of_tree (length grown) w) w (slot_coin grown w)) ws
        (λ w m. ap₂ (λ r x. held_in image (next s c) r w x) (row_end w (low image s c small ws live w m)) (sym (coin_grown w m))
        ∙ ap₂ (λ f n. held_in image f (row_of_tree n w) w (slot_coin grown w)) (sym grown_slots) (sym length_grown))
        ∙ sym (all_held_map image grown (let e = length_grown in omega arith) ws grown_live)

    -- the carry ends at the view of the new slots
    stage_end : stage_ended image s c ws k ≡ view_of image grown ws
    stage_end =
        let e = length_grown in
        let d : length s + 1 ≡ length grown = omega arith in
        λ i. record { count = d i; roots = roots_end i; shelf = shelf_end i }

  next_root : (k : ℕ) → k < 32 → get_or (stage_roots image s c k) k None ≡ root_of image s k
  next_root k l = get_or_below (stage_root image s c k) None 32 k l ∙ ap (λ b. cond b None (root_of image s k)) (le-ltb k k (omega arith))

  carrying : (fuel k : ℕ) → k + fuel ≡ 32 → up k (suc (length s)) ≡ suc (up k (length s)) → ((j : ℕ) → j < k → bit (suc (length s)) j ≡ false)
      → carry image fuel k (run_value image s c k) (stage image s c ws k) ≡ view_of image grown ws
  carrying zero k e u ones =
      let q : k ≡ 32 = omega arith in
      let w : suc (length s) < 2 ^ k = rw q small in
      let a = up_span k (suc (length s)) 0 (omega arith) (omega arith) in
      absurd (omega arith)
  carrying (suc fuel) k e u ones =
      ap (λ x. elim (bit (length s) k) [
        | true ↦ carry image fuel (k + 1) (join image x (run_value image s c k)) (stage_joined image s c ws k x)
        | false ↦ stage_ended image s c ws k
      ]) (next_root k (omega arith))
      ∙ go (bit (length s) k) refl (carrying fuel (suc k) (omega arith))
    where
      go : (b : Bool) → bit (length s) k ≡ b
          → (up (suc k) (suc (length s)) ≡ suc (up (suc k) (length s)) → ((j : ℕ) → j < suc k → bit (suc (length s)) j ≡ false)
          → carry image fuel (suc k) (run_value image s c (suc k)) (stage image s c ws (suc k)) ≡ view_of image grown ws)
          → elim b [
            | true ↦ carry image fuel (k + 1) (join image (root_of image s k) (run_value image s c k)) (stage_joined image s c ws k (root_of image s k))
            | false ↦ stage_ended image s c ws k
          ] ≡ view_of image grown ws
      go true b ih =
          let o = bit_odd (length s) k b in
          let half : suc (up k (length s)) / 2 ≡ suc (up k (length s) / 2) = omega arith in
          ap (λ j. carry image fuel j (join image (root_of image s k) (run_value image s c k)) (stage_joined image s c ws k (root_of image s k))) (add-one k)
          ∙ ap₂ (carry image fuel (suc k)) (carried image s c small ws live k b) (stage_next image s c small ws live k b)
          ∙ ih (up_suc k (suc (length s)) ∙ ap (λ z. z / 2) u ∙ half ∙ ap suc (sym (up_suc k (length s))))
          (λ j m. elim (eqb_cases j k) [ inl x ↦ ap (bit (suc (length s))) x.1 ∙ even_bit (omega arith) | inr x ↦ ones j (omega (arith, x.1)) ])
        where
          even_bit : up k (suc (length s)) % 2 ≡ 0 → bit (suc (length s)) k ≡ false
          even_bit z =
              let y : (suc (length s) / 2 ^ k) % 2 ≡ 0 = ap (λ a. a % 2) (sym (up_shr k (suc (length s)))) ∙ z in
              ne_eqb ((suc (length s) / 2 ^ k) % 2) 1 (omega arith)
      go false b ih = stage_end k (omega arith) b u ones

  stage_start : view_of image s ws ≡ stage image s c ws 0
  stage_start = λ i. record { count = length s; roots = rs i; shelf = sh i }
    where
      rs : roots_of image s ≡ stage_roots image s c 0
      rs = map_ext (root_of image s) (stage_root image s c 0) (below 32) (λ j m. sym (ap (λ b. cond b None (root_of image s j)) (le-ltb j 0 (omega arith))))

      one : (w : ℕ) → w < length s → held_of image s w (slot_coin s w) ≡ stage_held image s c 0 w
      one w l =
          let t = slot_top (length s) w l in
          let x = t.count in
          let k = row_of_tree (length s) w in
          let a = stays (img image) (slot_of s) (next s c) k (up k w)
          (λ i q. put_below (slot_of s) (length s) c i (up_lt k i (length s) (omega arith))) k 0 w (omega arith) refl in
          (λ i. record { coin = slot_coin s w; row = a.row i; place = a.at i; path = a.hashes i })
          ∙ ap (λ r. held_in image (next s c) r w (slot_coin s w)) (sym (row_else (length s) 0 w (omega arith)))

      sh : all_held image s ws ≡ stage_shelf image s c ws 0
      sh = all_held_map image s (omega arith) ws live
          ∙ map_ext (λ w. held_of image s w (slot_coin s w)) (stage_held image s c 0) ws (λ w m. one w (low image s c small ws live w m))

  -- one coin added: the view of the new slots
  added : add image (view_of image s ws) c ≡ view_of image (s ++ Some c ∷ []) ws
  added =
      ap₂ (carry image 32 0) (sym (ap (map_o (λ c. img image (of_coin c))) (put_here (slot_of s) (length s) c))) stage_start
      ∙ carrying 32 0 refl refl (λ j l. absurd (omega arith))

-- and all coins of a block
pub added_all : (image : Image) (cs : List Coin) (s : Slots) (ws : List ℕ) → length s + length cs < 2 ^ 32 → Lives s ws
    → add_all image (view_of image s ws) cs ≡ view_of image (s ++ map (λ c. Some c) cs) ws
added_all image [] s ws small live = ap (λ z. view_of image z ws) (sym (append-nil s))
added_all image (c ∷ cs) s ws small live =
    let e = length-append s (Some c ∷ []) in
    ap (λ v. add_all image v cs) (added image s c (omega arith) ws live)
    ∙ added_all image cs (s ++ Some c ∷ []) ws (omega arith) (grown_live image s c (omega arith) ws live)
    ∙ ap (λ z. view_of image z ws) (append_assoc s (Some c ∷ []) (map (λ c. Some c) cs))
