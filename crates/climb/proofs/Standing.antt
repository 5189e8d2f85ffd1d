-- The loops over the rows: what holds when a row begins.
use Rattle.std.proofs.Common.{◌≡◌, ℕ, suc, ◌+◌, ◌*◌, ◌/◌, ◌^◌, ◌<◌, ◌≤◌, Bool, not, ◌&&◌, ◌⊎◌, List, [], ◌∷◌, ◌++◌, map, length, get_or, drop, set, None, Option, sym, ap, ◌∙◌, subst, inl, inr, arith}
use Rattle.std.proofs.lemmas.Bool.{cases_eq}
use Rattle.std.proofs.Math.Seq.{set-append_seam}
use Rattle.std.proofs.lemmas.List.{append_assoc, append-nil, drop_more, drop_all, length-set, get_or-set_same, get_or-set_other, map_push}
use Rattle.utreexo.specs.declared.types.Value.{Value}
use Rattle.climb.specs.declared.item.Item.{Item}
use Rattle.utreexo.specs.Values.{Image}
use Rattle.utreexo.specs.Lists.{below, any}
use Rattle.utreexo.specs.Claims.{Target, proof_of, needed, fits_root, fits, root_after}
use Rattle.targets.proofs.Valid.{Valid}
use Rattle.climb.specs.Rows.{front, past, merge, left_of, Stepped, stepped, spent_item, step, met, renew}
use Rattle.climb.proofs.Folded.{pasts, full, carried, used}
use Rattle.climb.specs.After.{covered_places}
use Rattle.climb.specs.Entries.{entry}
use Rattle.laws.proofs.Ranges.{length_map_below}
use Rattle.climb.proofs.Picked.{used_all}
use Rattle.climb.proofs.Full.{full_is}
use Rattle.climb.proofs.Rowwise.{row_merged, row_stepped, row_aside, set_aside, row_fits_root, row_root_after, fits_more}

-- one root more is written
write_more : {A : Type 0} (f : ℕ → A) (roots now : List A) (r : ℕ) (d z : A) → r < length roots → now ≡ map f (below r) ++ drop r roots → z ≡ f r → set now r z ≡ map f (below (suc r)) ++ drop (suc r) roots
write_more f roots now r d z lt e q =
    let s : suc r ≡ r + 1 = omega arith in
    ap (λ l. set l r z) (e ∙ ap (λ l. map f (below r) ++ l) (drop_more roots r d lt))
    ∙ ap (λ k. set (map f (below r) ++ (get_or roots r d ∷ drop (r + 1) roots)) k z) (sym (length_map_below f r))
    ∙ set-append_seam (map f (below r)) (get_or roots r d) (drop (r + 1) roots) z
    ∙ ap (λ x. map f (below r) ++ (x ∷ drop (r + 1) roots)) q
    ∙ sym (append_assoc (map f (below r)) (f r ∷ []) (drop (r + 1) roots))
    ∙ ap (λ l. l ++ drop (r + 1) roots) (sym (map_push f (below r) r))
    ∙ ap (λ k. map f (below (suc r)) ++ drop k roots) (sym s)

module _ (image : Image) (n : ℕ) (ts : List Target) (hs : List Value) where
  -- the items that come up from the row below, the targets that are left, and the number of the next hash, when row r begins
  pub record Rising (r : ℕ) (items : List Item) (left : List Target) (next : ℕ) : Type 0 where
    pub items_are : items ≡ map (entry image (proof_of n ts hs) r) (carried n ts r)
    pub left_is : left ≡ pasts r ts
    pub next_is : next ≡ used n ts r
    pub next_low : next ≤ 32 * r

  -- and whether the roots so far fit, the roots so far, and the table's rows so far
  pub record Standing (roots : List (Option Value)) (r : ℕ) (items : List Item) (left : List Target) (next : ℕ) (fitting : Bool) (roots_now : List (Option Value)) (table : List (List Item)) : Type 0 where
    pub rising : Rising r items left next
    pub fitting_is : fitting ≡ not (any (λ k. not (fits_root image (proof_of n ts hs) roots k)) (below r))
    pub size : length roots_now ≡ 32
    pub roots_are : roots_now ≡ map (root_after image (proof_of n ts hs) roots) (below r) ++ drop r roots
    pub tall : length table ≡ 32
    pub told : (j : ℕ) → j < r → get_or table j [] ≡ map (entry image (proof_of n ts hs) j) (full n ts j)

  -- all rows are done
  pub record Done (roots : List (Option Value)) (next : ℕ) (fitting : Bool) (roots_now : List (Option Value)) (table : List (List Item)) : Type 0 where
    pub all_used : next ≡ length (needed n ts)
    pub all_fit : fitting ≡ fits image (proof_of n ts hs) roots
    pub all_roots : roots_now ≡ map (root_after image (proof_of n ts hs) roots) (below 32)
    pub all_told : (r : ℕ) → r < 32 → get_or table r [] ≡ map (entry image (proof_of n ts hs) r) (covered_places n ts r)

module _ {image : Image} {n : ℕ} {ts : List Target} {hs : List Value} where
  -- a row's targets are merged in, and the row is taken up
  module _ (v : Valid n ts) {r : ℕ} {items : List Item} {left : List Target} {next : ℕ} (was : Rising image n ts hs r items left next) (low : r < 32)
      {merged : List Item} (merged_so : merged ≡ merge left_of items (map (spent_item image) (front r left))) where
    pub merged_is : merged ≡ map (entry image (proof_of n ts hs) r) (full n ts r)
    merged_is =
        merged_so ∙ ap (λ (l : List Item). merge left_of l (map (spent_item image) (front r left))) was.items_are
        ∙ ap (λ l. merge left_of (map (entry image (proof_of n ts hs) r) (carried n ts r)) (map (spent_item image) (front r l))) was.left_is
        ∙ row_merged image v hs r

    module _ {parents : List Item} {aside : Option Item} {next' : ℕ} (made_so : stepped parents aside next' ≡ step image hs (n / 2 ^ r) next None merged) where
      made_is : stepped parents aside next' ≡ stepped (map (entry image (proof_of n ts hs) (suc r)) (carried n ts (suc r))) (set_aside image v hs r) (used n ts (suc r))
      made_is =
          made_so ∙ ap (step image hs (n / 2 ^ r) next None) merged_is
          ∙ ap (λ (x : ℕ). step image hs (n / 2 ^ r) x None (map (entry image (proof_of n ts hs) r) (full n ts r))) was.next_is
          ∙ row_stepped image v hs r low
          ∙ ap (λ (a : Option Item). stepped (map (entry image (proof_of n ts hs) (suc r)) (carried n ts (suc r))) a (used n ts (suc r))) (row_aside image v hs r)

      pub aside_is : aside ≡ set_aside image v hs r
      aside_is = ap (λ (s : Stepped). s.aside) made_is

      pub rising_more : {left' : List Target} → left' ≡ past r left → next' ≤ next + 32 → Rising image n ts hs (r + 1) parents left' next'
      rising_more {left'} e bound =
          let one : suc r ≡ r + 1 = omega arith in
          let u = was.next_low in
          subst (λ (x : ℕ). Rising image n ts hs x parents left' next') one
          (record {
            items_are = ap (λ (s : Stepped). s.parents) made_is;
            left_is = e ∙ ap (past r) was.left_is;
            next_is = ap (λ (s : Stepped). s.next) made_is;
            next_low = omega arith;
          })

  module _ {roots : List (Option Value)} where
    pub standing_more : (v : Valid n ts) {r : ℕ} {items : List Item} {left : List Target} {next : ℕ} {fitting : Bool} {roots_now : List (Option Value)} {table : List (List Item)}
        → Standing image n ts hs roots r items left next fitting roots_now table → r < 32 → length roots ≡ 32
        → {merged : List Item} → merged ≡ merge left_of items (map (spent_item image) (front r left)) → {parents : List Item} {aside : Option Item} {next' : ℕ}
        → stepped parents aside next' ≡ step image hs (n / 2 ^ r) next None merged → {left' : List Target} → left' ≡ past r left → next' ≤ next + 32
        → {fitting' : Bool} → fitting' ≡ (fitting && met aside (get_or roots r None)) → {z : Option Value} → z ≡ renew aside (get_or roots r None)
        → {table' : List (List Item)} → table' ≡ set table r merged → Standing image n ts hs roots (r + 1) parents left' next' fitting' (set roots_now r z) table'
    standing_more v {r} {items} {left} {next} {fitting} {roots_now} {table} w low whole {merged} me {parents} {aside} {next'} e le bound se {z} ze {table'} te =
        let one : r + 1 ≡ suc r = omega arith in
        let up = rising_more v w.rising low me e le bound in
        let aside_so = aside_is v w.rising low me e in
        let met_is : met aside (get_or roots r None) ≡ fits_root image (proof_of n ts hs) roots r = ap (λ (a : Option Item). met a (get_or roots r None)) aside_so ∙ sym (row_fits_root image v hs roots r) in
        let z_is : z ≡ root_after image (proof_of n ts hs) roots r = ze ∙ ap (λ (a : Option Item). renew a (get_or roots r None)) aside_so ∙ sym (row_root_after image v hs roots r) in
        let row_is = merged_is v w.rising low me in
        let high = w.tall in
        record {
          rising = up;
          fitting_is = se ∙ ap (λ (x : Bool). x && met aside (get_or roots r None)) w.fitting_is ∙ ap (λ (x : Bool). not (any (λ j. not (fits_root image (proof_of n ts hs) roots j)) (below r)) && x) met_is
              ∙ sym (fits_more image v hs roots r) ∙ ap (λ x. not (any (λ j. not (fits_root image (proof_of n ts hs) roots j)) (below x))) (sym one);
          size = length-set roots_now r z ∙ w.size;
          roots_are = write_more (root_after image (proof_of n ts hs) roots) roots roots_now r None z (omega arith) w.roots_are z_is
              ∙ ap (λ x. map (root_after image (proof_of n ts hs) roots) (below x) ++ drop x roots) (sym one);
          tall = ap length te ∙ length-set table r merged ∙ w.tall;
          told = λ j less. tell j (cases_eq j r) less row_is high;
        }
      where
        tell : (j : ℕ) → (j ≡ r) ⊎ (j ≡ r → ⊥) → j < r + 1 → merged ≡ map (entry image (proof_of n ts hs) r) (full n ts r) → length table ≡ 32
            → get_or table' j [] ≡ map (entry image (proof_of n ts hs) j) (full n ts j)
        tell j (inl q) less row_is high =
            ap (λ (l : List (List Item)). get_or l j []) te ∙ ap (λ x. get_or (set table r merged) x []) q ∙ get_or-set_same table r merged [] (omega arith) ∙ row_is
            ∙ ap (λ x. map (entry image (proof_of n ts hs) x) (full n ts x)) (sym q)
        tell j (inr q) less row_is high = ap (λ (l : List (List Item)). get_or l j []) te ∙ get_or-set_other table r j merged [] q ∙ w.told j (omega arith)

    pub standing_all : (v : Valid n ts) → length roots ≡ 32 → {r : ℕ} {items : List Item} {left : List Target} {next : ℕ} {fitting : Bool} {roots_now : List (Option Value)} {table : List (List Item)}
        → Standing image n ts hs roots r items left next fitting roots_now table → r ≡ 32 → Done image n ts hs roots next fitting roots_now table
    standing_all v whole {r} {items} {left} {next} {fitting} {roots_now} {table} w e = last (subst (λ (x : ℕ). Standing image n ts hs roots x items left next fitting roots_now table) e w)
      where
        last : Standing image n ts hs roots 32 items left next fitting roots_now table → Done image n ts hs roots next fitting roots_now table
        last s =
            record {
              all_used = s.rising.next_is ∙ used_all v hs;
              all_fit = s.fitting_is;
              all_roots = s.roots_are ∙ ap (λ (l : List (Option Value)). map (root_after image (proof_of n ts hs) roots) (below 32) ++ l) (drop_all 32 roots (omega arith)) ∙ append-nil (map (root_after image (proof_of n ts hs) roots) (below 32));
              all_told = λ r l. s.told r l ∙ ap (map (entry image (proof_of n ts hs) r)) (full_is v r);
            }
