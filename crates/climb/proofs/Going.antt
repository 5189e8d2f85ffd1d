-- The loop of a row's step, by what is left to do. Assumes nothing.
use Rattle.std.proofs.Common.{◌≡◌, ℕ, ◌+◌, ◌≤◌, true, false, List, [], ◌∷◌, ◌++◌, length, get_or, None, Some, Option, sym, ap, ◌∙◌, arith}
use Rattle.std.proofs.lemmas.List.{append_assoc, length_push}
use Rattle.utreexo.specs.declared.types.Value.{Value}
use Rattle.climb.specs.declared.item.Item.{Item}
use Rattle.utreexo.specs.Values.{Image}
use Rattle.utreexo.specs.Claims.{no_value}
use Rattle.climb.specs.Rows.{top, beside, Stepped, stepped, before, twin, lone, step}
use Rattle.climb.specs.Held.{alone_item}
use Rattle.climb.proofs.Steps.{step_root, step_pair, step_lone}

-- ps in front
abbrev pub behind : List Item → Stepped → Stepped
behind ps s = stepped (ps ++ s.parents) s.aside s.next

behind_before : (ps : List Item) (p : Item) (s : Stepped) → behind ps (before p s) ≡ behind (ps ++ (p ∷ [])) s
behind_before ps p s = ap (λ (l : List Item). stepped l s.aside s.next) (sym (append_assoc ps (p ∷ []) s.parents))

module _ (image : Image) (hs : List Value) (w : ℕ) (items : List Item) (used : ℕ) where
  -- what is left gives the rest of the answer
  pub record Going (parents : List Item) (aside : Option Item) (next : ℕ) (rest : List Item) : Type 0 where
    pub room : length parents + length rest ≤ length items
    pub count : next + length rest ≤ used + length items
    pub ahead : behind parents (step image hs w next aside rest) ≡ step image hs w used None items

module _ {image : Image} {hs : List Value} {w : ℕ} {items : List Item} {used : ℕ} where
  module _ {parents : List Item} {aside : Option Item} {next : ℕ} {rest : List Item} (was : Going image hs w items used parents aside next rest) where
    module _ {x : Item} {after : List Item} (left : rest ≡ x ∷ after) where
      pub going_root : true ≡ top w x.place → Going image hs w items used parents (Some x) next after
      going_root e =
          let r = was in
          let l = ap length left in
          record {
            room = omega arith;
            count = omega arith;
            ahead = ap (behind parents) (sym (ap (step image hs w next aside) left ∙ step_root image hs w next aside x after (sym e))) ∙ r.ahead;
          }

      -- one parent more
      more : (p : Item) (out : List Item) (later : Stepped) → out ≡ parents ++ (p ∷ []) → step image hs w next aside (x ∷ after) ≡ before p later → behind out later ≡ step image hs w used None items
      more p out later e now =
          ap (λ (ps : List Item). behind ps later) e ∙ sym (behind_before parents p later) ∙ ap (behind parents) (sym (ap (step image hs w next aside) left ∙ now)) ∙ was.ahead

      pub going_both : false ≡ top w x.place → {y : Item} {others : List Item} → after ≡ y ∷ others → beside x.place y.place ≡ true → {out : List Item} {p : Item} → p ≡ twin image x y → out ≡ parents ++ (p ∷ [])
          → Going image hs w items used out aside next others
      going_both e {y} {others} f b {out} {p} pe oe =
          let r = was in
          let l = ap length left in
          let m = ap length f in
          let s = ap length oe ∙ length_push parents p in
          record {
            room = omega arith;
            count = omega arith;
            ahead = more p out _ oe (ap (λ (l : List Item). step image hs w next aside (x ∷ l)) f ∙ step_pair image hs w next aside x y others (sym e) b ∙ ap (λ (q : Item). before q (step image hs w next aside others)) (sym pe));
          }

      pub going_lone : false ≡ top w x.place → alone_item x after ≡ true → {h : Value} → h ≡ get_or hs next no_value → {out : List Item} {p : Item} → p ≡ lone image x h → out ≡ parents ++ (p ∷ [])
          → {next' : ℕ} → next' ≡ next + 1 → Going image hs w items used out aside next' after
      going_lone e f {h} he {out} {p} pe oe {next'} ne =
          let r = was in
          let l = ap length left in
          let s = ap length oe ∙ length_push parents p in
          record {
            room = omega arith;
            count = omega arith;
            ahead = more p out _ oe (step_lone image hs w next aside x after (sym e) f ∙ ap (λ (q : Item). before q (step image hs w (next + 1) aside after)) (sym (pe ∙ ap (lone image x) he)) ∙ ap (λ k. before p (step image hs w k aside after)) (sym ne));
          }
