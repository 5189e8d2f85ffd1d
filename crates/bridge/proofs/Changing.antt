-- The calls that change a bridge make the definitions' steps.
use Rattle.std.proofs.Common.{◌≡◌, ℕ, ◌+◌, ◌^◌, ◌<◌, ◌≤◌, true, false, not, List, [], ◌∷◌, ◌++◌, map, length, take, Some, None, sym, ap, ◌∙◌, ap₂, take_all}
use Rattle.std.proofs.lemmas.Bool.{ltb-false}
use Rattle.utreexo.specs.Values.{Image}
use Rattle.utreexo.specs.Forest.{Slots}
use Rattle.utreexo.specs.Checks.{step, granted, refusal, when_granted, push, targets_of}
use Rattle.utreexo.specs.declared.types.Coin.{Coin}
use Rattle.utreexo.specs.Bytes.{Bytes}
use Rattle.utreexo.specs.Lists.{any}
use Rattle.utreexo.specs.Blocks.{entries}
use Rattle.utreexo.specs.Collection.{target_live, slots_after}
use Rattle.laws.proofs.Causes.{Free, free}
use Rattle.undo.specs.declared.mark.Blanked.{Blanked}
use Rattle.undo.proofs.Blanking.{slots_so, mark_so, still_undoable}
use Rattle.bridge.specs.declared.judge.Taking.{Taking}
use Rattle.bridge.specs.Taking.{Takes}
use Rattle.utreexo.specs.Bridge.{Bridge, Undo, undone, undo_of as undo_for, bridge_take_causes, bridge_take, bridge_take_back, bridge_step}
use Rattle.laws.proofs.Logic.{never, some_inj}
use Rattle.history.specs.Stack.{newest_of, older}
use Rattle.undo.specs.declared.mark.Mark.{Mark}
use Rattle.undo.specs.Marks.{listed, blanked, undo_of, target_entry, undoable}
use Rattle.undo.proofs.Undoing.{undoable_is, undoable_make}

abbrev pub meant : ℕ → Slots → List Undo → Bridge
meant capacity s ms = record { capacity = capacity; slots = s; marks = ms }

module _ (s t : Slots) (r : Mark) (after : undoable (undo_of r ∷ []) s ≡ true → t ≡ undone (undo_of r) s) where
  undone_first : (m : Undo) (ms : List Undo) → undoable (m ∷ ms) s ≡ true → undo_of r ≡ m → (t ≡ undone m s) × (undoable ms (undone m s) ≡ true)
  undone_first m ms u e =
      let all = undoable_is (undo_of r ∷ ms) s (ap (λ x. undoable (x ∷ ms) s) e ∙ u) in
      let so : t ≡ undone m s = after (undoable_make (undo_of r ∷ []) s (all.0, all.1, tt)) ∙ ap (λ x. undone x s) e in
      (so, ap (λ x. undoable ms (undone x s)) (sym e) ∙ undoable_make ms (undone (undo_of r) s) all.2)

  -- the newest mark undone, and dropped
  pub back : (image : Image) (capacity limit : ℕ) (old new : List Undo) → limit ≡ capacity → undoable old s ≡ true → Some (undo_of r) ≡ newest_of old → new ≡ older old
      → (bridge_step image bridge_take_back (meant capacity s old) ≡ step (granted []) (meant limit t new)) × (undoable new t ≡ true)
  back image capacity limit [] new l u e o = absurd (never (undo_of r) (sym e))
  back image capacity limit (m ∷ ms) new l u e o =
      let (so, still) = undone_first m ms u (some_inj (undo_of r) m e) in (
        ap₂ (λ n x. step (granted []) (meant n x ms)) (sym l) (sym so) ∙ ap (λ x. step (granted []) (meant limit t x)) (sym o),
        ap₂ undoable o so ∙ still,
      )

-- Taking a block --------------------------------------------------------------------------

module _ (image : Image) (capacity : ℕ) (s : Slots) (small : length s < 2 ^ 32) (bs : Bytes) (none : refusal (bridge_take_causes image capacity s bs) ≡ None) where
  granted_causes : Free (bridge_take_causes image capacity s bs)
  granted_causes = free (bridge_take_causes image capacity s bs) none

  lives : any (λ t. not (target_live image s t)) (targets_of (length s) (entries bs)) ≡ false
  lives = granted_causes.1.1.1.1.1.1.1.1.0

  room : length s + length (entries bs).coins ≤ capacity
  room = ltb-false capacity (length s + length (entries bs).coins) granted_causes.1.1.1.1.1.1.1.1.1.1.0

  module _ (t : Taking) (takes : Takes image s bs t) (r : Mark) (count : r.count ≡ length s) (listing : List Blanked) (few : length listing ≤ 32)
      (is : listing ≡ t.blanked.items) (lists : listed r ≡ take 32 listing) where
    lists_all : listed r ≡ map (target_entry image s) (targets_of (length s) (entries bs))
    lists_all = lists ∙ take_all 32 listing few ∙ is ∙ takes.blanked

    -- a granted one: the slots after it, and the marks
    pub took : (cs : List Coin) (first second : ℕ) (between after : Slots) (old new : List Undo) → cs ≡ t.coins.items → between ≡ blanked (listed r) s → first ≡ capacity
        → after ≡ take first (between ++ map (λ c. Some c) cs) → second ≡ first → new ≡ push 64 (undo_of r) old → undoable old s ≡ true
        → (bridge_step image (bridge_take bs) (meant capacity s old) ≡ step (granted []) (meant second after new)) × (undoable new after ≡ true)
    took cs first second between after old new coins b f a e m u = (
      ap (λ r. when_granted r (meant capacity (slots_after image bs s) (push 64 (undo_for image s bs) old)) (meant capacity s old)) none
          ∙ ap₂ (λ n x. step (granted []) (meant n x (push 64 (undo_for image s bs) old))) (sym (e ∙ f)) (sym after_so)
          ∙ ap (λ ms. step (granted []) (meant second after ms)) (ap (λ x. push 64 x old) (sym (mark_so image s small bs lives r count lists_all)) ∙ sym m),
      ap₂ undoable m after_so ∙ undoable_make (push 64 (undo_of r) old) (slots_after image bs s) (still_undoable image s small bs lives r count lists_all old (undoable_is old s u)),
    )
      where
        after_so : after ≡ slots_after image bs s
        after_so =
            a ∙ ap₂ (λ n x. take n (x ++ map (λ c. Some c) cs)) f (b ∙ ap (λ bs. blanked bs s) lists_all)
            ∙ ap (λ cs. take capacity (blanked (map (target_entry image s) (targets_of (length s) (entries bs))) s ++ map (λ c. Some c) cs)) (coins ∙ takes.coins)
            ∙ slots_so image s small bs lives capacity room
