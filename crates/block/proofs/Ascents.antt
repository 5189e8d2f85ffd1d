-- Positions ascend where each is below the next.
use Rattle.std.proofs.Common.{◌≡◌, ℕ, zero, suc, ◌+◌, ◌<◌, true, false, ltb, List, [], ◌∷◌, length, get_or, refl, add-one, arith}
use Rattle.std.proofs.lemmas.Bool.Decides.{nat_tests}
use Rattle.utreexo.specs.declared.types.Position.{Position}
use Rattle.utreexo.specs.Blocks.{ascending}
use Rattle.block.specs.Compose.{numbers}

-- each is below the next
pub all_below : (ps : List Position) → ((k : ℕ) (d : Position) → k + 1 < length ps → true ≡ ltb (get_or ps k d).number (get_or ps (k + 1) d).number)
    → ascending (numbers ps) ≡ true
all_below [] h = refl
all_below (p ∷ []) h = refl
all_below (p ∷ (q ∷ ps)) h =
    let r = h 0 p (omega arith) in
    let t = all_below (q ∷ ps) (λ k d l. rw add-one (rw add-one at (h (suc k) d (omega arith)))) in
    grind (arith, nat_tests)

-- some is not
pub some_above : (ps : List Position) (k : ℕ) → k + 1 < length ps
    → ((d : Position) → false ≡ ltb (get_or ps k d).number (get_or ps (k + 1) d).number) → ascending (numbers ps) ≡ false
some_above [] k l h = absurd (omega arith)
some_above (p ∷ []) k l h = absurd (omega arith)
some_above (p ∷ (q ∷ ps)) zero l h = let r = h p in grind (arith, nat_tests)
some_above (p ∷ (q ∷ ps)) (suc k) l h =
    let r = some_above (q ∷ ps) k (omega arith) (λ d. rw add-one (rw add-one at (h d))) in
    grind (arith, nat_tests)
