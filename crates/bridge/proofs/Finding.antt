-- Where no slot was found.
use Rattle.std.proofs.Common.{◌≡◌, ℕ, ◌<◌, ◌≤◌, length, get_or, Some, None, Option, sym, subst, arith}
use Rattle.std.specs.Option.{MatchOption}
use Rattle.std.proofs.lemmas.Option.{MatchOption-at_none}
use Rattle.utreexo.specs.declared.types.Coin.{Coin}
use Rattle.utreexo.specs.declared.types.Slot.{Slot}
use Rattle.utreexo.specs.Forest.{Slots}
use Rattle.utreexo.specs.Bridge.{Found}
use Rattle.laws.proofs.Slots.{slot_low}
use Rattle.bridge.specs.State.{number_in}

pub none_found : (s : Slots) (c : Coin) (n : ℕ) (r : Option ℕ) (Q : ℕ → Type 0) (o : Option Slot) → n ≡ length s → r ≡ None → o ≡ None
    → MatchOption r ((k : ℕ) → 0 ≤ k → k < n → get_or s k None ≡ Some c → ⊥) Q → Found s c (number_in o)
none_found s c n r Q o long none out m =
    let no : (k : ℕ) → 0 ≤ k → k < n → get_or s k None ≡ Some c → ⊥ = MatchOption-at_none ((k : ℕ) → 0 ≤ k → k < n → get_or s k None ≡ Some c → ⊥) Q none m in
    subst (λ x. Found s c (number_in x)) (sym out) (λ w e. no w (omega arith) (let l = slot_low s w c e in omega arith) e)
