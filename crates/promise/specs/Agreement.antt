-- When a wallet has what a register has, and what one call then does to the two.
use Rattle.std.specs.Prelude.{◌≡◌, ℕ, ◌^◌, ◌<◌, Bool, true, false, not, ◌&&◌, ◌⊎◌, List, [], ◌∷◌, map, length, is_some, None, nat_eq, slice_index_or}
use Rattle.std.specs.List.{AllByRecursion}
use Rattle.utreexo.specs.Lists.{any}
use Rattle.utreexo.specs.Values.{Image}
use Rattle.utreexo.specs.Checks.{Answer}
use Rattle.utreexo.specs.Wallet.{Wallet, Call}
use Rattle.utreexo.specs.Collection.{view_of}
use Rattle.utreexo.specs.Register.{Register, Collection, register_view, register_step}
use Rattle.utreexo.specs.Promise.{block_of, CaughtAt}

-- no number stands twice in the list
abbrev pub each_once : List ℕ → Bool
each_once [] = true
each_once (w ∷ ws) = not (any (nat_eq w) ws) && each_once ws

-- what holds of a register's slots and watched slots at all times: there are fewer than 2 ^ 32 slots, each watched one is live, and it
-- is watched once
pub record SoundCollection (p : Collection) : Type 0 where
  pub few : length p.slots < 2 ^ 32
  pub live : any (λ w. not (is_some (slice_index_or p.slots w None))) p.watched ≡ false
  pub once : each_once p.watched ≡ true

-- what a wallet holds that follows a register: room for as many marks; count, roots and watched coins of its slots; and so at each mark
abbrev pub wallet_for : Image → Register → Wallet
wallet_for image r = record { room = r.room; view = register_view image r; marks = map (λ p. view_of image p.slots p.watched) r.marks }

-- the wallet holds just that, and the register is sound, now and at each mark
pub record Agrees (image : Image) (w : Wallet) (r : Register) : Type 0 where
  pub same : w ≡ wallet_for image r
  pub sound : SoundCollection r.current
  pub sound_marks : AllByRecursion SoundCollection r.marks

-- The register answers the call as the wallet did, and agrees with the wallet's state after it. Or the call is caught: it is take,
-- check or watch, and the challenge of its block over the register's slots returns two different inputs with one image.
abbrev pub AgreesOrCaught : Image → Call → Register → Answer → Wallet → Type 0
AgreesOrCaught image c r a after =
    let s = register_step image c r in
    ((a ≡ s.answer) × Agrees image after s.state) ⊎ CaughtAt image r.current.slots (block_of c)

-- so of every register that agrees with the wallet before the call
abbrev pub Keeps : Image → Call → Wallet → Answer → Wallet → Type 0
Keeps image c before a after = (r : Register) → Agrees image before r → AgreesOrCaught image c r a after
