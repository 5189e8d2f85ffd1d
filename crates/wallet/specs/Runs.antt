-- Runs of the code's wallet: any list of its six calls, each as the contracts of these calls say.
use Rattle.std.specs.Prelude.{◌≡◌, ℕ, ◌≢◌, List, [], ◌∷◌}
use Rattle.utreexo.specs.Values.{Image}
use Rattle.utreexo.specs.Checks.{Answer, step}
use Rattle.utreexo.specs.Wallet.{Wallet, Call, wallet_step}
use Rattle.utreexo.specs.Register.{register_view, register_step}
use Rattle.utreexo.specs.Promise.{wallet_run, register_run, block_of, CaughtAt}
use Rattle.wallet.specs.declared.Wallet.{Wallet as WalletCode}
use Rattle.wallet.specs.State.{wallet_of}

module _ {C : Type 0} (image : Image) where
  -- the calls, with these answers, lead from one wallet to another
  abbrev pub Leads : WalletCode C → List Call → List Answer → WalletCode C → Type 0
  Leads first [] [] last = first ≡ last
  Leads first [] (a ∷ later) last = ⊥
  Leads first (x ∷ xs) [] last = ⊥
  Leads first (x ∷ xs) (a ∷ later) last = (next : WalletCode C) × (wallet_step image x (wallet_of first) ≡ step a (wallet_of next)) × Leads next xs later last

  -- They are the answers of the definitions' run, and the last wallet is the one after it. So while they are the register's, the wallet has
  -- what the register has; and a next answer that is not the register's is caught.
  pub record AsDefined (places : ℕ) (calls : List Call) (answers : List Answer) (last : WalletCode C) : Type 0 where
    pub answered : (wallet_run image places calls).answers ≡ answers
    pub stands : (wallet_run image places calls).state ≡ wallet_of last
    pub follows : answers ≡ (register_run image places calls).answers → (wallet_of last).view ≡ register_view image (register_run image places calls).state
    pub caught : answers ≡ (register_run image places calls).answers → (c : Call) (a : Answer) (next : WalletCode C) →
        wallet_step image c (wallet_of last) ≡ step a (wallet_of next) →
        (a ≢ (register_step image c (register_run image places calls).state).answer) →
        CaughtAt image (register_run image places calls).state.current.slots (block_of c)

  -- this holds of every run that begins with such a wallet, for each number of places
  abbrev pub RunsAsDefined : (ℕ → Wallet) → WalletCode C → Type 0
  RunsAsDefined begins first = (places : ℕ) → wallet_of first ≡ begins places → (calls : List Call) (answers : List Answer) (last : WalletCode C) →
      Leads first calls answers last → AsDefined places calls answers last
