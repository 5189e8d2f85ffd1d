-- Runs of the code's bridge: any list of takes and takes back, each as the contracts of these calls say.
use Rattle.std.specs.Prelude.{◌≡◌, ℕ, List, [], ◌∷◌, map}
use Rattle.std.specs.List.{AllByRecursion}
use Rattle.utreexo.specs.Checks.{Answer, step}
use Rattle.utreexo.specs.Wallet.{Call}
use Rattle.utreexo.specs.Bridge.{Bridge as Model, BridgeCall, bridge_step, as_call, GivenOctets}
use Rattle.utreexo.specs.Promise.{wallet_run, bridge_run, Agreed, standing, ServesAt}
use Rattle.compression.specs.declared.Compression.{Ghosts as CompressionGhosts}
use Rattle.keeper.specs.declared.Keeper.{Ghosts as KeeperGhosts}
use Rattle.bridge.specs.declared.Bridge.{Bridge}
use Rattle.bridge.specs.State.{bridge_of}

module _ {C K : Type 0} {c : CompressionGhosts C} {k : KeeperGhosts K C} where
  -- the calls, with these answers, lead from one bridge to another
  abbrev pub Leads : Bridge C K c k → List BridgeCall → List Answer → Bridge C K c k → Type 0
  Leads first [] [] last = first ≡ last
  Leads first [] (a ∷ later) last = ⊥
  Leads first (x ∷ xs) [] last = ⊥
  Leads first (x ∷ xs) (a ∷ later) last = (next : Bridge C K c k) × (bridge_step c.image x (bridge_of first) ≡ step a (bridge_of next)) × Leads next xs later last

  -- They are the answers of the definitions' run, and the last bridge is the one after it. So, until a wallet's answer differs from its
  -- register's, a bridge with the same standing blocks serves the wallet.
  pub record AsDefined (capacity : ℕ) (calls : List BridgeCall) (answers : List Answer) (last : Bridge C K c k) : Type 0 where
    pub answered : (bridge_run c.image capacity calls).answers ≡ answers
    pub stands : (bridge_run c.image capacity calls).state ≡ bridge_of last
    pub serves : (places : ℕ) (wallet_calls : List Call) → Agreed c.image places wallet_calls → AllByRecursion GivenOctets calls →
        standing (map as_call calls) answers [] ≡ standing wallet_calls (wallet_run c.image places wallet_calls).answers [] →
        ServesAt c.image places wallet_calls capacity calls

  -- this holds of every run that begins with such a bridge, for each capacity
  abbrev pub RunsAsDefined : (ℕ → Model) → Bridge C K c k → Type 0
  RunsAsDefined begins first = (capacity : ℕ) → bridge_of first ≡ begins capacity → (calls : List BridgeCall) (answers : List Answer) (last : Bridge C K c k) →
      Leads first calls answers last → AsDefined capacity calls answers last
