-- A run of the code's bridge is that of the definitions.
use Rattle.std.proofs.Common.{◌≡◌, List, [], ◌∷◌, map, sym, ap, ◌∙◌}
use Rattle.utreexo.specs.Values.{ImageFits}
use Rattle.utreexo.specs.Checks.{Answer, Step}
use Rattle.utreexo.specs.Bridge.{Bridge as Model, new_bridge, BridgeCall, bridge_step, as_call}
use Rattle.utreexo.specs.Promise.{Run, run, bridge_run, standing}
use Rattle.promise.proofs.Promise.{faithful}
use Rattle.compression.specs.declared.Compression.{Ghosts as CompressionGhosts}
use Rattle.keeper.specs.declared.Keeper.{Ghosts as KeeperGhosts}
use Rattle.bridge.specs.declared.Bridge.{Bridge}
use Rattle.bridge.specs.State.{bridge_of}
use Rattle.bridge.specs.Runs.{Leads, RunsAsDefined}

module _ {C K : Type 0} {c : CompressionGhosts C} {k : KeeperGhosts K C} where
  abbrev ended : List Answer → Bridge C K c k → Run Model
  ended answers last = record { answers = answers; state = bridge_of last }

  led : (first : Bridge C K c k) (calls : List BridgeCall) (answers : List Answer) (last : Bridge C K c k) → Leads first calls answers last
      → run (bridge_step c.image) (bridge_of first) calls ≡ ended answers last
  led first [] [] last e = ap (ended []) e
  led first [] (a ∷ later) last e = absurd e
  led first (x ∷ xs) [] last e = absurd e
  led first (x ∷ xs) (a ∷ later) last (next, e, rest) =
      ap (λ (s : Step Model). record { answers = s.answer ∷ (run (bridge_step c.image) s.state xs).answers; state = (run (bridge_step c.image) s.state xs).state }) e
      ∙ ap (λ (r : Run Model). record { answers = a ∷ r.answers; state = r.state }) (led next xs later last rest)

  pub as_defined : ImageFits c.image → (first : Bridge C K c k) → RunsAsDefined new_bridge first
  as_defined fits first capacity empty calls answers last leads =
      let e : bridge_run c.image capacity calls ≡ ended answers last = ap (λ g. run (bridge_step c.image) g calls) (sym empty) ∙ led first calls answers last leads in
      let same = ap (λ (r : Run Model). r.answers) e in
      record {
        answered = same;
        stands = ap (λ (r : Run Model). r.state) e;
        serves = λ places wallet_calls agreed octets standing_same. (faithful c.image places).2 fits wallet_calls agreed capacity calls octets
            (ap (λ a. standing (map as_call calls) a []) same ∙ standing_same);
      }
