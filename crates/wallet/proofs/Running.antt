-- A run of the code's wallet is that of the definitions.
use Rattle.std.proofs.Common.{◌≡◌, List, [], ◌∷◌, sym, ap, ◌∙◌}
use Rattle.utreexo.specs.Values.{Image}
use Rattle.utreexo.specs.Checks.{Answer, Step}
use Rattle.utreexo.specs.Wallet.{Wallet, new_wallet, Call, wallet_step}
use Rattle.utreexo.specs.Promise.{Run, run, wallet_run}
use Rattle.promise.proofs.Promise.{faithful}
use Rattle.wallet.specs.declared.Wallet.{Wallet as WalletCode}
use Rattle.wallet.specs.State.{wallet_of}
use Rattle.wallet.specs.Runs.{Leads, RunsAsDefined}

module _ {C : Type 0} (image : Image) where
  abbrev ended : List Answer → WalletCode C → Run Wallet
  ended answers last = record { answers = answers; state = wallet_of last }

  led : (first : WalletCode C) (calls : List Call) (answers : List Answer) (last : WalletCode C) → Leads image first calls answers last
      → run (wallet_step image) (wallet_of first) calls ≡ ended answers last
  led first [] [] last e = ap (ended []) e
  led first [] (a ∷ later) last e = absurd e
  led first (x ∷ xs) [] last e = absurd e
  led first (x ∷ xs) (a ∷ later) last (next, e, rest) =
      ap (λ (s : Step Wallet). record { answers = s.answer ∷ (run (wallet_step image) s.state xs).answers; state = (run (wallet_step image) s.state xs).state }) e
      ∙ ap (λ (r : Run Wallet). record { answers = a ∷ r.answers; state = r.state }) (led next xs later last rest)

  pub as_defined : (first : WalletCode C) → RunsAsDefined image new_wallet first
  as_defined first places empty calls answers last leads =
      let e : wallet_run image places calls ≡ ended answers last = ap (λ w. run (wallet_step image) w calls) (sym empty) ∙ led first calls answers last leads in
      let same = ap (λ (r : Run Wallet). r.answers) e in
      let stands = ap (λ (r : Run Wallet). r.state) e in
      record {
        answered = same;
        stands = stands;
        follows = λ agreed. ap (λ (w : Wallet). w.view) (sym stands) ∙ (faithful image places).0 calls (same ∙ agreed);
        caught = λ agreed c a next made differs. (faithful image places).1 calls c (same ∙ agreed)
            (λ q. differs (sym (ap (λ (w : Wallet). (wallet_step image c w).answer) stands ∙ ap (λ (s : Step Wallet). s.answer) made) ∙ q));
      }
