-- Whole runs: the wallet follows, and the first answer that differs is caught.
use Rattle.std.proofs.Common.{◌≡◌, ℕ, ◌≢◌, ◌⊎◌, List, [], ◌∷◌, Some, None, Option, sym, refl, ap, ◌∙◌, subst, ap₂, inl, inr, arith}
use Rattle.utreexo.specs.declared.types.Input.{Input}
use Rattle.utreexo.specs.Bytes.{Bytes}
use Rattle.utreexo.specs.Values.{Image}
use Rattle.utreexo.specs.Forest.{Slots}
use Rattle.utreexo.specs.Checks.{Answer}
use Rattle.utreexo.specs.Wallet.{Wallet, Call, new_wallet, wallet_step}
use Rattle.utreexo.specs.Collection.{challenge, Verdict, unjudged, stands, differs}
use Rattle.utreexo.specs.Register.{Register, new_register, register_step}
use Rattle.utreexo.specs.Promise.{run, wallet_run, register_run, Agreed, block_of, Evidence, CaughtAt, Follows, Caught}
use Rattle.promise.specs.Theorems.{Parting}
use Rattle.promise.proofs.Outcomes.{answers_or}
use Rattle.promise.proofs.Steps.{Kept, follows, judged, wallet_of}

module _ (image : Image) where
  -- two lists of answers that are one
  head_same : (a b : Answer) (xs ys : List Answer) → a ∷ xs ≡ b ∷ ys → (a ≡ b) × (xs ≡ ys)
  head_same a b xs ys e = (cc, cc)

  -- one call of a wallet that has what the register has
  pub call_kept : (w : Wallet) (r : Register) → Kept image w r → (c : Call) → (wallet_step image c w).answer ≡ (register_step image c r).answer
      → Kept image (wallet_step image c w).state (register_step image c r).state
  call_kept w r k c e =
      subst (λ w. Kept image (wallet_step image c w).state (register_step image c r).state) (sym k.same)
      (follows image r k.sound c (ap (λ w. (wallet_step image c w).answer) (sym k.same) ∙ e))

  -- and a run of calls
  runs_kept : (calls : List Call) (w : Wallet) (r : Register) → Kept image w r
      → (run (wallet_step image) w calls).answers ≡ (run (register_step image) r calls).answers
      → Kept image (run (wallet_step image) w calls).state (run (register_step image) r calls).state
  runs_kept [] w r k e = k
  runs_kept (c ∷ cs) w r k e =
      let (h, t) = head_same (wallet_step image c w).answer (register_step image c r).answer
      (run (wallet_step image) (wallet_step image c w).state cs).answers (run (register_step image) (register_step image c r).state cs).answers e in
      runs_kept cs (wallet_step image c w).state (register_step image c r).state (call_kept w r k c h) t

  -- a new wallet has what a new register has
  pub new_kept : (places : ℕ) → Kept image (new_wallet places) (new_register places)
  new_kept places =
      record { same = refl; sound = record { now = record { small = omega arith; live = λ w m. absurd m; once = tt }; past = λ p m. absurd m } }

  -- so after any run that agreed
  pub run_kept : (places : ℕ) (calls : List Call) → Agreed image places calls
      → Kept image (wallet_run image places calls).state (register_run image places calls).state
  run_kept places calls e = runs_kept calls (new_wallet places) (new_register places) (new_kept places) e

  -- while every answer has been the register's, the wallet sees what the register has
  pub wallet_follows : (places : ℕ) → Follows image places
  wallet_follows places calls e = ap (λ w. w.view) (run_kept places calls e).same

  -- a call after such a run: the answer is the register's, or the block is caught
  call_judged : (places : ℕ) (calls : List Call) (c : Call) → Agreed image places calls
      → ((wallet_step image c (wallet_run image places calls).state).answer ≡ (register_step image c (register_run image places calls).state).answer)
      ⊎ CaughtAt image (register_run image places calls).state.current.slots (block_of c)
  call_judged places calls c e =
      let k = run_kept places calls e in
      elim (judged image (register_run image places calls).state k.sound c) [
        | inl q ↦ inl (ap (λ w. (wallet_step image c w).answer) k.same ∙ q)
        | inr q ↦ inr q
      ]

  -- the first answer that differs is caught
  pub wallet_caught : (places : ℕ) → Caught image places
  wallet_caught places calls c e n =
      elim (call_judged places calls c e) [
        | inl q ↦ absurd (n q)
        | inr q ↦ q
      ]

  -- any run: every answer is the register's, or a call after some that agreed is caught
  abbrev Judged : Wallet → Register → List Call → Type 0
  Judged w r calls = ((run (wallet_step image) w calls).answers ≡ (run (register_step image) r calls).answers) ⊎ Parting image w r calls

  judged_from : (calls : List Call) (w : Wallet) (r : Register) → Kept image w r → Judged w r calls
  judged_from [] w r k = inl refl
  judged_from (c ∷ cs) w r k =
      elim (answers_or (wallet_step image c w).answer (register_step image c r).answer) [
        | inl h ↦ here h (judged_from cs (wallet_step image c w).state (register_step image c r).state (call_kept w r k c h))
        | inr n ↦ inr (record { before = []; call = c; rest = cs; are = refl; agreed = refl; differ = n; caught = first n (judged image r k.sound c) })
      ]
    where
      first : ((wallet_step image c w).answer ≢ (register_step image c r).answer)
          → ((wallet_step image c (wallet_of image r)).answer ≡ (register_step image c r).answer) ⊎ CaughtAt image r.current.slots (block_of c)
          → CaughtAt image r.current.slots (block_of c)
      first n (inl q) = absurd (n (ap (λ w. (wallet_step image c w).answer) k.same ∙ q))
      first n (inr q) = q

      here : (wallet_step image c w).answer ≡ (register_step image c r).answer
          → Judged (wallet_step image c w).state (register_step image c r).state cs → Judged w r (c ∷ cs)
      here q (inl t) = inl (ap₂ (λ a xs. a ∷ xs) q t)
      here q (inr p) =
          inr (record {
            before = c ∷ p.before;
            call = p.call;
            rest = p.rest;
            are = ap (λ xs. c ∷ xs) p.are;
            agreed = ap₂ (λ a xs. a ∷ xs) q p.agreed;
            differ = p.differ;
            caught = p.caught;
          })

  -- so of a new wallet and a new register
  pub run_judged : (places : ℕ) (calls : List Call) → Agreed image places calls ⊎ Parting image (new_wallet places) (new_register places) calls
  run_judged places calls = judged_from calls (new_wallet places) (new_register places) (new_kept places)

  -- where no two inputs have one image, every answer is the register's
  pub always : ((x y : Input) → image x ≡ image y → x ≡ y) → (places : ℕ) (calls : List Call) → Agreed image places calls
  always one places calls =
      elim (run_judged places calls) [
        | inl e ↦ e
        | inr p ↦ absurd (clash (run (register_step image) (new_register places) p.before).state.current.slots (block_of p.call) p.caught)
      ]
    where
      evidence : (v : Verdict) → Evidence image v → ⊥
      evidence (unjudged k) e = e
      evidence stands e = e
      evidence (differs q x y) e = e.0 (one x y e.1)

      clash : (s : Slots) (b : Option Bytes) → CaughtAt image s b → ⊥
      clash s None e = e
      clash s (Some b) e = evidence (challenge image s b) e
