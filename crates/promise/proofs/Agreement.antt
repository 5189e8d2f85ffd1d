-- Agreement as the proofs of this crate have it, and what a call does to it.
use Rattle.std.proofs.Common.{◌≡◌, ℕ, Bool, true, false, not, eqb, ◌⊎◌, List, [], ◌∷◌, get_or, is_some, Some, None, Option, sym, refl, ap, ◌∙◌, subst, inl, inr}
use Rattle.std.proofs.lemmas.Bool.{and_parts, and_from, not-false, not-true, eqb-true, eq-eqb}
use Rattle.utreexo.specs.declared.types.Coin.{Coin}
use Rattle.utreexo.specs.Lists.{any}
use Rattle.utreexo.specs.Values.{Image}
use Rattle.utreexo.specs.Forest.{Slots}
use Rattle.utreexo.specs.Checks.{Answer, Step, step}
use Rattle.utreexo.specs.Wallet.{Wallet, Call, new_wallet, wallet_step}
use Rattle.utreexo.specs.Register.{Register, Collection, new_register, register_step}
use Rattle.utreexo.specs.Promise.{block_of, CaughtAt}
use Rattle.laws.proofs.Logic.{true_false}
use Rattle.laws.proofs.Order.{Mem}
use Rattle.laws.proofs.Members.{any_mem, mem_any, any_none, none_any, all_mem, mem_all}
use Rattle.laws.proofs.Slots.{Lives}
use Rattle.promise.specs.Agreement.{each_once, SoundCollection, Agrees, AgreesOrCaught, Keeps}
use Rattle.promise.proofs.Shelves.{Once}
use Rattle.promise.proofs.Taking.{Sound}
use Rattle.promise.proofs.Steps.{Kept, judged, wallet_of}
use Rattle.promise.proofs.Runs.{call_kept, new_kept}

-- watched once, both ways
once_of : (ws : List ℕ) → each_once ws ≡ true → Once ws
once_of [] e = tt
once_of (w ∷ ws) e =
    let (a, b) = and_parts (not (any (eqb w) ws)) (each_once ws) e in
    (λ m. true_false (any (eqb w) ws) (mem_any (eqb w) ws w m (eq-eqb w w refl)) (not-true (any (eqb w) ws) a), once_of ws b)

of_once : (ws : List ℕ) → Once ws → each_once ws ≡ true
of_once [] o = refl
of_once (w ∷ ws) o = and_from (not (any (eqb w) ws)) (each_once ws) (go (any (eqb w) ws) refl) (of_once ws o.1)
  where
    go : (b : Bool) → any (eqb w) ws ≡ b → not b ≡ true
    go false e = refl
    go true e = let (x, m, q) = any_mem (eqb w) ws e in absurd (o.0 (subst (λ x. Mem x ws) (sym (eqb-true w x q)) m))

-- live, both ways
there : (z : Option Coin) → is_some z ≡ true → (c : Coin) × (z ≡ Some c)
there None e = absurd (true_false false e refl)
there (Some c) e = (c, refl)

live_of : (s : Slots) (ws : List ℕ) → any (λ w. not (is_some (get_or s w None))) ws ≡ false → Lives s ws
live_of s ws e w m = there (get_or s w None) (not-false (is_some (get_or s w None)) (any_none (λ w. not (is_some (get_or s w None))) ws w e m))

of_live : (s : Slots) (ws : List ℕ) → Lives s ws → any (λ w. not (is_some (get_or s w None))) ws ≡ false
of_live s ws l = none_any (λ w. not (is_some (get_or s w None))) ws (λ w m. (let (c, e) = l w m in ap (λ z. not (is_some z)) e))

sound_of : (p : Collection) → SoundCollection p → Sound p
sound_of p s = record { small = s.few; live = live_of p.slots p.watched s.live; once = once_of p.watched s.once }

of_sound : (p : Collection) → Sound p → SoundCollection p
of_sound p s = record { few = s.small; live = of_live p.slots p.watched s.live; once = of_once p.watched s.once }

module _ (image : Image) where
  kept_of : (w : Wallet) (r : Register) → Agrees image w r → Kept image w r
  kept_of w r a =
      record {
        same = a.same;
        sound = record { now = sound_of r.current a.sound; past = λ p m. sound_of p (mem_all SoundCollection r.marks p a.sound_marks m) };
      }

  of_kept : (w : Wallet) (r : Register) → Kept image w r → Agrees image w r
  of_kept w r k =
      record {
        same = k.same;
        sound = of_sound r.current k.sound.now;
        sound_marks = all_mem SoundCollection r.marks (λ p m. of_sound p (k.sound.past p m));
      }

  -- a new wallet agrees with a new register
  pub new_agrees : (places : ℕ) → Agrees image (new_wallet places) (new_register places)
  new_agrees places = of_kept (new_wallet places) (new_register places) (new_kept image places)

  -- a step keeps the agreement, or is caught
  pub step_keeps : (c : Call) (w : Wallet) → Keeps image c w (wallet_step image c w).answer (wallet_step image c w).state
  step_keeps c w r a = go (judged image r k.sound c)
    where
      k : Kept image w r
      k = kept_of w r a

      go : ((wallet_step image c (wallet_of image r)).answer ≡ (register_step image c r).answer) ⊎ CaughtAt image r.current.slots (block_of c)
          → AgreesOrCaught image c r (wallet_step image c w).answer (wallet_step image c w).state
      go (inl q) =
          let e = ap (λ w. (wallet_step image c w).answer) k.same ∙ q in
          inl (e, of_kept (wallet_step image c w).state (register_step image c r).state (call_kept image w r k c e))
      go (inr x) = inr x

  -- so does a call that is a step
  pub call_keeps : (c : Call) (w after : Wallet) (a : Answer) → wallet_step image c w ≡ step a after → Keeps image c w a after
  call_keeps c w after a e = subst (λ (s : Step Wallet). Keeps image c w s.answer s.state) e (step_keeps c w)
