-- The standing blocks determine the slots of a register and of a bridge.
use Rattle.std.proofs.Common.{◌≡◌, ℕ, zero, suc, not, List, [], ◌∷◌, map, take, drop, Some, None, Option, sym, refl, ap, ◌∙◌, ap₂}
use Rattle.utreexo.specs.Bytes.{Bytes}
use Rattle.utreexo.specs.Lists.{filter, any}
use Rattle.utreexo.specs.Values.{Image}
use Rattle.utreexo.specs.Forest.{Slots}
use Rattle.utreexo.specs.Checks.{refusal, cause, when_granted, push}
use Rattle.utreexo.specs.Wallet.{Call, take_block, check_block, watch, let_go, show, take_back}
use Rattle.utreexo.specs.Collection.{slots_after}
use Rattle.utreexo.specs.Register.{Register, Collection, register_take_causes, register_step, register_watch_causes, with_watched, has_position}
use Rattle.utreexo.specs.Bridge.{Bridge, Undo, bridge_take_causes, BridgeCall, bridge_take, bridge_take_back, as_call, undo_of, undone, bridge_step}
use Rattle.utreexo.specs.Promise.{run, stand, standing, register_run, bridge_run}
use Rattle.promise.proofs.Undone.{undone_after}

-- the slots that blocks make, the newest block first
abbrev pub built : Image → List Bytes → Slots
built image [] = []
built image (b ∷ bs) = slots_after image b (built image bs)

-- each mark is the state before one of the newest blocks
abbrev Marks : {M : Type 0} → (M → Bytes → List Bytes → Type 0) → List M → List Bytes → Type 0
Marks P [] bs = Unit {0}
Marks P (m ∷ ms) [] = ⊥
Marks P (m ∷ ms) (b ∷ bs) = P m b bs × Marks P ms bs

-- the newest so many of them
marks_take : {M : Type 0} (P : M → Bytes → List Bytes → Type 0) (n : ℕ) (ms : List M) (bs : List Bytes) → Marks P ms bs → Marks P (take n ms) bs
marks_take P zero ms bs h = tt
marks_take P (suc n) [] bs h = tt
marks_take P (suc n) (m ∷ ms) [] h = h
marks_take P (suc n) (m ∷ ms) (b ∷ bs) h = (h.0, marks_take P n ms bs h.1)

module _ (image : Image) where
  abbrev Before : Collection → Bytes → List Bytes → Type 0
  Before m b bs = m.slots ≡ built image bs

  -- slots and marks of a register are made by these standing blocks
  pub record Made (r : Register) (bs : List Bytes) : Type 0 where
    pub now : r.current.slots ≡ built image bs
    pub history : Marks Before r.marks bs

  when_take : (b : Bytes) (r q : Register) (bs : List Bytes) (d : Option ℕ) → Made r bs → Made q (b ∷ bs)
      → Made (when_granted d q r).state (stand (take_block b) (when_granted d q r).answer bs)
  when_take b r q bs None k l = l
  when_take b r q bs (Some n) k l = k

  when_same : (r q : Register) (bs : List Bytes) (d : Option ℕ) → Made r bs → Made q bs → Made (when_granted d q r).state bs
  when_same r q bs None k l = l
  when_same r q bs (Some n) k l = k

  -- each call keeps it so
  step_made : (c : Call) (r : Register) (bs : List Bytes) → Made r bs → Made (register_step image c r).state (stand c (register_step image c r).answer bs)
  step_made (take_block b) r bs k =
      when_take b r _ bs (refusal (register_take_causes image r.current.slots b)) k
      (record { now = ap (slots_after image b) k.now; history = marks_take Before r.room (r.current ∷ r.marks) (b ∷ bs) (k.now, k.history) })
  step_made (check_block b) r bs k = when_same r r bs (refusal (register_take_causes image r.current.slots b)) k k
  step_made (watch b) r bs k = when_same r _ bs (refusal (register_watch_causes image r b)) k (record { now = k.now; history = k.history })
  step_made (let_go p) r bs k =
      let s = r.current.slots in
      when_same r (with_watched r (filter (λ w. not (has_position image s p w)) r.current.watched)) bs
      (refusal (cause 15 (not (any (has_position image s p) r.current.watched)) ∷ [])) k (record { now = k.now; history = k.history })
  step_made (show p out) r bs k = k
  step_made take_back r bs k = go r.marks refl k.history
    where
      go : (ms : List Collection) → r.marks ≡ ms → Marks Before ms bs
          → Made (register_step image take_back r).state (stand take_back (register_step image take_back r).answer bs)
      go [] e h = rw e (record { now = k.now; history = tt })
      go (m ∷ ms) e h = rw e (back m ms bs h)
        where
          back : (m : Collection) (ms : List Collection) (bs : List Bytes) → Marks Before (m ∷ ms) bs
              → Made (record { room = r.room; current = m; marks = ms }) (drop 1 bs)
          back m ms [] h = absurd h
          back m ms (b ∷ bs) h = record { now = h.0; history = h.1 }

  -- and a run
  run_made : (calls : List Call) (r : Register) (bs : List Bytes) → Made r bs
      → Made (run (register_step image) r calls).state (standing calls (run (register_step image) r calls).answers bs)
  run_made [] r bs k = k
  run_made (c ∷ cs) r bs k = run_made cs (register_step image c r).state (stand c (register_step image c r).answer bs) (step_made c r bs k)

  -- the slots of a register are those that its standing blocks make
  register_slots : (places : ℕ) (calls : List Call)
      → (register_run image places calls).state.current.slots ≡ built image (standing calls (register_run image places calls).answers [])
  register_slots places calls = (run_made calls _ [] (record { now = refl; history = tt })).now

  -- the bridge
  abbrev Undoes : Undo → Bytes → List Bytes → Type 0
  Undoes m b bs = m ≡ undo_of image (built image bs) b

  -- the same of a bridge
  pub record BridgeMade (g : Bridge) (bs : List Bytes) : Type 0 where
    pub now : g.slots ≡ built image bs
    pub history : Marks Undoes g.marks bs

  -- each call of the bridge keeps it so
  bridge_made : (c : BridgeCall) (g : Bridge) (bs : List Bytes) → BridgeMade g bs
      → BridgeMade (bridge_step image c g).state (stand (as_call c) (bridge_step image c g).answer bs)
  bridge_made (bridge_take b) g bs k = go (refusal (bridge_take_causes image g.capacity g.slots b))
    where
      q : Bridge
      q = record { capacity = g.capacity; slots = slots_after image b g.slots; marks = push 64 (undo_of image g.slots b) g.marks }

      go : (d : Option ℕ) → BridgeMade (when_granted d q g).state (stand (take_block b) (when_granted d q g).answer bs)
      go None = record {
        now = ap (slots_after image b) k.now;
        history = marks_take Undoes 64 (undo_of image g.slots b ∷ g.marks) (b ∷ bs) (ap (λ s. undo_of image s b) k.now, k.history);
      }
      go (Some n) = k
  bridge_made bridge_take_back g bs k = go g.marks refl k.history
    where
      go : (ms : List Undo) → g.marks ≡ ms → Marks Undoes ms bs
          → BridgeMade (bridge_step image bridge_take_back g).state (stand take_back (bridge_step image bridge_take_back g).answer bs)
      go [] e h = rw e (record { now = k.now; history = tt })
      go (m ∷ ms) e h = rw e (back bs k.now h)
        where
          back : (bs : List Bytes) → g.slots ≡ built image bs → Marks Undoes (m ∷ ms) bs
              → BridgeMade (record { capacity = g.capacity; slots = undone m g.slots; marks = ms }) (drop 1 bs)
          back [] n h = absurd h
          back (b ∷ bs) n h = record { now = ap₂ undone h.0 n ∙ undone_after image (built image bs) b; history = h.1 }

  -- and a run
  bridge_run_made : (calls : List BridgeCall) (g : Bridge) (bs : List Bytes) → BridgeMade g bs
      → BridgeMade (run (bridge_step image) g calls).state (standing (map as_call calls) (run (bridge_step image) g calls).answers bs)
  bridge_run_made [] g bs k = k
  bridge_run_made (c ∷ cs) g bs k =
      bridge_run_made cs (bridge_step image c g).state (stand (as_call c) (bridge_step image c g).answer bs) (bridge_made c g bs k)

  -- the slots of a bridge are those that its standing blocks make
  pub bridge_slots : (capacity : ℕ) (fed : List BridgeCall)
      → (bridge_run image capacity fed).state.slots ≡ built image (standing (map as_call fed) (bridge_run image capacity fed).answers [])
  bridge_slots capacity fed = (bridge_run_made fed _ [] (record { now = refl; history = tt })).now

  -- so with the same standing blocks they are the same
  pub same_slots : (places : ℕ) (calls : List Call) (capacity : ℕ) (fed : List BridgeCall)
      → standing (map as_call fed) (bridge_run image capacity fed).answers [] ≡ standing calls (register_run image places calls).answers []
      → (bridge_run image capacity fed).state.slots ≡ (register_run image places calls).state.current.slots
  same_slots places calls capacity fed e = bridge_slots capacity fed ∙ ap (built image) e ∙ sym (register_slots places calls)
