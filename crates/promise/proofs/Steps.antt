-- One call: a wallet that has what the register has keeps so while the answers agree, and an answer that differs is caught.
use Rattle.std.proofs.Common.{◌≡◌, ℕ, not, eqb, ◌⊎◌, List, [], ◌∷◌, ◌++◌, map, length, Some, None, Option, sym, refl, ap, subst, inl, inr}
use Rattle.std.proofs.lemmas.List.{take-map}
use Rattle.utreexo.specs.Bytes.{Bytes}
use Rattle.utreexo.specs.Lists.{any, filter}
use Rattle.utreexo.specs.Values.{Image}
use Rattle.utreexo.specs.Forest.{Slots}
use Rattle.utreexo.specs.Blocks.{entries}
use Rattle.utreexo.specs.Checks.{cause, refusal, granted, refused, targets_of, Step, step, when_granted, push}
use Rattle.utreexo.specs.Wallet.{View, Wallet, Call, take_block, check_block, watch, let_go, show, take_back, take_causes, watch_causes, view_after, on_shelf}
use Rattle.utreexo.specs.Wallet.{held_from, position_of, with_view, with_shelf, drop_first, wallet_step}
use Rattle.utreexo.specs.Collection.{view_of, all_held, spent_slot, slots_after, slots_named}
use Rattle.utreexo.specs.Register.{Register, Collection, register_take_causes, with_watched, has_position, register_watch_causes, register_step}
use Rattle.utreexo.specs.Promise.{block_of, CaughtAt}
use Rattle.laws.proofs.Order.{Mem}
use Rattle.laws.proofs.Members.{filter_mem, take_mem}
use Rattle.promise.proofs.Outcomes.{granted_refused, same_answer}
use Rattle.promise.proofs.Shelves.{once_filter, shelf_has, shelf_drop, shelf_show}
use Rattle.promise.proofs.Caught.{caught, FitsNotGenuine}
use Rattle.promise.proofs.Taking.{Sound, taken_view, taken_sound, take_judged, collection}
use Rattle.promise.proofs.Watching.{watch_judged, watched_shelf, watched_sound}

-- the view of a state of the register
abbrev collection_view : Image → Collection → View
collection_view image p = view_of image p.slots p.watched

-- the wallet with the view, the marks and the room of a register
abbrev pub wallet_of : Image → Register → Wallet
wallet_of image r = record { room = r.room; view = collection_view image r.current; marks = map (collection_view image) r.marks }

-- sound now and at each mark
pub record SoundRegister (r : Register) : Type 0 where
  pub now : Sound r.current
  pub past : (p : Collection) → Mem p r.marks → Sound p

-- taking back, by the marks
abbrev wallet_back : Wallet → List View → Step Wallet
wallet_back w ms = elim ms [ [] ↦ step (refused 14) w | m ∷ ms ↦ step (granted []) (record { room = w.room; view = m; marks = ms }) ]

abbrev register_back : Register → List Collection → Step Register
register_back r ms = elim ms [ [] ↦ step (refused 14) r | m ∷ ms ↦ step (granted []) (record { room = r.room; current = m; marks = ms }) ]

-- a wallet that is so of a register that is sound
pub record Kept (image : Image) (w : Wallet) (r : Register) : Type 0 where
  pub same : w ≡ wallet_of image r
  pub sound : SoundRegister r

module _ (image : Image) where
  both_granted : (d d' : Option ℕ) (new old : Wallet) (new' old' : Register) → Kept image old old' → (d' ≡ None → Kept image new new')
      → (when_granted d new old).answer ≡ (when_granted d' new' old').answer → Kept image (when_granted d new old).state (when_granted d' new' old').state
  both_granted None None new old new' old' k f e = f refl
  both_granted None (Some n) new old new' old' k f e = absurd (granted_refused [] n e)
  both_granted (Some n) None new old new' old' k f e = absurd (granted_refused [] n (sym e))
  both_granted (Some n) (Some m) new old new' old' k f e = k

  push_map : (room : ℕ) (p : Collection) (ms : List Collection)
      → push room (collection_view image p) (map (collection_view image) ms) ≡ map (collection_view image) (push room p ms)
  push_map room p ms = take-map (collection_view image) room (p ∷ ms)

  module _ (r : Register) (sound : SoundRegister r) where
    abbrev s : Slots
    s = r.current.slots

    abbrev ws : List ℕ
    ws = r.current.watched

    abbrev v : View
    v = collection_view image r.current

    abbrev w : Wallet
    w = wallet_of image r

    -- the refusals of wallet and register
    abbrev wallet_takes : Bytes → Option ℕ
    wallet_takes b = refusal (take_causes image v b)

    abbrev register_takes : Bytes → Option ℕ
    register_takes b = refusal (register_take_causes image s b)

    abbrev wallet_watches : Bytes → Option ℕ
    wallet_watches b = refusal (watch_causes image v b)

    abbrev register_watches : Bytes → Option ℕ
    register_watches b = refusal (register_watch_causes image r b)

    abbrev wallet_lets_go : ℕ → Option ℕ
    wallet_lets_go p = refusal (cause 15 (not (on_shelf (length s) (all_held image s ws) p)) ∷ [])

    abbrev register_lets_go : ℕ → Option ℕ
    register_lets_go p = refusal (cause 15 (not (any (has_position image s p) ws)) ∷ [])

    -- their states after a block is taken, one is watched, and a position is let go
    abbrev wallet_taken : Bytes → Wallet
    wallet_taken b = record { room = r.room; view = view_after image b v; marks = push r.room v (map (collection_view image) r.marks) }

    abbrev register_taken : Bytes → Register
    register_taken b = record {
      room = r.room;
      current = collection (slots_after image b s) (filter (λ w. not (spent_slot image s (targets_of (length s) (entries b)) w)) ws);
      marks = push r.room r.current r.marks;
    }

    abbrev wallet_watching : Bytes → Wallet
    wallet_watching b = with_view w (with_shelf v (all_held image s ws ++ held_from (length s) (entries b)))

    abbrev register_watching : Bytes → Register
    register_watching b = with_watched r (ws ++ slots_named image s (entries b))

    abbrev wallet_let_go : ℕ → Wallet
    wallet_let_go p = with_view w (with_shelf v (drop_first (λ h. eqb (position_of (length s) h) p) (all_held image s ws)))

    abbrev register_let_go : ℕ → Register
    register_let_go p = with_watched r (filter (λ w. not (has_position image s p w)) ws)

    stay : Kept image w r
    stay = record { same = refl; sound = sound }

    pushed : (p : Collection) → Mem p (push r.room r.current r.marks) → Sound p
    pushed p m = go (take_mem r.room (r.current ∷ r.marks) p m)
      where
        go : Mem p (r.current ∷ r.marks) → Sound p
        go (inl e) = subst Sound (sym e) sound.now
        go (inr m) = sound.past p m

    back_both : (ms : List Collection) → r.marks ≡ ms
        → ((wallet_back w (map (collection_view image) ms)).answer ≡ (register_back r ms).answer)
        × Kept image (wallet_back w (map (collection_view image) ms)).state (register_back r ms).state
    back_both [] e = (refl, stay)
    back_both (m ∷ ms) e = (
      refl,
      record {
        same = refl;
        sound = record {
          now = sound.past m (subst (λ xs. Mem m xs) (sym e) (inl refl));
          past = λ p k. sound.past p (subst (λ xs. Mem p xs) (sym e) (inr k));
        };
      },
    )

    -- where the answers agree, the wallet is still the register's after the call
    pub follows : (c : Call) → (wallet_step image c w).answer ≡ (register_step image c r).answer
        → Kept image (wallet_step image c w).state (register_step image c r).state
    follows (take_block b) e =
        both_granted (wallet_takes b) (register_takes b) (wallet_taken b) w (register_taken b) r stay
        (λ g. let view = taken_view image s ws b sound.now.small sound.now.live g in
        let marks = push_map r.room r.current r.marks in
        record {
          same = λ i. record { room = r.room; view = view i; marks = marks i };
          sound = record { now = taken_sound image s ws b sound.now.small sound.now.live g sound.now.once; past = pushed };
        })
        e
    follows (check_block b) e = both_granted (wallet_takes b) (register_takes b) w w r r stay (λ g. stay) e
    follows (watch b) e =
        both_granted (wallet_watches b) (register_watches b) (wallet_watching b) w (register_watching b) r stay
        (λ g. record {
          same = ap (λ x. with_view w (with_shelf v x)) (watched_shelf image s ws b sound.now g);
          sound = record { now = watched_sound image s ws b sound.now g; past = sound.past };
        })
        e
    follows (let_go p) e =
        both_granted (wallet_lets_go p) (register_lets_go p) (wallet_let_go p) w (register_let_go p) r stay
        (λ g. record {
          same = ap (λ x. with_view w (with_shelf v x)) (shelf_drop image s sound.now.small p ws sound.now.live sound.now.once);
          sound = record {
            now = record {
              small = sound.now.small;
              live = λ w m. sound.now.live w (filter_mem (λ w. not (has_position image s p w)) ws w m).0;
              once = once_filter (λ w. not (has_position image s p w)) ws sound.now.once;
            };
            past = sound.past;
          };
        })
        e
    follows (show p out) e = stay
    follows take_back e = (back_both r.marks refl).1

    -- refused alike, or fitting and not genuine: answered alike, or caught
    answered : {S R : Type 0} (b : Bytes) (d d' : Option ℕ) (new old : S) (new' old' : R) → (d ≡ d') ⊎ FitsNotGenuine image s b
        → ((when_granted d new old).answer ≡ (when_granted d' new' old').answer) ⊎ CaughtAt image s (Some b)
    answered b d d' new old new' old' (inl e) = inl (same_answer d d' new old new' old' e)
    answered b d d' new old new' old' (inr e) = inr (caught image s b sound.now.small e)

    -- the answer to a call is the register's, or its block is caught
    pub judged : (c : Call) → ((wallet_step image c w).answer ≡ (register_step image c r).answer) ⊎ CaughtAt image s (block_of c)
    judged (take_block b) =
        answered b (wallet_takes b) (register_takes b) (wallet_taken b) w (register_taken b) r
        (take_judged image s ws b sound.now.small sound.now.live)
    judged (check_block b) =
        answered b (wallet_takes b) (register_takes b) w w r r (take_judged image s ws b sound.now.small sound.now.live)
    judged (watch b) =
        answered b (wallet_watches b) (register_watches b) (wallet_watching b) w (register_watching b) r (watch_judged image s ws b sound.now)
    judged (let_go p) =
        inl (same_answer (wallet_lets_go p) (register_lets_go p) (wallet_let_go p) w (register_let_go p) r
        (ap (λ b. refusal (cause 15 (not b) ∷ [])) (shelf_has image s p ws)))
    judged (show p out) = inl (shelf_show image s sound.now.small p out ws sound.now.live)
    judged take_back = inl (back_both r.marks refl).0
