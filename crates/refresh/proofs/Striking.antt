-- A path refreshed from below, in its own place.
use Rattle.std.proofs.Common.{◌≡◌, ℕ, ◌+◌, ◌*◌, ◌/◌, ◌%◌, ◌^◌, ◌<◌, ◌≤◌, List, [], ◌∷◌, ◌++◌, length, get_or, take, drop, set, Some, None, Option, refl, sym, ap, ◌∙◌, append_assoc, append-nil, arith, length-take, length-set, get_or-take, drop-set-lt}
use Rattle.std.proofs.Math.Seq.{take-set-lt}
use Rattle.std.proofs.Math.Nat.{div-one, mod-one}
use Rattle.std.proofs.lemmas.List.{drop_more, drop_all, take_more_set}
use Rattle.std.proofs.lemmas.Nat.{shr_split}
use Rattle.utreexo.specs.declared.types.Coin.{Coin}
use Rattle.utreexo.specs.declared.types.Value.{Value}
use Rattle.utreexo.specs.Forest.{Struck, keep_bit, strike, sibling}
use Rattle.utreexo.specs.Wallet.{Held}
use Rattle.refresh.specs.Refreshed.{Lookup, settled, renewed_by, refreshed_by}
use Rattle.shelf.specs.Held.{close}
use Rattle.shelf.proofs.Struck.{up_one, close_up, close_low}
use Rattle.refresh.proofs.Closing.{low_next}

-- the coin, once what is left above is struck to K
abbrev ended : Coin → ℕ → ℕ → ℕ → List Value → Struck → Held
ended coin row place kept ps K =
    record { coin = coin; row = row + K.row; place = K.place * 2 ^ kept + place % 2 ^ kept; path = ps ++ K.path }

module _ (coin : Coin) (row place kept : ℕ) (ps : List Value) where
  end_kept : (x : Value) (K : Struck) → ended coin row place kept ps (keep_bit (place / 2 ^ kept) (Some x) K) ≡ ended coin row place (kept + 1) (ps ++ (x ∷ [])) K
  end_kept x K =
      let p = low_next kept place K.place in
      let q = sym (append_assoc ps (x ∷ []) K.path) in
      λ j. record { coin = coin; row = row + K.row; place = p j; path = q j }

  end_struck : (K : Struck) → ended coin row place kept ps (keep_bit (place / 2 ^ kept) None K) ≡ ended coin (row + 1) (close kept place) kept ps K
  end_struck K =
      let r : row + (K.row + 1) ≡ row + 1 + K.row = omega arith in
      let p = ap (λ (x : ℕ). K.place * 2 ^ kept + x) (sym (close_low kept place)) in
      λ j. record { coin = coin; row = r j; place = p j; path = ps ++ K.path }

  end_none : ended coin row place kept ps (strike [] (place / 2 ^ kept)) ≡ record { coin = coin; row = row; place = place; path = ps }
  end_none =
      let r : row + 0 ≡ row = omega arith in
      let p = shr_split place kept in
      let q = append-nil ps in
      λ j. record { coin = coin; row = r j; place = p j; path = q j }

module _ (f : Lookup) (h : Held) (len : ℕ) where
  -- The path is refreshed up to hash i, and of it so many are kept: with what is left above struck, it gives the answer.
  pub record Going (coin : Coin) (row place kept : ℕ) (path : List Value) (i : ℕ) : Type 0 where
    pub full : length path ≡ 31
    pub within : len ≤ 31
    pub behind : kept ≤ i
    pub level : row + kept ≡ h.row + i
    pub ahead :
        ended coin row place kept (take kept path) (strike (renewed_by f (row + kept) (place / 2 ^ kept) (drop i (take len path))) (place / 2 ^ kept))
        ≡ refreshed_by f h

module _ (f : Lookup) (h : Held) (len : ℕ) (coin : Coin) (row place kept : ℕ) (path : List Value) (i : ℕ) (was : Going f h len coin row place kept path i) where
  pub going_all : len ≤ i → record { coin = coin; row = row; place = place; path = take kept path } ≡ refreshed_by f h
  going_all le =
      let short : length (take len path) ≤ i = simp length-take (omega arith) in
      let e = drop_all i (take len path) short in
      sym (end_none coin row place kept (take kept path))
      ∙ ap (λ t. ended coin row place kept (take kept path) (strike (renewed_by f (row + kept) (place / 2 ^ kept) t) (place / 2 ^ kept))) (sym e)
      ∙ was.ahead

  -- one hash further
  next : (d : Value) → i < len → drop i (take len path) ≡ get_or path i d ∷ drop (i + 1) (take len path)
  next d lt =
      let full = was.full in
      let within = was.within in
      let l : i < length (take len path) = simp length-take (omega arith) in
      drop_more (take len path) i d l ∙ ap (λ (x : Value). x ∷ drop (i + 1) (take len path)) (get_or-take len path i d lt)

  pub going_struck : (d : Value) → i < len → None ≡ settled (f (row + kept) (sibling (place / 2 ^ kept))) (get_or path i d)
      → Going f h len coin (row + 1) (close kept place) kept path (i + 1)
  going_struck d lt none =
      let q = place / 2 ^ kept in
      let rest = drop (i + 1) (take len path) in
      let level = was.level in
      let behind = was.behind in
      let r : row + 1 + kept ≡ row + kept + 1 = omega arith in
      let u = close_up kept place ∙ sym (up_one place kept) in
      let ps = take kept path in
      record {
        full = was.full;
        within = was.within;
        behind = omega arith;
        level = omega arith;
        ahead =
            ap (λ (x : ℕ). ended coin (row + 1) (close kept place) kept ps (strike (renewed_by f x (close kept place / 2 ^ kept) rest) (close kept place / 2 ^ kept))) r
            ∙ ap (λ (x : ℕ). ended coin (row + 1) (close kept place) kept ps (strike (renewed_by f (row + kept + 1) x rest) x)) u
            ∙ sym (end_struck coin row place kept ps (strike (renewed_by f (row + kept + 1) (q / 2) rest) (q / 2)))
            ∙ ap (λ (x : Option Value). ended coin row place kept ps (keep_bit q x (strike (renewed_by f (row + kept + 1) (q / 2) rest) (q / 2)))) none
            ∙ ap (λ (t : List Value). ended coin row place kept ps (strike (renewed_by f (row + kept) q t) q)) (sym (next d lt))
            ∙ was.ahead;
      }

  -- a write to a hash that is done leaves those that are not
  later : (x : Value) → i < len → drop (i + 1) (take len (set path kept x)) ≡ drop (i + 1) (take len path)
  later x lt =
      let behind = was.behind in
      let a : kept < len = omega arith in
      let b : kept < i + 1 = omega arith in
      ap (drop (i + 1)) (take-set-lt len path kept x a) ∙ drop-set-lt (i + 1) (take len path) kept x b

  pub going_kept : (d x : Value) → i < len → Some x ≡ settled (f (row + kept) (sibling (place / 2 ^ kept))) (get_or path i d)
      → Going f h len coin row place (kept + 1) (set path kept x) (i + 1)
  going_kept d x lt some =
      let q = place / 2 ^ kept in
      let q′ = place / 2 ^ (kept + 1) in
      let rest = drop (i + 1) (take len path) in
      let level = was.level in
      let full = was.full in
      let within = was.within in
      let behind = was.behind in
      let r : row + (kept + 1) ≡ row + kept + 1 = omega arith in
      let ps = take kept path in
      let inside : kept < length path = omega arith in
      record {
        full = simp length-set full;
        within = within;
        behind = omega arith;
        level = omega arith;
        ahead =
            ap (λ (t : List Value). ended coin row place (kept + 1) t (strike (renewed_by f (row + (kept + 1)) q′ (drop (i + 1) (take len (set path kept x)))) q′)) (take_more_set path kept x inside)
            ∙ ap (λ (t : List Value). ended coin row place (kept + 1) (ps ++ (x ∷ [])) (strike (renewed_by f (row + (kept + 1)) q′ t) q′)) (later x lt)
            ∙ ap (λ (n : ℕ). ended coin row place (kept + 1) (ps ++ (x ∷ [])) (strike (renewed_by f n q′ rest) q′)) r
            ∙ ap (λ (n : ℕ). ended coin row place (kept + 1) (ps ++ (x ∷ [])) (strike (renewed_by f (row + kept + 1) n rest) n)) (sym (up_one place kept))
            ∙ sym (end_kept coin row place kept ps x (strike (renewed_by f (row + kept + 1) (q / 2) rest) (q / 2)))
            ∙ ap (λ (o : Option Value). ended coin row place kept ps (keep_bit q o (strike (renewed_by f (row + kept + 1) (q / 2) rest) (q / 2)))) some
            ∙ ap (λ (t : List Value). ended coin row place kept ps (strike (renewed_by f (row + kept) q t) q)) (sym (next d lt))
            ∙ was.ahead;
      }

-- nothing is done yet
pub going_none : (f : Lookup) (coin : Coin) (row place : ℕ) (path : List Value) (len : ℕ) → length path ≡ 31 → len ≤ 31
    → Going f (record { coin = coin; row = row; place = place; path = take len path }) len coin row place 0 path 0
going_none f coin row place path len full within =
    let o : place / 1 ≡ place = div-one place in
    let r : row + 0 ≡ row = omega arith in
    let K = strike (renewed_by f row place (take len path)) place in
    let p : K.place * 1 + place % 1 ≡ K.place = omega (arith, mod-one place) in
    record {
      full = full;
      within = within;
      behind = omega arith;
      level = refl;
      ahead =
          ap (λ (n : ℕ). ended coin row place 0 [] (strike (renewed_by f n (place / 1) (take len path)) (place / 1))) r
          ∙ ap (λ (n : ℕ). ended coin row place 0 [] (strike (renewed_by f row n (take len path)) n)) o
          ∙ (λ j. record { coin = coin; row = row + K.row; place = p j; path = K.path });
    }
