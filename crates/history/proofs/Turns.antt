-- A push and a pop, seen in the stack of a ring.
use Rattle.std.proofs.Common.{◌≡◌, ℕ, zero, suc, ◌+◌, ◌-◌, ◌<◌, ◌≤◌, min, List, [], ◌∷◌, ◌++◌, reverse, length, get_or, take, drop, set, Some, sym, ap, ◌∙◌, inl, inr, append_assoc, append-nil, arith, length-append, length-drop, length-set, length-take, take_all, drop-cons, get_or-take, take-suc, get_or-set_same, take-take, drop-set-lt}
use mathlib.Core.List.{reverse-append, reverse-cons}
use lib.ListN.{length-reverse}
use lib.Seq.{take-append-le, take-set-le, take-set-lt, take-nil}
use Rattle.std.proofs.lemmas.List.{drop_all}
use Rattle.std.proofs.lemmas.Bool.{cases_lt}
use Rattle.utreexo.specs.Checks.{push}
use Rattle.history.specs.declared.Ring.{Ring}
use Rattle.history.specs.Stack.{turned, stack, room, newest_of, older, Next}

-- all but the mark at n, from there back and round
unfoldable others : {M : Type 0} → ℕ → List M → List M
others n ys = reverse (take n ys) ++ reverse (drop (suc n) ys)

module _ {M : Type 0} where
  -- Turned at n the slice begins with the mark at n; turned at the place before, it ends with it.

  turned_head : (ys : List M) (n : ℕ) (d : M) → n < length ys → turned n ys ≡ get_or ys n d ∷ others n ys
  unfolding turned others
  turned_head ys n d h = rw (take-suc ys n d, reverse-append)

  turned_back : (ys : List M) (n : ℕ) (d : M) → suc n < length ys → turned n ys ≡ others (suc n) ys ++ (get_or ys (suc n) d ∷ [])
  unfolding turned others
  turned_back ys n d h =
      rw (drop-cons ys (suc n) d, reverse-cons)
      (sym (append_assoc (reverse (take (suc n) ys)) (reverse (drop (suc (suc n)) ys)) (get_or ys (suc n) d ∷ [])))

  turned_round : (y : M) (ys : List M) (n : ℕ) → length ys ≤ n → turned n (y ∷ ys) ≡ others 0 (y ∷ ys) ++ (y ∷ [])
  unfolding turned others
  turned_round y ys n h = rw (take_all n ys, drop_all n ys, append-nil, reverse-cons)

  turned_before : (ys : List M) (c n at : ℕ) (d : M) → length ys ≡ c → 0 < c → Next c n at → turned n ys ≡ others at ys ++ (get_or ys at d ∷ [])
  turned_before [] c n at d e p next = absurd (omega arith)
  turned_before (y ∷ ys) c n at d e p next =
      elim (cases_lt (n + 1) c) [
        | inl h ↦
            let f : at ≡ suc n = omega (arith, next.0 h) in
            let l : suc n < length (y ∷ ys) = omega arith in
            rw f (turned_back (y ∷ ys) n d l)
        | inr h ↦
            let f : at ≡ 0 = next.1 h in
            let l : length ys ≤ n = omega arith in
            rw f (turned_round y ys n l)
      ]

  -- a place past the last is as good as the last
  turned_clamp : (ys : List M) (c n at : ℕ) → length ys ≡ c → 0 < c → at ≡ min n (c - 1) → turned n ys ≡ turned at ys
  unfolding turned
  turned_clamp ys c n at e p f =
      elim (cases_lt n c) [
        | inl h ↦ let s : at ≡ n = omega arith in rw s
        | inr h ↦
            let a : length ys ≤ suc n = omega arith in
            let b : length ys ≤ suc at = omega arith in
            rw (take_all (suc n) ys, take_all (suc at) ys, drop_all (suc n) ys, drop_all (suc at) ys)
      ]

  length_others : (ys : List M) (n : ℕ) → n < length ys → length (others n ys) + 1 ≡ length ys
  unfolding others
  length_others ys n h = simp (length-append, length-reverse, length-take, length-drop) (omega arith)

  others_set : (ys : List M) (n : ℕ) (m : M) → others n (set ys n m) ≡ others n ys
  unfolding others
  others_set ys n m =
      let a : n ≤ n = omega arith in
      let b : n < suc n = omega arith in
      rw (take-set-le n ys n m, drop-set-lt (suc n) ys n m)

  turned_set : (ys : List M) (n : ℕ) (m : M) → n < length ys → turned n (set ys n m) ≡ m ∷ others n ys
  turned_set ys n m h =
      let k : n < length (set ys n m) = simp length-set h in
      let a = turned_head (set ys n m) n m k in
      let b = get_or-set_same ys n m m h in
      let o = others_set ys n m in
      cc

  -- The first so many of a turned slice ---------------------------------------------

  take_min : (a b : ℕ) (l : List M) → take b (take a l) ≡ take (min a b) l
  take_min a b l =
      elim (cases_lt a b) [
        | inl h ↦
            let e : min a b ≡ a = omega arith in
            let k : length (take a l) ≤ b = simp length-take (omega arith) in
            rw e (take_all b (take a l) k)
        | inr h ↦
            let e : min a b ≡ b = omega arith in
            rw e (take-take b a l h)
      ]

  pushed : (g full new : List M) (m x : M) (c h k : ℕ) → new ≡ m ∷ g → full ≡ g ++ (x ∷ []) → length g + 1 ≡ c → k ≡ min h (c - 1) + 1
      → take k new ≡ take c (m ∷ take h full)
  pushed g full new m x c h k en ef el ek =
      let e1 : k ≡ suc (min h (length g)) = omega arith in
      let e2 : c ≡ suc (length g) = omega arith in
      let le : min h (length g) ≤ length g = omega arith in
      rw (en, ef, e1, e2) (ap (λ t. m ∷ t) (sym (take-append-le (min h (length g)) g (x ∷ []) le) ∙ sym (take_min h (length g) (g ++ (x ∷ [])))))

  popped : (g : List M) (x : M) (h k : ℕ) → 0 < h → k ≡ min h (length g + 1) - 1 → take k (g ++ (x ∷ [])) ≡ older (take h (x ∷ g))
  popped g x zero k p e = absurd (omega arith)
  popped g x (suc h) k p e =
      let e1 : k ≡ min h (length g) = omega arith in
      let le : min h (length g) ≤ length g = omega arith in
      let all : length (take h g) ≤ length g = simp length-take (omega arith) in
      rw e1 (take-append-le (min h (length g)) g (x ∷ []) le ∙ sym (take_min h (length g) g) ∙ take_all (length g) (take h g) all)

  push_turned : (xs : List M) (c n h at k : ℕ) (m : M) → c ≤ length xs → 0 < c → Next c n at → k ≡ min h (c - 1) + 1
      → take k (turned at (take c (set xs at m))) ≡ take c (m ∷ take h (turned n (take c xs)))
  push_turned xs c n h at k m le p next ek =
      let ys = take c xs in
      let el : length (take c xs) ≡ c = simp length-take (omega arith) in
      let low : at < c = elim (cases_lt (n + 1) c) [ inl q ↦ omega (arith, next.0 q) | inr q ↦ omega (arith, next.1 q) ] in
      let inside : at < length (take c xs) = omega arith in
      let es : take c (set xs at m) ≡ set (take c xs) at m = take-set-lt c xs at m low in
      let lo : length (others at (take c xs)) + 1 ≡ c = length_others (take c xs) at inside ∙ el in
      pushed (others at ys) (turned n ys) (turned at (take c (set xs at m))) m (get_or ys at m) c h k (ap (turned at) es ∙ turned_set ys at m inside)
      (turned_before ys c n at m el p next) lo ek

  pop_turned : (xs : List M) (c n h at back k : ℕ) (d : M) → c ≤ length xs → 0 < c → 0 < h → at ≡ min n (c - 1) → Next c back at → k ≡ min h c - 1
      → (Some (get_or xs at d) ≡ newest_of (take h (turned n (take c xs)))) × (take k (turned back (take c xs)) ≡ older (take h (turned n (take c xs))))
  pop_turned xs c n zero at back k d le p q ea next ek = absurd (omega arith)
  pop_turned xs c n (suc h) at back k d le p q ea next ek =
      let el : length (take c xs) ≡ c = simp length-take (omega arith) in
      let low : at < c = omega arith in
      let inside : at < length (take c xs) = omega arith in
      let lo : length (others at (take c xs)) + 1 ≡ c = length_others (take c xs) at inside ∙ el in
      let same : get_or (take c xs) at d ≡ get_or xs at d = get_or-take c xs at d low in
      let full : turned n (take c xs) ≡ get_or xs at d ∷ others at (take c xs) =
      turned_clamp (take c xs) c n at el p ea ∙ turned_head (take c xs) at d inside ∙ ap (λ x. x ∷ others at (take c xs)) same in
      let new : turned back (take c xs) ≡ others at (take c xs) ++ (get_or xs at d ∷ []) =
      turned_before (take c xs) c back at d el p next ∙ ap (λ x. others at (take c xs) ++ (x ∷ [])) same in
      let ek2 : k ≡ min (suc h) (length (others at (take c xs)) + 1) - 1 = omega arith in
      (rw full, rw (full, new) (popped (others at (take c xs)) (get_or xs at d) (suc h) k q ek2))

  -- The stack itself -------------------------------------------------------------------

  -- a ring that holds none, as a new one
  pub stack_empty : (xs : List M) (r : Ring) → r.held ≡ 0 → stack xs r ≡ []
  unfolding stack
  stack_empty xs r e = rw e

  pub stack_no_room : (xs : List M) (r : Ring) → room xs ≡ 0 → stack xs r ≡ []
  unfolding stack turned
  stack_no_room xs r e = rw e (take-nil r.held)

  pub stack_none : (xs : List M) (r : Ring) → min r.held (room xs) ≡ 0 → stack xs r ≡ []
  stack_none xs r e =
      elim (cases_lt 0 r.held) [
        | inl h ↦ stack_no_room xs r (omega arith)
        | inr h ↦ stack_empty xs r (omega arith)
      ]

  pub stack_push : (xs : List M) (r : Ring) (c at k : ℕ) (m : M) → c ≡ room xs → 0 < c → Next c r.newest at → k ≡ min r.held (c - 1) + 1
      → stack (set xs at m) (record { newest = at; held = k }) ≡ push (room xs) m (stack xs r)
  unfolding stack
  stack_push xs r c at k m ec p next ek =
      let le : c ≤ length xs = omega arith in
      let one : room (set xs at m) ≡ c = simp length-set (sym ec) in
      rw (one, ← ec) (push_turned xs c r.newest r.held at k m le p next ek)

  pub stack_pop : (xs : List M) (r : Ring) (c at back k : ℕ) (x : M) → c ≡ room xs → 0 < c → 0 < r.held → at ≡ min r.newest (c - 1) → Next c back at
      → k ≡ min r.held c - 1 → x ≡ get_or xs at x
      → (Some x ≡ newest_of (stack xs r)) × (stack xs (record { newest = back; held = k }) ≡ older (stack xs r))
  unfolding stack
  stack_pop xs r c at back k x ec p q ea next ek read =
      let le : c ≤ length xs = omega arith in
      let both = pop_turned xs c r.newest r.held at back k x le p q ea next ek in
      rw (← ec) (ap Some read ∙ both.0, both.1)
