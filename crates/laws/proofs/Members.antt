-- Members of lists: append, map, filter, a test of some member, the first that passes.
use Rattle.std.proofs.Common.{◌≡◌, ℕ, zero, suc, Bool, true, false, cond, ◌||◌, ◌⊎◌, List, [], ◌∷◌, ◌++◌, map, get_or, take, Some, None, Option, sym, refl, ap, ◌∙◌, subst, ap₂, inl, inr, arith}
use Rattle.std.specs.List.{AllByRecursion}
use Rattle.std.proofs.lemmas.Bool.{cases_Bool, or_left, or_right}
use Rattle.utreexo.specs.Lists.{filter, any, first}
use Rattle.laws.proofs.Logic.{true_false, never}
use Rattle.laws.proofs.Order.{Mem}

-- a member of an append is one of a part, and the other way round
pub mem_append : {A : Type 0} (xs ys : List A) (z : A) → Mem z (xs ++ ys) → Mem z xs ⊎ Mem z ys
mem_append [] ys z m = inr m
mem_append (x ∷ xs) ys z (inl e) = inl (inl e)
mem_append (x ∷ xs) ys z (inr m) = elim (mem_append xs ys z m) [ inl h ↦ inl (inr h) | inr h ↦ inr h ]

pub append_mem_left : {A : Type 0} (xs ys : List A) (z : A) → Mem z xs → Mem z (xs ++ ys)
append_mem_left [] ys z m = absurd m
append_mem_left (x ∷ xs) ys z (inl e) = inl e
append_mem_left (x ∷ xs) ys z (inr m) = inr (append_mem_left xs ys z m)

pub append_mem_right : {A : Type 0} (xs ys : List A) (z : A) → Mem z ys → Mem z (xs ++ ys)
append_mem_right [] ys z m = m
append_mem_right (x ∷ xs) ys z m = inr (append_mem_right xs ys z m)

-- members of a mapped list
pub mem_map : {A B : Type 0} (f : A → B) (xs : List A) (x : A) → Mem x xs → Mem (f x) (map f xs)
mem_map f [] x m = absurd m
mem_map f (y ∷ xs) x (inl e) = inl (ap f e)
mem_map f (y ∷ xs) x (inr m) = inr (mem_map f xs x m)

pub map_mem : {A B : Type 0} (f : A → B) (xs : List A) (y : B) → Mem y (map f xs) → (x : A) × (Mem x xs) × (y ≡ f x)
map_mem f [] y m = absurd m
map_mem f (x ∷ xs) y (inl e) = (x, inl refl, e)
map_mem f (x ∷ xs) y (inr m) = let r = map_mem f xs y m in (r.0, inr r.1, r.2)

-- what holds of all, and of each member
pub all_mem : {A : Type 0} (P : A → Type 0) (xs : List A) → ((x : A) → Mem x xs → P x) → AllByRecursion P xs
all_mem P [] h = tt
all_mem P (x ∷ xs) h = (h x (inl refl), all_mem P xs (λ y m. h y (inr m)))

pub mem_all : {A : Type 0} (P : A → Type 0) (xs : List A) (x : A) → AllByRecursion P xs → Mem x xs → P x
mem_all P [] x a m = absurd m
mem_all P (y ∷ xs) x a (inl e) = subst P (sym e) a.0
mem_all P (y ∷ xs) x a (inr m) = mem_all P xs x a.1 m

-- two functions that agree on the members give one list
pub map_ext : {A B : Type 0} (f g : A → B) (xs : List A) → ((x : A) → Mem x xs → f x ≡ g x) → map f xs ≡ map g xs
map_ext f g [] e = refl
map_ext f g (x ∷ xs) e = ap₂ (λ y ys. y ∷ ys) (e x (inl refl)) (map_ext f g xs (λ y m. e y (inr m)))

-- a test of some member, the first that passes
module _ {A : Type 0} (p : A → Bool) where
  pub any_mem : (xs : List A) → any p xs ≡ true → (x : A) × (Mem x xs) × (p x ≡ true)
  any_mem [] e = absurd (true_false false e refl)
  any_mem (x ∷ xs) e = go (p x) refl (any_mem xs)
    where
      go : (b : Bool) → p x ≡ b → (any p xs ≡ true → (y : A) × (Mem y xs) × (p y ≡ true)) → (y : A) × (Mem y (x ∷ xs)) × (p y ≡ true)
      go true q ih = (x, inl refl, q)
      go false q ih = let (y, m, t) = ih (rw q at e) in (y, inr m, t)

  pub mem_any : (xs : List A) (x : A) → Mem x xs → p x ≡ true → any p xs ≡ true
  mem_any [] x m t = absurd m
  mem_any (y ∷ xs) x (inl q) t = or_left (p y) (any p xs) (ap p (sym q) ∙ t)
  mem_any (y ∷ xs) x (inr m) t = or_right (p y) (any p xs) (mem_any xs x m t)

  pub any_none : (xs : List A) (x : A) → any p xs ≡ false → Mem x xs → p x ≡ false
  any_none xs x e m = elim (cases_Bool (p x)) [ inl t ↦ absurd (true_false (any p xs) (mem_any xs x m t) e) | inr t ↦ t ]

  pub none_any : (xs : List A) → ((x : A) → Mem x xs → p x ≡ false) → any p xs ≡ false
  none_any [] f = refl
  none_any (x ∷ xs) f = rw (f x (inl refl)) (none_any xs (λ y m. f y (inr m)))

  pub first_some : (xs : List A) (x : A) → first p xs ≡ Some x → Mem x xs × (p x ≡ true)
  first_some [] x e = absurd (never x e)
  first_some (y ∷ xs) x e = go (p y) refl e (first_some xs x)
    where
      go : (b : Bool) → p y ≡ b → cond b (Some y) (first p xs) ≡ Some x → (first p xs ≡ Some x → Mem x xs × (p x ≡ true)) → Mem x (y ∷ xs) × (p x ≡ true)
      go true q e ih = let z : x ≡ y = cc in (inl z, ap p z ∙ q)
      go false q e ih = let h = ih e in (inr h.0, h.1)

  pub first_none : (xs : List A) (x : A) → first p xs ≡ None → Mem x xs → p x ≡ false
  first_none [] x e m = absurd m
  first_none (y ∷ xs) x e m = go (p y) refl e m (first_none xs x)
    where
      go : (b : Bool) → p y ≡ b → cond b (Some y) (first p xs) ≡ None → Mem x (y ∷ xs) → (first p xs ≡ None → Mem x xs → p x ≡ false) → p x ≡ false
      go true q e m ih = absurd (never y (sym e))
      go false q e (inl m) ih = ap p m ∙ q
      go false q e (inr m) ih = ih e m

  pub first_mem : (xs : List A) (x : A) → Mem x xs → p x ≡ true → (y : A) × (first p xs ≡ Some y) × (Mem y xs) × (p y ≡ true)
  first_mem xs x m t = go (first p xs) refl
    where
      go : (z : Option A) → first p xs ≡ z → (y : A) × (first p xs ≡ Some y) × (Mem y xs) × (p y ≡ true)
      go None e = absurd (true_false (p x) t (first_none xs x e m))
      go (Some y) e = let h = first_some xs y e in (y, e, h.0, h.1)

  -- nothing else passes
  pub first_only : (xs : List A) (x : A) → Mem x xs → p x ≡ true → ((y : A) → Mem y xs → p y ≡ true → y ≡ x) → first p xs ≡ Some x
  first_only xs x m t u = let (y, e, n, s) = first_mem xs x m t in e ∙ ap (λ z. Some z) (u y n s)

-- members of a filtered list
pub filter_mem : {A : Type 0} (test : A → Bool) (xs : List A) (z : A) → Mem z (filter test xs) → Mem z xs × (test z ≡ true)
filter_mem test [] z m = absurd m
filter_mem {A} test (x ∷ xs) z m = go (test x) refl m (filter_mem test xs z)
  where
    go : (b : Bool) → test x ≡ b → Mem z (cond b (x ∷ filter test xs) (filter test xs)) → (Mem z (filter test xs) → Mem z xs × (test z ≡ true))
        → Mem z (x ∷ xs) × (test z ≡ true)
    go true e (inl q) ih = (inl q, ap test q ∙ e)
    go true e (inr q) ih = let h = ih q in (inr h.0, h.1)
    go false e q ih = let h = ih q in (inr h.0, h.1)

pub mem_filter : {A : Type 0} (test : A → Bool) (xs : List A) (z : A) → Mem z xs → test z ≡ true → Mem z (filter test xs)
mem_filter test [] z m t = absurd m
mem_filter {A} test (x ∷ xs) z m t = go (test x) refl m (λ q. mem_filter test xs z q t)
  where
    go : (b : Bool) → test x ≡ b → Mem z (x ∷ xs) → (Mem z xs → Mem z (filter test xs)) → Mem z (cond b (x ∷ filter test xs) (filter test xs))
    go true e (inl q) ih = inl q
    go true e (inr q) ih = inr (ih q)
    go false e (inl q) ih = let w : ◌≡◌ {A = Bool} true false = cc in let y : ◌≡◌ {A = ℕ} 0 1 = cc in absurd (omega arith)
    go false e (inr q) ih = ih q

-- two tests that agree on the members; an append
pub any_ext : {A : Type 0} (p q : A → Bool) (xs : List A) → ((x : A) → Mem x xs → p x ≡ q x) → any p xs ≡ any q xs
any_ext p q [] f = refl
any_ext p q (x ∷ xs) f = ap₂ ◌||◌ (f x (inl refl)) (any_ext p q xs (λ y m. f y (inr m)))

pub any_append : {A : Type 0} (p : A → Bool) (xs ys : List A) → any p (xs ++ ys) ≡ (any p xs || any p ys)
any_append p [] ys = refl
any_append p (x ∷ xs) ys = ap (λ b. p x || b) (any_append p xs ys) ∙ go (p x) (any p xs) (any p ys)
  where
    go : (a b c : Bool) → (a || (b || c)) ≡ ((a || b) || c)
    go true b c = refl
    go false b c = refl

-- of the first n
pub take_mem : {A : Type 0} (n : ℕ) (xs : List A) (x : A) → Mem x (take n xs) → Mem x xs
take_mem zero xs x m = absurd m
take_mem (suc n) [] x m = absurd m
take_mem (suc n) (y ∷ xs) x (inl e) = inl e
take_mem (suc n) (y ∷ xs) x (inr m) = inr (take_mem n xs x m)

-- a filtered append, and a filter that all pass
pub filter_append : {A : Type 0} (p : A → Bool) (xs ys : List A) → filter p (xs ++ ys) ≡ filter p xs ++ filter p ys
filter_append p [] ys = refl
filter_append p (x ∷ xs) ys = ap (λ z. cond (p x) (x ∷ z) z) (filter_append p xs ys) ∙ go (p x)
  where
    go : (b : Bool) → cond b (x ∷ (filter p xs ++ filter p ys)) (filter p xs ++ filter p ys) ≡ cond b (x ∷ filter p xs) (filter p xs) ++ filter p ys
    go true = refl
    go false = refl

pub filter_all : {A : Type 0} (p : A → Bool) (ws : List A) → ((w : A) → Mem w ws → p w ≡ true) → filter p ws ≡ ws
filter_all p [] f = refl
filter_all p (w ∷ ws) f = ap (λ b. cond b (w ∷ filter p ws) (filter p ws)) (f w (inl refl)) ∙ ap (λ z. w ∷ z) (filter_all p ws (λ x m. f x (inr m)))

-- an element that is present is a member
pub get_or_mem : {A : Type 0} (xs : List (Option A)) (i : ℕ) (c : A) → get_or xs i None ≡ Some c → Mem (Some c) xs
get_or_mem [] i c e = absurd (never c e)
get_or_mem (x ∷ xs) zero c e = inl (sym e)
get_or_mem (x ∷ xs) (suc i) c e = inr (get_or_mem xs i c e)
