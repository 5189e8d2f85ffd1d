-- What the checks on the positions of a block establish.
use Rattle.std.proofs.Common.{◌≡◌, ℕ, suc, ◌/◌, ◌^◌, ◌<◌, true, false, ltb, ◌⊎◌, List, [], ◌∷◌, Some, None, Option, sym, refl, ap, ◌∙◌, subst, inl, inr, arith}
use Rattle.std.proofs.lemmas.Bool.{ltb-true, and_parts, cases_order}
use Rattle.utreexo.specs.declared.types.Coin.{Coin}
use Rattle.laws.proofs.Order.{Mem}
use Rattle.utreexo.specs.Forest.{Node, position, locate}
use Rattle.utreexo.specs.Claims.{Target}
use Rattle.targets.specs.Valid.{valid}
use Rattle.targets.proofs.Valid.{Later, Sorted, is_valid}
use Rattle.targets.proofs.Inside.{Located, located, number_next, number_up}
use Rattle.utreexo.specs.Blocks.{ascending, ascends_from}
use Rattle.utreexo.specs.Checks.{named, above_another}

-- lower numbers come first, by row and place
later : (n r o s q : ℕ) → n < 2 ^ 32 → o < n / 2 ^ r → q < n / 2 ^ s → position n r o < position n s q → (r < s) ⊎ ((r ≡ s) × (o < q))
later n r o s q h a b l = go (cases_order r s)
  where
    go : (r ≡ s) ⊎ ((r < s) ⊎ (s < r)) → (r < s) ⊎ ((r ≡ s) × (o < q))
    go (inl e) = let p = ap (λ x. position n x 0) e in inr (e, omega arith)
    go (inr (inl e)) = inl e
    go (inr (inr e)) = let u = number_next n s q h b in let v = number_up n (suc s) r e in absurd (omega arith)

module _ (n : ℕ) where
  -- each target of a block has one of its positions
  record Of (ps : List ℕ) (t : Target) : Type 0 where
    at : ℕ
    there : Mem at ps
    inside : t.node.place < n / 2 ^ t.node.row
    here : position n t.node.row t.node.place ≡ at

  of_more : (p : ℕ) (ps : List ℕ) (t : Target) → Of ps t → Of (p ∷ ps) t
  of_more p ps t o = record { at = o.at; there = inr o.there; inside = o.inside; here = o.here }

  abbrev with_named : Option Node → Coin → List Target → List Target
  with_named x c r = elim x [ None ↦ r | Some e ↦ record { node = e; coin = c } ∷ r ]

  named_of : (ps : List ℕ) (cs : List Coin) (t : Target) → Mem t (named n ps cs) → Of ps t
  named_of [] cs t m = absurd m
  named_of (p ∷ ps) [] t m = absurd m
  named_of (p ∷ ps) (c ∷ cs) t m = go (locate n p) refl m (named_of ps cs t)
    where
      head : (e : Node) → Located n p e → t ≡ record { node = e; coin = c } → Of (p ∷ ps) t
      head e l q =
          let k : t.node ≡ e = ap (λ (x : Target). x.node) q in
          record {
            at = p;
            there = inl refl;
            inside = subst (λ (x : Node). x.place < n / 2 ^ x.row) (sym k) l.inside;
            here = ap (λ (x : Node). position n x.row x.place) k ∙ l.here;
          }

      go : (x : Option Node) → locate n p ≡ x → Mem t (with_named x c (named n ps cs)) → (Mem t (named n ps cs) → Of ps t) → Of (p ∷ ps) t
      go None e k ih = of_more p ps t (ih k)
      go (Some d) e (inl q) ih = head d (located n p d e) q
      go (Some d) e (inr k) ih = of_more p ps t (ih k)

  -- what comes after y in an ascending list is more
  ascends_more : (y : ℕ) (zs : List ℕ) → ascends_from y zs ≡ true → (z : ℕ) → Mem z zs → y < z
  ascends_more y [] a z m = absurd m
  ascends_more y (x ∷ xs) a z (inl e) = let (b, c) = and_parts (ltb y x) (ascends_from x xs) a in let l = ltb-true y x b in omega arith
  ascends_more y (x ∷ xs) a z (inr m) = let (b, c) = and_parts (ltb y x) (ascends_from x xs) a in let l = ltb-true y x b in let k = ascends_more x xs c z m in omega arith

  ascends_tail : (y : ℕ) (zs : List ℕ) → ascends_from y zs ≡ true → ascending zs ≡ true
  ascends_tail y [] a = refl
  ascends_tail y (x ∷ xs) a = (and_parts (ltb y x) (ascends_from x xs) a).1

  named_sorted : n < 2 ^ 32 → (ps : List ℕ) (cs : List Coin) → ascending ps ≡ true → Sorted (named n ps cs)
  named_sorted h [] cs a = tt
  named_sorted h (p ∷ ps) [] a = tt
  named_sorted h (p ∷ ps) (c ∷ cs) a = go (locate n p) refl (named_sorted h ps cs (ascends_tail p ps a))
    where
      next : (e : Node) → Located n p e → (u : Target) → Of ps u → Later (record { node = e; coin = c }) u
      next e l u o =
          let k = ascends_more p ps a o.at o.there in
          let x = l.here in
          let y = o.here in
          later n e.row e.place u.node.row u.node.place h l.inside o.inside (omega arith)

      go : (x : Option Node) → locate n p ≡ x → Sorted (named n ps cs) → Sorted (with_named x c (named n ps cs))
      go None e ih = ih
      go (Some d) e ih = ((λ u m. next d (located n p d e) u (named_of ps cs u m)), ih)

  -- the checks of order, place and height make a block's targets valid
  pub named_valid : n < 2 ^ 32 → (ps : List ℕ) (cs : List Coin) → ascending ps ≡ true → above_another (named n ps cs) ≡ false → valid n (named n ps cs) ≡ true
  named_valid h ps cs a b = is_valid n (named n ps cs) (λ t m. (named_of ps cs t m).inside) (named_sorted h ps cs a) b
