-- Positions that name live slots, the coins that they name, and the targets that they make.
use Rattle.std.proofs.Common.{◌≡◌, ℕ, suc, ◌≤◌, Bool, true, false, not, List, [], ◌∷◌, map, length, is_some, Some, None, Option, sym, refl, ap, ◌∙◌, subst, inl, inr, arith}
use Rattle.std.specs.List.{AllByRecursion}
use Rattle.utreexo.specs.declared.types.Coin.{Coin}
use Rattle.utreexo.specs.Lists.{any}
use Rattle.utreexo.specs.Values.{Image}
use Rattle.utreexo.specs.Forest.{Slots, Node, locate}
use Rattle.utreexo.specs.Claims.{Target}
use Rattle.utreexo.specs.Checks.{named}
use Rattle.utreexo.specs.Collection.{coin_at, no_coin}
use Rattle.laws.proofs.Logic.{true_false}
use Rattle.laws.proofs.Order.{Mem}
use Rattle.laws.proofs.Members.{any_none, all_mem}

-- a position that names a live slot
pub record LiveNamed (image : Image) (s : Slots) (p : ℕ) : Type 0 where
  pub node : Node
  pub coin : Coin
  pub located : locate (length s) p ≡ Some node
  pub has_coin : coin_at image s node ≡ Some coin

module _ (image : Image) (s : Slots) where
  -- a position that names no live slot
  abbrev pub names_none : ℕ → Bool
  names_none p = elim (locate (length s) p) [ None ↦ true | Some e ↦ not (is_some (coin_at image s e)) ]

  -- positions of which none does: cause 16 of writing does not hold
  pub named_live : (ps : List ℕ) → any names_none ps ≡ false → AllByRecursion (LiveNamed image s) ps
  named_live ps e = all_mem (LiveNamed image s) ps (λ p m. go p (locate (length s) p) refl (any_none names_none ps p e m))
    where
      go : (p : ℕ) (x : Option Node) → locate (length s) p ≡ x → names_none p ≡ false → LiveNamed image s p
      go p None h q = absurd (true_false true refl (rw (h, names_none) at q))
      go p (Some d) h q = two (coin_at image s d) refl (rw (h, names_none) at q)
        where
          two : (y : Option Coin) → coin_at image s d ≡ y → not (is_some (coin_at image s d)) ≡ false → LiveNamed image s p
          two None f r = absurd (true_false true refl (ap (λ z. not (is_some z)) (sym f) ∙ r))
          two (Some c) f r = record { node = d; coin = c; located = h; has_coin = f }

  -- the coin at a position
  abbrev pub coin_of : ℕ → Coin
  coin_of p = elim (locate (length s) p) [ None ↦ no_coin | Some e ↦ (elim (coin_at image s e) [ None ↦ no_coin | Some c ↦ c ]) ]

  -- it is the coin of the slot that is named
  pub coin_named : (p : ℕ) (n : LiveNamed image s p) → coin_of p ≡ n.coin
  coin_named p n = let h = n.located in let f = n.has_coin in rw (h, coin_of) (rw f)

  -- the targets that positions name, each with the coin there
  abbrev named_coins : List ℕ → List Target
  named_coins ps = named (length s) ps (map coin_of ps)

  -- each of these has its coin
  pub named_true : (ps : List ℕ) → AllByRecursion (LiveNamed image s) ps → (x : Target) → Mem x (named_coins ps) → coin_at image s x.node ≡ Some x.coin
  named_true [] a x m = absurd m
  named_true (p ∷ ps) a x m = go a.0 (named_true ps a.1 x)
    where
      go : (n : LiveNamed image s p) → (Mem x (named_coins ps) → coin_at image s x.node ≡ Some x.coin) → coin_at image s x.node ≡ Some x.coin
      go n ih =
          let m' : Mem x (record { node = n.node; coin = coin_of p } ∷ named_coins ps) =
          subst (λ z. Mem x (elim z [ None ↦ named_coins ps | Some e ↦ record { node = e; coin = coin_of p } ∷ named_coins ps ])) n.located m in
          elim m' [
            | inl e ↦ ap (λ z. coin_at image s z.node) e ∙ n.has_coin ∙ ap (λ z. Some z) (sym (coin_named p n)) ∙ ap (λ z. Some z.coin) (sym e)
            | inr k ↦ ih k
          ]

  -- no more targets than positions
  pub named_few : (ps : List ℕ) (cs : List Coin) → length (named (length s) ps cs) ≤ length ps
  named_few [] cs = omega arith
  named_few (p ∷ ps) [] = omega arith
  named_few (p ∷ ps) (c ∷ cs) = go (locate (length s) p) (named_few ps cs)
    where
      go : (x : Option Node) → length (named (length s) ps cs) ≤ length ps
          → length {A = Target} (elim x [ None ↦ named (length s) ps cs | Some e ↦ record { node = e; coin = c } ∷ named (length s) ps cs ]) ≤ suc (length ps)
      go None h = omega arith
      go (Some d) h = omega arith
