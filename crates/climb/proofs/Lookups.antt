-- The item at a place of a row. Assumes nothing.
use Rattle.std.proofs.Common.{◌≡◌, ℕ, zero, suc, cond, eqb, ◌⊎◌, List, [], ◌∷◌, map, replicate, get_or, Some, None, sym, refl, ap, inl, inr}
use Rattle.inline_list.specs.InlineList.{listed}
use Rattle.std.proofs.lemmas.Bool.{eq-eqb, ne_eqb, cases_eq}
use Rattle.climb.specs.declared.item.Item.{Item}
use Rattle.laws.proofs.Order.{Mem}
use Rattle.utreexo.specs.Values.{Image}
use Rattle.utreexo.specs.Claims.{Proof}
use Rattle.climb.specs.Rows.{lookup}
use Rattle.climb.specs.After.{left_at}
use Rattle.inline_list.specs.declared.InlineList.{InlineList}
use Rattle.std.specs.List.{find}
use Rattle.climb.specs.Entries.{entry}

module _ (image : Image) (p : Proof) (r : ℕ) where
  pub lookup_some : (xs : List ℕ) (o : ℕ) → Mem o xs → lookup (map (entry image p r) xs) o ≡ Some (entry image p r o)
  lookup_some [] o m = absurd m
  lookup_some (x ∷ xs) o m = go (cases_eq x o) m (lookup_some xs o)
    where
      go : (x ≡ o) ⊎ (x ≡ o → ⊥) → Mem o (x ∷ xs) → (Mem o xs → lookup (map (entry image p r) xs) o ≡ Some (entry image p r o)) → cond (eqb x o) (Some (entry image p r x)) (lookup (map (entry image p r) xs) o) ≡ Some (entry image p r o)
      go (inl e) k ih = rw (eq-eqb x o e) (ap (λ z. Some (entry image p r z)) e)
      go (inr e) (inl k) ih = absurd (e (sym k))
      go (inr e) (inr k) ih = rw (ne_eqb x o e) (ih k)

  pub lookup_none : (xs : List ℕ) (o : ℕ) → (Mem o xs → ⊥) → lookup (map (entry image p r) xs) o ≡ None
  lookup_none [] o g = refl
  lookup_none (x ∷ xs) o g = rw (ne_eqb x o (λ e. g (inl (sym e)))) (lookup_none xs o (λ m. g (inr m)))

-- the search that looks an item up
pub lookup_find : (xs : List Item) (o : ℕ) → find (λ x. eqb x.place o) xs ≡ lookup xs o
lookup_find [] o = refl
lookup_find (x ∷ xs) o = ap (cond (eqb x.place o) (Some x)) (lookup_find xs o)

-- a table of empty rows
pub empty_look : {N : ℕ} (n : ℕ) (e : InlineList Item N) → listed e ≡ [] → (row place : ℕ) → left_at (lookup (get_or (map listed (replicate n e)) row []) place) ≡ None
empty_look zero e h row place = refl
empty_look (suc n) e h zero place = ap (λ (l : List Item). left_at (lookup l place)) h
empty_look (suc n) e h (suc row) place = empty_look n e h row place
