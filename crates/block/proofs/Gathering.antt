-- What a run reads is the block's entries.
use Rattle.std.proofs.Common.{◌≡◌, ℕ, ◌+◌, ◌*◌, List, [], ◌∷◌, ◌++◌, map, sym, refl, ap, ◌∙◌, ap₂, append_assoc, append-nil, arith}
use Rattle.utreexo.specs.Bytes.{Bytes, part, number_in, coin_in, value_in}
use Rattle.utreexo.specs.Lists.{below}
use Rattle.utreexo.specs.Blocks.{entries}
use Rattle.block.specs.declared.entry.Counts.{Counts}
use Rattle.block.specs.Reader.{Part, target, spent, hash, new, counts_in, targets_end, spent_end, hashes_end, entries_from, all_entries, target_in}
use Rattle.block.specs.Reader.{spent_in, hash_in, new_in, gathered, read_as}

module _ {A : Type 0} (of : Part → List A) where
  gathered_append : (xs ys : List (Part × ℕ)) → gathered of (xs ++ ys) ≡ gathered of xs ++ gathered of ys
  gathered_append [] ys = refl
  gathered_append (x ∷ xs) ys = ap (λ z. of x.0 ++ z) (gathered_append xs ys) ∙ sym (append_assoc (of x.0) (gathered of xs) (gathered of ys))

  -- entries of a kind that is gathered, and of one that is not
  each : (g : Bytes → A) (kind : Bytes → Part) → ((x : Bytes) → of (kind x) ≡ g x ∷ []) → (w from : ℕ) (b : Bytes) (is : List ℕ)
      → gathered of (map (λ i. (kind (part (from + w * i) w b), from + w * i)) is) ≡ map (λ i. g (part (from + w * i) w b)) is
  each g kind h w from b [] = refl
  each g kind h w from b (i ∷ is) = ap₂ ◌++◌ (h (part (from + w * i) w b)) (each g kind h w from b is)

  none : (kind : Bytes → Part) → ((x : Bytes) → of (kind x) ≡ []) → (w from : ℕ) (b : Bytes) (is : List ℕ)
      → gathered of (map (λ i. (kind (part (from + w * i) w b), from + w * i)) is) ≡ []
  none kind h w from b [] = refl
  none kind h w from b (i ∷ is) = ap₂ ◌++◌ (h (part (from + w * i) w b)) (none kind h w from b is)

  -- four lists of entries, gathered one by one
  four : (xs ys zs ws : List (Part × ℕ)) (a b c d : List A) → gathered of xs ≡ a → gathered of ys ≡ b → gathered of zs ≡ c → gathered of ws ≡ d
      → gathered of (xs ++ (ys ++ (zs ++ ws))) ≡ a ++ (b ++ (c ++ d))
  four xs ys zs ws a b c d p q r s =
      gathered_append xs (ys ++ (zs ++ ws)) ∙ ap₂ ◌++◌ p
      (gathered_append ys (zs ++ ws) ∙ ap₂ ◌++◌ q (gathered_append zs ws ∙ ap₂ ◌++◌ r s))

pub entries_read : (b : Bytes) → read_as (all_entries b) ≡ entries b
entries_read b = λ i. record { targets = targets_read i; spent = spent_read i; hashes = hashes_read i; coins = coins_read i }
  where
    c : Counts
    c = counts_in b

    E : (Bytes → Part) → ℕ → ℕ → ℕ → List (Part × ℕ)
    E kind w from m = entries_from kind w from m b

    targets_read : gathered target_in (all_entries b) ≡ (entries b).targets
    targets_read =
        four target_in (E target 8 6 c.spent) (E spent 32 (targets_end c) c.spent) (E hash 32 (spent_end c) c.hashes)
        (E new 32 (hashes_end c) c.coins) _ [] [] []
        (each target_in number_in target (λ x. refl) 8 6 b (below c.spent)) (none target_in spent (λ x. refl) 32 (targets_end c) b (below c.spent))
        (none target_in hash (λ x. refl) 32 (spent_end c) b (below c.hashes)) (none target_in new (λ x. refl) 32 (hashes_end c) b (below c.coins))
        ∙ append-nil (entries b).targets

    spent_read : gathered spent_in (all_entries b) ≡ (entries b).spent
    spent_read =
        four spent_in (E target 8 6 c.spent) (E spent 32 (targets_end c) c.spent) (E hash 32 (spent_end c) c.hashes)
        (E new 32 (hashes_end c) c.coins) [] _ [] []
        (none spent_in target (λ x. refl) 8 6 b (below c.spent)) (each spent_in coin_in spent (λ x. refl) 32 (targets_end c) b (below c.spent))
        (none spent_in hash (λ x. refl) 32 (spent_end c) b (below c.hashes)) (none spent_in new (λ x. refl) 32 (hashes_end c) b (below c.coins))
        ∙ append-nil (entries b).spent

    hashes_read : gathered hash_in (all_entries b) ≡ (entries b).hashes
    hashes_read =
        four hash_in (E target 8 6 c.spent) (E spent 32 (targets_end c) c.spent) (E hash 32 (spent_end c) c.hashes)
        (E new 32 (hashes_end c) c.coins) [] [] _ []
        (none hash_in target (λ x. refl) 8 6 b (below c.spent)) (none hash_in spent (λ x. refl) 32 (targets_end c) b (below c.spent))
        (each hash_in value_in hash (λ x. refl) 32 (spent_end c) b (below c.hashes))
        (none hash_in new (λ x. refl) 32 (hashes_end c) b (below c.coins))
        ∙ append-nil (map (λ i. value_in (part (spent_end c + 32 * i) 32 b)) (below c.hashes))
        ∙ ap (λ from. map (λ i. value_in (part (from + 32 * i) 32 b)) (below c.hashes)) (omega arith)

    coins_read : gathered new_in (all_entries b) ≡ (entries b).coins
    coins_read =
        four new_in (E target 8 6 c.spent) (E spent 32 (targets_end c) c.spent) (E hash 32 (spent_end c) c.hashes)
        (E new 32 (hashes_end c) c.coins) [] [] [] _
        (none new_in target (λ x. refl) 8 6 b (below c.spent)) (none new_in spent (λ x. refl) 32 (targets_end c) b (below c.spent))
        (none new_in hash (λ x. refl) 32 (spent_end c) b (below c.hashes)) (each new_in coin_in new (λ x. refl) 32 (hashes_end c) b (below c.coins))
        ∙ ap (λ from. map (λ i. coin_in (part (from + 32 * i) 32 b)) (below c.coins)) (omega arith)
