-- The check chain of watch, and the shelf with the card's coin.
use Rattle.std.proofs.Common.{◌≡◌, ℕ, ◌+◌, ◌*◌, ◌/◌, ◌^◌, ◌<◌, ◌≤◌, true, false, not, ◌||◌, ltb, leb, List, [], ◌∷◌, ◌++◌, map, length, Some, None, Option, sym, ap, ◌∙◌, ap₂, arith}
use Rattle.std.proofs.lemmas.Bool.{le-ltb}
use Rattle.utreexo.specs.Bytes.{Bytes, part, value_in}
use Rattle.utreexo.specs.Lists.{any}
use Rattle.utreexo.specs.Values.{Image}
use Rattle.utreexo.specs.Blocks.{entries}
use Rattle.utreexo.specs.Checks.{Cause, cause, refusal, read_causes, most_slots}
use Rattle.utreexo.specs.Wallet.{Held, View, watch_causes, on_shelf, held_from}
use Rattle.laws.proofs.Logic.{or_false}
use Rattle.laws.proofs.Causes.{refusal_some, refusal_none, lone_cause}
use Rattle.laws.proofs.Members.{any_append}
use Rattle.laws.proofs.Ranges.{length_map_below}
use Rattle.laws.proofs.Positions.{over_low}
use Rattle.place.specs.Nodes.{node_of}
use Rattle.targets.specs.declared.spend.Spend.{Spend}
use Rattle.targets.specs.Spends.{target_of}
use Rattle.climb.specs.Held.{hashes_in}
use Rattle.shelf.specs.Held.{in_its_tree, astray}
use Rattle.shelf.specs.Finding.{index_of, is_at, has_position}
use Rattle.shelf.proofs.Finding.{with, without}
use Rattle.shelf.proofs.Standing.{standing_over, position_at_node, index_same}
use Rattle.wallet.specs.Cards.{card_causes, held_with, IsOf}

-- one coin more stands in its tree
pub standing_pushed : (n : ℕ) (hs : List Held) (h : Held) → astray n hs ≡ false → in_its_tree n h ≡ true → astray n (hs ++ (h ∷ [])) ≡ false
standing_pushed n hs h e s = any_append (λ h. not (in_its_tree n h)) hs (h ∷ []) ∙ ap₂ (λ a b. a || (not b || false)) e s

module _ (image : Image) (v : View) (bs : Bytes) where
  abbrev causes : List Cause
  causes = watch_causes image v bs

  -- the causes 4 to 10; and 11 to 13, of such new coins and targets
  abbrev early : Bytes → List Cause
  early bs = card_causes image v.count v.roots bs

  abbrev full : Cause
  full = cause 13 (leb 8 (length v.shelf))

  abbrev late : ℕ → List ℕ → List Cause
  late coins targets =
      cause 11 (ltb most_slots (v.count + coins))
      ∷ cause 12 (any (on_shelf v.count v.shelf) targets)
      ∷ full ∷ []

  abbrev late_here : List Cause
  late_here = late (length (entries bs).coins) (entries bs).targets

  -- the card that was read, with the same bytes
  module _ (own : Bytes) (same : own ≡ bs) (read : refusal (read_causes bs) ≡ None) where
    early_same : refusal (early bs) ≡ refusal (early own)
    early_same = ap (λ b. refusal (early b)) (sym same)

    pub not_judged : (k : ℕ) → refusal (early own) ≡ Some k → refusal causes ≡ Some k
    not_judged k e = refusal_none (read_causes bs) (early bs ++ late_here) read ∙ refusal_some (early bs) late_here k (early_same ∙ e)

    module _ (judged : refusal (early own) ≡ None) (small : v.count < 2 ^ 32) (s : Spend) (is : IsOf v.count own s) where
      -- of the late causes 12 and 13 are left: no coin is added
      left : refusal causes ≡ refusal (cause 12 (on_shelf v.count v.shelf is.number) ∷ full ∷ [])
      left =
          refusal_none (read_causes bs) (early bs ++ late_here) read ∙ refusal_none (early bs) late_here (early_same ∙ judged)
          ∙ ap₂ (λ cs ps. refusal (late (length cs) ps)) (ap (λ b. (entries b).coins) (sym same) ∙ is.no_coin) (ap (λ b. (entries b).targets) (sym same) ∙ is.named)
          ∙ ap₂ (λ a b. refusal (cause 11 a ∷ cause 12 b ∷ full ∷ [])) (le-ltb most_slots (v.count + 0) (omega arith)) (or_false (on_shelf v.count v.shelf is.number))

      module _ (standing : astray v.count v.shelf ≡ false) where
        -- the coin at the target's node is the one with its position
        found_same : index_of (is_at (node_of s.node)) v.shelf ≡ index_of (has_position v.count is.number) v.shelf
        found_same =
            index_same v.count (is_at (node_of s.node)) (has_position v.count is.number)
            (position_at_node v.count small is.number (node_of s.node) is.located) v.shelf standing

        pub on_it : (i : ℕ) → index_of (is_at (node_of s.node)) v.shelf ≡ Some i → refusal causes ≡ Some 12
        on_it i e =
            left
            ∙ ap (λ b. refusal (cause 12 b ∷ full ∷ [])) (with (has_position v.count is.number) v.shelf i (sym found_same ∙ e)).some

        -- where it is not on the shelf, the number of coins decides
        pub not_on_it : index_of (is_at (node_of s.node)) v.shelf ≡ None → (x : Option ℕ) → refusal (full ∷ []) ≡ x → refusal causes ≡ x
        not_on_it e x q =
            left
            ∙ ap (λ b. refusal (cause 12 b ∷ full ∷ [])) (without (has_position v.count is.number) v.shelf (sym found_same ∙ e)).none ∙ q

        pub refused_full : index_of (is_at (node_of s.node)) v.shelf ≡ None → (k : ℕ) → refusal (full ∷ []) ≡ Some k → refusal causes ≡ Some 13
        refused_full e k q = not_on_it e (Some 13) (ap (λ b. refusal (cause 13 b ∷ [])) (lone_cause 13 (leb 8 (length v.shelf)) k q))

      -- the card's coin, with the hashes that these bytes stand for
      module _ (bytes : Bytes) (hashes : hashes_in bytes ≡ (entries own).hashes) where
        abbrev coin : Held
        coin = held_with (target_of s) (hashes_in bytes)

        pub coin_stands : in_its_tree v.count coin ≡ true
        coin_stands = ap (λ hs. in_its_tree v.count (held_with (target_of s) hs)) hashes ∙ is.in_tree

        pub path_short : s.node.row + length bytes / 32 ≤ 31
        path_short =
            let n = length_map_below (λ i. value_in (part (32 * i) 32 bytes)) (length bytes / 32) in
            let l = over_low v.count s.node.row s.node.place (s.node.row + length (hashes_in bytes)) small (standing_over v.count coin coin_stands) in
            omega arith

        pub coin_held : coin ∷ [] ≡ held_from v.count (entries bs)
        coin_held =
            ap (λ hs. held_with (target_of s) hs ∷ []) hashes ∙ ap (λ ts. map (λ t. held_with t (entries own).hashes) ts) (sym is.one)
            ∙ ap (λ b. held_from v.count (entries b)) same
