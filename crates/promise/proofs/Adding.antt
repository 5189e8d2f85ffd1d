-- One coin more: the roots carry, and each watched slot's path gains at most a hash for each row that is joined.
use Rattle.std.proofs.Common.{◌≡◌, ℕ, zero, suc, ◌+◌, ◌*◌, ◌/◌, ◌%◌, ◌^◌, ◌<◌, Bool, cond, eqb, List, [], ◌∷◌, ◌++◌, map, length, Some, None, Option, sym, refl, ap, ◌∙◌, ap₂, inl, inr, append-nil, add-one, arith, shr-shr}
use lib.Pow.{mod-pow-add}
use Rattle.std.proofs.lemmas.Bool.{eq-eqb, ne_eqb}
use Rattle.utreexo.specs.declared.types.Coin.{Coin}
use Rattle.utreexo.specs.declared.types.Value.{Value}
use Rattle.utreexo.specs.Values.{Image}
use Rattle.utreexo.specs.Forest.{Slots}
use Rattle.utreexo.specs.Wallet.{topped, tree_joined, Held}
use Rattle.utreexo.specs.Collection.{all_held}
use Rattle.laws.proofs.Place.{up, sib, close}
use Rattle.laws.proofs.Places.{up_shr}
use Rattle.laws.proofs.Slots.{slot_coin, Lives}
use Rattle.laws.proofs.Tree.{map_o, Tree, grow, count_struck, count_kept, struck, depth, place}
use Rattle.laws.proofs.Value.{push_o, value_under, value, path}
use Rattle.laws.proofs.Where.{rows_split, place_up}
use Rattle.laws.proofs.After.{value_grow}
use Rattle.laws.proofs.Append.{struck_top, place_top_some, place_top_none, path_top}
use Rattle.laws.proofs.Strikes.{img}
use Rattle.laws.proofs.Live.{held_in, held_live, held_of}

-- the place without its bit d, by division
close_is : (d o : ℕ) → close d o ≡ o / 2 ^ (d + 1) * 2 ^ d + o % 2 ^ d
close_is zero o = omega arith
close_is (suc d) o =
    let a = close_is d (o / 2) in
    let b : o / 2 / 2 ^ (d + 1) ≡ o / 2 ^ (suc d + 1) = shr-shr o 1 (d + 1) ∙ ap (λ x. o / 2 ^ x) (let w : 1 + (d + 1) ≡ suc d + 1 = omega arith in w) in
    let c : o % 2 ^ suc d ≡ (o / 2 % 2 ^ d) * 2 + o % 2 = ap (λ x. o % 2 ^ x) (let w : suc d ≡ d + 1 = omega arith in w) ∙ mod-pow-add o d 1 in
    let e : 2 ^ suc d ≡ 2 * 2 ^ d = omega arith in
    let f : (o / 2 ^ (suc d + 1)) * 2 ^ suc d ≡ 2 * ((o / 2 / 2 ^ (d + 1)) * 2 ^ d) = rw (b, e) (omega arith) in
    omega arith

-- a path has a hash for each row that is not struck out
length_path : (image : Image) (slot : ℕ → Option Coin) (f j o : ℕ) → length (path (img image) slot j o f) ≡ depth slot j o f
length_path image slot zero j o = refl
length_path image slot (suc f) j o =
    ap (λ z. length (push_o z (path (img image) slot (suc j) (o / 2) f))) (value_grow (img image) slot j (sib o))
    ∙ go (grow slot j (sib o)) (length_path image slot f (suc j) (o / 2))
  where
    go : (x : Option (Tree Coin)) → length (path (img image) slot (suc j) (o / 2) f) ≡ depth slot (suc j) (o / 2) f
        → length (push_o (map_o (value (img image)) x) (path (img image) slot (suc j) (o / 2) f)) ≡ count_kept x (depth slot (suc j) (o / 2) f)
    go None e = e
    go (Some v) e = ap suc e

-- A live slot w in a tree of row k, with the coin q.
module _ (image : Image) (slot : ℕ → Option Coin) (k w : ℕ) (q : Coin) where
  abbrev row : ℕ
  row = struck slot 0 w k

  abbrev at : ℕ
  at = place slot 0 w k

  abbrev hashes : List Value
  hashes = path (img image) slot 0 w k

  abbrev held : Held
  held = held_in image slot k w q

  -- the place of the tree beside its own, and the value over it
  abbrev other : ℕ
  other = sib (up k w)

  abbrev beside : Option Value
  beside = value_under (img image) slot k other

  -- one row more on top of its record: the tree beside is joined to its own
  top_up : topped beside held ≡ held_in image slot (suc k) w q
  top_up = ap (λ z. topped z held) (value_grow (img image) slot k other) ∙ go (grow slot k other) refl
    where
      path_more : path (img image) slot 0 w (suc k) ≡ hashes ++ push_o beside []
      path_more = path_top slot (img image) k 0 w k (omega arith)

      row_more : (x : Option (Tree Coin)) → grow slot k other ≡ x → count_struck x row ≡ struck slot 0 w (suc k)
      row_more x e = sym (struck_top slot k 0 w k (omega arith) ∙ ap (λ z. count_struck z row) e)

      path_so : (x : Option (Tree Coin)) → grow slot k other ≡ x → hashes ++ push_o (map_o (value (img image)) x) [] ≡ path (img image) slot 0 w (suc k)
      path_so x e = sym (path_more ∙ ap (λ z. hashes ++ push_o z []) (value_grow (img image) slot k other ∙ ap (map_o (value (img image))) e))

      go : (x : Option (Tree Coin)) → grow slot k other ≡ x → topped (map_o (value (img image)) x) held ≡ held_in image slot (suc k) w q
      go None e =
          let a : row + 1 ≡ struck slot 0 w (suc k) = add-one row ∙ row_more None e in
          let b : at / 2 ^ (length hashes + 1) * 2 ^ length hashes + at % 2 ^ length hashes ≡ place slot 0 w (suc k) =
          sym (close_is (length hashes) at) ∙ ap (λ d. close d at) (length_path image slot k 0 w) ∙ sym (place_top_none slot k 0 w k (omega arith) e) in
          let c : hashes ≡ path (img image) slot 0 w (suc k) = sym (append-nil hashes) ∙ path_so None e in
          λ i. record { coin = q; row = a i; place = b i; path = c i }
      go (Some t) e =
          let a = row_more (Some t) e in
          let b : at ≡ place slot 0 w (suc k) = sym (place_top_some slot k 0 w k t (omega arith) e) in
          let c = path_so (Some t) e in
          λ i. record { coin = q; row = a i; place = b i; path = c i }

  -- the row of its tree, and the tree's place
  held_rows : row + length hashes ≡ k
  held_rows = let a = rows_split slot k 0 w in let b = length_path image slot k 0 w in omega arith

  held_above : at / 2 ^ length hashes ≡ up k w
  held_above = sym (up_shr (length hashes) at) ∙ ap (λ d. up d at) (length_path image slot k 0 w) ∙ place_up slot k 0 w

  -- the record, if the tree with the root l and that with the root x are joined, and its own tree is one of them or not
  abbrev joined_if : Option Value → Option Value → Bool → Held
  joined_if l x b = cond b (topped (cond (eqb ((at / 2 ^ length hashes) % 2) 0) x l) held) held

  -- a slot in one of the two trees
  pub join_up : (l x : Option Value) → cond (eqb (up k w % 2) 0) x l ≡ beside → tree_joined k l x held ≡ held_in image slot (suc k) w q
  join_up l x e =
      ap (joined_if l x) (eq-eqb (row + length hashes) k held_rows) ∙ ap (λ z. topped (cond (eqb (z % 2) 0) x l) held) held_above
      ∙ ap (λ z. topped z held) e ∙ top_up

  -- a slot in neither
  pub join_not : (j : ℕ) (l x : Option Value) → ¬ (k ≡ j) → tree_joined j l x held ≡ held
  join_not j l x n = ap (joined_if l x) (ne_eqb (row + length hashes) j (λ e. n (sym held_rows ∙ e)))

-- the shelf, slot by slot
pub all_held_map : (image : Image) (s : Slots) → length s < 2 ^ 32 → (ws : List ℕ) → Lives s ws
    → all_held image s ws ≡ map (λ w. held_of image s w (slot_coin s w)) ws
all_held_map image s small [] live = refl
all_held_map image s small (w ∷ ws) live =
    let (c, e) = live w (inl refl) in
    let f : slot_coin s w ≡ c = cc in
    ap₂ ◌++◌ (held_live image s small w c e ∙ ap (λ x. held_of image s w x ∷ []) (sym f)) (all_held_map image s small ws (λ x m. live x (inr m)))
