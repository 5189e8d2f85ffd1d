-- The loops that find the needed positions.
use Rattle.std.proofs.Common.{◌≡◌, ℕ, zero, suc, ◌+◌, ◌*◌, ◌/◌, ◌^◌, ◌≤◌, Bool, true, false, cond, List, [], ◌∷◌, ◌++◌, map, length, sym, ap, ◌∙◌, subst, arith}
use Rattle.std.specs.List.{AllByRecursion}
use Rattle.std.proofs.lemmas.List.{append_assoc, append-nil, length-map, length-append, map-append, map-id}
use Rattle.std.proofs.lemmas.Simd.{map-map}
use Rattle.utreexo.specs.Values.{Image}
use Rattle.utreexo.specs.Forest.{Node, at_node, position}
use Rattle.utreexo.specs.Claims.{Target, Proof, needed}
use Rattle.climb.specs.declared.item.Item.{Item}
use Rattle.targets.proofs.Valid.{Valid}
use Rattle.place.specs.Nodes.{inside}
use Rattle.laws.proofs.Order.{Mem}
use Rattle.laws.proofs.Members.{all_mem, map_mem}
use Rattle.targets.proofs.Inside.{inside_tree}
use Rattle.climb.specs.Rows.{top, beside, sib, lones}
use Rattle.climb.proofs.Folded.{full, absent, numbers, wanted}
use Rattle.climb.specs.Entries.{entry}
use Rattle.climb.specs.Needed.{numbered, places}
use Rattle.climb.proofs.Wanted.{absent_is, lacks_in, needed_is}

-- A row ------------------------------------------------------------------------------

module _ (row w : ℕ) (items : List Item) (before : List Node) where
  -- the items that are left give the rest
  pub record Lacking (nodes : List Node) (rest : List Item) : Type 0 where
    pub room : length nodes + length rest ≤ length before + length items
    pub ahead : nodes ++ map (at_node row) (lones w (places rest)) ≡ before ++ map (at_node row) (lones w (places items))

-- All rows -----------------------------------------------------------------------------

wanted_snoc : (n : ℕ) (ts : List Target) (f a k : ℕ) → a + f ≡ k → wanted n ts a (suc f) ≡ wanted n ts a f ++ numbers n ts k
wanted_snoc n ts zero a k e = let s : a ≡ k = omega arith in append-nil (numbers n ts a) ∙ ap (numbers n ts) s
wanted_snoc n ts (suc f) a k e =
    ap (λ l. numbers n ts a ++ l) (wanted_snoc n ts f (suc a) k (omega arith)) ∙ sym (append_assoc (numbers n ts a) (wanted n ts (suc a) f) (numbers n ts k))

length_lones : (w : ℕ) (xs : List ℕ) → length (lones w xs) ≤ length xs
length_lones w [] = omega arith
length_lones w (x ∷ []) = go (top w x)
  where
    go : (b : Bool) → length (cond b [] (sib x ∷ [])) ≤ 1
    go true = omega arith
    go false = omega arith
length_lones w (x ∷ (y ∷ ys)) = go (top w x) (beside x y) (length_lones w (y ∷ ys)) (length_lones w ys)
  where
    go : (b c : Bool) → length (lones w (y ∷ ys)) ≤ length (y ∷ ys) → length (lones w ys) ≤ length ys
        → length (cond b (lones w (y ∷ ys)) (cond c (lones w ys) (sib x ∷ lones w (y ∷ ys)))) ≤ length (x ∷ (y ∷ ys))
    go true c a b = omega arith
    go false true a b = omega arith
    go false false a b = omega arith

-- the rows below row r have given their needed positions
pub record Lacked (n : ℕ) (ts : List Target) (r : ℕ) (nodes : List Node) : Type 0 where
  pub few : length nodes ≤ 32 * r
  pub are : numbered n nodes ≡ wanted n ts 0 r
  pub inside_all : AllByRecursion (λ d. inside n d ≡ true) nodes

all_append : {A : Type 0} (P : A → Type 0) (xs ys : List A) → AllByRecursion P xs → AllByRecursion P ys → AllByRecursion P (xs ++ ys)
all_append P [] ys a b = b
all_append P (x ∷ xs) ys a b = (a.0, all_append P xs ys a.1 b)

absent_inside : {n : ℕ} {ts : List Target} → Valid n ts → (r : ℕ) → AllByRecursion (λ d. inside n d ≡ true) (map (at_node r) (absent n ts r))
absent_inside {n} {ts} v r = all_mem (λ d. inside n d ≡ true) (map (at_node r) (absent n ts r)) (λ d m. go d (map_mem (at_node r) (absent n ts r) d m))
  where
    go : (d : Node) → (q : ℕ) × Mem q (absent n ts r) × (d ≡ at_node r q) → inside n d ≡ true
    go d (q, m, e) = ap (inside n) e ∙ inside_tree n r q v.small (lacks_in v r q (absent_is v r q m))

module _ {n : ℕ} {ts : List Target} {r : ℕ} {nodes : List Node} where
  pub lacked_more : Valid n ts → Lacked n ts r nodes → (image : Image) (p : Proof) (merged : List Item) → merged ≡ map (entry image p r) (full n ts r) → length merged ≤ 32
      → (nodes' : List Node) → nodes' ≡ nodes ++ map (at_node r) (lones (n / 2 ^ r) (places merged)) → Lacked n ts (r + 1) nodes'
  lacked_more v was image p merged me small nodes' ne =
      let one : suc r ≡ r + 1 = omega arith in
      let row : places merged ≡ full n ts r = ap places me ∙ map-map (λ (x : Item). x.place) (entry image p r) (full n ts r) ∙ map-id (full n ts r) in
      let xs : List ℕ = lones (n / 2 ^ r) (places merged) in
      let a = ap length ne ∙ length-append nodes (map (at_node r) xs) in
      let b = length-map xs (at_node r) in
      let c = length_lones (n / 2 ^ r) (places merged) in
      let d = length-map merged (λ x. x.place) in
      let w = was.few in
      let number : Node → ℕ = λ d. position n d.row d.place in
      record {
        few = omega arith;
        are = ap (numbered n) ne ∙ map-append number nodes (map (at_node r) xs) ∙ ap (λ l. numbered n nodes ++ l) (map-map number (at_node r) xs ∙ ap (λ l. map (position n r) (lones (n / 2 ^ r) l)) row)
            ∙ ap (λ l. l ++ numbers n ts r) was.are ∙ sym (wanted_snoc n ts r 0 r (omega arith)) ∙ ap (wanted n ts 0) one;
        inside_all = subst (AllByRecursion (λ d. inside n d ≡ true)) (sym (ne ∙ ap (λ l. nodes ++ map (at_node r) (lones (n / 2 ^ r) l)) row))
            (all_append (λ d. inside n d ≡ true) nodes (map (at_node r) (absent n ts r)) was.inside_all (absent_inside v r));
      }

  pub lacked_all : Valid n ts → Lacked n ts r nodes → r ≡ 32 → numbered n nodes ≡ needed n ts
  lacked_all v was e = was.are ∙ ap (wanted n ts 0) e ∙ sym (needed_is v)
