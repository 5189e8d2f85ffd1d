-- The reader's run over a readable block.
use Rattle.std.proofs.Common.{◌≡◌, ℕ, zero, suc, ◌+◌, ◌*◌, ◌<◌, ◌≤◌, false, cond, List, [], ◌∷◌, ◌++◌, map, length, take, drop, None, sym, refl, ap, ◌∙◌, ap₂, append-nil, mul-le-mul_left, mul-zero, zero-add, mul-suc, arith, length-drop, take-append-drop, take_all, drop-drop, take-add}
use mathlib.Core.List.{map-map}
use Rattle.std.proofs.lemmas.Bool.Decides.{nat_tests}
use Rattle.std.proofs.lemmas.List.{map-append}
use Rattle.laws.proofs.Order.{range}
use Rattle.laws.proofs.Ranges.{below_range}
use Rattle.laws.proofs.Packing.{concat_append}
use Rattle.utreexo.specs.Bytes.{Bytes, part}
use Rattle.utreexo.specs.Lists.{below}
use Rattle.utreexo.specs.Blocks.{concat}
use Rattle.utreexo.specs.Checks.{refusal, read_causes}
use Rattle.block.specs.declared.entry.Counts.{Counts}
use Rattle.block.proofs.Gathering.{entries_read}
use Rattle.block.specs.Reader.{Part, target, spent, hash, new, end, counts_in, targets_end, spent_end, hashes_end, coins_end, next_offset, taken, entry_at}
use Rattle.block.specs.Reader.{read_next, is_end, bytes_of, read_run, entries_from, all_entries, RunReads}

-- an entry for which there are bytes enough
enough : (kind : Bytes → Part) (w before o : ℕ) (rest : Bytes) → w ≤ length rest
    → ◌≡◌ {A = Part × ℕ × Bytes} (taken kind w before o rest) (kind (take w rest), o, drop w rest)
enough kind w before o rest l = grind (arith, nat_tests)

-- what a run goes on with, once its next answer is known
abbrev onward : ℕ → Counts → Part × ℕ × Bytes → List (Part × ℕ)
onward more c r = cond (is_end r.0) [] ((r.0, r.1) ∷ read_run more c r.1 r.2)

-- entries of one kind, of w bytes each, from an offset on
module _ (b : Bytes) (c : Counts) (kind : Bytes → Part) (plain : (x : Bytes) → is_end (kind x) ≡ false) (w from m : ℕ)
    (here : (i before : ℕ) (rest : Bytes) → i < m
    → ◌≡◌ {A = Part × ℕ × Bytes} (entry_at c before (from + w * i) rest) (taken kind w before (from + w * i) rest))
    (after : (i : ℕ) → i < m → next_offset c (from + w * i) ≡ from + w * suc i)
    (room : from + w * m ≤ length b) where
  abbrev entry : ℕ → Part × ℕ
  entry i = (kind (part (from + w * i) w b), from + w * i)

  one : (i f before : ℕ) → i < m → next_offset c before ≡ from + w * i
      → read_run (suc f) c before (drop (from + w * i) b) ≡ entry i ∷ read_run f c (from + w * i) (drop (from + w * suc i) b)
  one i f before l e =
      let s = mul-suc w i in
      let q = mul-le-mul_left {m = suc i} {n = m} w (omega arith) in
      let d = length-drop (from + w * i) b in
      let rest : Bytes = drop (from + w * i) b in
      let step : ◌≡◌ {A = Part × ℕ × Bytes} (read_next c before rest) (kind (take w rest), from + w * i, drop w rest)
      = ap (λ at. entry_at c before at rest) e ∙ here i before rest l ∙ enough kind w before (from + w * i) rest (omega arith) in
      let far : drop w rest ≡ drop (from + w * suc i) b = drop-drop w (from + w * i) b ∙ ap (λ z. drop z b) (omega arith) in
      ap (onward f c) step
      ∙ ap (λ t. cond t [] (entry i ∷ read_run f c (from + w * i) (drop w rest))) (plain (take w rest))
      ∙ ap (λ z. entry i ∷ read_run f c (from + w * i) z) far

  pub region : (n i f k before : ℕ) → i + n ≡ m → f ≡ n + k → next_offset c before ≡ from + w * i
      → (last : ℕ) × (next_offset c last ≡ from + w * m) × (read_run f c before (drop (from + w * i) b)
      ≡ map entry (range i n) ++ read_run k c last (drop (from + w * m) b))
  region zero i f k before e q at =
      let x : i ≡ m = omega arith in
      let y : f ≡ k = omega arith in
      (before, at ∙ ap (λ z. from + w * z) x, ap₂ (λ f i. read_run f c before (drop (from + w * i) b)) y x)
  region (suc n) i zero k before e q at = absurd (omega arith)
  region (suc n) i (suc f) k before e q at =
      let (last, p, r) = region n (suc i) f k (from + w * i) (omega arith) (omega arith) (after i (omega arith)) in
      (last, p, one i f before (omega arith) at ∙ ap (λ z. entry i ∷ z) r)

-- the length that a readable block has
pub right_length : (b : Bytes) → refusal (read_causes b) ≡ None → length b ≡ coins_end (counts_in b)
right_length b e = grind (arith, nat_tests)

abbrev Answer : Type 0
Answer = Part × ℕ × Bytes

module _ (b : Bytes) (e : refusal (read_causes b) ≡ None) where
  abbrev c : Counts
  c = counts_in b

  targets_here : (i before : ℕ) (rest : Bytes) → i < c.spent
      → ◌≡◌ {A = Answer} (entry_at c before (6 + 8 * i) rest) (taken target 8 before (6 + 8 * i) rest)
  targets_here i before rest l = grind (arith, nat_tests)

  targets_after : (i : ℕ) → i < c.spent → next_offset c (6 + 8 * i) ≡ 6 + 8 * suc i
  targets_after i l = grind (arith, nat_tests)

  spent_here : (i before : ℕ) (rest : Bytes) → i < c.spent
      → ◌≡◌ {A = Answer} (entry_at c before (targets_end c + 32 * i) rest) (taken spent 32 before (targets_end c + 32 * i) rest)
  spent_here i before rest l = grind (arith, nat_tests)

  hashes_here : (i before : ℕ) (rest : Bytes) → i < c.hashes
      → ◌≡◌ {A = Answer} (entry_at c before (spent_end c + 32 * i) rest) (taken hash 32 before (spent_end c + 32 * i) rest)
  hashes_here i before rest l = grind (arith, nat_tests)

  coins_here : (i before : ℕ) (rest : Bytes) → i < c.coins
      → ◌≡◌ {A = Answer} (entry_at c before (hashes_end c + 32 * i) rest) (taken new 32 before (hashes_end c + 32 * i) rest)
  coins_here i before rest l = grind (arith, nat_tests)

  -- no entry is left at the end
  over_here : (before : ℕ) (rest : Bytes) → ◌≡◌ {A = Answer} (entry_at c before (coins_end c) rest) (end, before, rest)
  over_here before rest = grind (arith, nat_tests)

  stops : (k before : ℕ) (rest : Bytes) → next_offset c before ≡ coins_end c → read_run k c before rest ≡ []
  stops zero before rest at = refl
  stops (suc k) before rest at = ap (onward k c) (ap (λ o. entry_at c before o rest) at ∙ over_here before rest)

  -- the four kinds, one after the other
  abbrev listed : (Bytes → Part) → ℕ → ℕ → ℕ → List (Part × ℕ)
  listed kind w from n = map (λ i. (kind (part (from + w * i) w b), from + w * i)) (range 0 n)

  at_start : (x : ℕ) → x ≡ x + 32 * 0
  at_start x = omega arith

  -- past the targets every entry has 32 bytes
  after_32 : (from : ℕ) → targets_end c ≤ from → (i : ℕ) → next_offset c (from + 32 * i) ≡ from + 32 * suc i
  after_32 from l i = grind (arith, nat_tests)

  targets_listed : (k : ℕ)
      → (last : ℕ) × (next_offset c last ≡ targets_end c) × (read_run (c.spent + k) c 0 (drop 6 b)
      ≡ listed target 8 6 c.spent ++ read_run k c last (drop (targets_end c) b))
  targets_listed k = let l = right_length b e in region b c target (λ x. refl) 8 6 c.spent targets_here targets_after (omega arith) c.spent 0 (c.spent + k) k 0
      (zero-add c.spent) refl refl

  -- entries of 32 bytes
  records_listed : (kind : Bytes → Part) → ((x : Bytes) → is_end (kind x) ≡ false) → (from m : ℕ) → targets_end c ≤ from
      → ((i before : ℕ) (rest : Bytes) → i < m → ◌≡◌ {A = Answer} (entry_at c before (from + 32 * i) rest) (taken kind 32 before (from + 32 * i) rest))
      → from + 32 * m ≤ length b
      → (k before : ℕ) → next_offset c before ≡ from
      → (last : ℕ) × (next_offset c last ≡ from + 32 * m) × (read_run (m + k) c before (drop from b)
      ≡ listed kind 32 from m ++ read_run k c last (drop (from + 32 * m) b))
  records_listed kind plain from m past here room k before at =
      let (last, p, r) = region b c kind plain 32 from m here (λ i h. after_32 from past i) room m 0 (m + k) k before (zero-add m) refl (at
      ∙ at_start from) in
      (last, p, ap (λ o. read_run (m + k) c before (drop o b)) (at_start from) ∙ r)

  all_listed : (more : ℕ) → read_run (c.spent + (c.spent + (c.hashes + (c.coins + more)))) c 0 (drop 6 b)
      ≡ listed target 8 6 c.spent ++
      (listed spent 32 (targets_end c) c.spent ++ (listed hash 32 (spent_end c) c.hashes ++ listed new 32 (hashes_end c) c.coins))
  all_listed more =
      let (before₁, at₁, r₁) = targets_listed (c.spent + (c.hashes + (c.coins + more))) in
      let (before₂, at₂, r₂) = records_listed spent (λ x. refl) (targets_end c) c.spent past₂ spent_here room₂
      (c.hashes + (c.coins + more)) before₁ at₁ in
      let (before₃, at₃, r₃) = records_listed hash (λ x. refl) (spent_end c) c.hashes past₃ hashes_here room₃ (c.coins + more) before₂ at₂ in
      let (before₄, at₄, r₄) = records_listed new (λ x. refl) (hashes_end c) c.coins past₄ coins_here room₄ more before₃ at₃ in
      r₁ ∙ ap (λ z. listed target 8 6 c.spent ++ z)
      (r₂ ∙ ap (λ z. listed spent 32 (targets_end c) c.spent ++ z)
      (r₃ ∙ ap (λ z. listed hash 32 (spent_end c) c.hashes ++ z)
      (r₄ ∙ ap (λ z. listed new 32 (hashes_end c) c.coins ++ z) (stops more before₄ (drop (coins_end c) b) at₄)
      ∙ append-nil (listed new 32 (hashes_end c) c.coins))))
    where
      past₂ : targets_end c ≤ targets_end c
      past₂ = omega arith

      past₃ : targets_end c ≤ spent_end c
      past₃ = omega arith

      past₄ : targets_end c ≤ hashes_end c
      past₄ = omega arith

      room₂ : targets_end c + 32 * c.spent ≤ length b
      room₂ = let l = right_length b e in omega arith

      room₃ : spent_end c + 32 * c.hashes ≤ length b
      room₃ = let l = right_length b e in omega arith

      room₄ : hashes_end c + 32 * c.coins ≤ length b
      room₄ = let l = right_length b e in omega arith

  pub runs : (more : ℕ) → read_run (c.spent + (c.spent + (c.hashes + (c.coins + more)))) c 0 (drop 6 b) ≡ all_entries b
  runs more =
      all_listed more
      ∙ ap₂ ◌++◌ (named target 8 6 c.spent)
      (ap₂ ◌++◌ (named spent 32 (targets_end c) c.spent)
      (ap₂ ◌++◌ (named hash 32 (spent_end c) c.hashes) (named new 32 (hashes_end c) c.coins)))
    where
      named : (kind : Bytes → Part) (w from n : ℕ) → listed kind w from n ≡ entries_from kind w from n b
      named kind w from n = ap (map (λ i. (kind (part (from + w * i) w b), from + w * i))) (sym (below_range n))

-- Bytes that follow one another ---------------------------------------------------------------

module _ (b : Bytes) where
  -- parts of w bytes each, joined
  pieces : (w from m : ℕ) → from + w * m ≤ length b → concat (map (λ i. part (from + w * i) w b) (below m)) ≡ take (w * m) (drop from b)
  pieces w from zero l = ap (λ z. take z (drop from b)) (sym (mul-zero w))
  pieces w from (suc m) l =
      let s = mul-suc w m in
      let at : ℕ → Bytes = λ i. part (from + w * i) w b in
      ap concat (map-append at (below m) (m ∷ [])) ∙ concat_append (map at (below m)) (at m ∷ [])
      ∙ ap₂ ◌++◌ (pieces w from m (omega arith)) (append-nil (at m))
      ∙ ap (λ z. take (w * m) (drop from b) ++ take w z) (sym (drop-drop (w * m) from b))
      ∙ sym (take-add (w * m) w (drop from b)) ∙ ap (λ z. take z (drop from b)) (sym s)

  glued : (from k to : ℕ) → to ≡ from + k → take k (drop from b) ++ drop to b ≡ drop from b
  glued from k to e = ap (λ z. take k (drop from b) ++ z) (ap (λ o. drop o b) e ∙ sym (drop-drop k from b)) ∙ take-append-drop k (drop from b)

pub joined : (b : Bytes) → refusal (read_causes b) ≡ None → take 6 b ++ concat (map (λ e. bytes_of e.0) (all_entries b)) ≡ b
joined b e =
    ap (λ z. take 6 b ++ z)
    (cut (E target 8 6 k.spent) (E spent 32 (targets_end k) k.spent ++ (E hash 32 (spent_end k) k.hashes ++ E new 32 (hashes_end k) k.coins))
    ∙ ap₂ ◌++◌ (bytes 8 6 k.spent (omega (arith, l)) target (λ i. refl))
    (cut (E spent 32 (targets_end k) k.spent) (E hash 32 (spent_end k) k.hashes ++ E new 32 (hashes_end k) k.coins)
    ∙ ap₂ ◌++◌ (bytes 32 (targets_end k) k.spent (omega (arith, l)) spent (λ i. refl))
    (cut (E hash 32 (spent_end k) k.hashes) (E new 32 (hashes_end k) k.coins)
    ∙ ap₂ ◌++◌ (bytes 32 (spent_end k) k.hashes (omega (arith, l)) hash (λ i. refl))
    (bytes 32 (hashes_end k) k.coins (omega (arith, l)) new (λ i. refl)
    ∙ take_all (32 * k.coins) (drop (hashes_end k) b) (let d = length-drop (hashes_end k) b in omega (arith, l, d)))
    ∙ glued b (spent_end k) (32 * k.hashes) (hashes_end k) refl)
    ∙ glued b (targets_end k) (32 * k.spent) (spent_end k) refl)
    ∙ glued b 6 (8 * k.spent) (targets_end k) refl)
    ∙ take-append-drop 6 b
  where
    k : Counts
    k = counts_in b

    l : length b ≡ coins_end (counts_in b)
    l = right_length b e

    E : (Bytes → Part) → ℕ → ℕ → ℕ → List (Part × ℕ)
    E kind w from m = entries_from kind w from m b

    bytes_in : List (Part × ℕ) → Bytes
    bytes_in es = concat (map (λ e. bytes_of e.0) es)

    cut : (xs ys : List (Part × ℕ)) → bytes_in (xs ++ ys) ≡ bytes_in xs ++ bytes_in ys
    cut xs ys = ap concat (map-append (λ e. bytes_of e.0) xs ys) ∙ concat_append (map (λ e. bytes_of e.0) xs) (map (λ e. bytes_of e.0) ys)

    bytes : (w from m : ℕ) → from + w * m ≤ length b → (kind : Bytes → Part) → ((x : Bytes) → bytes_of (kind x) ≡ x) → bytes_in (E kind w from m)
        ≡ take (w * m) (drop from b)
    bytes w from m h kind same =
        ap concat (map-map (λ e. bytes_of e.0) (λ i. (kind (part (from + w * i) w b), from + w * i)) (below m) ∙ cong (below m)) ∙ pieces b w from m h
      where
        cong : (is : List ℕ) → map (λ i. bytes_of (kind (part (from + w * i) w b))) is ≡ map (λ i. part (from + w * i) w b) is
        cong [] = refl
        cong (i ∷ is) = ap₂ (λ x xs. x ∷ xs) (same (part (from + w * i) w b)) (cong is)

pub run_reads : RunReads 0
run_reads b e more = (runs b e more, entries_read b, joined b e)
