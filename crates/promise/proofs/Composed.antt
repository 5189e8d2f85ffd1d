-- A block composed is read back, and bytes read are composed again.
use Rattle.std.proofs.Common.{◌≡◌, ℕ, ◌+◌, ◌*◌, ◌^◌, ◌<◌, ◌≤◌, false, not, ◌||◌, eqb, ltb, List, [], ◌++◌, map, length, take, drop, None, sym, refl, ap, ◌∙◌, ap₂, append_assoc, append-nil, arith, length-append, length-drop, length-take-le, take_all, drop-drop, take-add}
use Rattle.std.specs.List.{AllByRecursion}
use Rattle.std.proofs.lemmas.Bool.{le-ltb, eq-eqb, or_from, not_from_true}
use Rattle.utreexo.specs.declared.types.Coin.{Coin}
use Rattle.utreexo.specs.declared.types.Value.{Value}
use Rattle.utreexo.specs.Bytes.{Bytes, Octets, number_in, number_bytes, part, coin_in, value_in, coin_bytes, value_bytes, four_words}
use Rattle.utreexo.specs.Lists.{below}
use Rattle.utreexo.specs.Values.{CoinFits, ValueFits}
use Rattle.utreexo.specs.Claims.{no_value}
use Rattle.utreexo.specs.Blocks.{Block, concat, composed, spent_count, hash_count, coin_count, entries}
use Rattle.utreexo.specs.Checks.{refusal, read_causes}
use Rattle.utreexo.specs.Collection.{no_coin}
use Rattle.laws.proofs.Ranges.{length_map_below}
use Rattle.laws.proofs.Packing.{length_bytes, bytes_read, read_bytes, packed_length, unpacked, repacked, part_octets}
use Rattle.laws.proofs.Causes.{freed}
use Rattle.laws.proofs.Reading.{whole_length, reads}
use Rattle.promise.specs.Theorems.{Fitting}

-- four words are read back, and so are a coin and a value
words_read : (a b c d : ℕ) → a < 2 ^ 64 → b < 2 ^ 64 → c < 2 ^ 64 → d < 2 ^ 64
    → (number_in (part 0 8 (four_words a b c d)) ≡ a) × (number_in (part 8 8 (four_words a b c d)) ≡ b)
    × (number_in (part 16 8 (four_words a b c d)) ≡ c) × (number_in (part 24 8 (four_words a b c d)) ≡ d)
words_read a b c d p q r s = (bytes_read 8 a p, bytes_read 8 b q, bytes_read 8 c r, bytes_read 8 d s)

coin_back : (c : Coin) → CoinFits c → coin_in (coin_bytes c) ≡ c
coin_back c (k, l, m, n) =
    let (p, q, r, s) = words_read c.w0 c.w1 c.w2 c.w3 k l m n in
    λ i. record { w0 = p i; w1 = q i; w2 = r i; w3 = s i }

value_back : (v : Value) → ValueFits v → value_in (value_bytes v) ≡ v
value_back v (k, l, m, n) =
    let (p, q, r, s) = words_read v.w0 v.w1 v.w2 v.w3 k l m n in
    λ i. record { w0 = p i; w1 = q i; w2 = r i; w3 = s i }

-- a part of bytes, as a number and back again
part_back : (b : Bytes) → Octets b → (i k : ℕ) → i + k ≤ length b → number_bytes k (number_in (part i k b)) ≡ part i k b
part_back b ok i k l =
    read_bytes k (part i k b) (length-take-le k (drop i b) (let z = length-drop i b in omega arith)) (part_octets i k b ok)

-- two neighbours
part_join : (b : Bytes) (i k m : ℕ) → take k (drop i b) ++ take m (drop (i + k) b) ≡ take (k + m) (drop i b)
part_join b i k m = ap (λ z. take k (drop i b) ++ take m z) (sym (drop-drop k i b)) ∙ sym (take-add k m (drop i b))

-- four parts make 32 bytes
four : (q : Bytes) → length q ≡ 32 → take 8 (drop 0 q) ++ (take 8 (drop 8 q) ++ (take 8 (drop 16 q) ++ take 8 (drop 24 q))) ≡ q
four q l =
    ap (λ z. take 8 (drop 0 q) ++ (take 8 (drop 8 q) ++ z)) (part_join q 16 8 8) ∙ ap (λ z. take 8 (drop 0 q) ++ z) (part_join q 8 8 16)
    ∙ part_join q 0 8 24 ∙ take_all 32 q (omega arith)

-- 32 bytes, as four words and back again
words_back : (q : Bytes) → length q ≡ 32 → Octets q
    → four_words (number_in (part 0 8 q)) (number_in (part 8 8 q)) (number_in (part 16 8 q)) (number_in (part 24 8 q)) ≡ q
words_back q l ok =
    ap₂ (λ x y. x ++ y) (part_back q ok 0 8 (omega arith)) (ap₂ (λ x y. x ++ y) (part_back q ok 8 8 (omega arith))
    (ap₂ (λ x y. x ++ y) (part_back q ok 16 8 (omega arith)) (part_back q ok 24 8 (omega arith)))) ∙ four q l

-- the entries of bytes with d spent coins and h hashes, by their offsets
abbrev pub target_in : Bytes → ℕ → ℕ
target_in x i = number_in (part (6 + 8 * i) 8 x)

abbrev pub spent_in : Bytes → ℕ → ℕ → Coin
spent_in x d i = coin_in (part (6 + 8 * d + 32 * i) 32 x)

abbrev pub hash_in : Bytes → ℕ → ℕ → Value
hash_in x d i = value_in (part (6 + 40 * d + 32 * i) 32 x)

abbrev pub new_in : Bytes → ℕ → ℕ → ℕ → Coin
new_in x d h i = coin_in (part (6 + 40 * d + 32 * h + 32 * i) 32 x)

abbrev fields : Bytes → ℕ → ℕ → ℕ → Block
fields x d h a = record {
  targets = map (target_in x) (below d);
  spent = map (spent_in x d) (below d);
  hashes = map (hash_in x d) (below h);
  coins = map (new_in x d h) (below a);
}

module _ (b : Block) where
  -- the parts of a composed block
  abbrev head : Bytes
  head = number_bytes 2 (length b.spent) ++ (number_bytes 2 (length b.hashes) ++ number_bytes 2 (length b.coins))

  abbrev at_targets : Bytes
  at_targets = concat (map (number_bytes 8) b.targets)

  abbrev at_spent : Bytes
  at_spent = concat (map coin_bytes b.spent)

  abbrev at_hashes : Bytes
  at_hashes = concat (map value_bytes b.hashes)

  abbrev at_coins : Bytes
  at_coins = concat (map coin_bytes b.coins)

  cut1 : composed b ≡ head ++ (at_targets ++ (at_spent ++ (at_hashes ++ at_coins)))
  cut1 = refl

  cut2 : composed b ≡ (head ++ at_targets) ++ (at_spent ++ (at_hashes ++ at_coins))
  cut2 = sym (append_assoc head at_targets (at_spent ++ (at_hashes ++ at_coins)))

  cut3 : composed b ≡ ((head ++ at_targets) ++ at_spent) ++ (at_hashes ++ at_coins)
  cut3 = cut2 ∙ sym (append_assoc (head ++ at_targets) at_spent (at_hashes ++ at_coins))

  cut4 : composed b ≡ (((head ++ at_targets) ++ at_spent) ++ at_hashes) ++ (at_coins ++ [])
  cut4 = cut3 ∙ sym (append_assoc ((head ++ at_targets) ++ at_spent) at_hashes at_coins)
      ∙ ap (λ z. (((head ++ at_targets) ++ at_spent) ++ at_hashes) ++ z) (sym (append-nil at_coins))

  module _ (fit : Fitting b) where
    long2 : length (head ++ at_targets) ≡ 6 + 8 * length b.spent
    long2 =
        let e = length-append head at_targets in
        let p = packed_length (number_bytes 8) 8 (length_bytes 8) b.targets in
        let s = fit.same in
        omega arith

    long3 : length ((head ++ at_targets) ++ at_spent) ≡ 6 + 40 * length b.spent
    long3 =
        let e = length-append (head ++ at_targets) at_spent in
        let p = packed_length coin_bytes 32 (λ c. refl) b.spent in
        let s = long2 in
        omega arith

    long4 : length (((head ++ at_targets) ++ at_spent) ++ at_hashes) ≡ 6 + 40 * length b.spent + 32 * length b.hashes
    long4 =
        let e = length-append ((head ++ at_targets) ++ at_spent) at_hashes in
        let p = packed_length value_bytes 32 (λ c. refl) b.hashes in
        let s = long3 in
        omega arith

    -- the length of a composed block, and its counts as read
    composed_length : length (composed b) ≡ 6 + 40 * length b.spent + 32 * length b.hashes + 32 * length b.coins
    composed_length =
        let c = ap length (cut3 ∙ sym (append_assoc ((head ++ at_targets) ++ at_spent) at_hashes at_coins)) in
        let e = length-append (((head ++ at_targets) ++ at_spent) ++ at_hashes) at_coins in
        let p = packed_length coin_bytes 32 (λ c. refl) b.coins in
        let s = long4 in
        omega arith

    pub spent_counted : spent_count (composed b) ≡ length b.spent
    spent_counted = bytes_read 2 (length b.spent) (omega (arith, fit.few_spent))

    hash_counted : hash_count (composed b) ≡ length b.hashes
    hash_counted = bytes_read 2 (length b.hashes) (omega (arith, fit.few_hashes))

    pub coin_counted : coin_count (composed b) ≡ length b.coins
    coin_counted = bytes_read 2 (length b.coins) (omega (arith, fit.few_coins))

    -- the new coins as read
    abbrev pub coins_read : List Coin
    coins_read = map (new_in (composed b) (length b.spent) (length b.hashes)) (below (length b.coins))

    -- what is composed is read back: all but the new coins, of which as many are read, with no condition on them
    pub read_most : entries (composed b) ≡ record { targets = b.targets; spent = b.spent; hashes = b.hashes; coins = coins_read }
    read_most =
        (λ i. fields (composed b) (spent_counted i) (hash_counted i) (coin_counted i))
        ∙ (λ i. record { targets = t i; spent = p i; hashes = h i; coins = coins_read })
      where
        t : map (target_in (composed b)) (below (length b.spent)) ≡ b.targets
        t = unpacked (number_bytes 8) 8 (length_bytes 8) number_in (λ p. p < 2 ^ 64) (λ p l. bytes_read 8 p l) 0 b.targets fit.targets_fit
            (composed b) head (at_spent ++ (at_hashes ++ at_coins)) 6 (length b.spent) cut1 refl fit.same

        p : map (spent_in (composed b) (length b.spent)) (below (length b.spent)) ≡ b.spent
        p = unpacked coin_bytes 32 (λ c. refl) coin_in CoinFits coin_back no_coin b.spent fit.spent_fit
            (composed b) (head ++ at_targets) (at_hashes ++ at_coins) (6 + 8 * length b.spent) (length b.spent) cut2 long2 refl

        h : map (hash_in (composed b) (length b.spent)) (below (length b.hashes)) ≡ b.hashes
        h = unpacked value_bytes 32 (λ c. refl) value_in ValueFits value_back no_value b.hashes fit.hashes_fit
            (composed b) ((head ++ at_targets) ++ at_spent) at_coins (6 + 40 * length b.spent) (length b.hashes) cut3 long3 refl

    pub coins_read_length : length coins_read ≡ length b.coins
    coins_read_length = length_map_below (new_in (composed b) (length b.spent) (length b.hashes)) (length b.coins)

    -- new coins that fit are read back too
    pub read_back : AllByRecursion CoinFits b.coins → entries (composed b) ≡ b
    read_back coins_fit = read_most ∙ ap (λ z. record { targets = b.targets; spent = b.spent; hashes = b.hashes; coins = z })
        (unpacked coin_bytes 32 (λ c. refl) coin_in CoinFits coin_back no_coin b.coins coins_fit
        (composed b) (((head ++ at_targets) ++ at_spent) ++ at_hashes) []
        (6 + 40 * length b.spent + 32 * length b.hashes) (length b.coins) cut4 long4 refl)

    -- a composed block can be read
    pub readable : refusal (read_causes (composed b)) ≡ None
    readable = freed (read_causes (composed b)) (le-ltb (length (composed b)) 6 (omega (arith, composed_length)), (few, (whole, tt)))
      where
        d : spent_count (composed b) ≤ 32
        d = omega (arith, spent_counted, fit.few_spent)

        h : hash_count (composed b) ≤ 992
        h = omega (arith, hash_counted, fit.few_hashes)

        a : coin_count (composed b) ≤ 32
        a = omega (arith, coin_counted, fit.few_coins)

        few : (ltb 32 (spent_count (composed b)) || (ltb 992 (hash_count (composed b)) || ltb 32 (coin_count (composed b)))) ≡ false
        few =
            or_from (ltb 32 (spent_count (composed b))) (ltb 992 (hash_count (composed b)) || ltb 32 (coin_count (composed b)))
            (le-ltb 32 (spent_count (composed b)) d)
            (or_from (ltb 992 (hash_count (composed b))) (ltb 32 (coin_count (composed b)))
            (le-ltb 992 (hash_count (composed b)) h) (le-ltb 32 (coin_count (composed b)) a))

        whole : not (eqb (length (composed b)) (whole_length (composed b))) ≡ false
        whole =
            not_from_true (eqb (length (composed b)) (whole_length (composed b)))
            (eq-eqb (length (composed b)) (whole_length (composed b)) (omega (arith, composed_length, spent_counted, hash_counted, coin_counted)))

join_at : (b : Bytes) (i k j m : ℕ) → i + k ≡ j → take k (drop i b) ++ take m (drop j b) ≡ take (k + m) (drop i b)
join_at b i k j m e = ap (λ z. take k (drop i b) ++ take m (drop z b)) (sym e) ∙ part_join b i k m

-- the seven parts make the whole
seven : (b : Bytes) (d h a : ℕ) → length b ≡ 6 + 40 * d + 32 * h + 32 * a
    → take 2 (drop 0 b) ++ (take 2 (drop 2 b) ++ (take 2 (drop 4 b) ++ (take (8 * d) (drop 6 b) ++ (take (32 * d) (drop (6 + 8 * d) b)
    ++ (take (32 * h) (drop (6 + 40 * d) b) ++ take (32 * a) (drop (6 + 40 * d + 32 * h) b)))))) ≡ b
seven b d h a l =
    ap (λ z. take 2 (drop 0 b) ++ (take 2 (drop 2 b) ++ (take 2 (drop 4 b) ++ (take (8 * d) (drop 6 b) ++ (take (32 * d) (drop (6 + 8 * d) b) ++ z)))))
    (join_at b (6 + 40 * d) (32 * h) (6 + 40 * d + 32 * h) (32 * a) refl)
    ∙ ap (λ z. take 2 (drop 0 b) ++ (take 2 (drop 2 b) ++ (take 2 (drop 4 b) ++ (take (8 * d) (drop 6 b) ++ z))))
    (join_at b (6 + 8 * d) (32 * d) (6 + 40 * d) (32 * h + 32 * a) (omega arith))
    ∙ ap (λ z. take 2 (drop 0 b) ++ (take 2 (drop 2 b) ++ (take 2 (drop 4 b) ++ z)))
    (join_at b 6 (8 * d) (6 + 8 * d) (32 * d + (32 * h + 32 * a)) refl)
    ∙ ap (λ z. take 2 (drop 0 b) ++ (take 2 (drop 2 b) ++ z)) (join_at b 4 2 6 (8 * d + (32 * d + (32 * h + 32 * a))) refl)
    ∙ ap (λ z. take 2 (drop 0 b) ++ z) (join_at b 2 2 4 (2 + (8 * d + (32 * d + (32 * h + 32 * a)))) refl)
    ∙ join_at b 0 2 2 (2 + (2 + (8 * d + (32 * d + (32 * h + 32 * a))))) refl
    ∙ take_all (2 + (2 + (2 + (8 * d + (32 * d + (32 * h + 32 * a)))))) b (omega arith)

-- composing what is read gives the bytes
pub composed_again : (b : Bytes) → Octets b → refusal (read_causes b) ≡ None → composed (entries b) ≡ b
composed_again b ok e =
    let w = reads b e in
    let d = spent_count b in let h = hash_count b in let a = coin_count b in
    let l = w.whole in
    ap₂ (λ x y. x ++ y) (ap (number_bytes 2) (length_map_below (spent_in b d) d) ∙ part_back b ok 0 2 (omega arith))
    (ap₂ (λ x y. x ++ y) (ap (number_bytes 2) (length_map_below (hash_in b d) h) ∙ part_back b ok 2 2 (omega arith))
    (ap₂ (λ x y. x ++ y) (ap (number_bytes 2) (length_map_below (new_in b d h) a) ∙ part_back b ok 4 2 (omega arith))
    (ap₂ (λ x y. x ++ y) (repacked (number_bytes 8) 8 (length_bytes 8) number_in (λ q s o. read_bytes 8 q s o) b ok 6 d (omega arith))
    (ap₂ (λ x y. x ++ y) (repacked coin_bytes 32 (λ c. refl) coin_in words_back b ok (6 + 8 * d) d (omega arith))
    (ap₂ (λ x y. x ++ y) (repacked value_bytes 32 (λ c. refl) value_in words_back b ok (6 + 40 * d) h (omega arith))
    (repacked coin_bytes 32 (λ c. refl) coin_in words_back b ok (6 + 40 * d + 32 * h) a (omega arith)))))))
    ∙ seven b d h a l
