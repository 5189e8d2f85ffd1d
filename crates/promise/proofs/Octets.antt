-- What is read of bytes fits its words.
use Rattle.std.proofs.Common.{◌≡◌, ℕ, zero, suc, ◌+◌, ◌*◌, ◌^◌, ◌<◌, ◌≤◌, [], ◌∷◌, map, length, drop, None, sym, ◌∙◌, subst, pow-suc, arith, length-take}
use Rattle.std.specs.List.{AllByRecursion}
use Rattle.std.proofs.ByRecursion.{All-map}
use Rattle.utreexo.specs.declared.types.Coin.{Coin}
use Rattle.utreexo.specs.Bytes.{Bytes, Octets, number_in, part, coin_in, value_in}
use Rattle.utreexo.specs.Lists.{below}
use Rattle.utreexo.specs.Values.{CoinFits, ValueFits}
use Rattle.utreexo.specs.Blocks.{entries, spent_count, hash_count, coin_count}
use Rattle.utreexo.specs.Checks.{refusal, read_causes}
use Rattle.laws.proofs.Order.{Mem}
use Rattle.laws.proofs.Members.{map_mem, all_mem}
use Rattle.laws.proofs.Ranges.{length_map_below}
use Rattle.laws.proofs.Packing.{part_octets}
use Rattle.promise.specs.Theorems.{Fitting, WriteBack}
use Rattle.laws.proofs.Reading.{reads}
use Rattle.promise.proofs.Composed.{composed_again, target_in, spent_in, hash_in, new_in}

-- the number in k bytes is below 256 ^ k
number_lt : (k : ℕ) (b : Bytes) → length b ≤ k → Octets b → number_in b < 256 ^ k
number_lt zero [] l o = omega arith
number_lt zero (x ∷ b) l o = absurd (omega arith)
number_lt (suc k) [] l o = let p = pow-suc 256 k in let h = number_lt k [] (omega arith) tt in omega arith
number_lt (suc k) (x ∷ b) l o =
    let p = pow-suc 256 k in
    let h = number_lt k b (omega arith) o.1 in
    let f : x < 256 = o.0 in
    omega arith

-- a word read, a coin, a value
number_fits : (i : ℕ) (b : Bytes) → Octets b → number_in (part i 8 b) < 2 ^ 64
number_fits i b o = number_lt 8 (part i 8 b) (let e = length-take 8 (drop i b) in omega arith) (part_octets i 8 b o)

coin_in_fits : (b : Bytes) → Octets b → CoinFits (coin_in b)
coin_in_fits b o = (number_fits 0 b o, number_fits 8 b o, number_fits 16 b o, number_fits 24 b o)

value_in_fits : (b : Bytes) → Octets b → ValueFits (value_in b)
value_in_fits b o = (number_fits 0 b o, number_fits 8 b o, number_fits 16 b o, number_fits 24 b o)

-- the coins that a block adds
pub added_fits : (b : Bytes) → Octets b → (c : Coin) → Mem c (entries b).coins → CoinFits c
added_fits b o c m = go (map_mem (new_in b (spent_count b) (hash_count b)) (below (coin_count b)) c m)
  where
    go : (i : ℕ) × (Mem i (below (coin_count b))) × (c ≡ new_in b (spent_count b) (hash_count b) i) → CoinFits c
    go (i, n, e) =
        let at = 6 + 40 * spent_count b + 32 * hash_count b + 32 * i in
        subst CoinFits (sym e) (coin_in_fits (part at 32 b) (part_octets at 32 b o))

-- all of a list made from the numbers below n
all_below : {A : Type 0} (P : A → Type 0) (f : ℕ → A) (n : ℕ) → ((i : ℕ) → P (f i)) → AllByRecursion P (map f (below n))
all_below P f n h = All-map P f (below n) (all_mem (λ i. P (f i)) (below n) (λ i m. h i))

-- the entries of bytes that read are within the limits
reads_fit : (b : Bytes) → Octets b → refusal (read_causes b) ≡ None → Fitting (entries b)
reads_fit b o e =
    let w = reads b e in
    let d = spent_count b in let h = hash_count b in let a = coin_count b in
    let lc = length_map_below (spent_in b d) d in
    let lh = length_map_below (hash_in b d) h in
    let la = length_map_below (new_in b d h) a in
    record {
      same = length_map_below (target_in b) d ∙ sym lc;
      few_spent = omega (arith, lc, w.spent_few);
      few_hashes = omega (arith, lh, w.hashes_few);
      few_coins = omega (arith, la, w.coins_few);
      targets_fit = all_below (λ p. p < 2 ^ 64) (target_in b) d (λ i. number_fits (6 + 8 * i) b o);
      spent_fit = all_below CoinFits (spent_in b d) d
          (λ i. coin_in_fits (part (6 + 8 * d + 32 * i) 32 b) (part_octets (6 + 8 * d + 32 * i) 32 b o));
      hashes_fit = all_below ValueFits (hash_in b d) h
          (λ i. value_in_fits (part (6 + 40 * d + 32 * i) 32 b) (part_octets (6 + 40 * d + 32 * i) 32 b o));
    }

-- composing the entries of bytes that read gives the bytes
pub write_back : WriteBack Octets
write_back b o e = (reads_fit b o e, all_mem CoinFits (entries b).coins (added_fits b o), composed_again b o e)
