-- Blocks as bytes. Three 16-bit counts come first: d spent coins, h hashes, a new coins. Then come d targets of 8 bytes, d
-- coins, h hashes and a new coins of 32 bytes each. A card is a block with d = 1 and a = 0.
use Rattle.std.specs.Prelude.{ℕ, ◌+◌, ◌*◌, Bool, true, ◌&&◌, List, [], ◌∷◌, ◌++◌, map, length, nat_lt}
use Rattle.utreexo.specs.declared.types.Coin.{Coin}
use Rattle.utreexo.specs.declared.types.Value.{Value}
use Rattle.utreexo.specs.Bytes.{Bytes, part, number_in, number_bytes, coin_in, value_in, coin_bytes, value_bytes}
use Rattle.utreexo.specs.Lists.{below}

-- the four lists of a block: targets, the coins spent at them, hashes, and new coins
pub record Block : Type 0 where
  pub targets : List ℕ
  pub spent : List Coin
  pub hashes : List Value
  pub coins : List Coin

-- the lists joined up
abbrev pub concat : List Bytes → Bytes
concat [] = []
concat (b ∷ bs) = b ++ concat bs

-- the bytes of a block
abbrev pub composed : Block → Bytes
composed b =
    number_bytes 2 (length b.spent) ++ (number_bytes 2 (length b.hashes) ++ (number_bytes 2 (length b.coins)
    ++ (concat (map (number_bytes 8) b.targets) ++ (concat (map coin_bytes b.spent)
    ++ (concat (map value_bytes b.hashes) ++ concat (map coin_bytes b.coins))))))

-- the counts d, h and a
abbrev pub spent_count : Bytes → ℕ
spent_count b = number_in (part 0 2 b)

abbrev pub hash_count : Bytes → ℕ
hash_count b = number_in (part 2 2 b)

abbrev pub coin_count : Bytes → ℕ
coin_count b = number_in (part 4 2 b)

-- the entries of a readable block, by their offsets
abbrev pub entries : Bytes → Block
entries b =
    let d = spent_count b in
    let h = hash_count b in
    let a = coin_count b in
    record {
      targets = map (λ i. number_in (part (6 + 8 * i) 8 b)) (below d);
      spent = map (λ i. coin_in (part (6 + 8 * d + 32 * i) 32 b)) (below d);
      hashes = map (λ i. value_in (part (6 + 40 * d + 32 * i) 32 b)) (below h);
      coins = map (λ i. coin_in (part (6 + 40 * d + 32 * h + 32 * i) 32 b)) (below a);
    }

-- strictly ascending, from above y on
abbrev pub ascends_from : ℕ → List ℕ → Bool
ascends_from y [] = true
ascends_from y (z ∷ zs) = nat_lt y z && ascends_from z zs

-- strictly ascending
abbrev pub ascending : List ℕ → Bool
ascending [] = true
ascending (x ∷ xs) = ascends_from x xs
