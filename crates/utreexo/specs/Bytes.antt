-- Numbers, coins and values as bytes, the lowest byte first. A byte is a number below 256.
use Rattle.std.specs.Prelude.{ℕ, zero, suc, ◌+◌, ◌*◌, ◌/◌, ◌%◌, ◌<◌, List, [], ◌∷◌, ◌++◌, take, drop}
use Rattle.std.specs.List.{AllByRecursion}
use Rattle.utreexo.specs.declared.types.Coin.{Coin}
use Rattle.utreexo.specs.declared.types.Position.{Position}
use Rattle.utreexo.specs.declared.types.Value.{Value}

-- a list of bytes; that its numbers are below 256 is said apart, by Octets
abbrev pub Bytes : Type 0
Bytes = List ℕ

-- each number of the list is a byte
abbrev pub Octets : Bytes → Type 0
Octets bs = AllByRecursion (λ b. b < 256) bs

-- the k bytes that begin at byte i
abbrev pub part : ℕ → ℕ → Bytes → Bytes
part i k bs = take k (drop i bs)

-- the number that the bytes stand for
abbrev pub number_in : Bytes → ℕ
number_in [] = 0
number_in (b ∷ bs) = b + 256 * number_in bs

-- the k lowest bytes of the number n: all of it, if it is below 256 ^ k
abbrev pub number_bytes : ℕ → ℕ → Bytes
number_bytes zero n = []
number_bytes (suc k) n = n % 256 ∷ number_bytes k (n / 256)

-- A position is 8 bytes.
abbrev pub position_in : Bytes → Position
position_in bs = record { number = number_in bs }

abbrev pub position_bytes : Position → Bytes
position_bytes p = number_bytes 8 p.number

-- A coin and a value are 32 bytes each: four words of 8 bytes.
abbrev pub coin_in : Bytes → Coin
coin_in bs = record { w0 = number_in (part 0 8 bs); w1 = number_in (part 8 8 bs); w2 = number_in (part 16 8 bs); w3 = number_in (part 24 8 bs) }

abbrev pub value_in : Bytes → Value
value_in bs = record { w0 = number_in (part 0 8 bs); w1 = number_in (part 8 8 bs); w2 = number_in (part 16 8 bs); w3 = number_in (part 24 8 bs) }

-- four words as 32 bytes
abbrev pub four_words : ℕ → ℕ → ℕ → ℕ → Bytes
four_words a b c d = number_bytes 8 a ++ (number_bytes 8 b ++ (number_bytes 8 c ++ number_bytes 8 d))

abbrev pub coin_bytes : Coin → Bytes
coin_bytes c = four_words c.w0 c.w1 c.w2 c.w3

abbrev pub value_bytes : Value → Bytes
value_bytes v = four_words v.w0 v.w1 v.w2 v.w3
