-- BLAKE2s with a digest of 32 bytes and no key, as RFC 7693 defines it in its sections 2 and 3.
-- A byte is a number below 256 and a word one below 2 ^ 32; a vector, a state, a block and a message are lists of them.
use Rattle.std.specs.Prelude.{ℕ, zero, suc, ◌+◌, ◌-◌, ◌*◌, ◌/◌, ◌%◌, ◌^◌, Bool, true, false, cond, List, [], ◌∷◌, ◌++◌, map, length, take, drop, replicate, Ok, Err, Result, bit_or, bit_xor, nat_lt, slice_index, slice_set}
use Rattle.std.specs.Simd.Lanes.{zip2}
use Rattle.std.specs.List.{flat_map}
use Rattle.refusal.specs.declared.Refusal.{Refusal}
use Rattle.refusal.specs.declared.Refusal.TheVariants.{OverLimit}

-- the entry i of a list of words or bytes
abbrev pub at : List ℕ → ℕ → ℕ
at v i = slice_index v i

-- 2.3: the word x, rotated right by n bits
abbrev pub rotate_right : ℕ → ℕ → ℕ
rotate_right n x = bit_or (x / 2 ^ n) (x * 2 ^ (32 - n) % 2 ^ 32)

-- 2.4: words as bytes, the lowest byte first: the word that begins at byte i, the bytes of a word, the words of a block
abbrev pub word_at : List ℕ → ℕ → ℕ
word_at bs i = at bs i + at bs (i + 1) * 256 + at bs (i + 2) * 256 ^ 2 + at bs (i + 3) * 256 ^ 3

abbrev pub word_bytes : ℕ → List ℕ
word_bytes w = w % 256 ∷ w / 256 % 256 ∷ w / 256 ^ 2 % 256 ∷ w / 256 ^ 3 % 256 ∷ []

abbrev pub block_words : List ℕ → List ℕ
block_words bs = map (λ k. word_at bs (4 * k)) (0 ∷ 1 ∷ 2 ∷ 3 ∷ 4 ∷ 5 ∷ 6 ∷ 7 ∷ 8 ∷ 9 ∷ 10 ∷ 11 ∷ 12 ∷ 13 ∷ 14 ∷ 15 ∷ [])

-- 2.6: the initialization vector
abbrev pub IV : List ℕ
IV = 0x6a09e667 ∷ 0xbb67ae85 ∷ 0x3c6ef372 ∷ 0xa54ff53a ∷ 0x510e527f ∷ 0x9b05688c ∷ 0x1f83d9ab ∷ 0x5be0cd19 ∷ []

-- 2.7: the order of the message's words in each of the ten rounds
abbrev pub SIGMA : List (List ℕ)
SIGMA =
    (0 ∷ 1 ∷ 2 ∷ 3 ∷ 4 ∷ 5 ∷ 6 ∷ 7 ∷ 8 ∷ 9 ∷ 10 ∷ 11 ∷ 12 ∷ 13 ∷ 14 ∷ 15 ∷ []) ∷
    (14 ∷ 10 ∷ 4 ∷ 8 ∷ 9 ∷ 15 ∷ 13 ∷ 6 ∷ 1 ∷ 12 ∷ 0 ∷ 2 ∷ 11 ∷ 7 ∷ 5 ∷ 3 ∷ []) ∷
    (11 ∷ 8 ∷ 12 ∷ 0 ∷ 5 ∷ 2 ∷ 15 ∷ 13 ∷ 10 ∷ 14 ∷ 3 ∷ 6 ∷ 7 ∷ 1 ∷ 9 ∷ 4 ∷ []) ∷
    (7 ∷ 9 ∷ 3 ∷ 1 ∷ 13 ∷ 12 ∷ 11 ∷ 14 ∷ 2 ∷ 6 ∷ 5 ∷ 10 ∷ 4 ∷ 0 ∷ 15 ∷ 8 ∷ []) ∷
    (9 ∷ 0 ∷ 5 ∷ 7 ∷ 2 ∷ 4 ∷ 10 ∷ 15 ∷ 14 ∷ 1 ∷ 11 ∷ 12 ∷ 6 ∷ 8 ∷ 3 ∷ 13 ∷ []) ∷
    (2 ∷ 12 ∷ 6 ∷ 10 ∷ 0 ∷ 11 ∷ 8 ∷ 3 ∷ 4 ∷ 13 ∷ 7 ∷ 5 ∷ 15 ∷ 14 ∷ 1 ∷ 9 ∷ []) ∷
    (12 ∷ 5 ∷ 1 ∷ 15 ∷ 14 ∷ 13 ∷ 4 ∷ 10 ∷ 0 ∷ 7 ∷ 6 ∷ 3 ∷ 9 ∷ 2 ∷ 8 ∷ 11 ∷ []) ∷
    (13 ∷ 11 ∷ 7 ∷ 14 ∷ 12 ∷ 1 ∷ 3 ∷ 9 ∷ 5 ∷ 0 ∷ 15 ∷ 4 ∷ 8 ∷ 6 ∷ 2 ∷ 10 ∷ []) ∷
    (6 ∷ 15 ∷ 14 ∷ 9 ∷ 11 ∷ 3 ∷ 0 ∷ 8 ∷ 12 ∷ 2 ∷ 13 ∷ 7 ∷ 1 ∷ 4 ∷ 10 ∷ 5 ∷ []) ∷
    (10 ∷ 2 ∷ 8 ∷ 4 ∷ 7 ∷ 6 ∷ 1 ∷ 5 ∷ 15 ∷ 11 ∷ 9 ∷ 14 ∷ 3 ∷ 12 ∷ 13 ∷ 0 ∷ []) ∷
    []

-- 3.1: four words, mixed with two words of the message
unfoldable pub mix : ℕ → ℕ → ℕ → ℕ → ℕ → ℕ → ℕ × ℕ × ℕ × ℕ
mix a b c d x y =
    let a₁ : ℕ = (a + b + x) % 2 ^ 32 in
    let d₁ : ℕ = rotate_right 16 (bit_xor d a₁) in
    let c₁ : ℕ = (c + d₁) % 2 ^ 32 in
    let b₁ : ℕ = rotate_right 12 (bit_xor b c₁) in
    let a₂ : ℕ = (a₁ + b₁ + y) % 2 ^ 32 in
    let d₂ : ℕ = rotate_right 8 (bit_xor d₁ a₂) in
    let c₂ : ℕ = (c₁ + d₂) % 2 ^ 32 in
    let b₂ : ℕ = rotate_right 7 (bit_xor b₁ c₂) in
    (a₂, b₂, c₂, d₂)

-- the function G: the entries i, j, k and l of the vector v are mixed
unfoldable pub G : ℕ → ℕ → ℕ → ℕ → ℕ → ℕ → List ℕ → List ℕ
G i j k l x y v =
    let q : ℕ × ℕ × ℕ × ℕ = mix (at v i) (at v j) (at v k) (at v l) x y in
    slice_set (slice_set (slice_set (slice_set v i q.0) j q.1) k q.2) l q.3

-- 3.2: one round on the vector v: the columns, then the diagonals; w has the message's words in the order of the round
unfoldable pub round : List ℕ → List ℕ → List ℕ
round w v =
    let v₁ : List ℕ = G 0 4 8 12 (at w 0) (at w 1) v in
    let v₂ : List ℕ = G 1 5 9 13 (at w 2) (at w 3) v₁ in
    let v₃ : List ℕ = G 2 6 10 14 (at w 4) (at w 5) v₂ in
    let v₄ : List ℕ = G 3 7 11 15 (at w 6) (at w 7) v₃ in
    let v₅ : List ℕ = G 0 5 10 15 (at w 8) (at w 9) v₄ in
    let v₆ : List ℕ = G 1 6 11 12 (at w 10) (at w 11) v₅ in
    let v₇ : List ℕ = G 2 7 8 13 (at w 12) (at w 13) v₆ in
    G 3 4 9 14 (at w 14) (at w 15) v₇

-- the words of the message m in the order s
abbrev pub in_order : List ℕ → List ℕ → List ℕ
in_order s m = map (at m) s

-- a round for each order
unfoldable pub rounds : List (List ℕ) → List ℕ → List ℕ → List ℕ
rounds [] m v = v
rounds (s ∷ ss) m v = rounds ss m (round (in_order s m) v)

-- the vector before the rounds: the state h, then the initialization vector with the count t of bytes and the final flag in it
abbrev pub start : List ℕ → ℕ → Bool → List ℕ
start h t final =
    h ++
    (at IV 0 ∷ at IV 1 ∷ at IV 2 ∷ at IV 3 ∷
    bit_xor (at IV 4) (t % 2 ^ 32) ∷
    bit_xor (at IV 5) (t / 2 ^ 32) ∷
    bit_xor (at IV 6) (cond final 0xffffffff 0) ∷
    at IV 7 ∷ [])

-- the function F: the state after a block of sixteen words m
unfoldable pub F : List ℕ → List ℕ → ℕ → Bool → List ℕ
F h m t final =
    let v : List ℕ = rounds SIGMA m (start h t final) in
    zip2 bit_xor (zip2 bit_xor h (take 8 v)) (drop 8 v)

-- a block of 64 bytes: bs, and zeros after it
abbrev pub padded : List ℕ → List ℕ
padded bs = bs ++ replicate (64 - length bs) 0

-- 3.3: the state after k full blocks and a last one, from the state h, which has taken t bytes
unfoldable pub absorb : ℕ → List ℕ → ℕ → List ℕ → List ℕ
absorb zero h t bs = F h (block_words (padded bs)) (t + length bs) true
absorb (suc k) h t bs = absorb k (F h (block_words (take 64 bs)) (t + 64) false) (t + 64) (drop 64 bs)

-- the first state: the parameter block 0x01010020 asks for a digest of 32 bytes with no key
abbrev pub first : List ℕ
first = bit_xor (at IV 0) 0x01010020 ∷ drop 1 IV

-- the digest of a message: there is one block at least, and all but the last are full
unfoldable pub blake2s : List ℕ → List ℕ
blake2s message = flat_map word_bytes (absorb ((length message - 1) / 64) first 0 message)

-- what the call answers: messages of more than 128 bytes are refused
abbrev pub answer : List ℕ → Result (List ℕ) Refusal
answer message = cond (nat_lt 128 (length message)) (Err OverLimit) (Ok (blake2s message))
