-- Messages of one block and of two.
use Rattle.std.proofs.Common.{◌≡◌, ℕ, ◌+◌, ◌-◌, ◌/◌, ◌<◌, ◌≤◌, true, false, List, length, take, drop, ap, ◌∙◌, length-drop, arith, Bor}
use Rattle.blake2s.specs.Blake2s.{block_words, padded, F, absorb}

-- the last block: from the state and the bytes, the bytes padded, and the words read
pub last : (p q : List ℕ × Bor (List ℕ)) (b m r : List ℕ) (t : ℕ) → p ≡ q → b ≡ padded p.1.now → m ≡ block_words b → r ≡ F p.0 m t true → r ≡ F q.0 (block_words (padded q.1.now)) t true
last p q b m r t is e f s = s ∙ rw (f, e, is)

pub one : (bs h r : List ℕ) → length bs ≤ 64 → r ≡ F h (block_words (padded bs)) (length bs) true → r ≡ absorb ((length bs - 1) / 64) h 0 bs
unfolding absorb
one bs h r few s =
    let k : (length bs - 1) / 64 ≡ 0 = omega arith in
    let all : length bs ≡ 0 + length bs = omega arith in
    rw k (s ∙ ap (λ t. F h (block_words (padded bs)) t true) all)

pub two : (bs front rest h m h' r : List ℕ) → 64 < length bs → length bs ≤ 128 → front ≡ take 64 bs → rest ≡ drop 64 bs → m ≡ block_words front → h' ≡ F h m 64 false → r ≡ F h' (block_words (padded rest)) (length bs) true → r ≡ absorb ((length bs - 1) / 64) h 0 bs
unfolding absorb
two bs front rest h m h' r many few p q e f s =
    let k : (length bs - 1) / 64 ≡ 1 = omega arith in
    let all : length bs ≡ 0 + 64 + length rest = rw (q, length-drop) (omega arith) in
    rw k (s ∙ ap (λ t. F h' (block_words (padded rest)) t true) all ∙ rw (f, e, p, q))
