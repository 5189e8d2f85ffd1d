-- Bytes in chunks of equal length.
use Rattle.std.proofs.Common.{◌≡◌, ℕ, zero, suc, ◌*◌, ◌/◌, ◌<◌, ◌≤◌, List, length, get_or, take, drop, None, Some, Option, MatchOption, IfSome, sym, refl, ap, ◌∙◌, mul-zero, mul-suc, arith}
use Rattle.std.proofs.lemmas.List.{drop-drop, get_or_past}
use Rattle.std.specs.Simd.{first_chunks}
use denote.Ref.{Bor}
use Rattle.utreexo.specs.declared.types.Value.{Value}
use Rattle.utreexo.specs.Bytes.{Bytes, part, value_in}
use Rattle.utreexo.specs.Claims.{no_value}
use Rattle.laws.proofs.Ranges.{get_or_below, length_map_below}
use Rattle.climb.specs.Held.{hashes_in}

-- the chunk of number i
pub chunk_at : (n k i : ℕ) (bytes d : Bytes) → i < k → get_or (first_chunks n k bytes) i d ≡ part (n * i) n bytes
chunk_at n zero i bytes d l = absurd (omega arith)
chunk_at n (suc k) zero bytes d l = ap (λ i. part i n bytes) (sym (mul-zero n))
chunk_at n (suc k) (suc i) bytes d l = chunk_at n k i (drop n bytes) d (omega arith) ∙ ap (take n) (drop-drop (n * i) n bytes) ∙ ap (λ i. part i n bytes) (let m = mul-suc n i in omega arith)

pub length_chunks : (n k : ℕ) (bytes : Bytes) → length (first_chunks n k bytes) ≡ k
length_chunks n zero bytes = refl
length_chunks n (suc k) bytes = ap suc (length_chunks n k (drop n bytes))

-- the hash of number i
pub hash_at : (bytes : Bytes) (i : ℕ) {chunks : List Bytes} → chunks ≡ first_chunks 32 (length bytes / 32) bytes → (x : Option (Bor Bytes)) (v : Value) → MatchOption x (length chunks ≤ i) (λ c. i < length chunks)
    → IfSome x (λ c. c.now ≡ get_or chunks i c.now) → MatchOption x (v ≡ no_value) (λ c. v ≡ value_in c.now) → v ≡ get_or (hashes_in bytes) i no_value
hash_at bytes i e None v l t h =
    let a = length_map_below (λ i. value_in (part (32 * i) 32 bytes)) (length bytes / 32) in
    let b = ap length e ∙ length_chunks 32 (length bytes / 32) bytes in
    h ∙ sym (get_or_past (hashes_in bytes) i no_value (omega arith))
hash_at bytes i e (Some c) v l t h =
    let b = ap length e ∙ length_chunks 32 (length bytes / 32) bytes in
    h ∙ ap value_in (t ∙ ap (λ (l : List Bytes). get_or l i c.now) e ∙ chunk_at 32 (length bytes / 32) i bytes c.now (omega arith))
    ∙ sym (get_or_below (λ i. value_in (part (32 * i) 32 bytes)) no_value (length bytes / 32) i (omega arith))
