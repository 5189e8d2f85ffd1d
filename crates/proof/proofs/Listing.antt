-- Records read one after the other.
use Rattle.std.proofs.Common.{◌≡◌, ℕ, suc, ◌+◌, ◌-◌, ◌*◌, ◌/◌, ◌<◌, ◌≤◌, List, [], ◌∷◌, ◌++◌, map, length, get_or, take, drop, mul-add, sym, ap, ◌∙◌, arith}
use Rattle.std.proofs.Math.Seq.{take-take}
use Rattle.std.proofs.Math.Nat.{mul-div_cancel_left, le-mul_of_pos_right}
use Rattle.std.proofs.lemmas.List.{append_assoc, map_push, drop-drop, drop-take, length-take, length-drop, get_or-take, take_all}
use Rattle.std.proofs.lemmas.Nat.{le-div}
use Rattle.std.specs.Simd.{first_chunks}
use Rattle.utreexo.specs.Bytes.{Bytes, part}
use Rattle.utreexo.specs.Lists.{below}
use Rattle.laws.proofs.Members.{map_ext}
use Rattle.laws.proofs.Ranges.{mem_below}
use Rattle.climb.proofs.Chunks.{chunk_at, length_chunks}

module _ {A : Type 0} (size : ℕ) (read : Bytes → A) (bytes : Bytes) (start : ℕ) where
  -- the record of number i
  abbrev pub record_at : ℕ → A
  record_at i = read (part (start + size * i) size bytes)

  pub read_more : {i : ℕ} (count : ℕ) (front records : List A) (rest : Bytes) (chunks : List Bytes) (x : A) (chunk : Bytes) → records ≡ front ++ map record_at (below i)
      → rest ≡ drop start bytes → chunks ≡ first_chunks size (length rest / size) rest → i < length (take count chunks) → chunk ≡ get_or (take count chunks) i chunk → x ≡ read chunk
      → records ++ (x ∷ []) ≡ front ++ map record_at (below (i + 1))
  read_more {i} count front records rest chunks x chunk w t c m h e =
      let one : i + 1 ≡ suc i = omega arith in
      let a = length-take count chunks in
      let b = ap length c ∙ length_chunks size (length rest / size) rest in
      let it : chunk ≡ part (start + size * i) size bytes = h ∙ get_or-take count chunks i chunk (omega arith) ∙ ap (λ (l : List Bytes). get_or l i chunk) c
      ∙ chunk_at size (length rest / size) i rest chunk (omega arith) ∙ ap (part (size * i) size) t ∙ ap (take size) (drop-drop (size * i) start bytes) in
      ap (λ (l : List A). l ++ (x ∷ [])) w ∙ append_assoc front (map record_at (below i)) (x ∷ [])
      ∙ ap (λ (y : A). front ++ (map record_at (below i) ++ (y ∷ []))) (e ∙ ap read it)
      ∙ ap (λ (l : List A). front ++ l) (sym (map_push record_at (below i) i) ∙ ap (λ j. map record_at (below j)) (sym one))

  -- the records of the bytes that hold so many of them and no others
  pub records_part : (count : ℕ) → 0 < size → start + size * count ≤ length bytes
      → map (λ i. read (part (size * i) size (part start (size * count) bytes))) (below (length (part start (size * count) bytes) / size)) ≡ map record_at (below count)
  records_part count p l =
      let whole : length (part start (size * count) bytes) ≡ size * count = length-take (size * count) (drop start bytes) ∙ omega (arith, length-drop start bytes) in
      ap (λ k. map (λ i. read (part (size * i) size (part start (size * count) bytes))) (below (k / size))) whole
      ∙ ap (λ k. map (λ i. read (part (size * i) size (part start (size * count) bytes))) (below k)) (mul-div_cancel_left count p)
      ∙ map_ext (λ i. read (part (size * i) size (part start (size * count) bytes))) record_at (below count) (λ i m. ap read (inner i (mem_below count i m)))
    where
      inner : (i : ℕ) → i < count → part (size * i) size (part start (size * count) bytes) ≡ part (start + size * i) size bytes
      inner i m =
          let less : i + (count - i) ≡ count = omega arith in
          let room : size ≤ size * (count - i) = le-mul_of_pos_right size (omega arith) in
          let split : size * count ≡ size * i + size * (count - i) = ap (λ k. size * k) (sym less) ∙ mul-add size i (count - i) in
          ap (λ k. take size (drop (size * i) (take k (drop start bytes)))) split
          ∙ ap (take size) (drop-take (size * i) (size * (count - i)) (drop start bytes))
          ∙ take-take size (size * (count - i)) (drop (size * i) (drop start bytes)) room
          ∙ ap (take size) (drop-drop (size * i) start bytes)

pub all_left : (bytes : Bytes) (start : ℕ) → take (length bytes - start) (drop start bytes) ≡ drop start bytes
all_left bytes start = take_all (length bytes - start) (drop start bytes) (omega (arith, length-drop start bytes))

pub enough : (size count start : ℕ) (bytes : Bytes) (chunks : List Bytes) → 0 < size → start + size * count ≤ length bytes → length chunks ≡ length (take (length bytes - start) (drop start bytes)) / size → length (take count chunks) ≡ count
enough size count start bytes chunks p l e =
    let a = length-take count chunks in
    let b = le-div count (length (drop start bytes)) size p (omega (arith, length-drop start bytes)) in
    let c = e ∙ ap (λ (l : Bytes). length l / size) (all_left bytes start) in
    omega arith
