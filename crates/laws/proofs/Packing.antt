-- Numbers as bytes, least byte first, and back; lists of equal parts.
use Rattle.std.proofs.Common.{◌≡◌, ℕ, zero, suc, ◌+◌, ◌*◌, ◌/◌, ◌%◌, ◌^◌, ◌<◌, ◌≤◌, List, [], ◌∷◌, ◌++◌, map, length, get_or, take, drop, sym, refl, ap, ◌∙◌, ap₂, append_assoc, append-nil, pow-suc, mul-zero, mul-suc, arith, length-append, length-drop, length-take-le, drop-drop, take_at, ext_get_or, take-add}
use lib.Seq.{drop-append-add}
use Rattle.std.specs.List.{AllByRecursion}
use Rattle.std.proofs.ByRecursion.{All-take, All-drop, All-get_or}
use Rattle.std.proofs.lemmas.List.{map-append}
use Rattle.utreexo.specs.Bytes.{Bytes, number_in, number_bytes, part, Octets}
use Rattle.utreexo.specs.Lists.{below}
use Rattle.utreexo.specs.Blocks.{concat}
use Rattle.laws.proofs.Ranges.{get_or_below, length_map_below}

-- the length of a number in k bytes
pub length_bytes : (k n : ℕ) → length (number_bytes k n) ≡ k
length_bytes zero n = refl
length_bytes (suc k) n = ap suc (length_bytes k (n / 256))

-- a number that fits is read back from its bytes, and bytes from their number
pub bytes_read : (k n : ℕ) → n < 256 ^ k → number_in (number_bytes k n) ≡ n
bytes_read zero n l = omega arith
bytes_read (suc k) n l =
    let p : 256 ^ suc k ≡ 256 ^ k * 256 = pow-suc 256 k in
    let e = bytes_read k (n / 256) (omega arith) in
    omega arith

pub read_bytes : (k : ℕ) (b : Bytes) → length b ≡ k → Octets b → number_bytes k (number_in b) ≡ b
read_bytes zero [] e f = refl
read_bytes zero (x ∷ b) e f = absurd (omega arith)
read_bytes (suc k) [] e f = absurd (omega arith)
read_bytes (suc k) (x ∷ b) e f =
    let l : x < 256 = f.0 in
    let q : (x + 256 * number_in b) % 256 ≡ x = omega arith in
    let r : (x + 256 * number_in b) / 256 ≡ number_in b = omega arith in
    ap₂ (λ y ys. y ∷ ys) q (ap (number_bytes k) r ∙ read_bytes k b (omega arith) f.1)

-- a part of bytes
pub part_octets : (i k : ℕ) (b : Bytes) → Octets b → Octets (part i k b)
part_octets i k b o = All-take (λ x. x < 256) k (drop i b) (All-drop (λ x. x < 256) i b o)

pub concat_append : (xs ys : List Bytes) → concat (xs ++ ys) ≡ concat xs ++ concat ys
concat_append [] ys = refl
concat_append (x ∷ xs) ys = ap (λ r. x ++ r) (concat_append xs ys) ∙ sym (append_assoc x (concat xs) (concat ys))

-- entries of w bytes each
module _ {A : Type 0} (f : A → Bytes) (w : ℕ) (sized : (x : A) → length (f x) ≡ w) where
  -- their length, and the i-th of them
  pub packed_length : (xs : List A) → length (concat (map f xs)) ≡ w * length xs
  packed_length [] = sym (mul-zero w)
  packed_length (x ∷ xs) =
      let e = length-append (f x) (concat (map f xs)) in
      let g = packed_length xs in
      let s = sized x in
      let m = mul-suc w (length xs) in
      omega arith

  pub packed_at : (xs : List A) (i : ℕ) (d : A) (post : Bytes) → i < length xs → part (w * i) w (concat (map f xs) ++ post) ≡ f (get_or xs i d)
  packed_at [] i d post l = absurd (omega arith)
  packed_at (x ∷ xs) zero d post l =
      ap (λ z. take w (drop z ((f x ++ concat (map f xs)) ++ post))) (mul-zero w)
      ∙ ap (take w) (append_assoc (f x) (concat (map f xs)) post) ∙ take_at (f x) (concat (map f xs) ++ post) w (sized x)
  packed_at (x ∷ xs) (suc i) d post l =
      let m : w * suc i ≡ length (f x) + w * i = (let a = mul-suc w i in let s = sized x in omega arith) in
      ap (λ z. take w (drop z ((f x ++ concat (map f xs)) ++ post))) m
      ∙ ap (λ z. take w (drop (length (f x) + w * i) z)) (append_assoc (f x) (concat (map f xs)) post)
      ∙ ap (take w) (drop-append-add (f x) (concat (map f xs) ++ post) (w * i))
      ∙ packed_at xs i d post (omega arith)

  -- the entries read back
  pub unpacked : (g : Bytes → A) (Ok : A → Type 0) (back : (x : A) → Ok x → g (f x) ≡ x) (d : A) (xs : List A) → AllByRecursion Ok xs
      → (b pre post : Bytes) (a n : ℕ) → b ≡ pre ++ (concat (map f xs) ++ post) → length pre ≡ a → length xs ≡ n
      → map (λ i. g (part (a + w * i) w b)) (below n) ≡ xs
  unpacked g Ok back d xs ok b pre post a n e l s =
      ext_get_or d (map (λ i. g (part (a + w * i) w b)) (below n)) xs (length_map_below (λ i. g (part (a + w * i) w b)) n ∙ sym s)
      (λ i h. at i (let q = length_map_below (λ i. g (part (a + w * i) w b)) n in omega arith))
    where
      at : (i : ℕ) → i < n → get_or (map (λ i. g (part (a + w * i) w b)) (below n)) i d ≡ get_or xs i d
      at i h =
          let q : part (a + w * i) w b ≡ f (get_or xs i d) =
          ap (λ z. part (z + w * i) w b) (sym l) ∙ ap (part (length pre + w * i) w) e
          ∙ ap (take w) (drop-append-add pre (concat (map f xs) ++ post) (w * i)) ∙ packed_at xs i d post (omega arith) in
          get_or_below (λ i. g (part (a + w * i) w b)) d n i h ∙ ap g q
          ∙ back (get_or xs i d) (All-get_or Ok xs i d (omega arith) ok)

  -- the bytes of the entries that are read
  pub repacked : (g : Bytes → A) → ((q : Bytes) → length q ≡ w → Octets q → f (g q) ≡ q)
      → (b : Bytes) → Octets b → (a n : ℕ) → a + w * n ≤ length b
      → concat (map f (map (λ i. g (part (a + w * i) w b)) (below n))) ≡ take (w * n) (drop a b)
  repacked g back b ok a zero l = ap (λ z. take z (drop a b)) (sym (mul-zero w))
  repacked g back b ok a (suc n) l =
      let m = mul-suc w n in
      let h : Bytes → A = g in
      let at : (ℕ → A) = (λ i. g (part (a + w * i) w b)) in
      let q : length (part (a + w * n) w b) ≡ w = length-take-le w (drop (a + w * n) b) (let z = length-drop (a + w * n) b in omega arith) in
      let o = part_octets (a + w * n) w b ok in
      ap (λ z. concat (map f z)) (map-append at (below n) (n ∷ [])) ∙ ap concat (map-append f (map at (below n)) (at n ∷ []))
      ∙ concat_append (map f (map at (below n))) (f (at n) ∷ [])
      ∙ ap₂ (λ x y. x ++ y) (repacked g back b ok a n (omega arith)) (append-nil (f (at n)) ∙ back (part (a + w * n) w b) q o)
      ∙ ap (λ z. take (w * n) (drop a b) ++ take w z) (sym (drop-drop (w * n) a b))
      ∙ sym (take-add (w * n) w (drop a b)) ∙ ap (λ z. take z (drop a b)) (sym m)
