-- Records written one after the other.
use Rattle.std.proofs.Common.{◌≡◌, ℕ, ◌+◌, ◌<◌, ◌≤◌, List, ◌++◌, map, length, get_or, take, drop, sym, ap, ◌∙◌, ap₂, append_assoc, zero-add, arith, length-append, length-take-le, drop-drop, take_at, drop_at}
use borrow.Rule.Slice.PartMut.{put_mid}
use Rattle.std.proofs.lemmas.List.{drop_more}
use Rattle.utreexo.specs.Bytes.{Bytes}
use Rattle.utreexo.specs.Blocks.{concat}
use Rattle.utreexo.specs.Checks.{over}
use Rattle.block.specs.Compose.{placed}

-- what is placed behind what was placed
pub placed_behind : (a k : ℕ) (b c old : Bytes) → a ≤ length old → k ≡ a + length b → placed k c (placed a b old) ≡ placed a (b ++ c) old
placed_behind a k b c old l e =
    ap (λ z. take k z ++ (c ++ drop (k + length c) z)) (sym (append_assoc (take a old) b (drop (a + length b) old)))
    ∙ ap₂ (λ x y. x ++ (c ++ y)) (take_at front (drop (a + length b) old) k long) back
    ∙ append_assoc (take a old) b (c ++ drop (a + length (b ++ c)) old)
    ∙ ap (λ z. take a old ++ z) (sym (append_assoc b c (drop (a + length (b ++ c)) old)))
  where
    front : Bytes
    front = take a old ++ b

    long : length (take a old ++ b) ≡ k
    long = let n = length-append (take a old) b in let t = length-take-le a old l in omega arith

    back : drop (k + length c) ((take a old ++ b) ++ drop (a + length b) old) ≡ drop (a + length (b ++ c)) old
    back =
        sym (drop-drop (length c) k (front ++ drop (a + length b) old))
        ∙ ap (drop (length c)) (drop_at front (drop (a + length b) old) k long)
        ∙ drop-drop (length c) (a + length b) old
        ∙ ap (λ n. drop n old) (let n = length-append b c in omega arith)

-- five parts, each placed behind the ones before
pub five_parts : (k₂ k₃ k₄ k₅ : ℕ) (a b c d e old o₁ o₂ o₃ o₄ o₅ : Bytes) → k₂ ≡ 0 + length a → k₃ ≡ k₂ + length b → k₄ ≡ k₃ + length c → k₅ ≡ k₄ + length d
    → k₂ ≤ length o₁ → k₃ ≤ length o₂ → k₄ ≤ length o₃
    → o₁ ≡ placed 0 a old → o₂ ≡ placed k₂ b o₁ → o₃ ≡ placed k₃ c o₂ → o₄ ≡ placed k₄ d o₃ → o₅ ≡ placed k₅ e o₄
    → o₅ ≡ over (a ++ (b ++ (c ++ (d ++ e)))) old
five_parts k₂ k₃ k₄ k₅ a b c d e old o₁ o₂ o₃ o₄ o₅ q₂ q₃ q₄ q₅ r₂ r₃ r₄ p₁ p₂ p₃ p₄ p₅ =
    p₅ ∙ ap (placed k₅ e) p₄ ∙ placed_behind k₄ k₅ d e o₃ r₄ q₅
    ∙ ap (placed k₄ (d ++ e)) p₃ ∙ placed_behind k₃ k₄ c (d ++ e) o₂ r₃ q₄
    ∙ ap (placed k₃ (c ++ (d ++ e))) p₂ ∙ placed_behind k₂ k₃ b (c ++ (d ++ e)) o₁ r₂ q₃
    ∙ ap (placed k₂ (b ++ (c ++ (d ++ e)))) p₁ ∙ placed_behind 0 k₂ a (b ++ (c ++ (d ++ e))) old (omega arith) q₂
    ∙ ap (λ k. (a ++ (b ++ (c ++ (d ++ e)))) ++ drop k old) (zero-add (length (a ++ (b ++ (c ++ (d ++ e))))))

-- the bytes of the records from the i-th on
module _ {A : Type 0} (f : A → Bytes) where
  abbrev pub left : ℕ → List A → Bytes
  left i xs = concat (map f (drop i xs))

  -- one more is written at its place, and those that are left go behind it
  pub one_more : (w : ℕ) → ((x : A) → length (f x) ≡ w) → (xs : List A) (i : ℕ) (x : A) → i < length xs → x ≡ get_or xs i x
      → (start k n : ℕ) (out bytes all : Bytes) → k ≡ w → bytes ≡ f x → n ≤ length out → start + length (left i xs) ≡ n → placed start (left i xs) out ≡ all
      → (start + w + length (left (i + 1) xs) ≡ n) × (placed (start + w) (left (i + 1) xs) (put_mid start k out bytes) ≡ all)
  one_more w sized xs i x l is start k n out bytes all q e room at so_far =
      let long = ap length next in
      let parts = length-append (f x) (left (i + 1) xs) in
      let size = sized x in (
        omega arith,
        ap (placed (start + w) (left (i + 1) xs)) here ∙ placed_behind start (start + w) (f x) (left (i + 1) xs) out (omega arith) (omega arith)
            ∙ ap (λ z. placed start z out) (sym next) ∙ so_far,
      )
    where
      next : left i xs ≡ f x ++ left (i + 1) xs
      next = ap (λ ys. concat (map f ys)) (drop_more xs i x l) ∙ ap (λ y. f y ++ left (i + 1) xs) (sym is)

      here : put_mid start k out bytes ≡ placed start (f x) out
      here = ap₂ (λ y n. take start out ++ (y ++ n)) e (drop-drop k start out ∙ ap (λ n. drop (start + n) out) (q ∙ sym (sized x)))
