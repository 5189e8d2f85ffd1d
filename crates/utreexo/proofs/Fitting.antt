-- What bytes hold fits its words.
use Rattle.std.proofs.Common.{◌≡◌, ℕ, zero, suc, ◌*◌, ◌^◌, ◌<◌, ◌≤◌, [], ◌∷◌, length, drop, pow-suc, arith, length-take}
use Rattle.std.specs.List.{AllByRecursion}
use Rattle.std.proofs.ByRecursion.{All-take, All-drop}
use Rattle.utreexo.specs.Bytes.{Bytes, part, number_in, value_in}
use Rattle.utreexo.specs.Values.{ValueFits}

abbrev pub Octet : ℕ → Type 0
Octet b = b < 256

pub number_less : (k : ℕ) (bs : Bytes) → length bs ≤ k → AllByRecursion Octet bs → number_in bs < 256 ^ k
number_less zero [] l a = omega arith
number_less zero (b ∷ bs) l a = absurd (omega arith)
number_less (suc k) [] l a = let p : 256 ^ suc k ≡ 256 ^ k * 256 = pow-suc 256 k in let q = number_less k [] (omega arith) a in omega arith
number_less (suc k) (b ∷ bs) l a =
    let p : 256 ^ suc k ≡ 256 ^ k * 256 = pow-suc 256 k in
    let q = number_less k bs (omega arith) a.1 in
    let o : b < 256 = a.0 in
    omega arith

word_less : (i : ℕ) (bs : Bytes) → AllByRecursion Octet bs → number_in (part i 8 bs) < 2 ^ 64
word_less i bs a =
    let e = length-take 8 (drop i bs) in
    number_less 8 (part i 8 bs) (omega arith) (All-take Octet 8 (drop i bs) (All-drop Octet i bs a))

pub value_in_fits : (bs : Bytes) → AllByRecursion Octet bs → ValueFits (value_in bs)
value_in_fits bs a = (word_less 0 bs a, word_less 8 bs a, word_less 16 bs a, word_less 24 bs a)
