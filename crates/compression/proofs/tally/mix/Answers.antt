use Rattle.std.proofs.Common.{ℕ, sym, ◌∙◌, arith, get_or, rules}
use Rattle.std.specs.Simd.Lanes.{zip2}
use Rattle.std.proofs.lemmas.List.FromFn.{fill_by_all}
use Rattle.std.proofs.lemmas.Simd.{length-zip2, get_or-zip2}
use Rattle.blake2s.proofs.Arrays.{made}
use Rattle.utreexo.specs.Tally.{pair_byte}
use Rattle.compression.proofs.tally.mix.Goals as goal

pub returns : goal.returns
returns c =
    let left = c.args.left.now in
    let right = c.args.right.now in
    let byte : ℕ → ℕ = λ i. pair_byte (get_or left i 0) (get_or right i 0) in
    let long = length-zip2 pair_byte left right (c.told-left ∙ sym c.told-right) ∙ c.told-left in
    made _ _ byte (λ i r f' call. search rules) c.from_fn.result 32 c.from_fn.ensures.items
    ∙ sym (fill_by_all byte (zip2 pair_byte left right) 32 0 long (λ i l. get_or-zip2 pair_byte left right i 0 0 0 (omega arith) (omega arith)))
