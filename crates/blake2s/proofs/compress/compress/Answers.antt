use Rattle.std.proofs.Common.{◌+◌, rules}
use lib.Bits.{bit_xor}
use Rattle.blake2s.specs.Blake2s.{at}
use Rattle.blake2s.proofs.Arrays.{made}
use Rattle.blake2s.proofs.Mixing.{compressed}
use Rattle.blake2s.proofs.compress.compress.Goals as goal

pub returns : goal.returns
returns g c =
    let h = c.args.h in
    let w = c.mix_rounds-v.result in
    compressed h c.args.m.now _ w c.from_fn.result c.args.t c.args.last (search rules) (search rules) (rw c.final_flag.ensures) c.mix_rounds-v.ensures
    (made _ _ (λ i. bit_xor (bit_xor (at h i) (at w i)) (at w (i + 8))) (λ i r f' call. search rules) c.from_fn.result 8 c.from_fn.ensures.items)
