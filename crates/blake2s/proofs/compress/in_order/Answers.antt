use Rattle.std.proofs.Common.{map, ap, sym, ◌∙◌, rules, arith}
use Rattle.std.proofs.iter.Serving.{serving}
use Rattle.blake2s.specs.Blake2s.{at}
use Rattle.blake2s.proofs.Arrays.{made, elements, within}
use Rattle.blake2s.proofs.compress.in_order.Goals as goal

pub from_fn-requires : goal.from_fn-requires
from_fn-requires c = grind (arith, serving, within 16 c.args.s.now c.requires)

pub returns : goal.returns
returns c =
    made _ _ (λ i. at c.args.m.now (at c.args.s.now i)) (λ i r f' call. search rules) c.from_fn.result 16 c.from_fn.ensures.items ∙ ap (map (at c.args.m.now)) (sym (elements c.args.s.now 16 (search rules)))
