use Rattle.std.proofs.Common.{◌≡◌, suc, ◌∙◌, arith}
use Rattle.challenge.proofs.Claiming.{children, input_spent, input_low, input_both}
use Rattle.climb.specs.Claimed.{claims}
use Rattle.challenge.proofs.claims.Claims.input.Goals as goal

pub returns-in-Some : goal.returns-in-Some
returns-in-Some g c =
    let t = c.args.self.now in
    input_spent g.C.Compression.image (claims t.targets.now t.hashes.now) c.args.node.row c.args.node.place c.in-Some.coin c.in-Some.ensures

pub returns-in_err-row : goal.returns-in_err-row
returns-in_err-row g c =
    let t = c.args.self.now in
    let low : c.args.node.row ≡ 0 = omega (arith, c.in_err-row.ensures) in
    c.from_residual.ensures ∙ input_low g.C.Compression.image (claims t.targets.now t.hashes.now) c.args.node.row c.args.node.place low c.in_default.ensures

pub overflow_mul-left : goal.overflow_mul-left
overflow_mul-left g c =
    let t = c.args.self.now.targets.now in
    let e = c.in_ok-row.ensures in
    let k = children t.count c.args.node.row c.in_ok-row.row c.args.node.place c.args.self.now.small c.requires.inside e.0 e.1 in
    omega (arith, k.fit)

pub overflow_add-right : goal.overflow_add-right
overflow_add-right g c =
    let t = c.args.self.now.targets.now in
    let e = c.in_ok-row.ensures in
    let k = children t.count c.args.node.row c.in_ok-row.row c.args.node.place c.args.self.now.small c.requires.inside e.0 e.1 in
    omega (arith, k.fit)

pub value-requires : goal.value-requires
value-requires g c =
    let t = c.args.self.now.targets.now in
    let e = c.in_ok-row.ensures in
    (children t.count c.args.node.row c.in_ok-row.row c.args.node.place c.args.self.now.small c.requires.inside e.0 e.1).left

pub value-requires-2 : goal.value-requires-2
value-requires-2 g c =
    let t = c.args.self.now.targets.now in
    let e = c.in_ok-row.ensures in
    (children t.count c.args.node.row c.in_ok-row.row c.args.node.place c.args.self.now.small c.requires.inside e.0 e.1).right

pub returns : goal.returns
returns g c =
    let t = c.args.self.now in
    let e = c.in_ok-row.ensures in
    let one : c.args.node.row ≡ suc c.in_ok-row.row = omega arith in
    input_both g.C.Compression.image (claims t.targets.now t.hashes.now) c.args.node.row c.args.node.place c.in_ok-row.row one c.in_default.ensures c.requires.covered
    c.value.result c.value-2.result c.value.ensures c.value-2.ensures
