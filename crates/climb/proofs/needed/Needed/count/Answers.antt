use Rattle.std.proofs.Common.{◌≡◌, ◌/◌, ◌^◌, ◌<◌, [], None, ap, ◌∙◌, arith}
use Rattle.inline_list.specs.InlineList.{listed}
use Rattle.utreexo.specs.Values.{Image}
use Rattle.utreexo.specs.Claims.{no_value}
use Rattle.targets.specs.Targets.{placed}
use Rattle.targets.proofs.Valid.{valid_is}
use Rattle.climb.specs.Rows.{step}
use Rattle.climb.proofs.Folded.{used}
use Rattle.climb.specs.Held.{hashes_in}
use Rattle.climb.proofs.Standing.{rising_more}
use Rattle.climb.proofs.Picked.{used_all}
use Rattle.climb.proofs.needed.Needed.count.Goals as goal

pub loop-row-preserved : goal.loop-row-preserved
loop-row-preserved c =
    let image : Image = λ x. no_value in
    let t = c.args.targets.now in
    let small : t.count < 2 ^ 32 = omega arith in
    let was = c.loop-row.invariant in
    let work = c.work.ensures in
    let items = listed c.work.new.items in
    let row = c.loop-row.row in
    let next = c.loop-row.rise.hashes.used in (
      rising_more (valid_is t.count (placed t) small t.valid) was.0 c.loop-row-test.true work.items
          (work.made ∙ ap (λ n. step image (hashes_in c.loop-row.rise.hashes.bytes.now) (n / 2 ^ row) next None items) was.1 ∙ ap (λ b. step image (hashes_in b) (t.count / 2 ^ row) next None items) was.2)
          work.left work.used,
      work.same.0 ∙ was.1,
      ap (λ b. b.now) work.same.1 ∙ was.2,
    )

pub returns : goal.returns
returns c =
    let t = c.args.targets.now in
    let small : t.count < 2 ^ 32 = omega arith in
    let last : c.loop-row.row ≡ 32 = omega arith in
    c.loop-row.invariant.0.next_is ∙ ap (λ r. used t.count (placed t) r) last ∙ used_all (valid_is t.count (placed t) small t.valid) []
