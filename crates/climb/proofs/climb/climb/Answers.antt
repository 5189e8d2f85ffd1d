use Rattle.std.proofs.Common.{◌/◌, ◌^◌, ◌<◌, ◌&&◌, None, ap, ◌∙◌, ap₂, arith}
use Rattle.inline_list.specs.InlineList.{listed}
use Rattle.std.specs.Bool.{then_some}
use Rattle.std.proofs.lemmas.List.{map-set}
use Rattle.targets.specs.Targets.{placed}
use Rattle.targets.proofs.Valid.{valid_is}
use Rattle.climb.specs.Rows.{step}
use Rattle.climb.specs.Held.{hashes_in}
use Rattle.climb.proofs.Standing.{standing_more, standing_all}
use Rattle.climb.proofs.climb.climb.Goals as goal

pub loop-row-preserved : goal.loop-row-preserved
loop-row-preserved g c =
    let image = g.C.Compression.image in
    let t = c.args.targets.now in
    let small : t.count < 2 ^ 32 = omega arith in
    let was = c.loop-row.invariant in
    let work = c.work-aside.ensures in
    let items = listed c.work-aside.new.items in
    let row = c.loop-row.row in
    let next = c.loop-row.rise.hashes.used in (
      standing_more (valid_is t.count (placed t) small t.valid) was.0 c.loop-row-test.true c.told-roots work.items
          (work.made ∙ ap (λ n. step image (hashes_in c.loop-row.rise.hashes.bytes.now) (n / 2 ^ row) next None items) was.1 ∙ ap (λ b. step image (hashes_in b) (t.count / 2 ^ row) next None items) was.2)
          work.left work.used (ap (λ m. c.loop-row.fitting && m) c.meets_root-fitting.ensures) c.root_after.ensures (map-set listed c.loop-row.rows row c.work-aside.new.items),
      work.same.0 ∙ was.1,
      ap (λ b. b.now) work.same.1 ∙ was.2,
    )

pub returns : goal.returns
returns g c =
    let t = c.args.targets.now in
    let d = standing_all (valid_is t.count (placed t) (omega arith) t.valid) c.told-roots c.loop-row.invariant.0 (omega arith) in
    record { roots = c.then_some.ensures ∙ ap₂ then_some d.all_fit d.all_roots; after = d.all_told }
