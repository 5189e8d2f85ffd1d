use Rattle.std.proofs.Common.{◌≡◌, ◌/◌, ◌^◌, ◌<◌, true, List, [], ◌++◌, map, None, ap, ◌∙◌, arith}
use Rattle.inline_list.specs.InlineList.{listed}
use Rattle.utreexo.specs.Values.{Image}
use Rattle.utreexo.specs.Claims.{no_value, proof_of}
use Rattle.utreexo.specs.Forest.{at_node}
use Rattle.std.proofs.lemmas.List.Elements.{All-from_recursion}
use Rattle.place.specs.Nodes.{inside}
use Rattle.targets.specs.Targets.{placed}
use Rattle.targets.proofs.Valid.{valid_is}
use Rattle.climb.specs.declared.item.Item.{Item}
use Rattle.climb.specs.Rows.{step, lones}
use Rattle.climb.specs.Held.{hashes_in}
use Rattle.climb.specs.Needed.{nodes_of, places}
use Rattle.climb.proofs.Standing.{rising_more, merged_is}
use Rattle.climb.proofs.Lacking.{lacked_more, lacked_all}
use Rattle.climb.proofs.needed.Needed.of.Goals as goal

pub loop-row-preserved : goal.loop-row-preserved
loop-row-preserved c =
    let image : Image = λ x. no_value in
    let t = c.args.targets.now in
    let small : t.count < 2 ^ 32 = omega arith in
    let valid = valid_is t.count (placed t) small t.valid in
    let was = c.loop-row.invariant in
    let work = c.work.ensures in
    let items = listed c.work.new.items in
    let row = c.loop-row.row in
    let next = c.loop-row.rise.hashes.used in
    let made_so = work.made ∙ ap (λ n. step image (hashes_in c.loop-row.rise.hashes.bytes.now) (n / 2 ^ row) next None items) was.2 ∙ ap (λ b. step image (hashes_in b) (t.count / 2 ^ row) next None items) was.3 in (
      rising_more valid was.0 c.loop-row-test.true work.items made_so work.left work.used,
      lacked_more valid was.1 image (proof_of t.count (placed t) []) items (merged_is valid was.0 c.loop-row-test.true work.items) work.room _
          (c.push_siblings.ensures ∙ ap (λ (l : List Item). nodes_of c.loop-row.needed ++ map (at_node row) (lones (c.count.result / 2 ^ row) (places l))) c.as_slice.ensures.value
          ∙ ap (λ n. nodes_of c.loop-row.needed ++ map (at_node row) (lones (n / 2 ^ row) (places items))) c.count.ensures),
      work.same.0 ∙ was.2,
      ap (λ b. b.now) work.same.1 ∙ was.3,
    )

pub returns : goal.returns
returns c =
    let t = c.args.targets.now in
    let small : t.count < 2 ^ 32 = omega arith in
    let was = c.loop-row.invariant.1 in
    record {
      positions = lacked_all (valid_is t.count (placed t) small t.valid) was (omega arith);
      places = All-from_recursion (λ d. inside t.count d ≡ true) (nodes_of c.loop-row.needed) was.inside_all;
    }
