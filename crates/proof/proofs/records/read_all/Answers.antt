use Rattle.std.proofs.Common.{◌≡◌, ◌++◌, map, length, ap, ◌∙◌, length-append, arith}
use Rattle.utreexo.specs.Lists.{below}
use Rattle.laws.proofs.Ranges.{length_map_below}
use Rattle.proof.proofs.Listing.{record_at, read_more, all_left, enough}
use Rattle.proof.proofs.records.read_all.Goals as goal

pub push-requires : goal.push-requires
push-requires g c =
    let size = enough g.row.N c.args.count c.args.start c.args.bytes.now c.as_chunks.result.0.now g.met.T.Record.few.0 c.requires.whole c.as_chunks.ensures.front_len in
    let read = map (record_at g.row.N g.T.Record.decoded c.args.bytes.now c.args.start) (below c.loop-chunk.chunk-index) in
    let full = ap length c.loop-chunk.invariant ∙ length-append c.args.records.now.items read in
    let more = length_map_below (record_at g.row.N g.T.Record.decoded c.args.bytes.now c.args.start) c.loop-chunk.chunk-index in
    omega arith

pub loop-chunk-preserved : goal.loop-chunk-preserved
loop-chunk-preserved g c =
    c.push.ensures.items
    ∙ read_more g.row.N g.T.Record.decoded c.args.bytes.now c.args.start c.args.count c.args.records.now.items c.loop-chunk.records.items _ c.as_chunks.result.0.now c.from_bytes.result c.chunk-item.result c.loop-chunk.invariant (all_left c.args.bytes.now c.args.start) c.as_chunks.ensures.front c.loop-chunk-test.true
    c.chunk-item.is c.from_bytes.ensures

pub returns : goal.returns
returns g c =
    let size = enough g.row.N c.args.count c.args.start c.args.bytes.now c.as_chunks.result.0.now g.met.T.Record.few.0 c.requires.whole c.as_chunks.ensures.front_len in
    let all : c.loop-chunk.chunk-index ≡ c.args.count = omega arith in
    c.loop-chunk.invariant ∙ ap (λ k. c.args.records.now.items ++ map (record_at g.row.N g.T.Record.decoded c.args.bytes.now c.args.start) (below k)) all
