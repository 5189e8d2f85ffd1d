use Rattle.std.proofs.Common.{rules, tests}
use Rattle.std.proofs.lemmas.Iterator.{YieldsList-from_slice, YieldsList-from_zip}
use Rattle.std.proofs.lemmas.Iterator.Search.{all_from_yields_List}
use Rattle.bridge.proofs.Judging.{same_read, hashes_same}
use Rattle.bridge.proofs.judge.are_hashes.Goals as goal

pub returns : goal.returns
returns c =
    hashes_same c.args.hashes.now c.as_chunks.result.0.now c.args.values.now c.all.result c.as_chunks.ensures.front c.requires
    (all_from_yields_List same_read c.all.new.self _ c.all.result c.all.ensures.ran (YieldsList-from_zip (YieldsList-from_slice c.as_chunks.result.0.now (cc)) (YieldsList-from_slice c.args.values.now (cc))) (λ x b q k. search (rules, tests)))
