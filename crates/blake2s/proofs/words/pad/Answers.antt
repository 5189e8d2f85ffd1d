use Rattle.std.proofs.Common.{◌≡◌, ℕ, ◌-◌, length, drop, replicate, rules}
use Rattle.std.proofs.lemmas.List.{drop-replicate}
use Rattle.blake2s.proofs.words.pad.Goals as goal

pub returns : goal.returns
returns c =
    let e : drop (length c.args.bytes.now) (replicate {A = ℕ} 64 0) ≡ replicate (64 - length c.args.bytes.now) 0 =
    drop-replicate (length c.args.bytes.now) 64 0
    in
    search rules
