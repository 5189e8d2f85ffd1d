use Rattle.std.proofs.Common.{◌≡◌, ◌++◌, map, take, drop}
use Rattle.climb.specs.After.{look}
use Rattle.shelf.specs.Held.{held_of}
use Rattle.refresh.specs.Refreshed.{refreshed_by}
use Rattle.refresh.proofs.refresh.refresh_all.Given as goal

-- those that are refreshed, and the others as they will be
abbrev pub invariant-loop-held : goal.invariant-loop-held
invariant-loop-held l =
    let new = refreshed_by (look l.after) in
    map held_of (take l.held-index l.held-items) ++ map new (map held_of (drop l.held-index l.held-items)) ≡ map new (map held_of (take l.len l.fn.coins))
