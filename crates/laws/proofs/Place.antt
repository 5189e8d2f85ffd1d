-- Places of a row: the place above, the sibling, and a place without one of its bits.
use Rattle.std.proofs.Common.{ℕ, zero, suc, ◌+◌, ◌-◌, ◌*◌, ◌/◌, ◌%◌}

-- the place `f` rows higher
abbrev pub up : ℕ → ℕ → ℕ
up zero o = o
up (suc f) o = up f (o / 2)

-- the other child of the same parent
unfoldable pub sib : ℕ → ℕ
sib o = 2 * (o / 2) + (1 - o % 2)

-- the place without its bit d
abbrev pub close : ℕ → ℕ → ℕ
close zero o = o / 2
close (suc d) o = 2 * close d (o / 2) + o % 2
