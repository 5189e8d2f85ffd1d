-- The steps of the way down to a node.
use Rattle.std.specs.Prelude.{ℕ, ◌+◌, ◌-◌, ◌*◌, ◌/◌, ◌%◌, ◌^◌, cond, Some, None, Option, nat_eq}
use Rattle.utreexo.specs.declared.types.Value.{Value}
use Rattle.utreexo.specs.Values.{Image}
use Rattle.utreexo.specs.Forest.{Slots, value_over}
use Rattle.own.specs.declared.walk.Way.{Way}
use Rattle.own.specs.declared.walk.Step.{Step}
use Rattle.own.specs.declared.walk.Step.TheVariants.{Nothing, Pair, On}

-- on by half h of the run, the left one being 0, with so many bits left
abbrev pub on_by : Way → ℕ → ℕ → Step
on_by way h bits = On (record { run = record { row = way.run.row - 1; place = 2 * way.run.place + h }; bits = bits })

-- by the values over the halves: a blank one is passed over with no bit, and of two that are not the next bit tells which
abbrev pub step_from : Way → ℕ → Option Value → Option Value → Step
step_from way place None None = Nothing
step_from way place (Some v) None = on_by way 0 way.bits
step_from way place None (Some w) = on_by way 1 way.bits
step_from way place (Some v) (Some w) = cond (nat_eq way.bits 0) (Pair v w) (on_by way (place / 2 ^ (way.bits - 1) % 2) (way.bits - 1))

abbrev pub step_by : Image → Slots → Way → ℕ → Step
step_by image s way place =
    step_from way place (value_over image s (way.run.row - 1) (2 * way.run.place)) (value_over image s (way.run.row - 1) (2 * way.run.place + 1))
