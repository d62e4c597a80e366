use Rattle.std.proofs.Common.{arith, ◌-◌, ◌+◌, ◌≡◌}
use Rattle.laps.proofs.Turns.{full, halts, goes_on}
use Rattle.laps.proofs.lap.lap.Goals as goal

pub returns-in_default : goal.returns-in_default
returns-in_default g c = λ call number steps values.
    halts number call (c.args.limit - c.loop.counter) c.loop.sum c.loop.w (c.loop.invariant call number steps values) (omega arith) (steps _ _ c.step.ensures) c.in_default.not-Item

pub loop-preserved : goal.loop-preserved
loop-preserved g c = λ call number steps values.
    let down : c.args.limit - (c.loop.counter + 1) ≡ c.args.limit - c.loop.counter - 1 = omega arith in
    rw down (goes_on number call (c.args.limit - c.loop.counter) c.loop.sum c.loop.w (c.loop.invariant call number steps values) (omega arith) (steps _ _ c.step.ensures) c.in-Item.is (values _ _ c.value-sum.ensures))

pub returns : goal.returns
returns g c = λ call number steps values. full number call (c.args.limit - c.loop.counter) c.loop.sum c.loop.w (c.loop.invariant call number steps values) (omega arith)
