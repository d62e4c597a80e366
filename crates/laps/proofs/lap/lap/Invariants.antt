use Rattle.std.proofs.Common.{◌-◌}
use Rattle.laps.proofs.Turns.{SameLap}
use Rattle.laps.proofs.lap.lap.Given as goal

-- with the sum so far, the calls that are left make the whole
abbrev pub invariant-loop : goal.invariant-loop
invariant-loop g l = SameLap (goal.F-post g l.step) (goal.G-post g l.value) (l.limit - l.counter) l.sum l.w l.fn.limit l.fn.start
