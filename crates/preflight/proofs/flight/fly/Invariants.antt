-- The verdict is the one on the operations from here on; and each turn leaves fewer bytes behind the place of the next operation.
use Rattle.std.proofs.Common.{◌-◌, length}
use Rattle.preflight.specs.Verdict.{with_sizes}
use Rattle.preflight.proofs.Loops.{Flying}
use Rattle.preflight.proofs.flight.fly.Given as goal

abbrev pub invariant-loop-next : goal.invariant-loop-next
invariant-loop-next g l =
    let M = g.R.Registers.machine in Flying M l.size l.sizes l.s (with_sizes M l.fn.start l.size l.sizes l.s) l.flight

abbrev pub decreases-loop-next : goal.decreases-loop-next
decreases-loop-next g l = length l.s - l.flight.at
