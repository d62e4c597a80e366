-- By the test of the sizes, and by what each operation comes to.
use Rattle.std.proofs.Common.{ap, rules}
use Rattle.preflight.specs.Told.{leg_told}
use Rattle.preflight.proofs.Loops.{not_fit, takes_off, has_said, further, flies_on}
use Rattle.preflight.proofs.flight.fly.Goals as goal

pub returns-then-not-fit : goal.returns-then-not-fit
returns-then-not-fit g c = not_fit g.R.Registers.machine _ _ _ _ c.fit.ensures c.if-not-fit.true (search rules)

pub loop-next-init : goal.loop-next-init
loop-next-init g c = takes_off g.R.Registers.machine _ _ _ _ c.fit.ensures c.if-not-fit.false

pub loop-next-smaller : goal.loop-next-smaller
loop-next-smaller g c =
    further g.R.Registers.machine c.requires c.loop-next.invariant c.leg.ensures (ap leg_told c.in-On.is)

pub loop-next-preserved : goal.loop-next-preserved
loop-next-preserved g c =
    flies_on g.R.Registers.machine c.requires c.loop-next.invariant c.leg.ensures (ap leg_told c.in-On.is)

pub returns-in-Said : goal.returns-in-Said
returns-in-Said g c =
    has_said g.R.Registers.machine c.requires c.loop-next.invariant c.leg.ensures (ap leg_told c.in-Said.is)
