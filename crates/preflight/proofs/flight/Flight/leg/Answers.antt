-- There are no more operations before a place than bytes.
use Rattle.std.proofs.Common.{ap, ◌∙◌, Ok, arith}
use Rattle.operations.specs.Told.{told}
use Rattle.preflight.proofs.Loops.{counts}
use Rattle.preflight.proofs.flight.Flight.leg.Goals as goal

pub over-requires : goal.over-requires
over-requires g c =
    let arm = c.in-Ok-Some in
    counts g.R.Registers.machine c.args.s.now c.args.self.at c.parse.ensures
    (ap told (arm.is ∙ ap Ok arm.field-0-is)) c.requires (omega arith)
