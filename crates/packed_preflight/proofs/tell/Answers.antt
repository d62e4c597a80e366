-- `packed_preflight::tell` writes the verdict. Assumes nothing.
use Rattle.std.proofs.Common.{refl}
use Rattle.packing.proofs.Boundary.{two}
use Rattle.packed_preflight.proofs.Flights.{tells}
use Rattle.packed_preflight.proofs.tell.Goals as goal

pub returns-in-Ok : goal.returns-in-Ok
returns-in-Ok c = tells _ _ c.in-Ok.is c.requires refl c.write.ensures refl

pub returns-in-Err : goal.returns-in-Err
returns-in-Err c = tells _ _ c.in-Err.is c.requires refl c.write-in-Err.ensures (two c.refused.ensures refl)
