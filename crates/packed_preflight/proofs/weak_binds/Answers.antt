-- `packed_preflight::weak_binds` answers the verdict of that preflight. Assumes nothing.
use Rattle.packed_preflight.proofs.Flights.{is_preflight}
use Rattle.bind.specs.Binds.{weakly, binds}
use Rattle.packed_preflight.proofs.weak_binds.Goals as goal

pub returns : goal.returns
returns c = c.answer.ensures _ (is_preflight binds weakly) (λ s size sizes r p. p)
