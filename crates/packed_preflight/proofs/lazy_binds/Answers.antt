-- `packed_preflight::lazy_binds` answers the verdict of that preflight. Assumes nothing.
use Rattle.packed_preflight.proofs.Flights.{is_preflight}
use Rattle.bind.specs.Binds.{lazily, binds}
use Rattle.packed_preflight.proofs.lazy_binds.Goals as goal

pub returns : goal.returns
returns c = c.answer.ensures _ (is_preflight binds lazily) (λ s size sizes r p. p)
