-- `packed_preflight::plain_binds` answers the verdict of that preflight. Assumes nothing.
use Rattle.packed_preflight.proofs.Flights.{is_preflight}
use Rattle.bind.specs.Binds.{plainly, binds}
use Rattle.packed_preflight.proofs.plain_binds.Goals as goal

pub returns : goal.returns
returns c = c.answer.ensures _ (is_preflight binds plainly) (λ s size sizes r p. p)
