-- `packed_preflight::rebases` answers the verdict of that preflight. Assumes nothing.
use Rattle.packed_preflight.proofs.Flights.{is_preflight}
use Rattle.rebase.specs.Rebases.{unset, rebases}
use Rattle.packed_preflight.proofs.rebases.Goals as goal

pub returns : goal.returns
returns c = c.answer.ensures _ (is_preflight rebases unset) (λ s size sizes r p. p)
