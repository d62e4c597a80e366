-- `packed_rebase::start` starts at a size that a byte holds. Assumes nothing.
use Rattle.listing.proofs.Starts.{not_begun_lem}
use Rattle.packing.proofs.Boundary.{starts_as}
use Rattle.packing.proofs.Crossing.{sized}
use Rattle.rebase.specs.Rebases.{unset}
use Rattle.packed_rebase.proofs.start.Goals as goal

pub returns : goal.returns
returns c = starts_as _ _ c.begin.ensures (sized _ _ _ _ c.pointer_size.ensures c.and_then.ensures (λ p. p) (not_begun_lem unset))
