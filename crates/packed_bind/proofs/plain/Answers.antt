-- `packed_bind::plain` starts at a size that a byte holds. Assumes nothing.
use Rattle.bind.specs.Binds.{plainly}
use Rattle.listing.proofs.Starts.{not_begun_lem}
use Rattle.packing.proofs.Boundary.{starts_as}
use Rattle.packing.proofs.Crossing.{sized}
use Rattle.packed_bind.proofs.plain.Goals as goal

pub returns : goal.returns
returns c = starts_as _ _ c.begin.ensures (sized _ _ _ _ c.pointer_size.ensures c.and_then.ensures (λ p. p) (not_begun_lem plainly))
