-- `packed_preflight::read` reads the words. Assumes nothing.
use Rattle.std.proofs.Common.{rules}
use Rattle.packed_preflight.proofs.Flights.{reads_each}
use Rattle.packed_preflight.proofs.read.Goals as goal

pub returns : goal.returns
returns c = reads_each _ _ _ c.from_fn.ensures.items.long (λ i l. let h = c.from_fn.ensures.items.at i 0 l in search rules)
