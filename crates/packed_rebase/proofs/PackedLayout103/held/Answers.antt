-- A field of a byte fits. Assumes nothing.
use Rattle.std.proofs.Common.{rules}
use Rattle.packed_rebase.specs.Packed.{largest}
use Rattle.packing.proofs.Boundary.{tested}
use Rattle.packing.proofs.Fields.{byte_fits}
use Rattle.packed_rebase.proofs.PackedLayout103.held.Goals as goal

pub overflow_cast-result : goal.overflow_cast-result
overflow_cast-result c = search (byte_fits largest, tested, rules)

pub overflow_cast-result-2 : goal.overflow_cast-result-2
overflow_cast-result-2 c = search (byte_fits largest, tested, rules)

pub overflow_cast-result-3 : goal.overflow_cast-result-3
overflow_cast-result-3 c = search (byte_fits largest, tested, rules)
