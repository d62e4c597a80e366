-- The words of a record fit their fields.
use Rattle.packed_pages.specs.Packed.{state_fields}
use Rattle.packing.proofs.Boundary.{tested}
use Rattle.packing.proofs.Fields.{word_most}
use Rattle.std.proofs.Common.{rules}
use Rattle.packed_pages.proofs.PackedLayout165.held.Goals as goal

pub held_segment-requires : goal.held_segment-requires
held_segment-requires c = search (word_most state_fields, tested, rules)
