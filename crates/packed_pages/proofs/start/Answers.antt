-- The words of a segment's record fit their fields.
use Rattle.packed_segments.specs.Packed.{segment_fields}
use Rattle.packing.proofs.Boundary.{tested}
use Rattle.packing.proofs.Fields.{word_most}
use Rattle.std.proofs.Common.{rules}
use Rattle.packed_pages.proofs.start.Goals as goal

pub held_segment-requires : goal.held_segment-requires
held_segment-requires c = search (word_most segment_fields, tested, rules)
