-- Calls in a row at the boundary to C, of a caller who goes on behind a refused record: the refusal is an entry, and not the end.
use Rattle.std.specs.Prelude.{ℕ, List}
use Rattle.chains.specs.Call.{call}
use Rattle.chains.specs.Hear.{as_entry}
use Rattle.chains.specs.Listing.{Entry, segment, refusal}
use Rattle.chains.specs.declared.Segment.{Segment}
use Rattle.packing.specs.Calls.{Lent, through}
use Rattle.packed_segments.specs.Packed.{states, segment_at, items}
use Rattle.runs.specs.Runs.{Answer}

-- one call through the entry point
abbrev pub hear_through : List ℕ → Lent → Answer Lent (Entry (List ℕ))
hear_through s r = as_entry (through states items (call s) r)

-- an entry, with the record of its segment; and which entry it tells
abbrev pub entry_record : Entry Segment → Entry (List ℕ)
entry_record (segment x) = segment (items.bytes x)
entry_record (refusal number) = refusal number

abbrev pub entry_at : Entry (List ℕ) → Entry Segment
entry_at (segment s) = segment (segment_at s)
entry_at (refusal number) = refusal number
