-- A call, for a caller who goes on after a refused record: the refusal is an entry, and not the end.
use Rattle.std.specs.Prelude.{ℕ, cond, List, eqb}
use Rattle.chains.specs.Call.{call}
use Rattle.chains.specs.Listing.{Entry, segment, refusal}
use Rattle.chains.specs.declared.Segment.{Segment}
use Rattle.chains.specs.declared.SegmentWalk.{SegmentWalk}
use Rattle.refusal.specs.Numbers.{number_of}
use Rattle.refusal.specs.declared.Refusal.TheVariants.{FaultyChains}
use Rattle.runs.specs.Runs.{Answer, item, end, refused}

abbrev pub as_entry : {W X : Type 0} → Answer W X → Answer W (Entry X)
as_entry (item x w) = item (segment x) w
as_entry (end w) = end w
as_entry (refused number w) = cond (eqb number (number_of FaultyChains)) (item (refusal number) w) (refused number w)

abbrev pub hear : List ℕ → SegmentWalk → Answer SegmentWalk (Entry Segment)
hear s w = as_entry (call s w)
