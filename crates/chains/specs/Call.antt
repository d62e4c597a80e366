-- A start and a call of the walk over segments: what they answer, and the state handed back, for any state and any bytes.
use Rattle.std.specs.Prelude.{ℕ, zero, suc, ◌+◌, ◌-◌, ◌*◌, cond, List, ltb, eqb, length, Option, Some, None}
use Rattle.chains.specs.FixupChains.{offset_at, then_starts, record_at}
use Rattle.chains.specs.declared.Segment.{Segment}
use Rattle.chains.specs.declared.SegmentWalk.{SegmentWalk}
use Rattle.refusal.specs.Numbers.{number_of}
use Rattle.refusal.specs.declared.Refusal.TheVariants.{FaultyChains, StateOutOfRange}
use Rattle.runs.specs.Runs.{Begin, begun, not_begun, Answer, item, end, refused}

-- ---- a start

abbrev pub at_start : (place count : ℕ) → SegmentWalk
at_start place count = record { place = place; count = count; index = 0 }

unfoldable pub begin : List ℕ → Begin SegmentWalk
begin s = then_starts s not_begun (λ place count. begun (at_start place count))

-- ---- a call

abbrev pub at_index : (index : ℕ) → SegmentWalk → SegmentWalk
at_index index w = record { place = w.place; count = w.count; index = index }

-- the answer for a record; `behind` is the state after its segment
unfoldable pub recorded : (behind : SegmentWalk) → Option Segment → Answer SegmentWalk Segment
recorded behind (Some segment) = item segment behind
recorded behind None = refused (number_of FaultyChains) behind

-- from an index on, where n segments are left: those that have no record are passed over
unfoldable pub seek : List ℕ → SegmentWalk → (n index : ℕ) → Answer SegmentWalk Segment
seek s w zero index = end (at_index index w)
seek s w (suc n) index =
    cond (eqb (offset_at s w.place index) 0) (seek s w n (index + 1))
    (recorded (at_index (index + 1) w) (record_at s index (w.place + offset_at s w.place index)))

-- 19 where the starts do not lie in the bytes. No refusal marks a state as ended: after 9 the next call goes on with the next segment
unfoldable pub call : List ℕ → SegmentWalk → Answer SegmentWalk Segment
call s w =
    cond (ltb (length s) (w.place + 4 + 4 * w.count)) (refused (number_of StateOutOfRange) w)
    (seek s w (w.count - w.index) w.index)
