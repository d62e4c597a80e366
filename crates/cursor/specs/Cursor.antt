-- A cursor: where a walk stands. `at` is the place in the stream where it reads on; of a repeat that is not yet all
-- yielded `remaining` places are left, each `advance` from the one before it; `offset` is the offset in the segment;
-- `size` the pointer size; `ended` says that the walk was refused.
use Rattle.std.specs.Prelude.{ℕ, zero, suc, ◌+◌, ◌%◌, ◌^◌, Bool, true, false, cond, ◌&&◌, ◌||◌, ◌==◌, nat_le, Result, Ok, Err}
use Rattle.cursor.specs.Motion.{turn_of}
use Rattle.cursor.specs.declared.Cursor.{Cursor}
use Rattle.cursor.specs.declared.Motion.{Motion}
use Rattle.cursor.specs.declared.Moved.{Moved}
use Rattle.cursor.specs.declared.Moved.TheVariants as moved
use Rattle.cursor.specs.declared.Standing.{Standing}
use Rattle.cursor.specs.declared.Standing.TheVariants as standing
use Rattle.cursor.specs.declared.Turn.{Turn}
use Rattle.cursor.specs.declared.Turn.TheVariants as turn
use Rattle.refusal.specs.declared.Refusal.{Refusal}
use Rattle.refusal.specs.declared.Refusal.TheVariants.{PointerSize}

abbrev pub is_pointer_size : ℕ → Bool
is_pointer_size size = size == 4 || size == 8

-- ---- the start of a stream

abbrev pub at_start : (size : ℕ) → Cursor
at_start size = record { at = 0; remaining = 0; advance = 0; offset = 0; size = size; ended = false }

unfoldable pub start_of : (size : ℕ) → Result Cursor Refusal
start_of size = cond (is_pointer_size size) (Ok (at_start size)) (Err PointerSize)

-- ---- what a call has to do

-- the cursor behind a place at its offset
abbrev pub behind_place : Cursor → (left advance : ℕ) → Cursor
behind_place c left advance =
    record c { remaining = left; advance = advance; offset = (c.offset + advance) % 2 ^ 64 }

-- the read place is not beyond the bytes, and the pointer size is 4 or 8
abbrev pub in_range : Cursor → (len : ℕ) → Bool
in_range c len = nat_le c.at len && is_pointer_size c.size

abbrev pub live_standing : Cursor → (remaining : ℕ) → Standing
live_standing c zero = standing.Reading
live_standing c (suc left) = standing.Due (behind_place c left c.advance)

unfoldable pub standing_of : Cursor → (len : ℕ) → Standing
standing_of c len =
    cond (in_range c len) (cond c.ended standing.Ended (live_standing c c.remaining)) standing.OutOfRange

abbrev pub marked_ended : Cursor → Cursor
marked_ended c = record c { ended = true }

-- ---- what an operation makes of the cursor; `next` is the place behind the operation

abbrev pub read_to : (next : ℕ) → Cursor → (offset : ℕ) → Cursor
read_to next c offset = record c { at = next; offset = offset }

-- as at a start, but for the read place
abbrev pub anew : (next : ℕ) → Cursor → Cursor
anew next c = read_to next (at_start c.size) 0

unfoldable pub moved_by : Cursor → (next : ℕ) → Turn → Moved
moved_by c next (turn.On offset) = moved.On (read_to next c offset)
moved_by c next turn.Anew = moved.On (anew next c)
moved_by c next (turn.Due left advance) = moved.Due (behind_place (read_to next c c.offset) left advance)
moved_by c next turn.End = moved.End (read_to next c c.offset)
moved_by c next (turn.Refused e) = moved.Refused e

abbrev pub moved_of : Cursor → (next : ℕ) → Motion → Moved
moved_of c next m = moved_by c next (turn_of c.size c.offset m)
