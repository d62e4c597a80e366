-- One call of a walk: what it answers, and the state it hands back, for any state and any bytes.
use Rattle.std.specs.Prelude.{ℕ, List, length, Option, None, Some, Result, Ok, Err}
use Rattle.cursor.specs.Cursor.{marked_ended, start_of, standing_of, moved_of}
use Rattle.cursor.specs.declared.Cursor.{Cursor}
use Rattle.cursor.specs.declared.Moved.{Moved}
use Rattle.cursor.specs.declared.Moved.TheVariants as moved
use Rattle.cursor.specs.declared.Standing.{Standing}
use Rattle.cursor.specs.declared.Standing.TheVariants as standing
use Rattle.listing.specs.Machine.{Machine}
use Rattle.listing.specs.declared.Walk.{Walk}
use Rattle.listing.specs.Stream.{Stream, out, bad, one, stream_at}
use Rattle.refusal.specs.Numbers.{number_of}
use Rattle.refusal.specs.declared.Refusal.{Refusal}
use Rattle.refusal.specs.declared.Refusal.TheVariants.{StateOutOfRange}
use Rattle.runs.specs.Runs.{Begin, begun, not_begun, Answer, item, end, refused}

abbrev pub state : {Reg : Type 0} → Cursor → Reg → Walk Reg
state c g = record { cursor = c; registers = g }

-- ---- a start

abbrev pub begin_from : {Reg : Type 0} → Reg → Result Cursor Refusal → Begin (Walk Reg)
begin_from g (Ok c) = begun (state c g)
begin_from g (Err e) = not_begun (number_of e)

abbrev pub begin : {Reg : Type 0} → (size : ℕ) → Reg → Begin (Walk Reg)
begin size g = begin_from g (start_of size)

-- ---- a call

-- any refusal but 19 hands back the state as given, marked as ended
abbrev pub refusal : {Reg Item : Type 0} → Walk Reg → Refusal → Answer (Walk Reg) Item
refusal given e = refused (number_of e) (state (marked_ended given.cursor) given.registers)

module _ {Op Reg Item : Type 0} (M : Machine Op Reg Item) (given : Walk Reg) where
  -- a place that is due at an offset: its item, with the state behind it, or the refusal for what it lacks
  unfoldable pub due : (offset : ℕ) → (behind : Walk Reg) → Option Refusal → Answer (Walk Reg) Item
  due offset behind None = item (M.item behind.registers offset) behind
  due offset behind (Some e) = refusal given e

  -- what an operation at an offset answers; `rest` is what the operations behind answer
  unfoldable pub answered : (offset : ℕ) → Reg → (Walk Reg → Answer (Walk Reg) Item) → Moved → Answer (Walk Reg) Item
  answered offset g rest (moved.On c) = rest (state c g)
  answered offset g rest (moved.Due c) = due offset (state c g) (M.lack g)
  answered offset g rest (moved.End c) = end (state c g)
  answered offset g rest (moved.Refused e) = refusal given e

  -- operations are read until a place is due, the end is said or something is refused
  unfoldable pub read : Stream Op → Walk Reg → Answer (Walk Reg) Item
  read out w = end w
  read (bad e position) w = refusal given e
  read (one position op next rest) w =
      let did = M.effect w.cursor.size op w.registers in
      answered w.cursor.offset did.registers (read rest) (moved_of w.cursor next did.motion)

  abbrev pub called : List ℕ → Standing → Answer (Walk Reg) Item
  called s standing.OutOfRange = refused (number_of StateOutOfRange) given
  called s standing.Ended = end given
  called s (standing.Due c) = due given.cursor.offset (state c given.registers) (M.lack given.registers)
  called s standing.Reading = read (stream_at M s given.cursor.at) given

unfoldable pub call : {Op Reg Item : Type 0} (M : Machine Op Reg Item) → List ℕ → Walk Reg → Answer (Walk Reg) Item
call M s w = called M w s (standing_of w.cursor (length s))
