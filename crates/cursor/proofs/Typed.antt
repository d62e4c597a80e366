-- A cursor's fields are such as their types have, and stay so. Assumes nothing.
use Rattle.std.proofs.Common.{◌≡◌, ℕ, zero, suc, ◌^◌, ◌<◌, arith}
use Rattle.cursor.specs.Cursor.{at_start, behind_place, marked_ended, read_to, moved_by, moved_of}
use Rattle.cursor.specs.Motion.{turn_of}
use Rattle.cursor.specs.declared.Cursor.{Cursor}
use Rattle.cursor.specs.declared.Motion.{Motion}
use Rattle.cursor.specs.declared.Motion.TheVariants.{Stays, Adds, Seeks, Restarts, Repeats, Ends, Refuses}
use Rattle.cursor.specs.declared.Moved.{Moved}
use Rattle.cursor.specs.declared.Moved.TheVariants as moved

pub record Typed (c : Cursor) : Type 0 where
  pub at : c.at < 2 ^ 64
  pub remaining : c.remaining < 2 ^ 64
  pub advance : c.advance < 2 ^ 64
  pub offset : c.offset < 2 ^ 64
  pub size : c.size < 2 ^ 8

pub typed_start : (size : ℕ) → size < 2 ^ 8 → Typed (at_start size)
typed_start size h =
    record { at = omega arith; remaining = omega arith; advance = omega arith; offset = omega arith; size = h }

pub typed_ended : {c : Cursor} → Typed c → Typed (marked_ended c)
typed_ended t =
    record { at = t.at; remaining = t.remaining; advance = t.advance; offset = t.offset; size = t.size }

-- behind the next place of a repeat
pub typed_behind : (c : Cursor) → Typed c → (n : ℕ) → c.remaining ≡ suc n → Typed (behind_place c n c.advance)
typed_behind c t n e =
    let left : n < 2 ^ 64 = omega (arith, e, t.remaining) in
    record { at = t.at; remaining = left; advance = t.advance; offset = omega arith; size = t.size }

-- ---- what an operation makes of it, where the count of a repeat is a u64

abbrev pub Counted : Motion → Type 0
Counted Stays = Unit {0}
Counted (Adds n) = Unit {0}
Counted (Seeks to) = Unit {0}
Counted Restarts = Unit {0}
Counted (Repeats count addition) = count < 2 ^ 64
Counted Ends = Unit {0}
Counted (Refuses e) = Unit {0}

-- what holds of a cursor wherever it is moved, and behind a place that is due
abbrev pub IfMoved : (P D : Cursor → Type 0) → Moved → Type 0
IfMoved P D (moved.On c) = P c
IfMoved P D (moved.Due c) = D c
IfMoved P D (moved.End c) = P c
IfMoved P D (moved.Refused e) = Unit {0}

module _ (c : Cursor) (t : Typed c) (next : ℕ) (h : next < 2 ^ 64) where
  reads_to : (offset : ℕ) → offset < 2 ^ 64 → Typed (read_to next c offset)
  reads_to o b = record { at = h; remaining = t.remaining; advance = t.advance; offset = b; size = t.size }

  pub typed_moved : (m : Motion) → Counted m → IfMoved Typed Typed (moved_of c next m)
  unfolding turn_of moved_by
  typed_moved Stays n = reads_to c.offset t.offset
  typed_moved (Adds k) n = reads_to _ (omega arith)
  typed_moved (Seeks to) n = reads_to _ (omega arith)
  typed_moved Restarts n =
      record { at = h; remaining = omega arith; advance = omega arith; offset = omega arith; size = t.size }
  typed_moved (Repeats zero addition) n = reads_to c.offset t.offset
  typed_moved (Repeats (suc left) addition) n =
      record { at = h; remaining = omega (arith, n); advance = omega arith; offset = omega arith; size = t.size }
  typed_moved Ends n = reads_to c.offset t.offset
  typed_moved (Refuses e) n = tt
