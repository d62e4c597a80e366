-- What an operation does to the place, and what that comes to at an offset. Offsets and advances are numbers modulo 2^64.
use Rattle.std.specs.Prelude.{ℕ, zero, suc, ◌+◌, ◌%◌, ◌^◌}
use Rattle.cursor.specs.declared.Motion.{Motion}
use Rattle.cursor.specs.declared.Motion.TheVariants.{Stays, Adds, Seeks, Restarts, Repeats, Ends, Refuses}
use Rattle.cursor.specs.declared.Turn.{Turn}
use Rattle.cursor.specs.declared.Turn.TheVariants.{On, Anew, Due, End, Refused}

-- each place yielded advances the offset by the pointer size plus the operation's addition
abbrev pub advance_of : (size addition : ℕ) → ℕ
advance_of size addition = (size + addition) % 2 ^ 64

-- the stream goes on at an offset, or anew as from a start; places are due, one and so many more; the end; a refusal. (An offset that is
-- read from a stream is below 2^64, and so itself.)
unfoldable pub turn_of : (size offset : ℕ) → Motion → Turn
turn_of size offset Stays = On offset
turn_of size offset (Adds n) = On ((offset + n) % 2 ^ 64)
turn_of size offset (Seeks to) = On (to % 2 ^ 64)
turn_of size offset Restarts = Anew
turn_of size offset (Repeats zero addition) = On offset
turn_of size offset (Repeats (suc left) addition) = Due left (advance_of size addition)
turn_of size offset Ends = End
turn_of size offset (Refuses e) = Refused e
