-- Fields of n bytes, the lowest byte first. What is read is the number and the place behind it.
use Rattle.std.specs.Prelude.{ℕ, ◌+◌, cond, List, leb, length, take, drop, Option, Some, None}
use Rattle.numbers.specs.Digits.{from_digits}

unfoldable pub little_endian : ℕ → List ℕ → ℕ → ℕ
little_endian n s at = from_digits 256 (take n (drop at s))

unfoldable pub field_at : ℕ → List ℕ → ℕ → Option (ℕ × ℕ)
field_at n s at = cond (leb (at + n) (length s)) (Some (little_endian n s at, at + n)) None
