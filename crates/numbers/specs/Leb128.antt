-- LEB128, as DWARF 5 has it (7.6): an integer is chopped into chunks of seven bits, the low order end first, a chunk to a byte; the
-- high order bit is set on each byte except the last. DWARF sets no limit. Here a number has at most ten bytes, since 64 bits are nine
-- chunks and a bit. What is read is the number and the place behind it.
use Rattle.std.specs.Prelude.{ℕ, ◌+◌, ◌-◌, ◌%◌, ◌^◌, Bool, cond, ◌||◌, List, map, leb, ltb, eqb, ℤ, pos, ◌-ℤ◌, length, get_or, drop, Option, Some, None}
use Rattle.numbers.specs.Digits.{from_digits}
use Rattle.numbers.specs.Spans.{Span, span, unended, span_to}

-- ---- the bytes of a number

abbrev pub is_last : ℕ → Bool
is_last b = ltb b 128

abbrev pub bytes_at : List ℕ → ℕ → Span
bytes_at s at = span_to is_last (drop at s)

abbrev pub chunks : List ℕ → List ℕ
chunks bs = map (λ b. b % 128) bs

-- the tenth byte, or 0 where there are fewer. Of a number that goes on past ten bytes it is 128 or more, which neither rule below takes
abbrev pub tenth : List ℕ → ℕ
tenth bs = get_or bs 9 0

-- ---- unsigned: the chunks are digits, and a tenth byte is bit 63

abbrev pub unsigned : List ℕ → ℕ
unsigned bs = from_digits 128 (chunks bs)

abbrev pub uleb_of : ℕ → Span → Option (ℕ × ℕ)
uleb_of at (span bs) = cond (ltb (tenth bs) 2) (Some (unsigned bs, at + length bs)) None
uleb_of at unended = None

unfoldable pub uleb_at : List ℕ → ℕ → Option (ℕ × ℕ)
uleb_at s at = uleb_of at (bytes_at s at)

-- ---- signed: the sign of the last chunk is extended, and a tenth byte is the sign alone

-- bit 6 of the last byte, which is below 128
abbrev pub negative : List ℕ → Bool
negative bs = leb 64 (get_or bs (length bs - 1) 0)

abbrev pub sign_extended : List ℕ → ℤ
sign_extended bs = cond (negative bs) (pos (unsigned bs) -ℤ pos (128 ^ length bs)) (pos (unsigned bs))

abbrev pub sleb_of : ℕ → Span → Option (ℤ × ℕ)
sleb_of at (span bs) =
    cond (eqb (tenth bs) 0x00 || eqb (tenth bs) 0x7f)
    (Some (sign_extended bs, at + length bs))
    None
sleb_of at unended = None

unfoldable pub sleb_at : List ℕ → ℕ → Option (ℤ × ℕ)
sleb_at s at = sleb_of at (bytes_at s at)
