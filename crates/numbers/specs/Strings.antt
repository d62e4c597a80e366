-- Strings: up to the first NUL, which must be there and is consumed, but is no part of the string. What is read is the
-- part without the NUL, and the place behind the NUL.
use Rattle.std.specs.Prelude.{ℕ, ◌+◌, ◌-◌, Bool, List, eqb, length, drop, Option, Some, None}
use Rattle.numbers.specs.Spans.{Span, span, unended, span_to}
use Rattle.numbers.specs.declared.parts.Part.{Part}

abbrev pub is_nul : ℕ → Bool
is_nul b = eqb b 0

abbrev pub part_from : (place length : ℕ) → Part
part_from place length = record { place = place; length = length }

abbrev pub string_of : ℕ → Span → Option (Part × ℕ)
string_of at (span bs) = Some (part_from at (length bs - 1), at + length bs)
string_of at unended = None

unfoldable pub string_at : List ℕ → ℕ → Option (Part × ℕ)
string_at s at = string_of at (span_to is_nul (drop at s))
