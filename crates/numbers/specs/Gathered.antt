-- The contract of the private `gather`, which no public promise cites: what the bytes before the last are worth, what the last counts,
-- the last, and the place behind it.
use Rattle.std.specs.Prelude.{ℕ, ◌+◌, ◌-◌, ◌^◌, cond, List, ltb, length, get_or, take, Option, Some, None}
use Rattle.numbers.specs.Leb128.{bytes_at, tenth, unsigned}
use Rattle.numbers.specs.Spans.{Span, span, unended}
use Rattle.numbers.specs.declared.leb128.Gathered.{Gathered}
use Rattle.numbers.specs.declared.leb128.Gathered.TheVariants.{Few, Ten}

abbrev pub gathered : ℕ → Span → Option Gathered
gathered at (span bs) =
    cond (ltb (length bs) 10)
    (Some (Few (unsigned (take (length bs - 1) bs)) (128 ^ (length bs - 1)) (get_or bs (length bs - 1) 0) (at + length bs)))
    (cond (ltb (tenth bs) 128)
    (Some (Ten (unsigned (take 9 bs)) (tenth bs) (at + 10)))
    None)
gathered at unended = None

unfoldable pub gathered_at : List ℕ → ℕ → Option Gathered
gathered_at s at = gathered at (bytes_at s at)
