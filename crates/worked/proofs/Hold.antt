-- Every worked example holds of the definitions, by computation. Assumes nothing.
use mathlib.Core.Path.{◌≡◌, refl}
use mathlib.Core.List.{map}
use Rattle.cursor.specs.Motion.{turn_of}
use Rattle.listing.specs.Listing.{places, repeated, listed, listing_of, listing, heard}
use Rattle.listing.specs.Stream.{before, stream_in, stream_at}
use Rattle.numbers.specs.Digits.{from_digits}
use Rattle.numbers.specs.Leb128.{uleb_at, sleb_at}
use Rattle.numbers.specs.Parts.{part_of}
use Rattle.numbers.specs.Spans.{span_to}
use Rattle.numbers.specs.Strings.{string_at}
use Rattle.numbers.specs.Then.{then}
use Rattle.operations.specs.Table.{looked_up, operation_at}
use Rattle.places.specs.Places.{place_at, fits}
use Rattle.preflight.specs.Verdict.{inside, verdict, with_sizes, preflight}
use Rattle.worked.specs.Examples.{all_named, examples, defined, documented}

pub examples_hold : map defined examples ≡ map documented examples
unfolding uleb_at sleb_at string_at span_to from_digits part_of then looked_up operation_at before stream_in stream_at place_at turn_of places repeated listed listing_of listing heard all_named fits inside verdict with_sizes preflight
examples_hold = refl
