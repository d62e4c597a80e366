-- What is told of a header that was read determines it: `header_told` loses nothing, so the contract of the header's reader leaves one answer
-- (of the walk's start and step: proofs/Unique.antt of runs). Assumes nothing.
use mathlib.Core.Path.{◌≡◌, refl, ap}
use Rattle.std.specs.Prelude.{Result, Ok, Err}
use Rattle.chains.specs.FixupChains.{HeaderAt, header, no_header}
use Rattle.chains.specs.Told.{header_told}
use Rattle.chains.specs.declared.header.Header.{Header}
use Rattle.refusal.proofs.Numbered.{refusal_of, refusal_back}
use Rattle.refusal.proofs.Unique.{one_each}
use Rattle.refusal.specs.declared.Refusal.{Refusal}

abbrev header_of : HeaderAt → Result Header Refusal
header_of (header h) = Ok h
header_of (no_header n) = Err (refusal_of n)

header_back : (r : Result Header Refusal) → header_of (header_told r) ≡ r
header_back (Ok h) = refl
header_back (Err e) = ap Err (refusal_back e)

pub header_one : (r q : Result Header Refusal) → header_told r ≡ header_told q → r ≡ q
header_one = one_each header_told header_of header_back
