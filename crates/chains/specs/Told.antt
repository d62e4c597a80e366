-- What the header's reader says.
use Rattle.std.specs.Prelude.{Result, Ok, Err}
use Rattle.chains.specs.FixupChains.{HeaderAt, header, no_header}
use Rattle.chains.specs.declared.header.Header.{Header}
use Rattle.refusal.specs.Numbers.{number_of}
use Rattle.refusal.specs.declared.Refusal.{Refusal}

abbrev pub header_told : Result Header Refusal → HeaderAt
header_told (Ok h) = header h
header_told (Err e) = no_header (number_of e)
