-- The small chained fixups say what they are to say. Assumes nothing.
use mathlib.Core.Path.{◌≡◌, refl}
use mathlib.Core.List.{map}
use Rattle.chains.specs.FixupChains.{header_at, then_header, then_starts, record_at}
use Rattle.chains.specs.Listing.{segments}
use Rattle.chains.specs.Listing as chained
use Rattle.imports.specs.ChainedImports.{then_imports, plain_at, addend_at, addend64_at, then_record, import_at}
use Rattle.imports.specs.ChainedImports as import
use Rattle.imports.specs.Listing.{then_rest, imports}
use Rattle.imports.specs.Listing as imported
use Rattle.numbers.specs.Digits.{from_digits}
use Rattle.numbers.specs.LittleEndian.{little_endian, field_at}
use Rattle.numbers.specs.Spans.{span_to}
use Rattle.numbers.specs.Strings.{string_at}
use Rattle.numbers.specs.Then.{then}
use Rattle.pages.specs.ChainedPointers.{start_at, wide_fixup, narrow_fixup, fixup_of, next_of}
use Rattle.pages.specs.Listing.{chain_in, chain, chains, page, pages, listing, heard}
use Rattle.runs.specs.Runs.{◌then◌, mapped}
use Rattle.worked.specs.Fixups.{Sample, record_of, samples, runs_on, each_its_own, segment_bytes, segments_say, import_bytes, imports_say}

fixups_list : map (λ (x : Sample). listing x.starts x.bytes (record_of x) x.base) samples ≡ map (λ (x : Sample). x.says) samples
unfolding from_digits little_endian field_at then start_at wide_fixup narrow_fixup fixup_of next_of chain_in chain chains page pages listing ◌then◌
fixups_list = refl

-- two that list differently, by their pages, and are heard alike
heard_alike : heard runs_on.says ≡ heard each_its_own.says
unfolding mapped
heard_alike = refl

segments_list : chained.listing segment_bytes ≡ segments_say
unfolding from_digits little_endian field_at then header_at then_header then_starts record_at segments chained.listing
segments_list = refl

imports_list : imported.listing import_bytes ≡ imports_say
unfolding from_digits little_endian field_at then span_to string_at header_at then_header then_imports plain_at addend_at addend64_at import.record_at then_record import_at then_rest imports imported.listing
imports_list = refl
