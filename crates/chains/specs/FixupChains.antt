-- Chained fixups, as mach-o/fixup-chains.h has them: the header, the starts and the record of a segment, field by field, each with its width
-- and its place.
use Rattle.std.specs.Prelude.{ℕ, ◌+◌, ◌-◌, ◌*◌, ◌/◌, ◌%◌, ◌^◌, cond, not, List, ltb, eqb, length, Option, Some, None}
use Rattle.chains.specs.declared.Segment.{Segment}
use Rattle.chains.specs.declared.header.Header.{Header}
use Rattle.numbers.specs.LittleEndian.{little_endian, field_at}
use Rattle.numbers.specs.Then.{then}
use Rattle.refusal.specs.Numbers.{number_of}
use Rattle.refusal.specs.declared.Refusal.TheVariants.{FaultyChains, UnknownVersion}

-- bits `from` to `from + width - 1` of n; bit 0 is the lowest
abbrev pub bits : (from width n : ℕ) → ℕ
bits from width n = n / 2 ^ from % 2 ^ width

-- ---- dyld_chained_fixups_header

pub data HeaderAt : Type 0 where
  header : Header → HeaderAt
  no_header : (number : ℕ) → HeaderAt

-- seven fields of four bytes
abbrev pub header_of : List ℕ → Header
header_of s =
    record {
      fixups_version = little_endian 4 s 0;
      starts_offset = little_endian 4 s 4;
      imports_offset = little_endian 4 s 8;
      symbols_offset = little_endian 4 s 12;
      imports_count = little_endian 4 s 16;
      imports_format = little_endian 4 s 20;
      symbols_format = little_endian 4 s 24;
    }

-- 9 where they do not fit, then 10 where the version is not 0
unfoldable pub header_at : List ℕ → HeaderAt
header_at s =
    cond (ltb (length s) 28) (no_header (number_of FaultyChains))
    (cond (not (eqb (little_endian 4 s 0) 0)) (no_header (number_of UnknownVersion))
    (header (header_of s)))

unfoldable pub then_header : {A : Type 0} → HeaderAt → (refused : ℕ → A) → (Header → A) → A
then_header (header h) refused go = go h
then_header (no_header number) refused go = refused number

-- ---- dyld_chained_starts_in_image: seg_count, and seg_info_offset for each segment, all of four bytes

-- seg_info_offset[index] of the starts at a place: where the segment's record is, from that place; 0 if it has none
abbrev pub offset_at : List ℕ → (place index : ℕ) → ℕ
offset_at s place index = little_endian 4 s (place + 4 + 4 * index)

-- the place of the starts and the number of segments, where they can be read: the header (9, 10), and all of the starts in the bytes (9)
unfoldable pub then_starts : {A : Type 0} → List ℕ → (refused : ℕ → A) → ((place count : ℕ) → A) → A
then_starts s refused go =
    then_header (header_at s) refused
    (λ h.
    then (field_at 4 s h.starts_offset) (refused (number_of FaultyChains))
    (λ count at.
    cond (ltb (length s) (at + 4 * count)) (refused (number_of FaultyChains)) (go h.starts_offset count)))

-- ---- dyld_chained_starts_in_segment

-- the bytes of a record before its starts
abbrev pub record_size : ℕ
record_size = 22

-- how many starts, of two bytes each, a record of this size has
abbrev pub starts_in : (size : ℕ) → ℕ
starts_in size = (size - record_size) / 2

abbrev pub record_of : List ℕ → (index at : ℕ) → Segment
record_of s index at =
    record {
      index = index;
      page_size = little_endian 2 s (at + 4);
      pointer_format = little_endian 2 s (at + 6);
      segment_offset = little_endian 8 s (at + 8);
      max_valid_pointer = little_endian 4 s (at + 16);
      page_count = little_endian 2 s (at + 20);
      place = at + record_size;  -- page_start
      count = starts_in (little_endian 4 s at);  -- by the record's own size, which comes first
    }

-- the record at a place, of the segment of an index. It is faulty where its fields do not lie in the bytes, where its size is below theirs,
-- or where its starts do not lie in the bytes
unfoldable pub record_at : List ℕ → (index at : ℕ) → Option Segment
record_at s index at =
    cond (ltb (length s) (at + record_size)) None
    (cond (ltb (little_endian 4 s at) record_size) None
    (cond (ltb (length s) (at + record_size + 2 * starts_in (little_endian 4 s at))) None
    (Some (record_of s index at))))
