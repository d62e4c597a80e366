-- Small chained fixups, one for each thing that they can do, with what each is to say.
use Rattle.std.specs.Prelude.{ℕ, ◌-◌, ◌^◌, true, List, [], ◌∷◌, pos, neg_ℤ}
use Rattle.chains.specs.Listing.{Entry, segment, refusal}
use Rattle.chains.specs.declared.Segment.{Segment}
use Rattle.imports.specs.declared.Import.{Import}
use Rattle.pages.specs.ChainedPointers.{rebase, bind, patch}
use Rattle.pages.specs.Listing as fixups
use Rattle.pages.specs.declared.Patch.{Patch}
use Rattle.runs.specs.Runs.{Run, stops, fails, gives}

-- ---- the fixups of a segment

-- the bytes of the starts and of the segment, the number of pages and their size, how many starts there are, the
-- format, the preferred address, and what is listed
pub record Sample : Type 0 where
  pub starts : List ℕ
  pub bytes : List ℕ
  pub pages : ℕ
  pub size : ℕ
  pub count : ℕ
  pub format : ℕ
  pub base : ℕ
  pub says : Run fixups.Paged

abbrev pub record_of : Sample → Segment
record_of x =
    record {
      index = 0;
      page_size = x.size;
      pointer_format = x.format;
      segment_offset = 0;
      max_valid_pointer = 0;
      page_count = x.pages;
      place = 0;
      count = x.count;
    }

-- reached from the page of an index, which is at an offset in the segment
abbrev pub of : (index origin : ℕ) → Patch → fixups.Paged
of index origin x = fixups.paged (record { index = index; origin = origin }) x

-- a list of two chains, at 0 and at 4; each has its second pointer eight bytes behind the first
abbrev pub interleaved : Sample
interleaved =
    record {
      starts = 0x01 ∷ 0x80 ∷ 0x00 ∷ 0x00 ∷ 0x04 ∷ 0x80 ∷ [];
      bytes =
          0x10 ∷ 0x00 ∷ 0x00 ∷ 0x08 ∷ 0x01 ∷ 0x00 ∷ 0x30 ∷ 0x88 ∷ 0x20 ∷ 0x00 ∷ 0x00 ∷ 0x00 ∷ 0xff ∷ 0xff ∷ 0xff ∷ 0x83 ∷ [];
      pages = 1;
      size = 0x1000;
      count = 3;
      format = 3;
      base = 0x10;
      says =
          gives (of 0 0 (patch 0 (rebase 0)))
          (gives (of 0 0 (patch 8 (rebase 0x10)))
          (gives (of 0 0 (patch 4 (bind 1 3)))
          (gives (of 0 0 (patch 12 (bind 0xfffff 0x3f)))
          stops)));
    }

-- a list of chains that starts where the starts end
abbrev pub beyond_list : Sample
beyond_list =
    record {
      starts = 0x01 ∷ 0x80 ∷ [];
      bytes = [];
      pages = 1;
      size = 0x1000;
      count = 1;
      format = 2;
      base = 0;
      says = fails 12;
    }

-- a page that has no chain, though its start has the mark of a list
abbrev pub no_chain : Sample
no_chain =
    record {
      starts = 0xff ∷ 0xff ∷ [];
      bytes = [];
      pages = 1;
      size = 0x1000;
      count = 1;
      format = 2;
      base = 0;
      says = stops;
    }

-- a list that is the page's own start: index 0, and there offset 0 and the mark of the last chain
abbrev pub own_list : Sample
own_list =
    record {
      starts = 0x00 ∷ 0x80 ∷ [];
      bytes = 0x10 ∷ 0x00 ∷ 0x00 ∷ 0x00 ∷ [];
      pages = 1;
      size = 0x1000;
      count = 1;
      format = 3;
      base = 0;
      says = gives (of 0 0 (patch 0 (rebase 0x10))) stops;
    }

-- a pointer of eight bytes in seven
abbrev pub one_past : Sample
one_past =
    record {
      starts = 0x00 ∷ 0x00 ∷ [];
      bytes = 0x10 ∷ 0x00 ∷ 0x00 ∷ 0x00 ∷ 0x20 ∷ 0x01 ∷ 0x00 ∷ [];
      pages = 1;
      size = 0x1000;
      count = 1;
      format = 2;
      base = 0;
      says = fails 13;
    }

-- in eight: high8 is 0x12, the target 0x10
abbrev pub high : (format base target : ℕ) → Sample
high format base target =
    record {
      starts = 0x00 ∷ 0x00 ∷ [];
      bytes = 0x10 ∷ 0x00 ∷ 0x00 ∷ 0x00 ∷ 0x20 ∷ 0x01 ∷ 0x00 ∷ 0x00 ∷ [];
      pages = 1;
      size = 0x1000;
      count = 1;
      format = format;
      base = base;
      says = gives (of 0 0 (patch 0 (rebase target))) stops;
    }

-- two pages of eight bytes, of which the second has no chain: that of the first runs on into it, from 4 to 8
abbrev pub runs_on : Sample
runs_on =
    record {
      starts = 0x04 ∷ 0x00 ∷ 0xff ∷ 0xff ∷ [];
      bytes = 0x00 ∷ 0x00 ∷ 0x00 ∷ 0x00 ∷ 0x10 ∷ 0x00 ∷ 0x00 ∷ 0x04 ∷ 0x20 ∷ 0x00 ∷ 0x00 ∷ 0x00 ∷ [];
      pages = 2;
      size = 8;
      count = 2;
      format = 3;
      base = 0;
      says = gives (of 0 0 (patch 4 (rebase 0x10))) (gives (of 0 0 (patch 8 (rebase 0x20))) stops);
    }

-- a chain of its own for each of the two: a caller hears the same
abbrev pub each_its_own : Sample
each_its_own =
    record {
      starts = 0x04 ∷ 0x00 ∷ 0x00 ∷ 0x00 ∷ [];
      bytes = 0x00 ∷ 0x00 ∷ 0x00 ∷ 0x00 ∷ 0x10 ∷ 0x00 ∷ 0x00 ∷ 0x00 ∷ 0x20 ∷ 0x00 ∷ 0x00 ∷ 0x00 ∷ [];
      pages = 2;
      size = 8;
      count = 2;
      format = 3;
      base = 0;
      says = gives (of 0 0 (patch 4 (rebase 0x10))) (gives (of 1 8 (patch 8 (rebase 0x20))) stops);
    }

-- the base is the target, the target is below it, and the base is none
abbrev pub samples : List Sample
samples =
    interleaved
    ∷ beyond_list
    ∷ no_chain
    ∷ own_list
    ∷ one_past
    ∷ high 2 0x10 0x1200000000000000
    ∷ high 2 0x20 (2 ^ 64 - 0x10)
    ∷ high 6 0x20 0x1200000000000010
    ∷ runs_on
    ∷ each_its_own
    ∷ []

-- ---- segments

-- three: one without a record, one whose record says that it has 21 bytes, and one with one start
abbrev pub segment_bytes : List ℕ
segment_bytes =
    0x00 ∷ 0x00 ∷ 0x00 ∷ 0x00 ∷ 0x1c ∷ 0x00 ∷ 0x00 ∷ 0x00 ∷ 0x00 ∷ 0x00 ∷ 0x00 ∷ 0x00 ∷ 0x00 ∷ 0x00 ∷ 0x00 ∷ 0x00 ∷ 0x00 ∷ 0x00 ∷ 0x00 ∷ 0x00 ∷
    0x00 ∷ 0x00 ∷ 0x00 ∷ 0x00 ∷ 0x00 ∷ 0x00 ∷ 0x00 ∷ 0x00 ∷ 0x03 ∷ 0x00 ∷ 0x00 ∷ 0x00 ∷ 0x00 ∷ 0x00 ∷ 0x00 ∷ 0x00 ∷ 0x10 ∷ 0x00 ∷ 0x00 ∷ 0x00 ∷
    0x26 ∷ 0x00 ∷ 0x00 ∷ 0x00 ∷ 0x15 ∷ 0x00 ∷ 0x00 ∷ 0x00 ∷ 0x01 ∷ 0x00 ∷ 0x02 ∷ 0x00 ∷ 0x03 ∷ 0x00 ∷ 0x00 ∷ 0x00 ∷ 0x00 ∷ 0x00 ∷ 0x00 ∷ 0x00 ∷
    0x04 ∷ 0x00 ∷ 0x00 ∷ 0x00 ∷ 0x05 ∷ 0x00 ∷ 0x18 ∷ 0x00 ∷ 0x00 ∷ 0x00 ∷ 0x00 ∷ 0x10 ∷ 0x06 ∷ 0x00 ∷ 0x00 ∷ 0x40 ∷ 0x00 ∷ 0x00 ∷ 0x00 ∷ 0x00 ∷
    0x00 ∷ 0x00 ∷ 0x09 ∷ 0x00 ∷ 0x00 ∷ 0x00 ∷ 0x01 ∷ 0x00 ∷ 0xff ∷ 0xff ∷ []

abbrev pub segments_say : Run (Entry Segment)
segments_say =
    gives (refusal 9)
    (gives
    (segment
    (record {
      index = 2;
      page_size = 0x1000;
      pointer_format = 6;
      segment_offset = 0x4000;
      max_valid_pointer = 9;
      page_count = 1;
      place = 88;
      count = 1;
    }))
    stops)

-- ---- imports

-- one, of format 3: from library -2, weak, the name `_a`, and the addend -8
abbrev pub import_bytes : List ℕ
import_bytes =
    0x00 ∷ 0x00 ∷ 0x00 ∷ 0x00 ∷ 0x00 ∷ 0x00 ∷ 0x00 ∷ 0x00 ∷ 0x1c ∷ 0x00 ∷ 0x00 ∷ 0x00 ∷ 0x2c ∷ 0x00 ∷ 0x00 ∷ 0x00 ∷ 0x01 ∷ 0x00 ∷ 0x00 ∷ 0x00 ∷
    0x03 ∷ 0x00 ∷ 0x00 ∷ 0x00 ∷ 0x00 ∷ 0x00 ∷ 0x00 ∷ 0x00 ∷ 0xfe ∷ 0xff ∷ 0x01 ∷ 0x00 ∷ 0x01 ∷ 0x00 ∷ 0x00 ∷ 0x00 ∷ 0xf8 ∷ 0xff ∷ 0xff ∷ 0xff ∷
    0xff ∷ 0xff ∷ 0xff ∷ 0xff ∷ 0x00 ∷ 0x5f ∷ 0x61 ∷ 0x00 ∷ []

abbrev pub imports_say : Run Import
imports_say =
    gives (record { library = neg_ℤ (pos 2); weak = true; addend = neg_ℤ (pos 8); name = record { place = 45; length = 2 } }) stops
