-- The worked examples: what a document says that some bytes mean, and what the definitions say. A row an example.
use Rattle.std.specs.Prelude.{ℕ, List, [], ◌∷◌, ℤ, pos, neg_ℤ, length, Option, Some}
use Rattle.bind.specs.Binds.{binds}
use Rattle.bind.specs.Binds as bind
use Rattle.bind.specs.declared.Bind.{Bind}
use Rattle.listing.specs.Listing.{listing, heard}
use Rattle.numbers.specs.Leb128.{uleb_at, sleb_at}
use Rattle.numbers.specs.Parts.{part_of}
use Rattle.preflight.specs.Verdict.{Verdict, pass, fault, preflight}
use Rattle.rebase.specs.Rebases.{rebases}
use Rattle.rebase.specs.Rebases as rebase
use Rattle.rebase.specs.declared.Rebase.{Rebase}
use Rattle.runs.specs.Runs.{Run, stops, fails, gives}

-- a place of a rebase stream
abbrev pub place : (segment offset kind : ℕ) → Rebase
place segment offset kind = record { segment = segment; offset = offset; kind = kind }

-- a place of a bind stream, with the name itself
pub data Symbol : Type 0 where
  symbol : (segment offset kind : ℕ) → (library : ℤ) → (name : List ℕ) → (flags : ℕ) → (addend : ℤ) → Symbol

abbrev pub named : List ℕ → Bind → Symbol
named bytes b =
    symbol b.segment b.offset b.kind b.library (part_of bytes b.name.place b.name.length) b.flags b.addend

unfoldable pub all_named : List ℕ → Run Bind → Run Symbol
all_named bytes stops = stops
all_named bytes (fails number) = fails number
all_named bytes (gives b rest) = gives (named bytes b) (all_named bytes rest)

-- which stream, and so how a walk over it begins
pub data Stream : Type 0 where
  rebase_stream : Stream
  plain_binds : Stream
  weak_binds : Stream
  lazy_binds : Stream

pub data Example : Type 0 where
  uleb : ℕ → List ℕ → Example
  sleb : ℤ → List ℕ → Example
  -- streams, of pointer size 8: what they list, as a caller hears it; that calls from a start on say it is `Called`, Called.antt
  rebased : List ℕ → Run Rebase → Example
  bound : List ℕ → Run Symbol → Example  -- plain
  -- preflights, of a pointer size, with the sizes of the segments
  preflown : Stream → (size : ℕ) → (bytes sizes : List ℕ) → Verdict → Example

pub data Meaning : Type 0 where
  unsigned : Option (ℕ × ℕ) → Meaning
  signed : Option (ℤ × ℕ) → Meaning
  places : Run Rebase → Meaning
  symbols : Run Symbol → Meaning
  verdict : Verdict → Meaning

abbrev pub judged : Stream → (size : ℕ) → (sizes bytes : List ℕ) → Verdict
judged rebase_stream = preflight rebases rebase.unset
judged plain_binds = preflight binds bind.plainly
judged weak_binds = preflight binds bind.weakly
judged lazy_binds = preflight binds bind.lazily

-- what the definitions say
abbrev pub defined : Example → Meaning
defined (uleb n bytes) = unsigned (uleb_at bytes 0)
defined (sleb z bytes) = signed (sleb_at bytes 0)
defined (rebased bytes run) = places (heard (listing rebases 8 rebase.unset bytes))
defined (bound bytes run) = symbols (all_named bytes (heard (listing binds 8 bind.plainly bytes)))
defined (preflown stream size bytes sizes said) = verdict (judged stream size sizes bytes)

-- what the document says: of a number, that it is this one and the bytes are read to their end
abbrev pub documented : Example → Meaning
documented (uleb n bytes) = unsigned (Some (n, length bytes))
documented (sleb z bytes) = signed (Some (z, length bytes))
documented (rebased bytes run) = places run
documented (bound bytes run) = symbols run
documented (preflown stream size bytes sizes said) = verdict said

abbrev minus : ℕ → ℤ
minus n = neg_ℤ (pos n)

abbrev pub examples : List Example
examples =
    -- of DWARF 5, section 7.6: examples of unsigned and of signed LEB128
    uleb 2 (0x02 ∷ []) ∷
    uleb 127 (0x7f ∷ []) ∷
    uleb 128 (0x80 ∷ 0x01 ∷ []) ∷
    uleb 12857 (0xb9 ∷ 0x64 ∷ []) ∷
    sleb (minus 2) (0x7e ∷ []) ∷
    sleb (pos 127) (0xff ∷ 0x00 ∷ []) ∷
    sleb (minus 128) (0x80 ∷ 0x7f ∷ []) ∷
    sleb (minus 129) (0xff ∷ 0x7e ∷ []) ∷
    -- the cases S1 to S4 of opcode streams
    rebased (0x11 ∷ 0x22 ∷ 0x10 ∷ 0x53 ∷ 0x00 ∷ [])
    (gives (place 2 16 1) (gives (place 2 24 1) (gives (place 2 32 1) stops))) ∷
    bound (0x11 ∷ 0x40 ∷ 0x5f ∷ 0x61 ∷ 0x00 ∷ 0x51 ∷ 0x72 ∷ 0x08 ∷ 0x90 ∷ [])
    (gives (symbol 2 8 1 (pos 1) (0x5f ∷ 0x61 ∷ []) 0 (pos 0)) stops) ∷
    rebased (0x60 ∷ 0x00 ∷ []) stops ∷
    rebased (0x51 ∷ []) (fails 5) ∷
    -- the cases P1 and P2 of the preflight, each with a stream or a size that it faults
    preflown rebase_stream 8 (0x11 ∷ 0x22 ∷ 0x10 ∷ 0x53 ∷ 0x00 ∷ []) (0 ∷ 0 ∷ 40 ∷ []) (pass 4) ∷
    preflown rebase_stream 8 (0x11 ∷ 0x22 ∷ 0x10 ∷ 0x53 ∷ 0x00 ∷ []) (0 ∷ 0 ∷ 39 ∷ []) (fault 20 3 2) ∷
    preflown rebase_stream 8 (0x11 ∷ 0x22 ∷ 0x10 ∷ 0x80 ∷ 0x03 ∷ 0xf0 ∷ 0xff ∷ 0xff ∷ 0xff ∷ 0xff ∷ 0xff ∷ 0xff ∷ 0xff ∷ 0xff ∷ 0x01 ∷ [])
    (0 ∷ 0 ∷ 24 ∷ []) (pass 3) ∷
    preflown rebase_stream 8 (0x11 ∷ 0x22 ∷ 0x10 ∷ 0x80 ∷ 0x04 ∷ 0xf0 ∷ 0xff ∷ 0xff ∷ 0xff ∷ 0xff ∷ 0xff ∷ 0xff ∷ 0xff ∷ 0xff ∷ 0x01 ∷ [])
    (0 ∷ 0 ∷ 24 ∷ []) (fault 20 3 3) ∷
    -- faults behind other operations; each has the byte position where its own operation starts, and index 0 but for 20
    -- 2: behind an operation of three bytes, the byte 90, which is no opcode of a rebase stream
    preflown rebase_stream 8 (0x22 ∷ 0x80 ∷ 0x01 ∷ 0x90 ∷ []) (0 ∷ 0 ∷ 40 ∷ []) (fault 2 3 0) ∷
    -- 3: behind the type, a segment whose offset is cut off
    preflown rebase_stream 8 (0x11 ∷ 0x22 ∷ 0x80 ∷ []) (0 ∷ 0 ∷ 40 ∷ []) (fault 3 1 0) ∷
    -- 4: in a bind stream, behind the ordinal 2147483647, the ordinal 2147483648
    preflown plain_binds 8 (0x20 ∷ 0xff ∷ 0xff ∷ 0xff ∷ 0xff ∷ 0x07 ∷ 0x20 ∷ 0x80 ∷ 0x80 ∷ 0x80 ∷ 0x80 ∷ 0x08 ∷ []) [] (fault 4 6 0) ∷
    -- 5: behind the type, a place with no segment set; there are no sizes, and 5 comes before 20
    preflown rebase_stream 8 (0x11 ∷ 0x51 ∷ []) [] (fault 5 1 0) ∷
    -- 6: behind a segment and a repeat of no places, a place with no type set
    preflown rebase_stream 8 (0x22 ∷ 0x10 ∷ 0x60 ∷ 0x00 ∷ 0x51 ∷ []) (0 ∷ 0 ∷ 40 ∷ []) (fault 6 4 0) ∷
    -- 8: in a bind stream, behind library, type and segment, a place with no symbol set
    preflown plain_binds 8 (0x11 ∷ 0x51 ∷ 0x72 ∷ 0x08 ∷ 0x90 ∷ []) (0 ∷ 0 ∷ 40 ∷ []) (fault 8 4 0) ∷
    -- 20: behind the places 16 and 24, a repeat from 32 on, whose second place, 40, ends at 48 in a segment of 47 bytes
    preflown rebase_stream 8 (0x11 ∷ 0x22 ∷ 0x10 ∷ 0x52 ∷ 0x53 ∷ []) (0 ∷ 0 ∷ 47 ∷ []) (fault 20 4 1) ∷
    -- text relocations, of types 2 and 3, have four bytes
    -- one place at 36: the last four bytes of 40; one byte less; of type 1 it would end at 44
    preflown rebase_stream 8 (0x12 ∷ 0x22 ∷ 0x24 ∷ 0x51 ∷ []) (0 ∷ 0 ∷ 40 ∷ []) (pass 3) ∷
    preflown rebase_stream 8 (0x13 ∷ 0x22 ∷ 0x24 ∷ 0x51 ∷ []) (0 ∷ 0 ∷ 40 ∷ []) (pass 3) ∷
    preflown rebase_stream 8 (0x12 ∷ 0x22 ∷ 0x24 ∷ 0x51 ∷ []) (0 ∷ 0 ∷ 39 ∷ []) (fault 20 3 0) ∷
    preflown rebase_stream 8 (0x13 ∷ 0x22 ∷ 0x24 ∷ 0x51 ∷ []) (0 ∷ 0 ∷ 39 ∷ []) (fault 20 3 0) ∷
    preflown rebase_stream 8 (0x11 ∷ 0x22 ∷ 0x24 ∷ 0x51 ∷ []) (0 ∷ 0 ∷ 40 ∷ []) (fault 20 3 0) ∷
    -- with pointers of four bytes type 1 is no wider, and type 2 no narrower
    preflown rebase_stream 4 (0x11 ∷ 0x22 ∷ 0x24 ∷ 0x51 ∷ []) (0 ∷ 0 ∷ 40 ∷ []) (pass 3) ∷
    preflown rebase_stream 4 (0x12 ∷ 0x22 ∷ 0x24 ∷ 0x51 ∷ []) (0 ∷ 0 ∷ 39 ∷ []) (fault 20 3 0) ∷
    -- fifteen places, still eight bytes apart: the fifth, at 32, ends at 36, and the sixth is outside; one byte less, and the fifth is
    preflown rebase_stream 8 (0x12 ∷ 0x22 ∷ 0x00 ∷ 0x5f ∷ []) (0 ∷ 0 ∷ 36 ∷ []) (fault 20 3 5) ∷
    preflown rebase_stream 8 (0x12 ∷ 0x22 ∷ 0x00 ∷ 0x5f ∷ []) (0 ∷ 0 ∷ 35 ∷ []) (fault 20 3 4) ∷
    -- P2 with type 3: 16, 8 and 0, the first in the last four bytes of 20, and then below 0; one byte less, from 15 on: 15, 7, and below 0
    preflown rebase_stream 8 (0x13 ∷ 0x22 ∷ 0x10 ∷ 0x80 ∷ 0x05 ∷ 0xf0 ∷ 0xff ∷ 0xff ∷ 0xff ∷ 0xff ∷ 0xff ∷ 0xff ∷ 0xff ∷ 0xff ∷ 0x01 ∷ [])
    (0 ∷ 0 ∷ 20 ∷ []) (fault 20 3 3) ∷
    preflown rebase_stream 8 (0x13 ∷ 0x22 ∷ 0x0f ∷ 0x80 ∷ 0x05 ∷ 0xf0 ∷ 0xff ∷ 0xff ∷ 0xff ∷ 0xff ∷ 0xff ∷ 0xff ∷ 0xff ∷ 0xff ∷ 0x01 ∷ [])
    (0 ∷ 0 ∷ 19 ∷ []) (fault 20 3 2) ∷
    -- binds: plain, of type 3; weak, of type 2 and of the type of their start, 1
    preflown plain_binds 8 (0x11 ∷ 0x40 ∷ 0x61 ∷ 0x00 ∷ 0x53 ∷ 0x72 ∷ 0x24 ∷ 0x90 ∷ []) (0 ∷ 0 ∷ 40 ∷ []) (pass 5) ∷
    preflown plain_binds 8 (0x11 ∷ 0x40 ∷ 0x61 ∷ 0x00 ∷ 0x53 ∷ 0x72 ∷ 0x24 ∷ 0x90 ∷ []) (0 ∷ 0 ∷ 39 ∷ []) (fault 20 7 0) ∷
    preflown weak_binds 8 (0x40 ∷ 0x61 ∷ 0x00 ∷ 0x52 ∷ 0x72 ∷ 0x24 ∷ 0x90 ∷ []) (0 ∷ 0 ∷ 40 ∷ []) (pass 4) ∷
    preflown weak_binds 8 (0x40 ∷ 0x61 ∷ 0x00 ∷ 0x72 ∷ 0x24 ∷ 0x90 ∷ []) (0 ∷ 0 ∷ 40 ∷ []) (fault 20 5 0) ∷
    -- lazy: of type 2, then Done, which puts type 1 back, and the same place again
    preflown lazy_binds 8
    (0x11 ∷ 0x40 ∷ 0x61 ∷ 0x00 ∷ 0x52 ∷ 0x72 ∷ 0x24 ∷ 0x90 ∷ 0x00 ∷ 0x11 ∷ 0x40 ∷ 0x61 ∷ 0x00 ∷ 0x72 ∷ 0x24 ∷ 0x90 ∷ [])
    (0 ∷ 0 ∷ 40 ∷ []) (fault 20 15 0) ∷
    []
