-- Walks over segments at the boundary: a state and an item in words.
use Rattle.std.specs.Prelude.{ℕ, ◌*◌, List, [], ◌∷◌}
use Rattle.chains.specs.declared.Segment.{Segment}
use Rattle.chains.specs.declared.SegmentWalk.{SegmentWalk}
use Rattle.packing.specs.Boundary.{States, Items}
use Rattle.packing.specs.Fields.{u16, u64, is_record}
use Rattle.packing.specs.Words.{word_at, bytes_of}

-- ---- states: place, count, index

abbrev pub state_fields : List ℕ
state_fields = u64 ∷ u64 ∷ u64 ∷ []

abbrev pub state_words : SegmentWalk → List ℕ
state_words w = w.place ∷ w.count ∷ w.index ∷ []

abbrev pub state_at : List ℕ → SegmentWalk
state_at s = record { place = word_at s 0; count = word_at s 1; index = word_at s 2 }

abbrev pub states : States SegmentWalk
states =
    record {
      long = 8 * 3;
      bytes = λ w. bytes_of (state_words w);
      holds = λ s. is_record s state_fields;
      value = state_at;
    }

-- ---- items: the record of a segment, which a walk over its pages is started with: index, page_size, pointer_format,
-- segment_offset, max_valid_pointer, page_count, place, count

abbrev pub segment_fields : List ℕ
segment_fields = u64 ∷ u16 ∷ u16 ∷ u64 ∷ u64 ∷ u16 ∷ u64 ∷ u64 ∷ []

abbrev pub segment_words : Segment → List ℕ
segment_words g =
    g.index
    ∷ g.page_size
    ∷ g.pointer_format
    ∷ g.segment_offset
    ∷ g.max_valid_pointer
    ∷ g.page_count
    ∷ g.place
    ∷ g.count
    ∷ []

abbrev pub segment_at : List ℕ → Segment
segment_at s =
    record {
      index = word_at s 0;
      page_size = word_at s 1;
      pointer_format = word_at s 2;
      segment_offset = word_at s 3;
      max_valid_pointer = word_at s 4;
      page_count = word_at s 5;
      place = word_at s 6;
      count = word_at s 7;
    }

abbrev pub items : Items Segment
items =
    record {
      long = 8 * 8;
      bytes = λ x. bytes_of (segment_words x);
      blank = bytes_of (0 ∷ 0 ∷ 0 ∷ 0 ∷ 0 ∷ 0 ∷ 0 ∷ 0 ∷ []);
    }
