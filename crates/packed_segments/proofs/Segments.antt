-- Records of segments in bytes, both ways. Assumes nothing.
use Prim.Native.Nat.{ℕ, ◌≤◌, ◌<◌}
use mathlib.Core.Path.{◌≡◌}
use mathlib.Core.List.{List, ◌++◌}
use native.Mathlib.Omega.{arith}
use lib.ListN.{get_or}
use Rattle.chains.proofs.Typed.{TypedSegment}
use Rattle.chains.specs.declared.Segment.{Segment}
use Rattle.packing.proofs.Back.{Each, none, word_field, half_field, each_at, word_back}
use Rattle.packing.specs.Words.{word_at, bytes_of}
use Rattle.packed_segments.specs.Packed.{segment_fields, segment_words, segment_at}

module _ (g : Segment) where
  -- bytes that begin with its words hold it
  pub segment_at_lem : (s : List ℕ) → ((i : ℕ) → i < 8 → word_at s i ≡ get_or (segment_words g) i 0) → segment_at s ≡ g
  segment_at_lem s is =
      λ j.
      record {
        index = is 0 (omega arith) j;
        page_size = is 1 (omega arith) j;
        pointer_format = is 2 (omega arith) j;
        segment_offset = is 3 (omega arith) j;
        max_valid_pointer = is 4 (omega arith) j;
        page_count = is 5 (omega arith) j;
        place = is 6 (omega arith) j;
        count = is 7 (omega arith) j;
      }

  module _ (t : TypedSegment g) where
    -- its words before others
    pub segment_each : {vs rest : List ℕ} → Each vs rest → Each (segment_words g ++ vs) (segment_fields ++ rest)
    segment_each e =
        word_field (half_field (half_field (word_field (word_field (half_field (word_field (word_field e
        t.count) t.place) t.page_count) t.max_valid_pointer) t.segment_offset) t.pointer_format) t.page_size) t.index

    -- one whose fields are such as their types have comes back from its bytes whole
    pub segment_whole : segment_at (bytes_of (segment_words g)) ≡ g
    segment_whole = segment_at_lem _ (λ i h. word_back (segment_words g) i h (each_at (segment_each none) i h))

-- and bytes that fit hold such a one
pub segment_typed : (s : List ℕ) → ((i : ℕ) → i < 8 → word_at s i ≤ get_or segment_fields i 0) → TypedSegment (segment_at s)
segment_typed s most =
    record {
      index = omega (arith, most 0 (omega arith));
      page_size = omega (arith, most 1 (omega arith));
      pointer_format = omega (arith, most 2 (omega arith));
      segment_offset = omega (arith, most 3 (omega arith));
      max_valid_pointer = omega (arith, most 4 (omega arith));
      page_count = omega (arith, most 5 (omega arith));
      place = omega (arith, most 6 (omega arith));
      count = omega (arith, most 7 (omega arith));
    }
