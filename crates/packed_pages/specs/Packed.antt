-- Walks over pages at the boundary: a start by the record of a segment, and a state and an item in words.
use Rattle.std.specs.Prelude.{ℕ, ◌*◌, cond, List, [], ◌∷◌, ◌++◌, eqb}
use Rattle.packed_segments.specs.Packed.{segment_fields, segment_words, segment_at}
use Rattle.packing.specs.Boundary.{States, Items, unfit}
use Rattle.packing.specs.Fields.{flag, u64, is_record, is_set, bit}
use Rattle.packing.specs.Words.{word_at, bytes_of}
use Rattle.pages.specs.Call.{begin}
use Rattle.pages.specs.ChainedPointers.{rebase, bind, patch}
use Rattle.pages.specs.Due.{linked, more, due_of}
use Rattle.pages.specs.declared.PageWalk.{PageWalk}
use Rattle.pages.specs.declared.Patch.{Patch}
use Rattle.pages.specs.declared.pointer.Fixup.{Fixup}
use Rattle.pages.specs.declared.pointer.Fixup.TheVariants.{Rebase, Bind}
use Rattle.runs.specs.Runs.{Begin, not_begun}

-- ---- states: the segment's record, then base, what is due by its two marks linked and more, page, chain, origin, offset, ended

abbrev pub state_fields : List ℕ
state_fields = segment_fields ++ (u64 ∷ flag ∷ flag ∷ u64 ∷ u64 ∷ u64 ∷ u64 ∷ flag ∷ [])

abbrev pub state_words : PageWalk → List ℕ
state_words w =
    segment_words w.segment
    ++ (w.base
    ∷ bit (linked w.due)
    ∷ bit (more w.due)
    ∷ w.page
    ∷ w.chain
    ∷ w.origin
    ∷ w.offset
    ∷ bit w.ended
    ∷ [])

abbrev pub state_at : List ℕ → PageWalk
state_at s =
    record {
      segment = segment_at s;
      base = word_at s 8;
      page = word_at s 11;
      chain = word_at s 12;
      origin = word_at s 13;
      offset = word_at s 14;
      due = due_of (is_set (word_at s 9)) (is_set (word_at s 10));
      ended = is_set (word_at s 15);
    }

abbrev pub states : States PageWalk
states =
    record {
      long = 8 * 16;
      bytes = λ w. bytes_of (state_words w);
      holds = λ s. is_record s state_fields;
      value = state_at;
    }

-- ---- a start: 19 where the segment's bytes are no record of one

unfoldable pub begin_at : (s segment : List ℕ) (base : ℕ) → Begin PageWalk
begin_at s segment base = cond (is_record segment segment_fields) (begin s (segment_at segment) base) (not_begun unfit)

-- ---- items: place, kind, target, ordinal, addend; what a fixup does not have is 0

abbrev pub fixup_words : Fixup → List ℕ
fixup_words (Rebase r) = 0 ∷ r.target ∷ 0 ∷ 0 ∷ []
fixup_words (Bind b) = 1 ∷ 0 ∷ b.ordinal ∷ b.addend ∷ []

abbrev pub item_words : Patch → List ℕ
item_words x = x.place ∷ fixup_words x.fixup

-- which item a record tells
abbrev pub item_at : List ℕ → Patch
item_at s = patch (word_at s 0) (cond (eqb (word_at s 1) 0) (rebase (word_at s 2)) (bind (word_at s 3) (word_at s 4)))

abbrev pub items : Items Patch
items =
    record {
      long = 8 * 5;
      bytes = λ x. bytes_of (item_words x);
      blank = bytes_of (0 ∷ 0 ∷ 0 ∷ 0 ∷ 0 ∷ []);
    }
