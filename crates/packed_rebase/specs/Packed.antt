-- Rebase walks at the boundary: a state and an item in words.
use Rattle.std.specs.Prelude.{ℕ, ◌*◌, List, [], ◌∷◌, map, length}
use Rattle.listing.specs.Call.{state}
use Rattle.listing.specs.declared.Walk.{Walk}
use Rattle.packing.specs.Boundary.{States, Items}
use Rattle.packing.specs.Fields.{flag, u8, u64, is_record, is_set, bit}
use Rattle.packing.specs.Words.{word_at, bytes_of}
use Rattle.rebase.specs.declared.Rebase.{Rebase}
use Rattle.rebase.specs.declared.Registers.{Registers}

-- ---- states

-- the fields in order, each by the largest value of its type and by its word
abbrev pub state_fields : List (ℕ × (Walk Registers → ℕ))
state_fields =
    (u64, λ w. w.cursor.at)
    ∷ (u8, λ w. w.cursor.size)
    ∷ (u64, λ w. w.cursor.remaining)
    ∷ (u64, λ w. w.cursor.advance)
    ∷ (u64, λ w. w.cursor.offset)
    ∷ (flag, λ w. bit w.cursor.ended)
    ∷ (flag, λ w. bit w.registers.segmented)
    ∷ (flag, λ w. bit w.registers.typed)
    ∷ (u8, λ w. w.registers.segment)
    ∷ (u8, λ w. w.registers.kind)
    ∷ []

abbrev pub largest : List ℕ
largest = map (λ f. f.0) state_fields

abbrev pub state_words : Walk Registers → List ℕ
state_words w = map (λ f. f.1 w) state_fields

abbrev pub state_at : List ℕ → Walk Registers
state_at s =
    state
    (record {
      at = word_at s 0;
      size = word_at s 1;
      remaining = word_at s 2;
      advance = word_at s 3;
      offset = word_at s 4;
      ended = is_set (word_at s 5);
    })
    (record {
      segmented = is_set (word_at s 6);
      typed = is_set (word_at s 7);
      segment = word_at s 8;
      kind = word_at s 9;
    })

abbrev pub states : States (Walk Registers)
states =
    record {
      long = 8 * length state_fields;
      bytes = λ w. bytes_of (state_words w);
      holds = λ s. is_record s largest;
      value = state_at;
    }

-- ---- items

abbrev pub item_fields : List (ℕ × (Rebase → ℕ))
item_fields = (u8, λ x. x.segment) ∷ (u64, λ x. x.offset) ∷ (u8, λ x. x.kind) ∷ []

abbrev pub item_words : Rebase → List ℕ
item_words x = map (λ f. f.1 x) item_fields

-- which item a record tells
abbrev pub item_at : List ℕ → Rebase
item_at s = record { segment = word_at s 0; offset = word_at s 1; kind = word_at s 2 }

abbrev pub items : Items Rebase
items =
    record {
      long = 8 * length item_fields;
      bytes = λ x. bytes_of (item_words x);
      blank = bytes_of (map (λ f. 0) item_fields);
    }
