-- Bind walks at the boundary: a state and an item in words.
use Rattle.std.specs.Prelude.{ℕ, ◌*◌, ◌-◌, ◌^◌, Bool, ◌&&◌, ◌||◌, List, [], ◌∷◌, map, leb, length}
use Rattle.bind.specs.declared.Bind.{Bind}
use Rattle.bind.specs.declared.Registers.{Registers}
use Rattle.cursor.specs.declared.Cursor.{Cursor}
use Rattle.listing.specs.Call.{state}
use Rattle.listing.specs.declared.Walk.{Walk}
use Rattle.packing.specs.Boundary.{States, Items}
use Rattle.packing.specs.Fields.{flag, u8, u64, is_record, is_set, bit, unsigned_of, signed_of}
use Rattle.packing.specs.Words.{word_at, bytes_of}

-- ---- states

-- the fields in order, each by the largest value of its type and by its word
abbrev pub state_fields : List (ℕ × (Walk Registers → ℕ))
state_fields =
    (u64, λ w. w.cursor.at)
    ∷ (u8, λ w. w.cursor.size)
    ∷ (u64, λ w. w.cursor.remaining)
    ∷ (u64, λ w. w.cursor.advance)
    ∷ (u64, λ w. w.cursor.offset)
    ∷ (flag, λ w. bit w.cursor.ended)
    ∷ (flag, λ w. bit w.registers.lazy)
    ∷ (flag, λ w. bit w.registers.segmented)
    ∷ (flag, λ w. bit w.registers.typed)
    ∷ (flag, λ w. bit w.registers.sourced)
    ∷ (flag, λ w. bit w.registers.named)
    ∷ (u8, λ w. w.registers.segment)
    ∷ (u8, λ w. w.registers.kind)
    ∷ (u64, λ w. unsigned_of w.registers.library)
    ∷ (u64, λ w. w.registers.name.place)
    ∷ (u64, λ w. w.registers.name.length)
    ∷ (u8, λ w. w.registers.flags)
    ∷ (u64, λ w. unsigned_of w.registers.addend)
    ∷ []

abbrev pub largest : List ℕ
largest = map (λ f. f.0) state_fields

abbrev pub state_words : Walk Registers → List ℕ
state_words w = map (λ f. f.1 w) state_fields

-- a signed number of 32 bits as a word
abbrev pub is_i32 : ℕ → Bool
is_i32 v = leb v (2 ^ 31 - 1) || leb (2 ^ 64 - 2 ^ 31) v

-- the library is one
abbrev pub is_state : List ℕ → Bool
is_state s = is_record s largest && is_i32 (word_at s 13)

abbrev pub cursor_at : List ℕ → Cursor
cursor_at s =
    record {
      at = word_at s 0;
      size = word_at s 1;
      remaining = word_at s 2;
      advance = word_at s 3;
      offset = word_at s 4;
      ended = is_set (word_at s 5);
    }

abbrev pub registers_at : List ℕ → Registers
registers_at s =
    record {
      lazy = is_set (word_at s 6);
      segmented = is_set (word_at s 7);
      typed = is_set (word_at s 8);
      sourced = is_set (word_at s 9);
      named = is_set (word_at s 10);
      segment = word_at s 11;
      kind = word_at s 12;
      library = signed_of (word_at s 13);
      name = record { place = word_at s 14; length = word_at s 15 };
      flags = word_at s 16;
      addend = signed_of (word_at s 17);
    }

abbrev pub state_at : List ℕ → Walk Registers
state_at s = state (cursor_at s) (registers_at s)

abbrev pub states : States (Walk Registers)
states =
    record {
      long = 8 * length state_fields;
      bytes = λ w. bytes_of (state_words w);
      holds = is_state;
      value = state_at;
    }

-- ---- items; of the name the place and the length

abbrev pub item_fields : List (ℕ × (Bind → ℕ))
item_fields =
    (u8, λ x. x.segment)
    ∷ (u64, λ x. x.offset)
    ∷ (u8, λ x. x.kind)
    ∷ (u64, λ x. unsigned_of x.library)
    ∷ (u64, λ x. x.name.place)
    ∷ (u64, λ x. x.name.length)
    ∷ (u8, λ x. x.flags)
    ∷ (u64, λ x. unsigned_of x.addend)
    ∷ []

abbrev pub item_words : Bind → List ℕ
item_words x = map (λ f. f.1 x) item_fields

-- which item a record tells
abbrev pub item_at : List ℕ → Bind
item_at s =
    record {
      segment = word_at s 0;
      offset = word_at s 1;
      kind = word_at s 2;
      library = signed_of (word_at s 3);
      name = record { place = word_at s 4; length = word_at s 5 };
      flags = word_at s 6;
      addend = signed_of (word_at s 7);
    }

abbrev pub items : Items Bind
items =
    record {
      long = 8 * length item_fields;
      bytes = λ x. bytes_of (item_words x);
      blank = bytes_of (map (λ f. 0) item_fields);
    }
