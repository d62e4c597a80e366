-- Walks over imports at the boundary: a state and an item in words.
use Rattle.std.specs.Prelude.{ℕ, ◌*◌, List, [], ◌∷◌}
use Rattle.imports.specs.declared.Import.{Import}
use Rattle.imports.specs.declared.ImportWalk.{ImportWalk}
use Rattle.numbers.specs.Strings.{part_from}
use Rattle.packing.specs.Boundary.{States, Items}
use Rattle.packing.specs.Fields.{flag, u64, is_record, is_set, bit, unsigned_of, signed_of}
use Rattle.packing.specs.Words.{word_at, bytes_of}

-- ---- states: place, symbols_offset, left, imports_format, ended

abbrev pub state_fields : List ℕ
state_fields = u64 ∷ u64 ∷ u64 ∷ u64 ∷ flag ∷ []

abbrev pub state_words : ImportWalk → List ℕ
state_words w = w.place ∷ w.symbols_offset ∷ w.left ∷ w.imports_format ∷ bit w.ended ∷ []

abbrev pub state_at : List ℕ → ImportWalk
state_at s =
    record {
      place = word_at s 0;
      symbols_offset = word_at s 1;
      left = word_at s 2;
      imports_format = word_at s 3;
      ended = is_set (word_at s 4);
    }

abbrev pub states : States ImportWalk
states =
    record {
      long = 8 * 5;
      bytes = λ w. bytes_of (state_words w);
      holds = λ s. is_record s state_fields;
      value = state_at;
    }

-- ---- items: library, weak, addend, and the place and length of the name

abbrev pub item_words : Import → List ℕ
item_words x = unsigned_of x.library ∷ bit x.weak ∷ unsigned_of x.addend ∷ x.name.place ∷ x.name.length ∷ []

-- which item a record tells
abbrev pub item_at : List ℕ → Import
item_at s =
    record {
      library = signed_of (word_at s 0);
      weak = is_set (word_at s 1);
      addend = signed_of (word_at s 2);
      name = part_from (word_at s 3) (word_at s 4);
    }

abbrev pub items : Items Import
items =
    record {
      long = 8 * 5;
      bytes = λ x. bytes_of (item_words x);
      blank = bytes_of (0 ∷ 0 ∷ 0 ∷ 0 ∷ 0 ∷ []);
    }
