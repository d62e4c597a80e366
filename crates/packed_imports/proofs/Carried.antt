-- States of walks over imports in bytes, both ways; and what calls in a row through the entry points say. Assumes nothing.
use Prim.Native.Nat.{ℕ, ◌^◌, ◌≤◌, ◌<◌}
use mathlib.Core.Path.{◌≡◌, refl, ap, ◌∙◌}
use mathlib.Core.Bool.{Bool, true}
use mathlib.Core.List.{List, [], ◌∷◌}
use native.Mathlib.Omega.{arith}
use lib.ListN.{length, get_or}
use Rattle.imports.proofs.Joined.{joined}
use Rattle.imports.proofs.Kept.{out_of_range_lem}
use Rattle.imports.proofs.Typed.{Typed, TypedImport, typed_begin, typed_call, typed_item}
use Rattle.imports.specs.Call.{begin, out_of_range, call}
use Rattle.imports.specs.Listing.{listing}
use Rattle.imports.specs.declared.Import.{Import}
use Rattle.imports.specs.declared.ImportWalk.{ImportWalk}
use Rattle.numbers.specs.Strings.{part_from}
use Rattle.packing.proofs.Back.{Each, none, word_field, flag_field, each_at, word_back, record_back, flag_back}
use Rattle.packing.proofs.Calls.{Faithful, Long, started_say, records_back, refused_back}
use Rattle.packing.proofs.Fields.{record_long, at_most}
use Rattle.packing.proofs.Signs.{signed_back, unsigned_less, widened, narrow_back}
use Rattle.packing.proofs.Whole.{Bytes, words_whole, flag_whole}
use Rattle.packing.proofs.Words.{length-bytes}
use Rattle.packing.specs.Boundary.{started, stepped}
use Rattle.packing.specs.Calls.{lent, through, recorded}
use Rattle.packing.specs.Fields.{u64, is_record, is_set, bit, signed_of}
use Rattle.packing.specs.Fields as fields
use Rattle.packing.specs.Words.{word_at, words_from, bytes_of}
use Rattle.packed_imports.specs.Packed.{state_fields, state_words, state_at, states, item_words, item_at, items}
use Rattle.runs.specs.Runs.{begun, item, mapped, Walks}

-- ---- a state whose fields are such as their types have comes back from its bytes whole

module _ (w : ImportWalk) (t : Typed w) where
  each : Each (state_words w) state_fields
  each = word_field (word_field (word_field (word_field (flag_field none w.ended) t.imports_format) t.left) t.symbols_offset) t.place

  back : (i : ℕ) → i < 5 → word_at (bytes_of (state_words w)) i ≡ get_or (state_words w) i 0
  back i h = word_back (state_words w) i h (each_at each i h)

  flag : (i : ℕ) (b : Bool) → i < 5 → get_or (state_words w) i 0 ≡ bit b → is_set (word_at (bytes_of (state_words w)) i) ≡ b
  flag i b h q = ap is_set (back i h ∙ q) ∙ flag_back b

  whole : state_at (bytes_of (state_words w)) ≡ w
  whole =
      λ j.
      record {
        place = back 0 (omega arith) j;
        symbols_offset = back 1 (omega arith) j;
        left = back 2 (omega arith) j;
        imports_format = back 3 (omega arith) j;
        ended = flag 4 w.ended (omega arith) refl j;
      }

-- ---- bytes that hold a state are those of that state

module _ (s : List ℕ) (h : is_record s state_fields ≡ true) where
  most : (i : ℕ) → i < 5 → word_at s i ≤ get_or state_fields i 0
  most = at_most state_fields s h

  typed_at : Typed (state_at s)
  typed_at =
      record {
        place = omega (arith, most 0 (omega arith));
        symbols_offset = omega (arith, most 1 (omega arith));
        left = omega (arith, most 2 (omega arith));
        imports_format = omega (arith, most 3 (omega arith));
      }

  words : state_words (state_at s) ≡ words_from s 0 5
  unfolding words_from
  words =
      λ j. word_at s 0 ∷ word_at s 1 ∷ word_at s 2 ∷ word_at s 3 ∷ flag_whole (word_at s 4) (most 4 (omega arith)) j ∷ []

faithful : Faithful states Typed
faithful =
    record {
      holds = λ w t. record_back (each w t);
      whole = whole;
      typed = λ s b h. typed_at s h;
      back = λ s b h. ap bytes_of (words s h) ∙ words_whole s b 5 (record_long state_fields s h refl);
    }

long : Long items
long x = length-bytes (item_words x)

-- ---- an item whose fields are such as their types have is the one that its record tells

module _ (x : Import) (t : TypedImport x) where
  item_each : Each (item_words x) (u64 ∷ fields.flag ∷ u64 ∷ u64 ∷ u64 ∷ [])
  item_each =
      word_field (flag_field (word_field (word_field (word_field none t.length) t.place) (unsigned_less x.addend t.addend)) x.weak)
      (unsigned_less x.library (widened x.library t.library))

  item_back : (i : ℕ) → i < 5 → word_at (items.bytes x) i ≡ get_or (item_words x) i 0
  item_back i h = word_back (item_words x) i h (each_at item_each i h)

  tells : item_at (items.bytes x) ≡ x
  tells =
      λ j.
      record {
        library = (ap signed_of (item_back 0 (omega arith)) ∙ narrow_back x.library t.library) j;
        weak = (ap is_set (item_back 1 (omega arith)) ∙ flag_back x.weak) j;
        addend = (ap signed_of (item_back 2 (omega arith)) ∙ signed_back x.addend t.addend) j;
        name = part_from (item_back 3 (omega arith) j) (item_back 4 (omega arith) j);
      }

-- ---- calls through the entry points

module _ (s : List ℕ) (short : length s < 2 ^ 64) where
  -- from a start on they say what the bytes list
  pub calls_list : Bytes s → {w : ImportWalk} → begin s ≡ begun w → (state item : List ℕ) → length state ≡ 40 → length item ≡ 40 →
      Walks (through states items (call s)) (lent (started states state (begin s)).1 item) (recorded items (listing s))
  calls_list b {w} e =
      started_say states items Typed faithful long (call s) (typed_call s short) e (typed_begin s b e) (joined s w e)

  -- the record of every item that is yielded tells which it is
  pub items_back : Bytes s → (w : ImportWalk) {x : Import} {v : ImportWalk} → call s w ≡ item x v → item_at (items.bytes x) ≡ x
  items_back b w {x} e = tells x (typed_item s b short w e)

  -- so the records of all tell what the bytes list
  pub listing_back : Bytes s → {w : ImportWalk} → begin s ≡ begun w → mapped item_at (recorded items (listing s)) ≡ listing s
  listing_back b {w} e =
      records_back states items Typed faithful long (call s) (typed_call s short) item_at (λ w t x v. items_back b w) (joined s w e) (typed_begin s b e)

  -- a state out of range comes back as it came
  pub out_of_range_back : (state item : List ℕ) → Bytes state → is_record state state_fields ≡ true → length item ≡ 40 →
      out_of_range (state_at state).place (state_at state).symbols_offset (length s) ≡ true → stepped states items state item (call s) ≡ (19, state, items.blank)
  out_of_range_back state i b h l r =
      refused_back states items Typed faithful long (call s) (typed_call s short) state b h i l (out_of_range_lem s (state_at state) r)
