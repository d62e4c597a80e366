-- States of bind walks in bytes, both ways; and what calls in a row through the entry points say. Assumes nothing.
use Prim.Native.Nat.{ℕ, ◌^◌, ◌≤◌, ◌<◌}
use mathlib.Core.Path.{◌≡◌, refl, ap, ◌∙◌}
use mathlib.Core.Bool.{true, false}
use mathlib.Core.List.{List, map}
use native.Mathlib.Omega.{arith}
use lib.ListN.{length, get_or}
use Rattle.bind.proofs.Typed.{TypedRegisters, TypedBind, typed_call, typed_item}
use Rattle.bind.specs.Binds.{binds}
use Rattle.bind.specs.declared.Bind.{Bind}
use Rattle.bind.specs.declared.Registers.{Registers}
use Rattle.cursor.specs.Cursor.{in_range}
use Rattle.listing.proofs.Joined.{joined}
use Rattle.listing.proofs.Kept.{out_of_range}
use Rattle.listing.proofs.Typed.{Typed, typed_begin}
use Rattle.listing.specs.Call.{begin, call}
use Rattle.listing.specs.declared.Walk.{Walk}
use Rattle.listing.specs.Listing as listing
use Rattle.packing.proofs.Back.{Each, none, word_field, byte_field, flag_field, each_at, word_back, record_back, flag_back}
use Rattle.packing.proofs.Calls.{Faithful, Long, started_say, records_back, refused_back}
use Rattle.packing.proofs.Fields.{record_long, at_most}
use Rattle.packing.proofs.Signs.{signed_fits, signed_back, unsigned_less, widened, narrow_back}
use Rattle.packing.proofs.Whole.{Bytes, words_whole, flag_whole, signed_whole}
use Rattle.packing.proofs.Words.{length-bytes}
use Rattle.packing.specs.Boundary.{started, stepped}
use Rattle.packing.specs.Calls.{lent, through, recorded}
use Rattle.packing.specs.Fields.{u64, is_set, bit, unsigned_of, signed_of}
use Rattle.packing.specs.Words.{word_at, words_from, bytes_of}
use Rattle.packed_bind.proofs.Signs.{i32_back, i32_fits}
use Rattle.packed_bind.proofs.States.{state_is, state_record, library_is}
use Rattle.packed_bind.specs.Packed.{state_fields, largest, is_i32, is_state, state_words, state_at, states}
use Rattle.packed_bind.specs.Packed.{item_fields, item_words, item_at, items}
use Rattle.runs.specs.Runs.{begun, item, mapped, Walks}

-- ---- a state whose fields are such as their types have comes back from its bytes whole

module _ (w : Walk Registers) (t : Typed TypedRegisters w) where
  each : Each (state_words w) largest
  each =
      let c = t.cursor in
      let g = t.registers in
      let r = w.registers in
      word_field (byte_field (word_field (word_field (word_field
      (flag_field (flag_field (flag_field (flag_field (flag_field (flag_field
      (byte_field (byte_field (word_field (word_field (word_field (byte_field (word_field none (unsigned_less r.addend g.addend)) g.flags) g.length) g.place) (unsigned_less r.library (widened r.library g.library))) g.kind) g.segment)
      r.named) r.sourced) r.typed) r.segmented) r.lazy) w.cursor.ended)
      c.offset) c.advance) c.remaining) c.size) c.at

  back : (i : ℕ) → i < length state_fields → word_at (bytes_of (state_words w)) i ≡ get_or (state_words w) i 0
  back i h = word_back (state_words w) i h (each_at each i h)

  whole : state_at (bytes_of (state_words w)) ≡ w
  whole =
      let g = w.registers in
      rw (back 0 (omega arith), back 1 (omega arith), back 2 (omega arith), back 3 (omega arith), back 4 (omega arith))
      (rw (back 5 (omega arith), back 6 (omega arith), back 7 (omega arith), back 8 (omega arith), back 9 (omega arith))
      (rw (back 10 (omega arith), back 11 (omega arith), back 12 (omega arith), back 13 (omega arith))
      (rw (back 14 (omega arith), back 15 (omega arith), back 16 (omega arith), back 17 (omega arith))
      (rw (flag_back w.cursor.ended, flag_back g.lazy, flag_back g.segmented, flag_back g.typed)
      (rw (flag_back g.sourced, flag_back g.named)
      (rw (narrow_back g.library t.registers.library, signed_back g.addend t.registers.addend)))))))

  holds : is_state (bytes_of (state_words w)) ≡ true
  holds =
      let i32 = i32_back w.registers.library t.registers.library in
      state_is (bytes_of (state_words w)) (record_back each) (ap is_i32 (back 13 (omega arith)) ∙ i32)

-- ---- bytes that hold a state are those of that state

module _ (s : List ℕ) (h : is_state s ≡ true) where
  most : (i : ℕ) → i < length state_fields → word_at s i ≤ get_or largest i 0
  most = at_most largest s (state_record s h)

  typed_at : Typed TypedRegisters (state_at s)
  typed_at =
      record {
        cursor =
            record {
              at = omega (arith, most 0 (omega arith));
              size = omega (arith, most 1 (omega arith));
              remaining = omega (arith, most 2 (omega arith));
              advance = omega (arith, most 3 (omega arith));
              offset = omega (arith, most 4 (omega arith));
            };
        registers =
            record {
              segment = omega (arith, most 11 (omega arith));
              kind = omega (arith, most 12 (omega arith));
              library = i32_fits (word_at s 13) refl (library_is s h refl) (omega (arith, most 13 (omega arith)));
              place = omega (arith, most 14 (omega arith));
              length = omega (arith, most 15 (omega arith));
              flags = omega (arith, most 16 (omega arith));
              addend = signed_fits (word_at s 17) (omega (arith, most 17 (omega arith)));
            };
      }

  words : state_words (state_at s) ≡ words_from s 0 (length state_fields)
  unfolding words_from
  words =
      let flag : (i : ℕ) → word_at s i ≤ 1 → bit (is_set (word_at s i)) ≡ word_at s i = λ i. flag_whole (word_at s i) in
      let signed : (i : ℕ) → word_at s i ≤ u64 → unsigned_of (signed_of (word_at s i)) ≡ word_at s i =
      λ i h. signed_whole (word_at s i) (omega arith) in
      rw (flag 5 (most 5 (omega arith)), flag 6 (most 6 (omega arith)), flag 7 (most 7 (omega arith)))
      (rw (flag 8 (most 8 (omega arith)), flag 9 (most 9 (omega arith)), flag 10 (most 10 (omega arith)))
      (rw (signed 13 (most 13 (omega arith)), signed 17 (most 17 (omega arith)))))

faithful : Faithful states (Typed TypedRegisters)
faithful =
    record {
      holds = holds;
      whole = whole;
      typed = λ s b h. typed_at s h;
      back =
          λ s b h.
          ap bytes_of (words s h) ∙ words_whole s b (length state_fields) (record_long largest s (state_record s h) refl);
    }

long : Long items
long x = length-bytes (item_words x)

-- ---- an item whose fields are such as their types have is the one that its record tells

module _ (x : Bind) (t : TypedBind x) where
  item_each : Each (item_words x) (map (λ f. f.0) item_fields)
  item_each =
      byte_field (word_field (byte_field (word_field (word_field (word_field (byte_field (word_field none (unsigned_less x.addend t.addend))
      t.flags) t.length) t.place) (unsigned_less x.library (widened x.library t.library))) t.kind) t.offset) t.segment

  item_back : (i : ℕ) → i < length item_fields → word_at (items.bytes x) i ≡ get_or (item_words x) i 0
  item_back i h = word_back (item_words x) i h (each_at item_each i h)

  tells : item_at (items.bytes x) ≡ x
  tells =
      let back = item_back in
      rw (back 0 (omega arith), back 1 (omega arith), back 2 (omega arith), back 3 (omega arith), back 4 (omega arith))
      (rw (back 5 (omega arith), back 6 (omega arith), back 7 (omega arith))
      (rw (narrow_back x.library t.library, signed_back x.addend t.addend)))

-- ---- calls through the entry points

module _ (s : List ℕ) (short : length s < 2 ^ 64) where
  -- from a start on they say what the stream lists; g is `plainly`, `weakly` or `lazily`, whose registers are `Typed` (bind/proofs/Typed.antt)
  pub calls_list : (size : ℕ) (g : Registers) → TypedRegisters g → {w : Walk Registers} → begin size g ≡ begun w →
      (state item : List ℕ) → length state ≡ states.long → length item ≡ items.long →
      Walks (through states items (call binds s)) (lent (started states state (begin size g)).1 item)
      (recorded items (listing.heard (listing.listing binds size g s)))
  calls_list size g t {w} e =
      started_say states items (Typed TypedRegisters) faithful long (call binds s) (typed_call s short) e
      (typed_begin TypedRegisters size g t e) (joined binds s size g w e)

  -- the record of every item that is yielded tells which it is
  pub items_back : (w : Walk Registers) → Typed TypedRegisters w → {x : Bind} {v : Walk Registers} → call binds s w ≡ item x v → item_at (items.bytes x) ≡ x
  items_back w t {x} e = tells x (typed_item s short w t e)

  -- so the records of all tell what the stream lists
  pub listing_back : (size : ℕ) (g : Registers) → TypedRegisters g → {w : Walk Registers} → begin size g ≡ begun w →
      mapped item_at (recorded items (listing.heard (listing.listing binds size g s))) ≡ listing.heard (listing.listing binds size g s)
  listing_back size g t {w} e =
      records_back states items (Typed TypedRegisters) faithful long (call binds s) (typed_call s short) item_at (λ w t x v. items_back w t)
      (joined binds s size g w e) (typed_begin TypedRegisters size g t e)

  -- a state out of range comes back as it came
  pub out_of_range_back : (state item : List ℕ) → Bytes state → is_state state ≡ true → length item ≡ items.long →
      in_range (state_at state).cursor (length s) ≡ false →
      stepped states items state item (call binds s) ≡ (19, state, items.blank)
  out_of_range_back state i b h l r =
      refused_back states items (Typed TypedRegisters) faithful long (call binds s) (typed_call s short) state b h i l
      (out_of_range binds (state_at state) s r)

-- a state and an item have so many bytes
pub lengths : (states.long ≡ 144) × (items.long ≡ 64)
lengths = (refl, refl)
