-- States of rebase walks in bytes, both ways; and what calls in a row through the entry points say. Assumes nothing.
use Prim.Native.Nat.{ℕ, ◌^◌, ◌≤◌, ◌<◌}
use mathlib.Core.Path.{◌≡◌, refl, ap, ◌∙◌}
use mathlib.Core.Bool.{true, false}
use mathlib.Core.List.{List, map}
use native.Mathlib.Omega.{arith}
use lib.ListN.{length, get_or}
use Rattle.cursor.specs.Cursor.{in_range}
use Rattle.listing.proofs.Joined.{joined}
use Rattle.listing.proofs.Kept.{out_of_range}
use Rattle.listing.proofs.Typed.{Typed, typed_begin}
use Rattle.listing.specs.Call.{begin, call}
use Rattle.listing.specs.declared.Walk.{Walk}
use Rattle.listing.specs.Listing as listing
use Rattle.packing.proofs.Back.{Each, none, word_field, byte_field, flag_field, each_at, word_back, record_back, flag_back}
use Rattle.packing.proofs.Calls.{Faithful, Long, started_say, records_back, refused_back}
use Rattle.packing.proofs.Fields.{record_long, at_most}
use Rattle.packing.proofs.Whole.{Bytes, words_whole, flag_whole}
use Rattle.packing.proofs.Words.{length-bytes}
use Rattle.packing.specs.Boundary.{started, stepped}
use Rattle.packing.specs.Calls.{lent, through, recorded}
use Rattle.packing.specs.Fields.{is_record, is_set, bit}
use Rattle.packing.specs.Words.{word_at, words_from, bytes_of}
use Rattle.packed_rebase.specs.Packed.{state_fields, largest, state_words, state_at, states}
use Rattle.packed_rebase.specs.Packed.{item_fields, item_words, item_at, items}
use Rattle.rebase.proofs.Typed.{TypedRegisters, typed_unset, TypedRebase, typed_call, typed_item}
use Rattle.rebase.specs.Rebases.{unset, rebases}
use Rattle.rebase.specs.declared.Rebase.{Rebase}
use Rattle.rebase.specs.declared.Registers.{Registers}
use Rattle.runs.specs.Runs.{begun, item, mapped, Walks}

-- ---- a state whose fields are such as their types have comes back from its bytes whole

module _ (w : Walk Registers) (t : Typed TypedRegisters w) where
  each : Each (state_words w) largest
  each =
      let c = t.cursor in
      let g = t.registers in
      word_field (byte_field (word_field (word_field (word_field
      (flag_field (flag_field (flag_field (byte_field (byte_field none g.kind) g.segment) w.registers.typed) w.registers.segmented) w.cursor.ended)
      c.offset) c.advance) c.remaining) c.size) c.at

  back : (i : ℕ) → i < length state_fields → word_at (bytes_of (state_words w)) i ≡ get_or (state_words w) i 0
  back i h = word_back (state_words w) i h (each_at each i h)

  whole : state_at (bytes_of (state_words w)) ≡ w
  whole =
      rw (back 0 (omega arith), back 1 (omega arith), back 2 (omega arith), back 3 (omega arith), back 4 (omega arith))
      (rw (back 5 (omega arith), back 6 (omega arith), back 7 (omega arith), back 8 (omega arith), back 9 (omega arith))
      (rw (flag_back w.cursor.ended, flag_back w.registers.segmented, flag_back w.registers.typed)))

-- ---- bytes that hold a state are those of that state

module _ (s : List ℕ) (h : is_record s largest ≡ true) where
  most : (i : ℕ) → i < length state_fields → word_at s i ≤ get_or largest i 0
  most = at_most largest s h

  typed_at : Typed TypedRegisters (state_at s)
  typed_at =
      record {
        cursor =
            record {
              at = omega (arith, most 0 (omega arith));
              size = omega (arith, most 1 (omega arith));
              remaining = omega (arith, most 2 (omega arith));
              advance = omega (arith, most 3 (omega arith));
              offset = omega (arith, most 4 (omega arith));
            };
        registers = record { segment = omega (arith, most 8 (omega arith)); kind = omega (arith, most 9 (omega arith)) };
      }

  words : state_words (state_at s) ≡ words_from s 0 (length state_fields)
  unfolding words_from
  words =
      let flag : (i : ℕ) → word_at s i ≤ 1 → bit (is_set (word_at s i)) ≡ word_at s i = λ i. flag_whole (word_at s i) in
      rw (flag 5 (most 5 (omega arith)), flag 6 (most 6 (omega arith)), flag 7 (most 7 (omega arith)))

faithful : Faithful states (Typed TypedRegisters)
faithful =
    record {
      holds = λ w t. record_back (each w t);
      whole = whole;
      typed = λ s b h. typed_at s h;
      back = λ s b h. ap bytes_of (words s h) ∙ words_whole s b (length state_fields) (record_long largest s h refl);
    }

long : Long items
long x = length-bytes (item_words x)

-- ---- an item whose fields are such as their types have is the one that its record tells

module _ (x : Rebase) (t : TypedRebase x) where
  item_each : Each (item_words x) (map (λ f. f.0) item_fields)
  item_each = byte_field (word_field (byte_field none t.kind) t.offset) t.segment

  item_back : (i : ℕ) → i < length item_fields → word_at (items.bytes x) i ≡ get_or (item_words x) i 0
  item_back i h = word_back (item_words x) i h (each_at item_each i h)

  tells : item_at (items.bytes x) ≡ x
  tells = rw (item_back 0 (omega arith), item_back 1 (omega arith), item_back 2 (omega arith))

-- ---- calls through the entry points

module _ (s : List ℕ) (short : length s < 2 ^ 64) where
  -- from a start on they say what the stream lists
  pub calls_list : (size : ℕ) {w : Walk Registers} → begin size unset ≡ begun w →
      (state item : List ℕ) → length state ≡ states.long → length item ≡ items.long →
      Walks (through states items (call rebases s)) (lent (started states state (begin size unset)).1 item)
      (recorded items (listing.heard (listing.listing rebases size unset s)))
  calls_list size {w} e =
      started_say states items (Typed TypedRegisters) faithful long (call rebases s) (typed_call s short) e
      (typed_begin TypedRegisters size unset typed_unset e) (joined rebases s size unset w e)

  -- the record of every item that is yielded tells which it is
  pub items_back : (w : Walk Registers) → Typed TypedRegisters w → {x : Rebase} {v : Walk Registers} → call rebases s w ≡ item x v → item_at (items.bytes x) ≡ x
  items_back w t {x} e = tells x (typed_item s short w t e)

  -- so the records of all tell what the stream lists
  pub listing_back : (size : ℕ) {w : Walk Registers} → begin size unset ≡ begun w →
      mapped item_at (recorded items (listing.heard (listing.listing rebases size unset s))) ≡ listing.heard (listing.listing rebases size unset s)
  listing_back size {w} e =
      records_back states items (Typed TypedRegisters) faithful long (call rebases s) (typed_call s short) item_at (λ w t x v. items_back w t)
      (joined rebases s size unset w e) (typed_begin TypedRegisters size unset typed_unset e)

  -- a state out of range comes back as it came
  pub out_of_range_back : (state item : List ℕ) → Bytes state → is_record state largest ≡ true →
      length item ≡ items.long → in_range (state_at state).cursor (length s) ≡ false →
      stepped states items state item (call rebases s) ≡ (19, state, items.blank)
  out_of_range_back state i b h l r =
      refused_back states items (Typed TypedRegisters) faithful long (call rebases s) (typed_call s short) state b h i l
      (out_of_range rebases (state_at state) s r)

-- a state and an item have so many bytes
pub lengths : (states.long ≡ 80) × (items.long ≡ 24)
lengths = (refl, refl)
