-- States of walks over segments in bytes, both ways; and what calls in a row through the entry points say. Assumes nothing.
use Prim.Native.Nat.{ℕ, ◌+◌, ◌*◌, ◌^◌, ◌≤◌, ◌<◌}
use mathlib.Core.Path.{◌≡◌, refl, sym, ap, ◌∙◌, subst}
use mathlib.Core.Bool.{Bool, true, false, cond}
use mathlib.Core.List.{List, [], ◌∷◌}
use native.Mathlib.Omega.{arith}
use lib.Dec.{ltb, eqb}
use lib.ListN.{length, get_or}
use Rattle.chains.proofs.Inside.{out_of_range}
use Rattle.chains.proofs.Joined.{joined}
use Rattle.chains.proofs.Typed.{Typed, typed_begin, typed_call, typed_segment}
use Rattle.chains.specs.Call.{begin, call}
use Rattle.chains.specs.Hear.{as_entry, hear}
use Rattle.chains.specs.Listing.{segment, refusal, listing}
use Rattle.chains.specs.declared.Segment.{Segment}
use Rattle.chains.specs.declared.SegmentWalk.{SegmentWalk}
use Rattle.numbers.proofs.Picks.{by_pick}
use Rattle.packing.proofs.Back.{Each, none, word_field, each_at, word_back, record_back}
use Rattle.packing.proofs.Calls.{Faithful, Long, Lends, wrote, calls_alike, refused_back}
use Rattle.packing.proofs.Fields.{record_long, at_most}
use Rattle.packing.proofs.Whole.{Bytes, words_whole}
use Rattle.packing.proofs.Words.{length-bytes}
use Rattle.packing.specs.Boundary.{started, stepped}
use Rattle.packing.specs.Calls.{Lent, lent}
use Rattle.packing.specs.Fields.{is_record}
use Rattle.packing.specs.Words.{word_at, words_from, bytes_of}
use Rattle.packed_segments.specs.Calls.{hear_through, entry_record, entry_at}
use Rattle.packed_segments.specs.Packed.{state_fields, state_words, state_at, states, segment_words, segment_at, items}
use Rattle.packed_segments.proofs.Segments.{segment_whole}
use Rattle.refusal.proofs.Numbered.{IsNumber}
use Rattle.runs.proofs.Alike.{Alike, walks_alike}
use Rattle.runs.proofs.Walks.{Stays, IfItem, Hands, if_item, told_back}
use Rattle.runs.specs.Runs.{begun, Answer, item, end, refused, mapped, Walks}

-- ---- a state whose fields are such as their types have comes back from its bytes whole

module _ (w : SegmentWalk) (t : Typed w) where
  each : Each (state_words w) state_fields
  each = word_field (word_field (word_field none t.index) t.count) t.place

  back : (i : ℕ) → i < 3 → word_at (bytes_of (state_words w)) i ≡ get_or (state_words w) i 0
  back i h = word_back (state_words w) i h (each_at each i h)

  whole : state_at (bytes_of (state_words w)) ≡ w
  whole = λ j. record { place = back 0 (omega arith) j; count = back 1 (omega arith) j; index = back 2 (omega arith) j }

-- ---- bytes that hold a state are those of that state

module _ (s : List ℕ) (h : is_record s state_fields ≡ true) where
  most : (i : ℕ) → i < 3 → word_at s i ≤ get_or state_fields i 0
  most = at_most state_fields s h

  typed_at : Typed (state_at s)
  typed_at =
      record {
        place = omega (arith, most 0 (omega arith));
        count = omega (arith, most 1 (omega arith));
        index = omega (arith, most 2 (omega arith));
      }

  words : state_words (state_at s) ≡ words_from s 0 3
  unfolding words_from
  words = refl

faithful : Faithful states Typed
faithful =
    record {
      holds = λ w t. record_back (each w t);
      whole = whole;
      typed = λ s b h. typed_at s h;
      back = λ s b h. ap bytes_of (words s h) ∙ words_whole s b 3 (record_long state_fields s h refl);
    }

long : Long items
long x = length-bytes (segment_words x)

-- ---- a caller who goes on behind a refused record hears the same from two that say the same

abbrev Holds : SegmentWalk → Lent → Type 0
Holds = Lends states items Typed

entry_alike : (a : Answer SegmentWalk Segment) (b : Answer Lent (List ℕ)) → Alike Holds Holds items.bytes a b → Alike Holds Holds entry_record (as_entry a) (as_entry b)
entry_alike (item x w) b m = record { state = m.state; is = ap as_entry m.is; meets = m.meets }
entry_alike (end w) b m = record { state = m.state; is = ap as_entry m.is; meets = tt }
entry_alike (refused n w) b m =
    subst (Alike Holds Holds entry_record (as_entry (refused n w))) (sym (ap as_entry m.is)) (by (eqb n 9))
  where
    by : (t : Bool) → Alike Holds Holds entry_record (cond t (item (refusal n) w) (refused n w)) (cond t (item (refusal n) m.state) (refused n m.state))
    by true = record { state = m.state; is = refl; meets = m.meets }
    by false = record { state = m.state; is = refl; meets = m.meets }

-- what holds of an answer holds of it as an entry
entry_stays : (a : Answer SegmentWalk Segment) → Hands Typed IsNumber a → Stays Typed (as_entry a)
entry_stays (item x v) h = h
entry_stays (end v) h = tt
entry_stays (refused n v) h = by_pick (Stays Typed) (eqb n 9) (item (refusal n) v) (refused n v) h.0 tt

entry_back : (a : Answer SegmentWalk Segment) → IfItem (λ g. segment_at (items.bytes g) ≡ g) a → IfItem (λ x. entry_at (entry_record x) ≡ x) (as_entry a)
entry_back (item x v) h = ap segment h
entry_back (end v) h = tt
entry_back (refused n v) h = by_pick (IfItem (λ x. entry_at (entry_record x) ≡ x)) (eqb n 9) (item (refusal n) v) (refused n v) refl tt

-- ---- calls through the entry points

module _ (s : List ℕ) where
  hears_alike : (w : SegmentWalk) (r : Lent) → Holds w r → Alike Holds Holds entry_record (hear s w) (hear_through s r)
  hears_alike w r h =
      entry_alike (call s w) _
      (calls_alike states items Typed faithful long (call s) (typed_call s) Holds
      (λ w t. record { typed = t; state = refl; item = length-bytes (0 ∷ 0 ∷ 0 ∷ 0 ∷ 0 ∷ 0 ∷ 0 ∷ 0 ∷ []) }) w r h)

  -- from a start on they say what the starts list, to one who goes on behind a 9
  pub calls_list : Bytes s → {w : SegmentWalk} → begin s ≡ begun w → (state item : List ℕ) → length state ≡ 24 → length item ≡ 64 →
      Walks (hear_through s) (lent (started states state (begin s)).1 item) (mapped entry_record (listing s))
  calls_list b {w} e state i l m =
      walks_alike Holds Holds entry_record (hear s) (hear_through s) hears_alike (joined s w e)
      (record { typed = typed_begin s b e; state = ap (λ (p : ℕ × List ℕ). p.1) (wrote states e state l); item = m })

  -- the record of every segment that is yielded tells which it is
  pub items_back : Bytes s → length s < 2 ^ 64 → (w : SegmentWalk) → Typed w → {g : Segment} {v : SegmentWalk} → call s w ≡ item g v →
      segment_at (items.bytes g) ≡ g
  items_back b short w t {g} e = segment_whole g (typed_segment s b short w t e)

  -- so the records of all tell what the starts list
  pub listing_back : Bytes s → length s < 2 ^ 64 → {w : SegmentWalk} → begin s ≡ begun w → mapped entry_at (mapped entry_record (listing s)) ≡ listing s
  listing_back b short {w} e =
      told_back (hear s) entry_record entry_at Typed (λ w t. entry_stays (call s w) (typed_call s w t))
      (λ w t. entry_back (call s w) (if_item (λ g. segment_at (items.bytes g) ≡ g) (call s w) (λ g v. items_back b short w t)))
      (joined s w e) (typed_begin s b e)

  -- a state out of range comes back as it came
  pub out_of_range_back : (state item : List ℕ) → Bytes state → is_record state state_fields ≡ true → length item ≡ 64 →
      ltb (length s) ((state_at state).place + 4 + 4 * (state_at state).count) ≡ true → stepped states items state item (call s) ≡ (19, state, items.blank)
  out_of_range_back state i b h l r =
      refused_back states items Typed faithful long (call s) (typed_call s) state b h i l (out_of_range s (state_at state) r)
