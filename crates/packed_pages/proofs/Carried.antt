-- States of walks over pages in bytes, both ways; a start by the record of a segment; and what calls in a row through the entry points say.
-- Assumes nothing.
use Prim.Native.Nat.{ℕ, ◌*◌, ◌^◌, ◌≤◌, ◌<◌}
use mathlib.Core.Path.{◌≡◌, refl, ap, ap₂, ◌∙◌, subst}
use mathlib.Core.Bool.{Bool, true, cond}
use mathlib.Core.List.{List, [], ◌∷◌}
use native.Mathlib.Omega.{arith}
use lib.Dec.{eqb}
use lib.ListN.{length, drop, get_or, get_or-append}
use Rattle.chains.proofs.Typed as chains
use Rattle.chains.proofs.Typed.{TypedSegment}
use Rattle.chains.specs.Call as chains-call
use Rattle.chains.specs.declared.Segment.{Segment}
use Rattle.chains.specs.declared.SegmentWalk.{SegmentWalk}
use Rattle.packed_pages.proofs.Fixups.{five}
use Rattle.packed_pages.proofs.Records.{record_begun}
use Rattle.packed_pages.specs.Packed.{state_fields, state_words, state_at, states, begin_at, fixup_words, item_words, item_at, items}
use Rattle.packed_segments.proofs.Segments.{segment_at_lem, segment_each, segment_whole, segment_typed}
use Rattle.packed_segments.specs.Packed as segments
use Rattle.packed_segments.specs.Packed.{segment_fields, segment_words, segment_at}
use Rattle.packing.proofs.Back.{Each, none, word_field, flag_field, each_at, word_back, record_back, flag_back}
use Rattle.packing.proofs.Calls.{Faithful, Long, started_say, records_back, refused_back}
use Rattle.packing.proofs.Fields.{record_long, at_most}
use Rattle.packing.proofs.Whole.{Bytes, words_whole, flag_whole}
use Rattle.packing.proofs.Words.{length-bytes}
use Rattle.packing.specs.Boundary.{started, stepped}
use Rattle.packing.specs.Calls.{lent, through, recorded}
use Rattle.packing.specs.Fields.{is_record, is_set, bit}
use Rattle.packing.specs.Words.{word_at, words_from, bytes_of}
use Rattle.pages.proofs.Joined.{joined}
use Rattle.pages.proofs.Kept.{out_of_range_lem}
use Rattle.pages.proofs.Marks.{due_back, linked_back, more_back}
use Rattle.pages.proofs.Typed.{Typed, TypedFixup, typed_begin, typed_call, typed_item}
use Rattle.pages.specs.Call.{begin, out_of_range, call}
use Rattle.pages.specs.ChainedPointers.{rebase, bind, patch}
use Rattle.pages.specs.Due.{linked, more, due_of}
use Rattle.pages.specs.Listing.{listing, heard}
use Rattle.pages.specs.declared.PageWalk.{PageWalk}
use Rattle.pages.specs.declared.Patch.{Patch}
use Rattle.pages.specs.declared.pointer.Fixup.{Fixup}
use Rattle.pages.specs.declared.pointer.Fixup.TheVariants.{Rebase, Bind}
use Rattle.runs.specs.Runs.{begun, item, mapped, Walks}

-- ---- a state whose fields are such as their types have comes back from its bytes whole

module _ (w : PageWalk) (t : Typed w) where
  each : Each (state_words w) state_fields
  each =
      segment_each w.segment t.segment
      (word_field (flag_field (flag_field (word_field (word_field (word_field (word_field (flag_field none
      w.ended) t.offset) t.origin) t.chain) t.page) (more w.due)) (linked w.due)) t.base)

  back : (i : ℕ) → i < 16 → word_at (bytes_of (state_words w)) i ≡ get_or (state_words w) i 0
  back i h = word_back (state_words w) i h (each_at each i h)

  flag : (i : ℕ) (b : Bool) → i < 16 → get_or (state_words w) i 0 ≡ bit b → is_set (word_at (bytes_of (state_words w)) i) ≡ b
  flag i b h q = ap is_set (back i h ∙ q) ∙ flag_back b

  whole : state_at (bytes_of (state_words w)) ≡ w
  whole =
      λ j.
      record {
        segment = segment_at_lem w.segment _ (λ i h. back i (omega arith) ∙ get_or-append (segment_words w.segment) (drop 8 (state_words w)) 0 i h) j;
        base = back 8 (omega arith) j;
        page = back 11 (omega arith) j;
        chain = back 12 (omega arith) j;
        origin = back 13 (omega arith) j;
        offset = back 14 (omega arith) j;
        due = (ap₂ due_of (flag 9 (linked w.due) (omega arith) refl) (flag 10 (more w.due) (omega arith) refl) ∙ due_back w.due) j;
        ended = flag 15 w.ended (omega arith) refl j;
      }

-- ---- bytes that hold a state are those of that state

module _ (s : List ℕ) (h : is_record s state_fields ≡ true) where
  most : (i : ℕ) → i < 16 → word_at s i ≤ get_or state_fields i 0
  most = at_most state_fields s h

  typed_at : Typed (state_at s)
  typed_at =
      record {
        segment = segment_typed s (λ i l. subst (λ (n : ℕ). word_at s i ≤ n) (get_or-append segment_fields (drop 8 state_fields) 0 i l) (most i (omega arith)));
        base = omega (arith, most 8 (omega arith));
        page = omega (arith, most 11 (omega arith));
        chain = omega (arith, most 12 (omega arith));
        origin = omega (arith, most 13 (omega arith));
        offset = omega (arith, most 14 (omega arith));
      }

  words : state_words (state_at s) ≡ words_from s 0 16
  unfolding words_from
  words =
      λ j.
      word_at s 0
      ∷ word_at s 1
      ∷ word_at s 2
      ∷ word_at s 3
      ∷ word_at s 4
      ∷ word_at s 5
      ∷ word_at s 6
      ∷ word_at s 7
      ∷ word_at s 8
      ∷ (ap bit (linked_back (is_set (word_at s 9)) (is_set (word_at s 10))) ∙ flag_whole (word_at s 9) (most 9 (omega arith))) j
      ∷ (ap bit (more_back (is_set (word_at s 9)) (is_set (word_at s 10))) ∙ flag_whole (word_at s 10) (most 10 (omega arith))) j
      ∷ word_at s 11
      ∷ word_at s 12
      ∷ word_at s 13
      ∷ word_at s 14
      ∷ flag_whole (word_at s 15) (most 15 (omega arith)) j
      ∷ []

faithful : Faithful states Typed
faithful =
    record {
      holds = λ w t. record_back (each w t);
      whole = whole;
      typed = λ s b h. typed_at s h;
      back = λ s b h. ap bytes_of (words s h) ∙ words_whole s b 16 (record_long state_fields s h refl);
    }

long : Long items
long x = length-bytes (item_words x) ∙ ap (λ (n : ℕ). 8 * n) (five x)

-- ---- an item whose fields are such as their types have is the one that its record tells

tells : (vs : List ℕ) {largest : List ℕ} → Each vs largest → length vs ≡ 5 →
    item_at (bytes_of vs) ≡ patch (get_or vs 0 0) (cond (eqb (get_or vs 1 0) 0) (rebase (get_or vs 2 0)) (bind (get_or vs 3 0) (get_or vs 4 0)))
tells vs e l =
    λ j.
    patch (is 0 (omega arith) j)
    (cond (eqb (is 1 (omega arith) j) 0) (rebase (is 2 (omega arith) j)) (bind (is 3 (omega arith) j) (is 4 (omega arith) j)))
  where
    is : (i : ℕ) → i < 5 → word_at (bytes_of vs) i ≡ get_or vs i 0
    is i h = let k : i < length vs = omega (arith, l) in word_back vs i k (each_at e i k)

module _ (place : ℕ) (h : place < 2 ^ 64) where
  tells_fixup : (f : Fixup) → TypedFixup f → item_at (bytes_of (place ∷ fixup_words f)) ≡ patch place f
  tells_fixup (Rebase r) t =
      tells _ (word_field (word_field (word_field (word_field (word_field none {v = 0} (omega arith)) {v = 0} (omega arith)) t) {v = 0} (omega arith)) h) refl
  tells_fixup (Bind b) t =
      tells _ (word_field (word_field (word_field (word_field (word_field none t.1) t.0) {v = 0} (omega arith)) {v = 1} (omega arith)) h) refl

-- ---- a start by the bytes of a segment is a start by the segment

begins_by : (s : List ℕ) (g : Segment) → TypedSegment g → (base : ℕ) → begin_at s (bytes_of (segment_words g)) base ≡ begin s g base
unfolding begin_at
begins_by s g t base =
    rw (record_back (segment_each g t none)) (ap (λ (g : Segment). begin s g base) (segment_whole g t))

-- so the record that a step of the walk over segments told begins a walk over the pages of that segment
pub begins_told : (s : List ℕ) → Bytes s → length s < 2 ^ 64 → (w : SegmentWalk) → chains.Typed w → {g : Segment} {v : SegmentWalk} → chains-call.call s w ≡ item g v →
    (base : ℕ) → begin_at s ((segments.items).bytes g) base ≡ begin s g base
begins_told s b short w t {g} e = begins_by s g (chains.typed_segment s b short w t e)

-- ---- calls through the entry points

module _ (s contents : List ℕ) where
  -- a start by a record gives a state whose fields are such as their types have, and calls from there on say what is listed
  begins : length contents < 2 ^ 64 → (segment : List ℕ) (base : ℕ) → base < 2 ^ 64 → {w : PageWalk} → begin_at s segment base ≡ begun w →
      Typed w × Walks (call s contents) w (heard (listing s contents (segment_at segment) base))
  begins short segment base h {w} e =
      let b = record_begun s segment base e in
      let t = segment_typed segment (at_most segment_fields segment b.0) in
      (typed_begin s (segment_at segment) base t h b.1, joined s contents short (segment_at segment) base t w b.1)

  -- from a start on they say what the chains of the segment list
  pub calls_list : length contents < 2 ^ 64 → (segment : List ℕ) (base : ℕ) → base < 2 ^ 64 → {w : PageWalk} → begin_at s segment base ≡ begun w →
      (state item : List ℕ) → length state ≡ 128 → length item ≡ 40 →
      Walks (through states items (call s contents)) (lent (started states state (begin_at s segment base)).1 item)
      (recorded items (heard (listing s contents (segment_at segment) base)))
  calls_list short segment base h e =
      let b = begins short segment base h e in
      started_say states items Typed faithful long (call s contents) (typed_call s contents) e b.0 b.1

  -- the record of every item that is yielded tells which it is
  pub items_back : (w : PageWalk) → Typed w → {x : Patch} {v : PageWalk} → call s contents w ≡ item x v → item_at (items.bytes x) ≡ x
  items_back w t {x} e = let u = typed_item s contents w t e in tells_fixup x.place u.place x.fixup u.fixup

  -- so the records of all tell what the chains list
  pub listing_back : length contents < 2 ^ 64 → (segment : List ℕ) (base : ℕ) → base < 2 ^ 64 → {w : PageWalk} → begin_at s segment base ≡ begun w →
      mapped item_at (recorded items (heard (listing s contents (segment_at segment) base)))
      ≡ heard (listing s contents (segment_at segment) base)
  listing_back short segment base h e =
      let b = begins short segment base h e in
      records_back states items Typed faithful long (call s contents) (typed_call s contents) item_at (λ w t x v. items_back w t) b.1 b.0

  -- a state out of range comes back as it came
  pub out_of_range_back : (state item : List ℕ) → Bytes state → is_record state state_fields ≡ true → length item ≡ 40 → out_of_range (state_at state) (length s) ≡ true →
      stepped states items state item (call s contents) ≡ (19, state, items.blank)
  out_of_range_back state i b h l r =
      refused_back states items Typed faithful long (call s contents) (typed_call s contents) state b h i l
      (out_of_range_lem s contents (state_at state) r)
