-- What is read is such as its types have: a header, a segment, and the states of a walk, which a start and every call give. Refusals have a
-- number of the table. Assumes nothing.
use Prim.Native.Nat.{ℕ, ◌+◌, ◌*◌, ◌^◌, ◌<◌}
use mathlib.Core.Path.{◌≡◌, refl, subst}
use mathlib.Core.Bool.{not}
use mathlib.Core.List.{List}
use native.Mathlib.Omega.{arith}
use lib.Dec.{ltb, eqb}
use lib.ListN.{length}
use Rattle.chains.specs.Call.{begin, at_index, call}
use Rattle.chains.specs.FixupChains.{HeaderAt, header, no_header, header_at, then_starts}
use Rattle.chains.specs.declared.Segment.{Segment}
use Rattle.chains.specs.declared.SegmentWalk.{SegmentWalk}
use Rattle.chains.specs.declared.header.Header.{Header}
use Rattle.numbers.proofs.Picks.{by_pick}
use Rattle.numbers.proofs.Rows.{field_less}
use Rattle.numbers.proofs.Then.{by_read}
use Rattle.numbers.proofs.little_endian.Fields.{Bytes, field_below}
use Rattle.numbers.specs.LittleEndian.{little_endian, field_at}
use Rattle.refusal.proofs.Numbered.{IsNumber, is_number_lem}
use Rattle.refusal.specs.declared.Refusal.TheVariants.{FaultyChains, StateOutOfRange}
use Rattle.runs.proofs.Walks.{IfBegun, Hands}
use Rattle.runs.specs.Runs.{begun, item}
use Rattle.chains.proofs.Headers.{by_header}
use Rattle.chains.proofs.Inside.{by_call, by_found, yielded}

-- ---- a header

pub record TypedHeader (h : Header) : Type 0 where
  pub starts_offset : h.starts_offset < 2 ^ 64
  pub imports_offset : h.imports_offset < 2 ^ 64
  pub symbols_offset : h.symbols_offset < 2 ^ 64
  pub imports_count : h.imports_count < 2 ^ 64
  pub imports_format : h.imports_format < 2 ^ 64

abbrev IfHeader : HeaderAt → Type 0
IfHeader (header h) = TypedHeader h
IfHeader (no_header n) = Unit {0}

pub typed_header : (s : List ℕ) → Bytes s → {h : Header} → header_at s ≡ header h → TypedHeader h
unfolding header_at
typed_header s b e =
    subst IfHeader e
    (by_pick IfHeader (ltb (length s) 28) _ _ tt
    (by_pick IfHeader (not (eqb (little_endian 4 s 0) 0)) _ _ tt
    (record {
      starts_offset = field 4;
      imports_offset = field 8;
      symbols_offset = field 12;
      imports_count = field 16;
      imports_format = field 20;
    })))
  where
    field : (at : ℕ) → little_endian 4 s at < 2 ^ 64
    field at = omega (arith, field_below s 4 at b)

-- ---- a state

pub record Typed (w : SegmentWalk) : Type 0 where
  pub place : w.place < 2 ^ 64
  pub count : w.count < 2 ^ 64
  pub index : w.index < 2 ^ 64

-- a start
pub typed_begin : (s : List ℕ) → Bytes s → {w : SegmentWalk} → begin s ≡ begun w → Typed w
unfolding begin then_starts
typed_begin s b e =
    subst (IfBegun Typed) e
    (by_header (header_at s) _ _ (IfBegun Typed) (λ n. tt)
    (λ h i.
    by_read (field_at 4 s h.starts_offset) _ _ (IfBegun Typed) tt
    (λ count at f.
    by_pick (IfBegun Typed) (ltb (length s) (at + 4 * count)) _ _ tt
    (record { place = (typed_header s b i).starts_offset; count = omega (arith, field_less 4 s h.starts_offset refl f b); index = omega arith }))))

-- a call
module _ (s : List ℕ) (w : SegmentWalk) (t : Typed w) where
  at_index_lem : {i : ℕ} → i < 2 ^ 64 → Typed (at_index i w)
  at_index_lem h = record { place = t.place; count = t.count; index = h }

  pub typed_call : Hands Typed IsNumber (call s w)
  typed_call =
      by_call s w (Hands Typed IsNumber) (t, is_number_lem StateOutOfRange) (λ i l. at_index_lem (omega (arith, t.count, t.index)))
      (λ i l g e. at_index_lem (omega (arith, t.count))) (λ i l. (at_index_lem (omega (arith, t.count)), is_number_lem FaultyChains))

-- ---- a segment

pub record TypedSegment (g : Segment) : Type 0 where
  pub index : g.index < 2 ^ 64
  pub page_size : g.page_size < 2 ^ 16
  pub pointer_format : g.pointer_format < 2 ^ 16
  pub segment_offset : g.segment_offset < 2 ^ 64
  pub max_valid_pointer : g.max_valid_pointer < 2 ^ 64
  pub page_count : g.page_count < 2 ^ 16
  pub place : g.place < 2 ^ 64
  pub count : g.count < 2 ^ 64

-- every one that is yielded is
pub typed_segment : (s : List ℕ) → Bytes s → length s < 2 ^ 64 → (w : SegmentWalk) → Typed w → {g : Segment} {v : SegmentWalk} → call s w ≡ item g v → TypedSegment g
typed_segment s b short w t =
    yielded s TypedSegment w
    (λ index at l.
    by_found s TypedSegment index at
    (λ inside.
    record {
      index = omega (arith, t.count);
      page_size = omega (arith, field_below s 2 (at + 4) b);
      pointer_format = omega (arith, field_below s 2 (at + 6) b);
      segment_offset = omega (arith, field_below s 8 (at + 8) b);
      max_valid_pointer = omega (arith, field_below s 4 (at + 16) b);
      page_count = omega (arith, field_below s 2 (at + 20) b);
      place = omega (arith, inside, short);
      count = omega (arith, inside, short);
    }))
