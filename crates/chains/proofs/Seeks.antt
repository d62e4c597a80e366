-- The loop over segments. Assumes nothing.
use Rattle.std.proofs.Common.{◌≡◌, ℕ, suc, ◌+◌, ◌-◌, ◌*◌, ◌≤◌, ◌<◌, min, max, List, length, sym, ap, ◌∙◌, arith, lt-ltb, le-leb, eq-eqb, ne_eqb}
use native.Mathlib.Decide.{dec_le}
use native.Mathlib.Nat.{min-eq_left}
use Rattle.std.specs.Prelude.{Option, Some, IsSome}
use Rattle.chains.specs.Call.{at_index, recorded, seek, call}
use Rattle.chains.specs.FixupChains.{offset_at, record_size, record_at}
use Rattle.chains.specs.declared.SegmentWalk.{SegmentWalk}
use Rattle.numbers.proofs.Rows.{field_value}
use Rattle.numbers.specs.LittleEndian.{field_at}
use Rattle.runs.specs.Runs.{end}

-- the segments before an index have no record, and from there on the call is still to be answered
pub record Seeking (s : List ℕ) (w : SegmentWalk) (index : ℕ) : Type 0 where
  pub inside : w.place + 4 + 4 * w.count ≤ length s
  pub near : index ≤ max w.index w.count
  pub rest : call s w ≡ seek s w (w.count - index) index

-- a place that a usize has not is beyond the bytes, as is the largest
pub record_far : (s : List ℕ) (index at : ℕ) → length s ≤ 0xffff_ffff_ffff_ffff → record_at s index (min at 0xffff_ffff_ffff_ffff) ≡ record_at s index at
unfolding record_at
record_far s index at l =
    elim (dec_le at 0xffff_ffff_ffff_ffff) [
      | yes h ↦ ap (record_at s index) (min-eq_left h)
      | no h ↦ rw (
        lt-ltb (length s) (min at 0xffff_ffff_ffff_ffff + record_size) (omega arith),
        lt-ltb (length s) (at + record_size) (omega arith),
      )
    ]

module _ (s : List ℕ) (w : SegmentWalk) where
  module _ {index : ℕ} (l : Seeking s w index) where
    next : index < w.count → w.count - index ≡ suc (w.count - (index + 1))
    next h = omega arith

    none_left : w.count ≤ index → w.count - index ≡ 0
    none_left h = omega arith

    module _ (h : index < w.count) {r : Option (ℕ × ℕ)} (e : r ≡ field_at 4 s (w.place + 4 + 4 * index)) where
      -- its offset lies in the bytes
      pub seek_read : IsSome r
      unfolding field_at
      seek_read = rw (e, le-leb (w.place + 4 + 4 * index + 4) (length s) (omega (arith, l.inside)))

      module _ {offset behind : ℕ} (f : r ≡ Some (offset, behind)) where
        offset_is : offset ≡ offset_at s w.place index
        offset_is = field_value 4 s (w.place + 4 + 4 * index) e f

        pub seek_on : offset ≡ 0 → Seeking s w (index + 1)
        unfolding seek
        seek_on z =
            record {
              inside = l.inside;
              near = omega arith;
              rest = l.rest ∙ ap (λ (n : ℕ). seek s w n index) (next h) ∙ rw (eq-eqb (offset_at s w.place index) 0 (sym offset_is ∙ z));
            }

        pub seek_found : (offset ≡ 0 → ⊥) → recorded (at_index (index + 1) w) (record_at s index (w.place + offset)) ≡ call s w
        unfolding seek
        seek_found z =
            ap (λ (o : ℕ). recorded (at_index (index + 1) w) (record_at s index (w.place + o))) offset_is
            ∙ sym (l.rest ∙ ap (λ (n : ℕ). seek s w n index) (next h) ∙ rw (ne_eqb (offset_at s w.place index) 0 (λ k. z (offset_is ∙ k))))

    pub seek_end : w.count ≤ index → end (at_index index w) ≡ call s w
    unfolding seek
    seek_end h = sym (l.rest ∙ ap (λ (n : ℕ). seek s w n index) (none_left h))
