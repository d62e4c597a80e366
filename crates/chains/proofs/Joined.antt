-- Calls from a start on, each behind what the last refused, say what the starts list, and nothing else. Assumes nothing.
use Prim.Native.Nat.{ℕ, zero, suc, ◌+◌, ◌-◌, ◌*◌}
use mathlib.Core.Path.{◌≡◌, refl, ap, sym, ◌∙◌, subst}
use mathlib.Core.Bool.{Bool, true, false, cond}
use mathlib.Core.List.{List}
use native.Mathlib.Omega.{arith}
use borrow.Author.Tests.{le-ltb, ltb-false}
use lib.Dec.{ltb, eqb}
use lib.ListN.{length}
use Rattle.chains.proofs.Headers.{both_headers}
use Rattle.chains.proofs.Inside.{by_call}
use Rattle.chains.specs.Call.{at_start, begin, at_index, recorded, seek, call}
use Rattle.chains.specs.FixupChains.{header_at, offset_at, then_starts, record_at}
use Rattle.chains.specs.Hear.{as_entry, hear}
use Rattle.chains.specs.Listing.{Entry, entry, segments, listing}
use Rattle.chains.specs.declared.Segment.{Segment}
use Rattle.chains.specs.declared.SegmentWalk.{SegmentWalk}
use Rattle.std.specs.Prelude.{Option, Some, None}
use Rattle.numbers.proofs.Picks.{both_picks}
use Rattle.numbers.proofs.Rows.{field_ends}
use Rattle.numbers.proofs.Then.{both_reads}
use Rattle.numbers.specs.LittleEndian.{field_at}
use Rattle.runs.proofs.Walks.{shown, Stays, Starts, walks_ahead, walks_one}
use Rattle.runs.specs.Runs.{Begin, begun, not_begun, Answer, Run, fails, gives, Walks}

module _ (s : List ℕ) where
  abbrev pub Inside : SegmentWalk → Type 0
  Inside w = ltb (length s) (w.place + 4 + 4 * w.count) ≡ false

  -- what is ahead of a state
  abbrev pub ahead : SegmentWalk → Run (Entry Segment)
  ahead w = segments s w.place (w.count - w.index) w.index

  module _ (w : SegmentWalk) where
    says_record : (n i : ℕ) → n ≡ w.count - (i + 1) → (x : Option Segment) → gives (entry x) (segments s w.place n (i + 1)) ≡ shown ahead (as_entry (recorded (at_index (i + 1) w) x))
    unfolding recorded
    says_record n i e (Some x) = ap (λ (m : ℕ). gives (entry (Some x)) (segments s w.place m (i + 1))) e
    says_record n i e None = ap (λ (m : ℕ). gives (entry None) (segments s w.place m (i + 1))) e

    says_seek : (n i : ℕ) → w.count - i ≡ n → segments s w.place n i ≡ shown ahead (as_entry (seek s w n i))
    unfolding segments seek
    says_seek zero i e = refl
    says_seek (suc n) i e = by (eqb (offset_at s w.place i) 0) (says_seek n (i + 1) (omega arith))
      where
        by : (t : Bool) → segments s w.place n (i + 1) ≡ shown ahead (as_entry (seek s w n (i + 1))) →
            cond t (segments s w.place n (i + 1)) (gives (entry (record_at s i (w.place + offset_at s w.place i))) (segments s w.place n (i + 1)))
            ≡ shown ahead (as_entry (cond t (seek s w n (i + 1)) (recorded (at_index (i + 1) w) (record_at s i (w.place + offset_at s w.place i)))))
        by true later = later
        by false later = says_record n i (omega arith) (record_at s i (w.place + offset_at s w.place i))

    inside_call : Inside w → call s w ≡ seek s w (w.count - w.index) w.index
    unfolding call
    inside_call h = rw h

    says : Inside w → ahead w ≡ shown ahead (hear s w)
    says h = says_seek (w.count - w.index) w.index refl ∙ ap (λ (a : Answer SegmentWalk Segment). shown ahead (as_entry a)) (sym (inside_call h))

    stays : Inside w → Stays Inside (hear s w)
    stays h =
        by_call s w (λ (a : Answer SegmentWalk Segment). Stays Inside (as_entry a)) tt (λ i l. tt) (λ i l g e. h) (λ i l. h)

  -- calls from any state in range, made up or not, say what it has still to list; so every walk ends
  pub walks : (w : SegmentWalk) → Inside w → Walks (hear s) w (ahead w)
  walks = walks_ahead (hear s) ahead Inside says stays

  -- ---- a start

  abbrev Lists : Begin SegmentWalk → Run (Entry Segment) → Type 0
  Lists = Starts (hear s) (λ n r. r ≡ fails n)

  starts : Lists (begin s) (listing s)
  unfolding begin listing then_starts
  starts =
      both_headers Lists (header_at s) _ _ _ _ (λ n. refl)
      (λ h.
      both_reads Lists (field_at 4 s h.starts_offset) _ _ _ _ refl
      (λ count at e.
      both_picks Lists (ltb (length s) (at + 4 * count)) _ _ _ _ (λ f. refl)
      (λ f.
      let w = at_start h.starts_offset count in
      let z : count - 0 ≡ count = omega arith in
      subst (λ (n : ℕ). Walks (hear s) w (segments s h.starts_offset n 0)) z
      (walks w (le-ltb (length s) (h.starts_offset + 4 + 4 * count) (omega (arith, ltb-false (length s) (at + 4 * count) f, field_ends 4 s h.starts_offset refl e)))))))

  pub joined : (w : SegmentWalk) → begin s ≡ begun w → Walks (hear s) w (listing s)
  joined w e = subst (λ (b : Begin SegmentWalk). Lists b (listing s)) e starts

  pub joined_only : (w : SegmentWalk) {r : Run (Entry Segment)} → begin s ≡ begun w → Walks (hear s) w r → r ≡ listing s
  joined_only w e h = walks_one (hear s) h (joined w e)

  pub not_begun_lem : {n : ℕ} → begin s ≡ not_begun n → listing s ≡ fails n
  not_begun_lem e = subst (λ (b : Begin SegmentWalk). Lists b (listing s)) e starts
