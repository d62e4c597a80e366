-- What a call hands out and back. Assumes nothing.
use Prim.Native.Nat.{ℕ, zero, suc, ◌+◌, ◌-◌, ◌*◌, ◌≤◌, ◌<◌}
use mathlib.Core.Path.{◌≡◌, refl, subst}
use mathlib.Core.Bool.{true}
use mathlib.Core.List.{List}
use native.Mathlib.Omega.{arith}
use borrow.Author.Tests.{ltb-false}
use lib.Dec.{ltb, eqb}
use lib.ListN.{length}
use Rattle.chains.specs.Call.{at_index, recorded, seek, call}
use Rattle.chains.specs.FixupChains.{offset_at, record_size, starts_in, record_of, record_at}
use Rattle.chains.specs.declared.Segment.{Segment}
use Rattle.chains.specs.declared.SegmentWalk.{SegmentWalk}
use Rattle.std.specs.Prelude.{Option, Some, None}
use Rattle.numbers.proofs.Picks.{by_pick, by_test}
use Rattle.numbers.specs.LittleEndian.{little_endian}
use Rattle.refusal.specs.Numbers.{number_of}
use Rattle.refusal.specs.declared.Refusal.TheVariants.{FaultyChains, StateOutOfRange}
use Rattle.runs.proofs.Walks.{IfItem}
use Rattle.runs.specs.Runs.{Answer, item, end, refused}

-- ---- what holds of every answer of a call, by what holds of each kind of answer

module _ (s : List ℕ) (w : SegmentWalk) (Q : Answer SegmentWalk Segment → Type 0) (out : Q (refused (number_of StateOutOfRange) w))
    (ends : (i : ℕ) → i ≤ w.index + (w.count - w.index) → Q (end (at_index i w)))
    (gives : (i : ℕ) → i < w.count → (g : Segment) → record_at s i (w.place + offset_at s w.place i) ≡ Some g → Q (item g (at_index (i + 1) w)))
    (refuses : (i : ℕ) → i < w.count → Q (refused (number_of FaultyChains) (at_index (i + 1) w))) where
  by_record : (i : ℕ) → i < w.count → (x : Option Segment) → record_at s i (w.place + offset_at s w.place i) ≡ x → Q (recorded (at_index (i + 1) w) x)
  unfolding recorded
  by_record i l (Some g) e = gives i l g e
  by_record i l None e = refuses i l

  by_seek : (n i : ℕ) → w.count - i ≡ n → i + n ≤ w.index + (w.count - w.index) → Q (seek s w n i)
  unfolding seek
  by_seek zero i e l = ends i (omega arith)
  by_seek (suc n) i e l =
      by_pick Q (eqb (offset_at s w.place i) 0) _ _ (by_seek n (i + 1) (omega arith) (omega arith)) (by_record i (omega arith) _ refl)

  pub by_call : Q (call s w)
  unfolding call
  by_call =
      by_pick Q (ltb (length s) (w.place + 4 + 4 * w.count)) _ _ out (by_seek (w.count - w.index) w.index refl (omega arith))

-- ---- what holds of every record that is found, holds of every segment that is yielded

abbrev pub IfFound : (Segment → Type 0) → Option Segment → Type 0
IfFound P (Some g) = P g
IfFound P None = Unit {0}

module _ (s : List ℕ) (P : Segment → Type 0) where
  -- its starts lie in the bytes
  pub by_found : (index at : ℕ) → (at + record_size + 2 * starts_in (little_endian 4 s at) ≤ length s → P (record_of s index at)) → IfFound P (record_at s index at)
  unfolding record_at
  by_found index at p =
      by_pick (IfFound P) (ltb (length s) (at + record_size)) _ _ tt
      (by_pick (IfFound P) (ltb (little_endian 4 s at) record_size) _ _ tt
      (by_test (IfFound P) (ltb (length s) (at + record_size + 2 * starts_in (little_endian 4 s at))) _ _ (λ e. tt)
      (λ e. p (ltb-false (length s) (at + record_size + 2 * starts_in (little_endian 4 s at)) e))))

  module _ (w : SegmentWalk) (all : (index at : ℕ) → index < w.count → IfFound P (record_at s index at)) where
    pub yielded : {g : Segment} {v : SegmentWalk} → call s w ≡ item g v → P g
    yielded e =
        subst (IfItem P) e
        (by_call s w (IfItem P) tt (λ i l. tt) (λ i l g f. subst (IfFound P) f (all i (w.place + offset_at s w.place i) l)) (λ i l. tt))

module _ (s : List ℕ) (w : SegmentWalk) where
  abbrev StartsInside : Segment → Type 0
  StartsInside g = g.place + 2 * g.count ≤ length s

  -- its starts lie in the bytes: a page walk over it does not begin with 19
  pub segment_inside : {g : Segment} {v : SegmentWalk} → call s w ≡ item g v → g.place + 2 * g.count ≤ length s
  segment_inside = yielded s StartsInside w (λ index at l. by_found s StartsInside index at (λ h. h))

  -- ---- a state out of range is refused, 19, and comes back as it came

  pub out_of_range : ltb (length s) (w.place + 4 + 4 * w.count) ≡ true → call s w ≡ refused (number_of StateOutOfRange) w
  unfolding call
  out_of_range e = rw e
