-- A start by the record of a segment. Assumes nothing.
use Prim.Native.Nat.{ℕ}
use mathlib.Core.Path.{◌≡◌, refl}
use mathlib.Core.Bool.{Bool, true, false, cond}
use mathlib.Core.List.{List}
use native.Mathlib.Omega.{arith}
use Rattle.packed_pages.specs.Packed.{begin_at}
use Rattle.packed_segments.specs.Packed.{segment_fields, segment_at}
use Rattle.packing.specs.Boundary.{unfit}
use Rattle.packing.specs.Fields.{is_record}
use Rattle.pages.specs.Call.{begin}
use Rattle.pages.specs.declared.PageWalk.{PageWalk}
use Rattle.runs.specs.Runs.{begun, not_begun}

module _ (s segment : List ℕ) (base : ℕ) where
  -- one that begins does so by a record
  pub record_begun : {w : PageWalk} → begin_at s segment base ≡ begun w → (is_record segment segment_fields ≡ true) × (begin s (segment_at segment) base ≡ begun w)
  unfolding begin_at
  record_begun {w} e = by (is_record segment segment_fields) refl e
    where
      by : (t : Bool) → is_record segment segment_fields ≡ t → cond t (begin s (segment_at segment) base) (not_begun unfit) ≡ begun w →
          (is_record segment segment_fields ≡ true) × (begin s (segment_at segment) base ≡ begun w)
      by true f q = (f, q)
      by false f q = let n : ◌≡◌ {A = ℕ} 0 1 = cc in absurd (omega arith)
