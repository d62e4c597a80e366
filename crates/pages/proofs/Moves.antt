-- A state in range, and the offset of a page. Assumes nothing.
use Rattle.std.proofs.Common.{◌≡◌, ℕ, ◌+◌, ◌*◌, ◌<◌, ◌≤◌, false, not, ◌||◌, ltb, List, length, mul-le-mul, arith, ltb-false}
use Rattle.numbers.proofs.Picks.{neither}
use Rattle.pages.specs.Call.{starts_out, out_of_range}
use Rattle.pages.specs.ChainedPointers.{is_format}
use Rattle.pages.specs.Farthest.{farthest}
use Rattle.pages.specs.declared.PageWalk.{PageWalk}

pub record InRange (s : List ℕ) (w : PageWalk) : Type 0 where
  pub inside : w.segment.place + 2 * w.segment.count ≤ length s
  pub near : w.origin ≤ farthest

pub in_range_lem : (s : List ℕ) (w : PageWalk) → out_of_range w (length s) ≡ false → InRange s w
in_range_lem s w e =
    let a = neither (starts_out w.segment (length s)) (not (is_format w.segment.pointer_format) || ltb farthest w.origin) e in
    let b = neither (not (is_format w.segment.pointer_format)) (ltb farthest w.origin) a.1 in
    record {
      inside = ltb-false (length s) (w.segment.place + 2 * w.segment.count) a.0;
      near = ltb-false farthest w.origin b.1;
    }

-- the offset of a page in a segment
pub origin_within : {page pages size : ℕ} → page < pages → pages ≤ 65535 → size ≤ 65535 → page * size ≤ farthest
origin_within h k l = mul-le-mul {n₂ = 65535} {m₂ = 65535} (omega arith) l
