-- The place and length that an entry point tells are those of the part that `name` of an item hands back. Assumes nothing.
use Prim.Native.Nat.{ℕ, ◌+◌}
use mathlib.Core.Path.{◌≡◌, refl}
use mathlib.Core.Bool.{Bool, true, false, cond}
use mathlib.Core.List.{List}
use native.Mathlib.Omega.{arith}
use borrow.Author.Tests.{le-leb}
use lib.Dec.{leb}
use lib.ListN.{length}
use Rattle.numbers.specs.Parts.{part_of}

-- `lies` of part_words is whether it lies in the bytes
pub named : (s : List ℕ) (place size : ℕ) →
    let lies = leb (place + size) (length s) in
    part_of s (cond lies place 0) (cond lies size 0) ≡ part_of s place size
unfolding part_of
named s place size = by (leb (place + size) (length s)) refl
  where
    by : (b : Bool) → leb (place + size) (length s) ≡ b → part_of s (cond b place 0) (cond b size 0) ≡ part_of s place size
    by true e = refl
    by false e = rw (e, le-leb 0 (length s) (omega arith))
