-- Two's complement, and the machine's signed numbers: for `search`. Assumes nothing.
use Prim.Native.Nat.{ℕ, suc, ◌-◌, ◌^◌, ◌≤◌, ◌<◌}
use mathlib.Core.Path.{◌≡◌, ap, ◌∙◌, subst}
use native.Mathlib.Decide.{dec_lt}
use native.Mathlib.Omega.{arith}
use borrow.Author.Tests.{lt-ltb, le-ltb}
use lib.IntN.{ℤ, pos, negsuc}
use mir.Syntax.{w32, w64}
use mir.Val.{SFits}
use mir.Facts.{to_z-of_z}
use Rattle.numbers.proofs.Widths.{wide_fits}
use Rattle.numbers.proofs.leb128.Sleb.{take_away}
use Rattle.packing.specs.Fields.{signed_of, unsigned_of}

-- ---- from a word

module _ (v : ℕ) where
  pub positive : v < 2 ^ 63 → signed_of v ≡ pos v
  positive h = rw (lt-ltb v (2 ^ 63) h)

  module _ (h : 2 ^ 63 ≤ v) (i : v < 2 ^ 64) where
    pub negative : signed_of v ≡ negsuc (2 ^ 64 - 1 - v)
    negative = rw (le-ltb v (2 ^ 63) h) (take_away v (2 ^ 64) (2 ^ 64 - 1) (omega arith) (omega arith))

  pub signed_fits : v < 2 ^ 64 → SFits w64 (signed_of v)
  signed_fits i =
      elim (dec_lt v (2 ^ 63)) [
        | yes h ↦ rw (positive h) (record { sfits = h })
        | no h ↦ rw (negative (omega arith) i) (record { sfits = omega arith })
      ]

-- ---- as a word and back

pub signed_back : (z : ℤ) → SFits w64 z → signed_of (unsigned_of z) ≡ z
signed_back (pos n) f = positive n (omega (arith, f.sfits))
signed_back (negsuc n) f =
    let v = 2 ^ 64 - suc n in
    let same : 2 ^ 64 - 1 - v ≡ n = omega (arith, f.sfits) in
    negative v (omega (arith, f.sfits)) (omega arith) ∙ ap negsuc same

pub unsigned_less : (z : ℤ) → SFits w64 z → unsigned_of z < 2 ^ 64
unsigned_less (pos n) f = omega (arith, f.sfits)
unsigned_less (negsuc n) f = omega arith

-- an i32 is an i64
pub widened : (z : ℤ) → SFits w32 z → SFits w64 z
widened z f = subst (SFits w64) (to_z-of_z f) (wide_fits z f)

pub narrow_back : (z : ℤ) → SFits w32 z → signed_of (unsigned_of z) ≡ z
narrow_back z f = signed_back z (widened z f)
