-- A signed number of 32 bits is one of 64. Assumes nothing.
use native.Mathlib.Omega.{arith}
use lib.IntN.{ℤ, pos, negsuc}
use mir.Syntax.{w32, w64}
use mir.Val.{SFits, to_z, of_z}
use mir.Facts.{to_z-of_z}

widens : (z : ℤ) → SFits w32 z → SFits w64 z
widens (pos n) f = record { sfits = omega (arith, f.sfits) }
widens (negsuc n) f = record { sfits = omega (arith, f.sfits) }

pub wide_fits : (z : ℤ) → SFits w32 z → SFits w64 (to_z w32 (of_z w32 z))
wide_fits z f = rw (to_z-of_z f) (widens z f)
