-- An i32 in a word, in two's complement of 64 bits. Assumes nothing.
use Prim.Native.Nat.{ℕ, suc, ◌-◌, ◌^◌, ◌<◌}
use mathlib.Core.Path.{◌≡◌, sym, ◌∙◌}
use mathlib.Core.Bool.{true}
use native.Mathlib.Decide.{dec_lt}
use native.Mathlib.Omega.{arith}
use borrow.Author.Tests.{lt-leb, le-leb, leb-true}
use lib.IntN.{ℤ, pos, negsuc}
use mir.Syntax.{w32}
use mir.Val.{SFits}
use Rattle.packed_bind.specs.Packed.{is_i32}
use Rattle.packing.proofs.Signs.{positive, negative}
use Rattle.packing.specs.Fields.{unsigned_of, signed_of}

module _ (v : ℕ) where
  pub i32_fits : {z : ℤ} → z ≡ signed_of v → is_i32 v ≡ true → v < 2 ^ 64 → SFits w32 z
  i32_fits e h i =
      elim (dec_lt (2 ^ 31 - 1) v) [
        | yes g ↦
            let m = leb-true (2 ^ 64 - 2 ^ 31) v (sym (rw (lt-leb v (2 ^ 31 - 1) g)) ∙ h) in
            rw (e ∙ negative v (omega arith) i) (record { sfits = omega arith })
        | no g ↦ rw (e ∙ positive v (omega arith)) (record { sfits = omega arith })
      ]

pub i32_back : (z : ℤ) → SFits w32 z → is_i32 (unsigned_of z) ≡ true
i32_back (pos n) f = rw (le-leb n (2 ^ 31 - 1) (omega (arith, f.sfits)))
i32_back (negsuc n) f =
    rw (lt-leb (2 ^ 64 - suc n) (2 ^ 31 - 1) (omega (arith, f.sfits)), le-leb (2 ^ 64 - 2 ^ 31) (2 ^ 64 - suc n) (omega (arith, f.sfits)))
