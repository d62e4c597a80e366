-- Numbers of which those above a bound are negative, as a machine's signed numbers. Assumes nothing.
use Prim.Native.Nat.{ℕ, ◌+◌, ◌-◌, ◌^◌, ◌≤◌, ◌<◌}
use mathlib.Core.Path.{◌≡◌, sym, subst}
use mathlib.Core.Bool.{cond}
use native.Mathlib.Decide.{dec_lt}
use native.Mathlib.Omega.{arith}
use borrow.Author.Tests.{lt-ltb, le-ltb}
use lib.Dec.{ltb}
use lib.IntN.{ℤ, pos, negsuc, ◌-ℤ◌}
use mir.Syntax.{w32, w64}
use mir.Val.{SFits}
use Rattle.numbers.proofs.leb128.Sleb.{take_away}

module _ (n bound most : ℕ) where
  above : bound < n → n ≤ most → cond (ltb bound n) (pos n -ℤ pos (most + 1)) (pos n) ≡ negsuc (most - n)
  above h i = rw (lt-ltb bound n h) (take_away n (most + 1) most (omega arith) i)

  below : n ≤ bound → cond (ltb bound n) (pos n -ℤ pos (most + 1)) (pos n) ≡ pos n
  below h = rw (le-ltb bound n h)

  by_sign : (P : ℤ → Type 0) → n ≤ most → (bound < n → P (negsuc (most - n))) → (n ≤ bound → P (pos n)) → P (cond (ltb bound n) (pos n -ℤ pos (most + 1)) (pos n))
  by_sign P i p q =
      elim (dec_lt bound n) [
        | yes h ↦ subst P (sym (above h i)) (p h)
        | no h ↦ let k : n ≤ bound = omega arith in subst P (sym (below k)) (q k)
      ]

  -- those of an i32
  pub library_fits : {r : ℤ} → r ≡ cond (ltb bound n) (pos n -ℤ pos (most + 1)) (pos n) → n ≤ most → most < 2 ^ 31 → SFits w32 r
  library_fits e i j = rw e (by_sign (SFits w32) i (λ h. record { sfits = omega arith }) (λ h. record { sfits = omega arith }))

  -- those of an i64
  pub addend_fits : n ≤ most → bound < 2 ^ 63 → most - bound ≤ 2 ^ 63 → SFits w64 (cond (ltb bound n) (pos n -ℤ pos (most + 1)) (pos n))
  addend_fits i j k = by_sign (SFits w64) i (λ h. record { sfits = omega arith }) (λ h. record { sfits = omega arith })
