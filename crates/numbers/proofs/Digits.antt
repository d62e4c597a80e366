-- Laws of a number by its digits. Assumes nothing.
use Prim.Native.Nat.{ℕ, suc, ◌+◌, ◌*◌, ◌^◌, ◌<◌}
use mathlib.Core.Path.{◌≡◌, ap, ◌∙◌}
use mathlib.Core.List.{List, [], ◌∷◌, ◌++◌}
use native.Mathlib.Omega.{arith}
use native.Mathlib.Nat.{pow-zero, pow-suc, pow-succ'}
use lib.Arith.{digits_lt}
use lib.ListN.{length}
use Rattle.numbers.specs.Digits.{from_digits}

module _ (base : ℕ) where
  none_before : (e : ℕ) → e ≡ 0 + base ^ 0 * e
  none_before e = omega (arith, ap (λ (n : ℕ). n * e) (pow-zero base))

  more_before : (d f n e : ℕ) {x : ℕ} → x ≡ f + base ^ n * e → d + base * x ≡ d + base * f + base ^ suc n * e
  more_before d f n e h =
      omega (arith, ap (λ (m : ℕ). base * m) h, ap (λ (m : ℕ). m * e) (pow-succ' base n))

  pub digit_below : {d f : ℕ} (n : ℕ) → d < base → f < base ^ n → d + base * f < base ^ suc n
  digit_below n h l = omega (arith, digits_lt l h, pow-suc base n)

  -- a number's digits before those of another
  pub digits_append : (ds es : List ℕ) → from_digits base (ds ++ es) ≡ from_digits base ds + base ^ length ds * from_digits base es
  unfolding from_digits
  digits_append [] es = none_before (from_digits base es)
  digits_append (d ∷ ds) es = more_before d (from_digits base ds) (length ds) (from_digits base es) (digits_append ds es)

  pub digits_snoc : (ds : List ℕ) (d : ℕ) → from_digits base (ds ++ (d ∷ [])) ≡ from_digits base ds + base ^ length ds * d
  unfolding from_digits
  digits_snoc ds d = digits_append ds (d ∷ []) ∙ omega arith
