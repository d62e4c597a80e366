-- Digits taken one by one, as a loop does. Assumes nothing.
use Prim.Native.Nat.{ℕ, suc, ◌+◌, ◌*◌, ◌^◌, ◌≤◌, ◌<◌}
use mathlib.Core.Path.{◌≡◌, refl, sym, ap, ◌∙◌, subst}
use mathlib.Core.Bool.{Bool, true, false, cond, ◌&&◌, and-false}
use mathlib.Core.List.{List, [], ◌∷◌}
use native.Mathlib.Nat.{add-mul, mul_assoc, pow-zero, pow-succ', one-le-pow, le-mul_of_pos_right}
use native.Mathlib.Omega.{arith}
use borrow.Author.Tests.{lt-ltb, le-ltb, ltb-true, ltb-false}
use lib.Dec.{ltb}
use Rattle.std.specs.Prelude.{Option, Some, None}
use lib.ListN.{length, drop}
use Rattle.numerals.specs.Numerals.{digit_of, are_digits, value_of, in_base}

-- digits of a base behind others that come to v
abbrev pub behind : ℕ → ℕ → List ℕ → Option ℕ
behind base v [] = Some v
behind base v (b ∷ bs) =
    cond (ltb (digit_of b) base && ltb (v * base + digit_of b) (2 ^ 64)) (behind base (v * base + digit_of b) bs) None

abbrev bounded : Bool → ℕ → Option ℕ
bounded a n = cond (a && ltb n (2 ^ 64)) (Some n) None

module _ (base : ℕ) (p : 0 < base) where
  -- what came before a digit counts for one place more
  shifts : (v d n rest : ℕ) → (v * base + d) * base ^ n + rest ≡ v * base ^ suc n + (d * base ^ n + rest)
  shifts v d n rest =
      omega
      (arith, add-mul (v * base) d (base ^ n), mul_assoc v base (base ^ n), ap (λ (m : ℕ). v * m) (pow-succ' base n))

  -- and what is too large stays so
  grows : (v d n rest : ℕ) → 2 ^ 64 ≤ v * base + d → 2 ^ 64 ≤ v * base ^ suc n + (d * base ^ n + rest)
  grows v d n rest h = omega (arith, shifts v d n rest, le-mul_of_pos_right (v * base + d) (one-le-pow n base p))

  all_behind : (v : ℕ) (bs : List ℕ) → v < 2 ^ 64 → behind base v bs ≡ bounded (are_digits base bs) (v * base ^ length bs + value_of base bs)
  all_behind v [] h =
      let e : v ≡ v * base ^ 0 + 0 = omega (arith, ap (λ (m : ℕ). v * m) (pow-zero base)) in
      subst (λ (n : ℕ). Some v ≡ bounded true n) e (rw (lt-ltb v (2 ^ 64) h) refl)
  all_behind v (b ∷ bs) h =
      by_tests
      (ltb (digit_of b) base)
      refl
      (ltb (v * base + digit_of b) (2 ^ 64))
      refl
      (λ l. all_behind (v * base + digit_of b) bs (ltb-true (v * base + digit_of b) (2 ^ 64) l))
    where
      by_tests : (x : Bool) → ltb (digit_of b) base ≡ x → (y : Bool) → ltb (v * base + digit_of b) (2 ^ 64) ≡ y →
          (ltb (v * base + digit_of b) (2 ^ 64) ≡ true →
          behind base (v * base + digit_of b) bs ≡ bounded (are_digits base bs) ((v * base + digit_of b) * base ^ length bs + value_of base bs)) →
          behind base v (b ∷ bs) ≡ bounded (are_digits base (b ∷ bs)) (v * base ^ suc (length bs) + (digit_of b * base ^ length bs + value_of base bs))
      by_tests false e y f rest = rw e refl
      by_tests true e true f rest =
          rw (e, f)
          (rest f ∙ ap (bounded (are_digits base bs)) (shifts v (digit_of b) (length bs) (value_of base bs)))
      by_tests true e false f rest =
          let g : 2 ^ 64 ≤ v * base ^ suc (length bs) + (digit_of b * base ^ length bs + value_of base bs) =
          grows v (digit_of b) (length bs) (value_of base bs) (ltb-false (v * base + digit_of b) (2 ^ 64) f) in
          rw (e, f, le-ltb (v * base ^ suc (length bs) + (digit_of b * base ^ length bs + value_of base bs)) (2 ^ 64) g, and-false (are_digits base bs))
          refl

  pub starts : (bs : List ℕ) → in_base base bs ≡ behind base 0 (drop 0 bs)
  starts bs =
      let e : 0 * base ^ length bs + value_of base bs ≡ value_of base bs = omega arith in
      sym (all_behind 0 bs (omega arith) ∙ ap (bounded (are_digits base bs)) e)
