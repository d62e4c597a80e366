-- Where steps forwards and steps backwards lead, modulo 2^64: `last` is the last offset inside; up to the quotient places are at or below
-- it, and the next one is above it. Assumes nothing.
use Rattle.std.proofs.Common.{◌≡◌, ℕ, suc, ◌+◌, ◌-◌, ◌*◌, ◌/◌, ◌%◌, ◌^◌, ◌<◌, ◌≤◌, ap, le-div_iff_mul-le, div-mul-le_self, arith}
use native.Mathlib.Nat.{lt-div-mul-add}
use Rattle.places.specs.Places.{place_at}

module _ (o a last : ℕ) (pos : 0 < a) (o≤ : o ≤ last) where
  pub forth_room : (i : ℕ) → i ≤ (last - o) / a → o + i * a ≤ last
  forth_room i h = omega (arith, (le-div_iff_mul-le pos).0 h)

  pub forth_in : last < 2 ^ 64 → (i : ℕ) → i ≤ (last - o) / a → place_at o a i ≤ last
  unfolding place_at
  forth_in b i h = omega (arith, forth_room i h)

  pub forth_out : last + a < 2 ^ 64 → last < place_at o a ((last - o) / a + 1)
  unfolding place_at
  forth_out b = omega (arith, div-mul-le_self (last - o) a, lt-div-mul-add {a = last - o} pos)

-- an advance of `a` is a step of `back` backwards
module _ (o a back last : ℕ) (pos : 0 < back) (o≤ : o ≤ last) (e : a + back ≡ 2 ^ 64) where
  times : (i : ℕ) → i * (a + back) ≡ i * 2 ^ 64
  times i = ap (λ (n : ℕ). i * n) e

  pub back_in : last < 2 ^ 64 → (i : ℕ) → i ≤ o / back → place_at o a i ≤ last
  unfolding place_at
  back_in b i h = omega (arith, times i, (le-div_iff_mul-le pos).0 h)

  pub back_out : last + back < 2 ^ 64 → last < place_at o a (o / back + 1)
  unfolding place_at
  back_out b = omega (arith, times (o / back + 1), div-mul-le_self o back, lt-div-mul-add {a = o} pos)

  pub back_behind : (i : ℕ) → i ≤ o / back → (o - i * back + a) % 2 ^ 64 ≡ place_at o a (suc i)
  unfolding place_at
  back_behind i h = omega (arith, times i, (le-div_iff_mul-le pos).0 h)
