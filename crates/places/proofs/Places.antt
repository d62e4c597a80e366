-- The places of a repeat, one after the other. Assumes nothing.
use Rattle.std.proofs.Common.{◌≡◌, ℕ, ◌^◌, ◌<◌, arith}
use Rattle.places.specs.Places.{place_at}

module _ (offset advance : ℕ) where
  pub place_first : offset < 2 ^ 64 → place_at offset advance 0 ≡ offset
  unfolding place_at
  place_first h = omega arith

  pub place_below : (i : ℕ) → place_at offset advance i < 2 ^ 64
  unfolding place_at
  place_below i = omega arith
