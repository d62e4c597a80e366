-- Three places of which only the first and the last are inside: the one between them is found. Assumes nothing.
use Rattle.std.proofs.Common.{◌≡◌, ◌^◌, true, refl}
use Rattle.places.specs.Places.{place_at, fits, judged_from, judged_of}
use Rattle.places.specs.declared.Judged.TheVariants.{Outside}

-- they are at 0, 2^63 and, modulo 2^64, 0 again
pub ends_inside : (fits 8 (2 ^ 62) (place_at 0 (2 ^ 63) 0) ≡ true) × (fits 8 (2 ^ 62) (place_at 0 (2 ^ 63) 2) ≡ true)
unfolding fits place_at
ends_inside = (refl, refl)

pub between_outside : judged_of 0 (2 ^ 63) 2 8 (2 ^ 62) ≡ Outside 1
unfolding judged_of judged_from fits place_at
between_outside = refl
