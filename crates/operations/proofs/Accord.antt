-- In accord with the document where readers have slipped: the immediate 0 of a special library is 0, and is not sign-extended. Assumes nothing.
use mathlib.Core.Path.{◌≡◌, refl}
use mathlib.Core.List.{[], ◌∷◌, map}
use lib.IntN.{pos, neg_ℤ}
use Rattle.operations.specs.Loader.{special}

pub specials_say : map special (0 ∷ 15 ∷ 8 ∷ 1 ∷ []) ≡ pos 0 ∷ neg_ℤ (pos 1) ∷ neg_ℤ (pos 8) ∷ neg_ℤ (pos 15) ∷ []
specials_say = refl
