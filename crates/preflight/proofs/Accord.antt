-- In accord with the header where readers have slipped: of the sixteen types that an operation can set, two have four bytes, with pointers of
-- eight bytes too. Assumes nothing.
use Prim.Native.Nat.{ℕ}
use mathlib.Core.Path.{◌≡◌, refl}
use mathlib.Core.Bool.{Bool, true, false, cond, ◌||◌}
use mathlib.Core.List.{[], ◌∷◌, map}
use lib.Dec.{eqb}
use Rattle.preflight.specs.Verdict.{width_of}

pub widths_say : map (width_of 8) (0 ∷ 1 ∷ 2 ∷ 3 ∷ 4 ∷ 5 ∷ 6 ∷ 7 ∷ 8 ∷ 9 ∷ 10 ∷ 11 ∷ 12 ∷ 13 ∷ 14 ∷ 15 ∷ [])
    ≡ 8 ∷ 8 ∷ 4 ∷ 4 ∷ 8 ∷ 8 ∷ 8 ∷ 8 ∷ 8 ∷ 8 ∷ 8 ∷ 8 ∷ 8 ∷ 8 ∷ 8 ∷ 8 ∷ []
widths_say = refl

alike : (text : Bool) (n : ℕ) → cond text n n ≡ n
alike true n = refl
alike false n = refl

-- with pointers of four bytes the type says nothing
pub small_pointers : (kind : ℕ) → width_of 4 kind ≡ 4
small_pointers kind = alike (eqb kind 2 || eqb kind 3) 4
