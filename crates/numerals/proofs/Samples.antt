-- What some texts come to, by computation. Assumes nothing.
use Prim.Native.Nat.{ℕ, ◌-◌, ◌^◌}
use mathlib.Core.Path.{◌≡◌, refl}
use mathlib.Core.List.{List, [], ◌∷◌, map}
use Rattle.std.specs.Prelude.{Option, Some, None}
use Rattle.numerals.specs.Numerals.{numeral_of}

record Sample : Type 0 where
  text : List ℕ
  says : Option ℕ

abbrev samples : List Sample
samples =
    record { text = 52 ∷ 48 ∷ []; says = Some 40 }  -- 40
    ∷ record { text = 48 ∷ 120 ∷ 49 ∷ 102 ∷ []; says = Some 31 }  -- 0x1f
    ∷ record { text = 48 ∷ 120 ∷ 65 ∷ 48 ∷ []; says = Some 160 }  -- 0xA0
    ∷ record { text = 49 ∷ 56 ∷ 52 ∷ 52 ∷ 54 ∷ 55 ∷ 52 ∷ 52 ∷ 48 ∷ 55 ∷ 51 ∷ 55 ∷ 48 ∷ 57 ∷ 53 ∷ 53 ∷ 49 ∷ 54 ∷ 49 ∷ 53 ∷ []; says = Some (2 ^ 64 - 1) }  -- 2^64 - 1
    ∷ record { text = 49 ∷ 56 ∷ 52 ∷ 52 ∷ 54 ∷ 55 ∷ 52 ∷ 52 ∷ 48 ∷ 55 ∷ 51 ∷ 55 ∷ 48 ∷ 57 ∷ 53 ∷ 53 ∷ 49 ∷ 54 ∷ 49 ∷ 54 ∷ []; says = None }  -- 2^64
    ∷ record { text = 48 ∷ 120 ∷ []; says = None }  -- 0x
    ∷ record { text = 48 ∷ 88 ∷ 49 ∷ []; says = None }  -- 0X1
    ∷ record { text = 49 ∷ 102 ∷ []; says = None }  -- 1f
    ∷ record { text = []; says = None }  -- nothing
    ∷ []

samples_say : map (λ (x : Sample). numeral_of x.text) samples ≡ map (λ (x : Sample). x.says) samples
unfolding numeral_of
samples_say = refl
