-- Fields, and rows of fields of one width, as a caller reads and tests them: for `search`. `r` is what a call answered. Assumes nothing.
use Prim.Native.Nat.{ℕ, ◌+◌, ◌-◌, ◌*◌, ◌/◌, ◌^◌, ◌≤◌, ◌<◌}
use mathlib.Core.Path.{◌≡◌, refl, sym, ◌∙◌, subst}
use mathlib.Core.Bool.{true, false}
use mathlib.Core.List.{List}
use native.Mathlib.Decide.{dec_lt}
use native.Mathlib.Nat.{div-lt_iff_lt-mul, le-div_iff_mul-le}
use native.Mathlib.Omega.{arith}
use borrow.Author.Tests.{leb-true, leb-false, lt-leb, lt-ltb, le-ltb}
use lib.Dec.{leb, ltb}
use lib.ListN.{length}
use Rattle.numbers.specs.LittleEndian.{little_endian, field_at}
use Rattle.std.specs.Prelude.{Option, Some, None}
use Rattle.numbers.proofs.Picks.{by_test}
use Rattle.numbers.proofs.little_endian.Fields.{Bytes, field_below}

-- ---- a field

record Field (n : ℕ) (s : List ℕ) (at value next : ℕ) : Type 0 where
  fits : at + n ≤ length s
  is : value ≡ little_endian n s at
  ends : next ≡ at + n

abbrev IfField : (n : ℕ) → List ℕ → (at : ℕ) → Option (ℕ × ℕ) → Type 0
IfField n s at (Some (v, next)) = Field n s at v next
IfField n s at None = length s < at + n

module _ (n : ℕ) (s : List ℕ) (at : ℕ) where
  field : {r q : Option (ℕ × ℕ)} → r ≡ field_at n s at → r ≡ q → IfField n s at q
  unfolding field_at
  field e f =
      subst (IfField n s at) (sym e ∙ f)
      (by_test (IfField n s at) (leb (at + n) (length s)) _ _ (λ t. record { fits = leb-true (at + n) (length s) t; is = refl; ends = refl }) (leb-false (at + n) (length s)))

  module _ {r : Option (ℕ × ℕ)} {v next : ℕ} (e : r ≡ field_at n s at) (f : r ≡ Some (v, next)) where
    pub field_inside : next ≤ length s
    field_inside = let d = field e f in omega (arith, d.fits, d.ends)

    pub field_ends : next ≡ at + n
    field_ends = (field e f).ends

    pub field_value : v ≡ little_endian n s at
    field_value = (field e f).is

    pub field_less : Bytes s → v < 256 ^ n
    field_less h = rw field_value (field_below s n at h)

  -- what does not fit is one
  pub field_out : length s < at + n → field_at n s at ≡ None
  unfolding field_at
  field_out h = rw (lt-leb (at + n) (length s) h)

-- ---- a row of n fields of a width, from a place on

pub row_beyond : (width at n len : ℕ) → len < at → true ≡ ltb len (at + width * n)
row_beyond width at n len h = sym (lt-ltb len (at + width * n) (omega arith))

module _ (width : ℕ) (some : 0 < width) (at n len : ℕ) where
  pub row_out : (len - at) / width < n → ltb len (at + width * n) ≡ true
  row_out h = let l = (div-lt_iff_lt-mul some).0 h in lt-ltb len (at + width * n) (omega (arith, l))

  pub row_in : at ≤ len → n ≤ (len - at) / width → ltb len (at + width * n) ≡ false
  row_in i h = let l = (le-div_iff_mul-le some).0 h in le-ltb len (at + width * n) (omega (arith, l, i))

  -- by one test, whether it does not lie in so many bytes
  pub row_test : at ≤ len → ltb ((len - at) / width) n ≡ ltb len (at + width * n)
  row_test i =
      elim (dec_lt ((len - at) / width) n) [
        | yes h ↦ lt-ltb ((len - at) / width) n h ∙ sym (row_out h)
        | no h ↦ let k : n ≤ (len - at) / width = omega arith in le-ltb ((len - at) / width) n k ∙ sym (row_in i k)
      ]
