-- The start of a walk at a pointer size. Assumes nothing.
use Rattle.std.specs.Prelude.{Ok, Err}
use Prim.Native.Nat.{ℕ, ◌^◌, ◌<◌}
use mathlib.Core.Path.{◌≡◌, refl, sym, ◌∙◌}
use mathlib.Core.Bool.{Bool, true, false, cond, true≢false}
use native.Mathlib.Decide.{dec_lt}
use native.Mathlib.Omega.{arith}
use borrow.Author.Tests.{ne_eqb}
use Rattle.cursor.specs.Cursor.{is_pointer_size, at_start, start_of}
use Rattle.listing.specs.Call.{state, begin_from, begin}
use Rattle.listing.specs.declared.Walk.{Walk}
use Rattle.refusal.specs.Numbers.{number_of}
use Rattle.refusal.specs.declared.Refusal.TheVariants.{PointerSize}
use Rattle.runs.specs.Runs.{Begin, begun, not_begun}

-- a number that is no u8 is no pointer size
pub no_size : {size : ℕ} → 255 < size → is_pointer_size size ≡ false
no_size {size} h = rw (ne_eqb size 4 (λ e. omega (arith, e)), ne_eqb size 8 (λ e. omega (arith, e)))

pub byte_size : {size : ℕ} → is_pointer_size size ≡ true → size < 2 ^ 8
byte_size {size} e =
    elim (dec_lt 255 size) [
      | yes h ↦ absurd (true≢false (sym e ∙ no_size h))
      | no h ↦ omega arith
    ]

module _ {Reg : Type 0} where
  pub not_begun_lem : (g : Reg) {size : ℕ} → 255 < size → ◌≡◌ {A = Begin (Walk Reg)} (not_begun (number_of PointerSize)) (begin size g)
  unfolding start_of
  not_begun_lem g h = rw (no_size h)

  module _ (size : ℕ) (g : Reg) where
    pub record Begun (w : Walk Reg) : Type 0 where
      pub sized : is_pointer_size size ≡ true
      pub is : w ≡ state (at_start size) g

    pub begun_is : {w : Walk Reg} → begin size g ≡ begun w → Begun w
    unfolding start_of
    begun_is {w} e = by_size (is_pointer_size size) refl e
      where
        by_size : (b : Bool) → is_pointer_size size ≡ b → begin_from g (cond b (Ok (at_start size)) (Err PointerSize)) ≡ begun w → Begun w
        by_size true z f = record { sized = z; is = cc }
        by_size false z f = let q : ◌≡◌ {A = ℕ} 0 1 = cc in absurd (omega arith)
