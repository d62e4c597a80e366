-- The unsigned number, from its chunks. Assumes nothing.
use Prim.Native.Nat.{ℕ, ◌+◌, ◌*◌, ◌%◌, ◌^◌, ◌≤◌, ◌<◌}
use mathlib.Core.Path.{◌≡◌, refl, ap, sym, ◌∙◌}
use mathlib.Core.List.{List}
use native.Mathlib.Omega.{arith}
use borrow.Author.Tests.{lt-ltb, le-ltb}
use lib.ListN.{length, get_or}
use mir.Syntax.{w64}
use mir.Val.{Fits}
use Rattle.numbers.specs.Leb128.{tenth, bytes_at, uleb_of, uleb_at}
use Rattle.numbers.specs.Gathered.{gathered_at}
use Rattle.numbers.specs.Spans.{Span, span, unended}
use Rattle.numbers.specs.declared.leb128.Gathered.{Gathered}
use Rattle.numbers.specs.declared.leb128.Gathered.TheVariants.{Few, Ten}
use Rattle.std.specs.Prelude.{Option, Some, None}
use Rattle.numbers.proofs.leb128.Chunks.{sum_below}
use Rattle.numbers.proofs.leb128.Gathering.{none_held, is_few, is_more}
use Rattle.numbers.proofs.leb128.Views.{SeenFew, SeenTen, IsCut, value_is, next_is, no_tenth, tenth_is, seen, few_sum, few_product}

no_uleb : (at : ℕ) (x : Span) → IsCut x → None ≡ uleb_of at x
no_uleb at (span bs) h = sym (rw (le-ltb (tenth bs) 2 (omega arith)))
no_uleb at unended h = refl

module _ (s : List ℕ) (at : ℕ) {r : Option Gathered} (g : r ≡ gathered_at s at) where
  pub cut_uleb : r ≡ None → None ≡ uleb_at s at
  unfolding uleb_at
  cut_uleb f = no_uleb at (bytes_at s at) (seen s at g f)

  module _ {low scale last next : ℕ} (f : r ≡ Some (Few low scale last next)) where
    few : SeenFew s at low scale last next
    few = seen s at g f

    pub few_uleb : Some (low + last * scale, next) ≡ uleb_at s at
    unfolding uleb_at
    few_uleb =
        sym (ap (uleb_of at) few.seen.is ∙ rw (no_tenth few, value_is few.seen, next_is few.seen))

  module _ {low last next : ℕ} (f : r ≡ Some (Ten low last next)) where
    ten : SeenTen s at low last next
    ten = seen s at g f

    pub ten_uleb : last < 2 → Some (low + last * 2 ^ 63, next) ≡ uleb_at s at
    unfolding uleb_at
    ten_uleb h =
        sym (ap (uleb_of at) ten.seen.is ∙ rw (tenth_is ten, lt-ltb last 2 h, value_is ten.seen, next_is ten.seen))

    pub ten_large : 2 ≤ last → None ≡ uleb_at s at
    unfolding uleb_at
    ten_large h = sym (ap (uleb_of at) ten.seen.is ∙ rw (tenth_is ten, le-ltb last 2 h))

    pub ten_fits : last < 2 → Fits w64 (low + last * 2 ^ 63)
    ten_fits h = record { fits = sum_below ten.seen.worth h }

-- ---- numbers of one byte and of two

module _ (s : List ℕ) (at : ℕ) (h : at < length s) where
  pub one_uleb : get_or s at 0 < 128 → Some (get_or s at 0, at + 1) ≡ uleb_at s at
  one_uleb b =
      let n : get_or s at 0 ≡ 0 + get_or s at 0 * 1 = omega arith in
      ap (λ (x : ℕ). Some (x, at + 1)) n ∙ few_uleb s at refl (sym (is_few (none_held s at) h (λ e. omega (arith, e)) b))

  pub two_uleb :
      128 ≤ get_or s at 0 → at + 1 < length s → get_or s (at + 1) 0 < 128 →
      Some (get_or s at 0 % 128 + get_or s (at + 1) 0 * 128, at + 2) ≡ uleb_at s at
  two_uleb a k b =
      let n : get_or s at 0 % 128 + get_or s (at + 1) 0 * 128 ≡ 0 + get_or s at 0 % 128 * 1 + get_or s (at + 1) 0 * (1 * 128) = omega arith in
      let p : at + 2 ≡ at + 1 + 1 = omega arith in
      (λ j. Some (n j, p j)) ∙
      few_uleb s at refl (sym (is_few (is_more (none_held s at) h (λ e. omega (arith, e)) a) k (λ e. omega (arith, e)) b))

pub ruleset short_laws = (one_uleb, two_uleb)

pub ruleset uleb_laws = (cut_uleb, few_uleb, few_sum, few_product, ten_uleb, ten_large, ten_fits)
