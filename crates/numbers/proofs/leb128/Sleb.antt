-- The signed number, from its chunks. Assumes nothing.
use Prim.Native.Nat.{ℕ, suc, ◌+◌, ◌-◌, ◌*◌, ◌^◌, ◌≤◌, ◌<◌}
use mathlib.Core.Path.{◌≡◌, refl, ap, sym, ◌∙◌}
use mathlib.Core.Bool.{true, ◌||◌}
use mathlib.Core.List.{List, [], ◌∷◌, ◌++◌}
use native.Mathlib.Omega.{arith}
use borrow.Author.Tests.{lt-ltb, le-leb, lt-leb, ne_eqb}
use lib.Arith.{digits_lt}
use lib.Dec.{eqb}
use lib.IntN.{ℤ, pos, negsuc, sub_ℕ, ◌-ℤ◌}
use mir.Syntax.{w64}
use mir.Val.{Fits}
use mir.Facts.{to_z-of_z}
use Rattle.numbers.specs.Leb128.{tenth, bytes_at, sign_extended, sleb_of, sleb_at}
use Rattle.numbers.specs.Gathered.{gathered_at}
use Rattle.numbers.specs.Spans.{Span, span, unended}
use Rattle.numbers.specs.declared.leb128.Gathered.{Gathered}
use Rattle.numbers.specs.declared.leb128.Gathered.TheVariants.{Few, Ten}
use Rattle.std.specs.Prelude.{Option, Some, None}
use Rattle.numbers.proofs.leb128.Chunks.{low_below, sum_below}
use Rattle.numbers.proofs.leb128.Views.{Seen, SeenFew, SeenTen, IsCut, value_is, next_is, weight_is, last_is, no_tenth, tenth_is, seen, few_scale_small, few_sum, few_product}

-- ---- a number less a larger one

sub_below : (a b : ℕ) → a < b → sub_ℕ a b ≡ negsuc (b - suc a)
sub_below a b h = simp (lt-ltb a b h)

pub take_away : (a m n : ℕ) → m ≡ suc n → a ≤ n → pos a -ℤ pos m ≡ negsuc (n - a)
take_away a m n e h =
    ap (λ (k : ℕ). pos a -ℤ pos k) e ∙ sub_below a (suc n) (omega arith) ∙ ap negsuc (omega arith)

-- ---- the number by its sign

module _ {s : List ℕ} {at low scale last next : ℕ} (v : Seen s at low scale last next) where
  extended_plus : last < 64 → sign_extended (v.passed ++ (last ∷ [])) ≡ pos (low + last * scale)
  extended_plus h = rw (last_is v, lt-leb 64 last h) (ap pos (value_is v))

  complement : scale * 128 - 1 - (low + last * scale) ≡ (127 - last) * scale + (scale - 1 - low)
  complement =
      let e : last + (127 - last) ≡ 127 = omega (arith, v.small) in
      omega (arith, low_below v.worth, v.small, sum_below v.worth v.small, ap (λ (n : ℕ). n * scale) e)

  extended_minus : 64 ≤ last → sign_extended (v.passed ++ (last ∷ [])) ≡ negsuc ((127 - last) * scale + (scale - 1 - low))
  extended_minus h =
      rw (last_is v, le-leb 64 last h, value_is v, weight_is v)
      (take_away (low + last * scale) (scale * 128) (scale * 128 - 1) (omega (arith, low_below v.worth)) (omega (arith, sum_below v.worth v.small)) ∙ ap negsuc complement)

  minus_below : 64 ≤ last → (127 - last) * scale + (scale - 1 - low) < 64 * scale
  minus_below h =
      let q : 127 - last < 64 = omega arith in
      let r : scale - 1 - low < scale = omega (arith, low_below v.worth) in
      omega (arith, digits_lt q r)

-- ---- what the code answers

no_sleb : (at : ℕ) (x : Span) → IsCut x → None ≡ sleb_of at x
no_sleb at (span bs) h =
    sym (rw (ne_eqb (tenth bs) 0x00 (λ e. omega arith), ne_eqb (tenth bs) 0x7f (λ e. omega arith)))
no_sleb at unended h = refl

module _ (s : List ℕ) (at : ℕ) {r : Option Gathered} (g : r ≡ gathered_at s at) where
  pub cut_sleb : r ≡ None → None ≡ sleb_at s at
  unfolding sleb_at
  cut_sleb f = no_sleb at (bytes_at s at) (seen s at g f)

  module _ {low scale last next : ℕ} (f : r ≡ Some (Few low scale last next)) where
    few : SeenFew s at low scale last next
    few = seen s at g f

    few_value : {z : ℤ} → z ≡ sign_extended (few.seen.passed ++ (last ∷ [])) → Some (z, next) ≡ sleb_at s at
    unfolding sleb_at
    few_value e =
        ap (λ (y : ℤ). Some (y, next)) e ∙ sym (ap (sleb_of at) few.seen.is ∙ rw (no_tenth few, next_is few.seen))

    pub few_plus : {z : ℤ} → last < 64 → z ≡ pos (low + last * scale) → Some (z, next) ≡ sleb_at s at
    few_plus h e = few_value (e ∙ sym (extended_plus few.seen h))

    pub few_minus : {z : ℤ} → 64 ≤ last → z ≡ negsuc ((127 - last) * scale + (scale - 1 - low)) → Some (z, next) ≡ sleb_at s at
    few_minus h e = few_value (e ∙ sym (extended_minus few.seen h))

    pub few_last : last ≤ 127
    few_last = omega (arith, few.seen.small)

    pub few_scale : 1 ≤ scale
    few_scale = omega (arith, low_below few.seen.worth)

    pub few_low : low ≤ scale - 1
    few_low = omega (arith, low_below few.seen.worth)

    pub plus_below : last < 64 → low + last * scale < 2 ^ 63
    plus_below h = omega (arith, few_scale_small s at g f, sum_below few.seen.worth h)

    pub minus_small : 64 ≤ last → (127 - last) * scale + (scale - 1 - low) < 2 ^ 63
    minus_small h = omega (arith, few_scale_small s at g f, minus_below few.seen h)

    pub minus_sum : 64 ≤ last → Fits w64 ((127 - last) * scale + (scale - 1 - low))
    minus_sum h = record { fits = omega (arith, minus_small h) }

    pub minus_product : 64 ≤ last → Fits w64 ((127 - last) * scale)
    minus_product h = record { fits = omega (arith, minus_small h) }

  module _ {low last next : ℕ} (f : r ≡ Some (Ten low last next)) where
    ten : SeenTen s at low last next
    ten = seen s at g f

    pub ten_low : low < 2 ^ 63
    ten_low = low_below ten.seen.worth

    pub ten_most : low ≤ 2 ^ 63 - 1
    ten_most = omega (arith, ten_low)

    ten_value : (k : ℕ) {z : ℤ} → last ≡ k → (eqb k 0x00 || eqb k 0x7f) ≡ true → z ≡ sign_extended (ten.seen.passed ++ (last ∷ [])) → Some (z, next) ≡ sleb_at s at
    unfolding sleb_at
    ten_value k h t e =
        ap (λ (y : ℤ). Some (y, next)) e ∙ sym (ap (sleb_of at) ten.seen.is ∙ rw (tenth_is ten ∙ h, t, next_is ten.seen))

    pub ten_plus : {z : ℤ} → last ≡ 0 → z ≡ pos low → Some (z, next) ≡ sleb_at s at
    ten_plus h e =
        ten_value 0 h refl (e ∙ ap pos (omega arith) ∙ sym (extended_plus ten.seen (omega arith)))

    pub ten_minus : {z : ℤ} → last ≡ 127 → z ≡ negsuc (2 ^ 63 - 1 - low) → Some (z, next) ≡ sleb_at s at
    ten_minus h e =
        ten_value 127 h refl (e ∙ ap negsuc (omega arith) ∙ sym (extended_minus ten.seen (omega arith)))

    pub ten_fault : (last ≡ 0 → ⊥) → (last ≡ 127 → ⊥) → None ≡ sleb_at s at
    unfolding sleb_at
    ten_fault h l = sym (ap (sleb_of at) ten.seen.is ∙ rw (tenth_is ten, ne_eqb last 0 h, ne_eqb last 127 l))

pub ruleset sleb_laws = (to_z-of_z, cut_sleb, few_sum, few_product, few_plus, few_minus, few_last, few_scale, few_low, plus_below, minus_small, minus_sum, minus_product, ten_low, ten_most, ten_plus, ten_minus, ten_fault)
