-- What `gather` answers, seen as the bytes of the number: those before the last, and the last. Assumes nothing.
use Prim.Native.Nat.{ℕ, ◌+◌, ◌-◌, ◌*◌, ◌%◌, ◌^◌, ◌≤◌, ◌<◌}
use mathlib.Core.Path.{◌≡◌, refl, ap, sym, ◌∙◌, subst}
use mathlib.Core.List.{List, [], ◌∷◌, ◌++◌}
use native.Mathlib.Decide.{dec_lt}
use native.Mathlib.Omega.{arith}
use borrow.Author.Tests.{ltb-true, ltb-false}
use lib.ListN.{length, get_or, drop, length-drop, get_or-eq_default, get_or-append}
use lib.Seq.{get_or-append_seam, get_or_at}
use mir.Syntax.{w64}
use mir.Val.{Fits}
use Rattle.numbers.specs.Gathered.{gathered, gathered_at}
use Rattle.numbers.specs.Leb128.{is_last, bytes_at, tenth, unsigned}
use Rattle.numbers.specs.Spans.{Span, span, unended}
use Rattle.numbers.specs.declared.leb128.Gathered.{Gathered}
use Rattle.numbers.specs.declared.leb128.Gathered.TheVariants.{Few, Ten}
use Rattle.std.specs.Prelude.{Option, Some, None}
use Rattle.numbers.proofs.Spans.{IsSpan, is_span, length_snoc}
use Rattle.numbers.proofs.leb128.Chunks.{Worth, one_more, sum_below, scale_small}
use Rattle.numbers.proofs.leb128.Gathering.{gathered_few, gathered_ten, gathered_long}

pub record Seen (s : List ℕ) (at low scale last next : ℕ) : Type 0 where
  pub passed : List ℕ
  pub is : bytes_at s at ≡ span (passed ++ (last ∷ []))
  pub worth : Worth passed low scale
  pub small : last < 128
  pub place : next ≡ at + (length passed + 1)
  pub inside : next ≤ length s

pub record SeenFew (s : List ℕ) (at low scale last next : ℕ) : Type 0 where
  pub seen : Seen s at low scale last next
  pub few : length seen.passed ≤ 8

pub record SeenTen (s : List ℕ) (at low last next : ℕ) : Type 0 where
  pub seen : Seen s at low (2 ^ 63) last next
  pub ten : length seen.passed ≡ 9

-- bytes that never end, or whose tenth does not end them
abbrev pub IsCut : Span → Type 0
IsCut (span bs) = 128 ≤ tenth bs
IsCut unended = Unit {0}

-- what each of the three answers says of the bytes
abbrev pub View : List ℕ → ℕ → Option Gathered → Type 0
View s at (Some (Few low scale last next)) = SeenFew s at low scale last next
View s at (Some (Ten low last next)) = SeenTen s at low last next
View s at None = IsCut (bytes_at s at)

module _ (s : List ℕ) (at : ℕ) {bs : List ℕ} (e : bytes_at s at ≡ span bs) (i : IsSpan is_last (drop at s) bs) where
  abbrev whole : (scale : ℕ) → scale ≡ 128 ^ length i.passed → Seen s at (unsigned i.passed) scale i.last (at + (length i.passed + 1))
  whole scale p =
      record {
        passed = i.passed;
        is = e ∙ ap span i.split;
        worth = record { worth = refl; counts = p };
        small = ltb-true i.last 128 i.closes;
        place = refl;
        inside = omega (arith, i.inside, length-drop at s);
      }

  view_few : length i.passed ≤ 8 → View s at (gathered at (span bs))
  view_few h =
      subst (View s at) (sym (ap (λ (cs : List ℕ). gathered at (span cs)) i.split ∙ gathered_few at i.passed i.last h))
      (record { seen = whole (128 ^ length i.passed) refl; few = h })

  view_ten : length i.passed ≡ 9 → View s at (gathered at (span bs))
  view_ten h =
      subst (View s at) (sym (ap (λ (cs : List ℕ). gathered at (span cs)) i.split ∙ gathered_ten at i.passed i.last h (ltb-true i.last 128 i.closes)))
      (record { seen = whole (2 ^ 63) (sym (ap (λ (m : ℕ). 128 ^ m) h)); ten = h })

  view_long : 9 < length i.passed → View s at (gathered at (span bs))
  view_long h =
      let t : tenth bs ≡ get_or i.passed 9 0 = ap tenth i.split ∙ get_or-append i.passed (i.last ∷ []) 0 9 h in
      let l : 128 ≤ tenth bs = omega (arith, t, ltb-false (get_or i.passed 9 0) 128 (i.goes 9 h)) in
      let k : 10 ≤ length bs = omega (arith, ap length i.split, length_snoc i.passed i.last) in
      subst (View s at) (sym (gathered_long at bs k l)) (subst IsCut (sym e) l)

  view_span : View s at (gathered at (span bs))
  view_span =
      elim (dec_lt (length i.passed) 9) [
        | yes h ↦ view_few (omega arith)
        | no h ↦ elim (dec_lt 9 (length i.passed)) [ yes l ↦ view_long l | no l ↦ view_ten (omega arith) ]
      ]

view_of : (s : List ℕ) (at : ℕ) (x : Span) → bytes_at s at ≡ x → View s at (gathered at x)
view_of s at (span bs) e = view_span s at e (is_span is_last (drop at s) e)
view_of s at unended e = subst IsCut (sym e) tt

pub view : (s : List ℕ) (at : ℕ) → View s at (gathered_at s at)
unfolding gathered_at
view s at = view_of s at (bytes_at s at) refl

-- ---- what follows of the bytes

module _ {s : List ℕ} {at low scale last next : ℕ} (v : Seen s at low scale last next) where
  pub value_is : unsigned (v.passed ++ (last ∷ [])) ≡ low + last * scale
  value_is =
      let e : last % 128 ≡ last = omega (arith, v.small) in
      sym (one_more v.worth last).worth ∙ ap (λ (m : ℕ). low + m * scale) e

  pub next_is : at + length (v.passed ++ (last ∷ [])) ≡ next
  next_is = omega (arith, v.place, length_snoc v.passed last)

  pub weight_is : 128 ^ length (v.passed ++ (last ∷ [])) ≡ scale * 128
  weight_is = sym (one_more v.worth last).counts

  pub last_is : get_or (v.passed ++ (last ∷ [])) (length (v.passed ++ (last ∷ [])) - 1) 0 ≡ last
  last_is =
      let e : length (v.passed ++ (last ∷ [])) - 1 ≡ length v.passed = omega (arith, length_snoc v.passed last) in
      rw (e, get_or-append_seam v.passed last [] 0)

module _ {s : List ℕ} {at low scale last next : ℕ} (v : SeenFew s at low scale last next) where
  pub no_tenth : tenth (v.seen.passed ++ (last ∷ [])) ≡ 0
  no_tenth =
      get_or-eq_default (v.seen.passed ++ (last ∷ [])) 0 (omega (arith, v.few, length_snoc v.seen.passed last))

pub tenth_is : {s : List ℕ} {at low last next : ℕ} (v : SeenTen s at low last next) → tenth (v.seen.passed ++ (last ∷ [])) ≡ last
tenth_is {last = last} v = get_or_at v.seen.passed last [] 0 9 v.ten

-- ---- the same, from what a call of `gather` promises and the arm of a match on it

module _ (s : List ℕ) (at : ℕ) {r : Option Gathered} (g : r ≡ gathered_at s at) where
  pub seen : {y : Option Gathered} → r ≡ y → View s at y
  seen f = subst (View s at) (sym g ∙ f) (view s at)

  module _ {low scale last next : ℕ} (f : r ≡ Some (Few low scale last next)) where
    few : SeenFew s at low scale last next
    few = seen f

    pub few_scale_small : scale ≤ 2 ^ 56
    few_scale_small = scale_small few.seen.worth few.few

    pub few_sum : Fits w64 (low + last * scale)
    few_sum = record { fits = omega (arith, few_scale_small, sum_below few.seen.worth few.seen.small) }

    pub few_product : Fits w64 (last * scale)
    few_product = record { fits = omega (arith, few_sum.fits) }
