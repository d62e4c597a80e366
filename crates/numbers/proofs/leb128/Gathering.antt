-- The bytes of a LEB128 number as `gather` takes them in. Assumes nothing.
use Prim.Native.Nat.{ℕ, ◌+◌, ◌-◌, ◌*◌, ◌%◌, ◌^◌, ◌≤◌, ◌<◌}
use mathlib.Core.Path.{◌≡◌, refl, ap, sym, ◌∙◌}
use mathlib.Core.List.{List, [], ◌∷◌, ◌++◌}
use native.Mathlib.Omega.{arith}
use borrow.Author.Tests.{lt-ltb, le-ltb}
use lib.ListN.{length, get_or, drop, length-append}
use lib.Seq.{append_snoc, take-append_seam, take_at, get_or-append_seam, get_or_at}
use mir.Syntax.{w64}
use mir.Val.{Fits}
use Rattle.numbers.specs.Gathered.{gathered, gathered_at}
use Rattle.numbers.specs.Leb128.{is_last, tenth, unsigned}
use Rattle.numbers.specs.Spans.{Span, span, unended, span_to}
use Rattle.numbers.specs.declared.leb128.Gathered.TheVariants.{Few, Ten}
use Rattle.std.specs.Prelude.{Some, None}
use Rattle.numbers.specs.Passed.{Passed, behind}
use Rattle.numbers.proofs.Spans.{length_snoc, none_passed, one_passed, runs_out, span_ends}
use Rattle.numbers.proofs.leb128.Chunks.{Worth, none_worth, one_more, sum_below, scale_small, nine_passed, eight_passed}

-- ---- what is gathered of a span, by its length

module _ (from : ℕ) (ps : List ℕ) (b : ℕ) where
  pub gathered_few : length ps ≤ 8 → gathered from (span (ps ++ (b ∷ []))) ≡ Some (Few (unsigned ps) (128 ^ length ps) b (from + (length ps + 1)))
  gathered_few h =
      let e : length ps + 1 - 1 ≡ length ps = omega arith in
      rw (length_snoc ps b, lt-ltb (length ps + 1) 10 (omega arith), e, take-append_seam ps (b ∷ []), get_or-append_seam ps b [] 0)

  pub gathered_ten : length ps ≡ 9 → b < 128 → gathered from (span (ps ++ (b ∷ []))) ≡ Some (Ten (unsigned ps) b (from + (length ps + 1)))
  gathered_ten h l =
      let e : 10 ≡ length ps + 1 = omega arith in
      rw (length_snoc ps b, le-ltb (length ps + 1) 10 (omega arith), get_or_at ps b [] 0 9 h, lt-ltb b 128 l, take_at ps (b ∷ []) 9 h)
      (ap (λ (n : ℕ). Some (Ten (unsigned ps) b (from + n))) e)

pub gathered_long : (from : ℕ) (bs : List ℕ) → 10 ≤ length bs → 128 ≤ tenth bs → gathered from (span bs) ≡ None
gathered_long from bs h l = rw (le-ltb (length bs) 10 h, le-ltb (tenth bs) 128 l)

gathered_past : (from : ℕ) (ps : List ℕ) (b : ℕ) → length ps ≡ 9 → 128 ≤ b → (x : Span) → gathered from (behind (ps ++ (b ∷ [])) x) ≡ None
gathered_past from ps b h l (span bs) =
    let n = length-append (ps ++ (b ∷ [])) bs in
    let t : tenth (ps ++ (b ∷ []) ++ bs) ≡ b = ap tenth (append_snoc ps b bs) ∙ get_or_at ps b bs 0 9 h in
    gathered_long from (ps ++ (b ∷ []) ++ bs) (omega (arith, n, length_snoc ps b)) (omega (arith, t))
gathered_past from ps b h l unended = refl

-- ---- the loop's invariant

pub record Held (s : List ℕ) (from at low scale : ℕ) : Type 0 where
  pub bytes : Passed is_last s from at
  pub few : length bytes.passed ≤ 9
  pub worth : Worth bytes.passed low scale

pub none_held : (s : List ℕ) (from : ℕ) → Held s from from 0 1
none_held s from = record { bytes = none_passed is_last s from; few = omega arith; worth = none_worth }

module _ {s : List ℕ} {from at low scale : ℕ} (i : Held s from at low scale) where
  pub is_out : length s ≤ at → None ≡ gathered_at s from
  unfolding gathered_at
  is_out h = sym (ap (gathered from) (runs_out i.bytes h))

  next : at + 1 ≡ from + (length i.bytes.passed + 1)
  next = omega (arith, i.bytes.place)

  module _ (h : at < length s) where
    ends : get_or s at 0 < 128 → gathered_at s from ≡ gathered from (span (i.bytes.passed ++ (get_or s at 0 ∷ [])))
    unfolding gathered_at
    ends b = ap (gathered from) (span_ends i.bytes h (lt-ltb (get_or s at 0) 128 b))

    abbrev passes : 128 ≤ get_or s at 0 → Passed is_last s from (at + 1)
    passes b = one_passed i.bytes h (le-ltb (get_or s at 0) 128 b)

    module _ (t : scale ≡ 2 ^ 63) where
      nine : length i.bytes.passed ≡ 9
      nine = nine_passed i.worth i.few t

      pub is_ten : get_or s at 0 < 128 → Some (Ten low (get_or s at 0) (at + 1)) ≡ gathered_at s from
      is_ten b =
          (λ j. Some (Ten (i.worth.worth j) (get_or s at 0) (next j))) ∙
          sym (ends b ∙ gathered_ten from i.bytes.passed (get_or s at 0) nine b)

      pub is_cut : 128 ≤ get_or s at 0 → None ≡ gathered_at s from
      unfolding gathered_at
      is_cut b =
          sym (ap (gathered from) (passes b).rest ∙ gathered_past from i.bytes.passed (get_or s at 0) nine b (span_to is_last (drop (at + 1) s)))

    module _ (t : scale ≡ 2 ^ 63 → ⊥) where
      eight : length i.bytes.passed ≤ 8
      eight = eight_passed i.worth i.few t

      pub is_few : get_or s at 0 < 128 → Some (Few low scale (get_or s at 0) (at + 1)) ≡ gathered_at s from
      is_few b =
          (λ j. Some (Few (i.worth.worth j) (i.worth.counts j) (get_or s at 0) (next j))) ∙
          sym (ends b ∙ gathered_few from i.bytes.passed (get_or s at 0) eight)

      pub fits_sum : (b : ℕ) → Fits w64 (low + b % 128 * scale)
      fits_sum b =
          let c : b % 128 < 128 = omega arith in
          record { fits = omega (arith, scale_small i.worth eight, sum_below i.worth c) }

      pub fits_product : (b : ℕ) → Fits w64 (b % 128 * scale)
      fits_product b = record { fits = omega (arith, (fits_sum b).fits) }

      pub fits_scale : Fits w64 (scale * 128)
      fits_scale = record { fits = omega (arith, scale_small i.worth eight) }

      pub is_more : 128 ≤ get_or s at 0 → Held s from (at + 1) (low + get_or s at 0 % 128 * scale) (scale * 128)
      is_more b =
          record {
            bytes = passes b;
            few = omega (arith, length_snoc i.bytes.passed (get_or s at 0), eight);
            worth = one_more i.worth (get_or s at 0);
          }

-- what the needs of `gather` are answered by
pub ruleset gather_laws = (none_held, is_out, is_ten, is_cut, is_few, is_more, fits_sum, fits_product, fits_scale)
