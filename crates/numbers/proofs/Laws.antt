-- The laws that callers cite: what is known of whatever was read. They are about the definitions alone. Assumes nothing.
use Prim.Native.Nat.{ℕ, ◌+◌, ◌^◌, ◌≤◌, ◌<◌}
use mathlib.Core.Path.{◌≡◌, refl, ap, sym, ◌∙◌, subst}
use mathlib.Core.List.{List}
use native.Mathlib.Decide.{dec_lt, ℕ_discrete}
use native.Mathlib.Omega.{arith}
use borrow.Author.Tests.{le-leb}
use lib.IntN.{ℤ}
use lib.ListN.{length, drop, length-drop}
use lib.Seq.{length-take-le}
use mir.Syntax.{w64}
use mir.Val.{SFits}
use Rattle.numbers.specs.Gathered.{gathered_at}
use Rattle.numbers.specs.Leb128.{uleb_at, sleb_at}
use Rattle.numbers.specs.Parts.{part_of}
use Rattle.numbers.specs.Spans.{Span, span, unended, span_to}
use Rattle.numbers.specs.Strings.{is_nul, string_of, string_at}
use Rattle.numbers.specs.declared.leb128.Gathered.{Gathered}
use Rattle.numbers.specs.declared.leb128.Gathered.TheVariants.{Few, Ten}
use Rattle.std.specs.Prelude.{Option, Some, None}
use Rattle.numbers.specs.declared.parts.Part.{Part}
use Rattle.numbers.proofs.Spans.{is_span, length_snoc}
use Rattle.numbers.proofs.leb128.Views.{Seen, seen, few_sum}
use Rattle.numbers.proofs.leb128.Uleb.{few_uleb, ten_uleb, ten_fits, ten_large, cut_uleb}
use Rattle.numbers.proofs.leb128.Sleb.{few_plus, few_minus, plus_below, minus_small, ten_low, ten_plus, ten_minus, ten_fault, cut_sleb}

-- what is read at a place ends behind it, and within the bytes
pub record Within (s : List ℕ) (at next : ℕ) : Type 0 where
  pub beyond : at < next
  pub inside : next ≤ length s

-- ---- LEB128 of either sign

within : {s : List ℕ} {at low scale last next : ℕ} → Seen s at low scale last next → Within s at next
within v = record { beyond = omega (arith, v.place); inside = v.inside }

module _ (s : List ℕ) (at : ℕ) where
  few_within : {low scale last next : ℕ} → gathered_at s at ≡ Some (Few low scale last next) → Within s at next
  few_within f = within (seen s at refl f).seen

  ten_within : {low last next : ℕ} → gathered_at s at ≡ Some (Ten low last next) → Within s at next
  ten_within f = within (seen s at refl f).seen

-- ---- unsigned LEB128: a value is below 2^64

pub record UlebRead (s : List ℕ) (at value next : ℕ) : Type 0 where
  pub within : Within s at next
  pub below : value < 2 ^ 64

abbrev IfUleb : List ℕ → ℕ → Option (ℕ × ℕ) → Type 0
IfUleb s at (Some (v, next)) = UlebRead s at v next
IfUleb s at None = Unit {0}

module _ (s : List ℕ) (at : ℕ) where
  uleb_of_lem : (y : Option Gathered) → gathered_at s at ≡ y → IfUleb s at (uleb_at s at)
  uleb_of_lem (Some (Few low scale last next)) f =
      subst (IfUleb s at) (few_uleb s at refl f)
      (record { within = few_within s at f; below = (few_sum s at refl f).fits })
  uleb_of_lem (Some (Ten low last next)) f =
      elim (dec_lt last 2) [
        | yes h ↦ subst (IfUleb s at) (ten_uleb s at refl f h)
            (record { within = ten_within s at f; below = (ten_fits s at refl f h).fits })
        | no h ↦ subst (IfUleb s at) (ten_large s at refl f (omega arith)) tt
      ]
  uleb_of_lem None f = subst (IfUleb s at) (cut_uleb s at refl f) tt

  pub uleb_read : {r : Option (ℕ × ℕ)} {v next : ℕ} → r ≡ uleb_at s at → r ≡ Some (v, next) → UlebRead s at v next
  uleb_read e f = subst (IfUleb s at) (sym e ∙ f) (uleb_of_lem (gathered_at s at) refl)

-- ---- signed LEB128: a value is one of an i64

pub record SlebRead (s : List ℕ) (at : ℕ) (value : ℤ) (next : ℕ) : Type 0 where
  pub within : Within s at next
  pub fits : SFits w64 value

abbrev IfSleb : List ℕ → ℕ → Option (ℤ × ℕ) → Type 0
IfSleb s at (Some (v, next)) = SlebRead s at v next
IfSleb s at None = Unit {0}

module _ (s : List ℕ) (at : ℕ) where
  sleb_of_lem : (y : Option Gathered) → gathered_at s at ≡ y → IfSleb s at (sleb_at s at)
  sleb_of_lem (Some (Few low scale last next)) f =
      elim (dec_lt last 64) [
        | yes h ↦ subst (IfSleb s at) (few_plus s at refl f h refl)
            (record { within = few_within s at f; fits = record { sfits = plus_below s at refl f h } })
        | no h ↦ let l : 64 ≤ last = omega arith in
            subst (IfSleb s at) (few_minus s at refl f l refl)
            (record { within = few_within s at f; fits = record { sfits = minus_small s at refl f l } })
      ]
  sleb_of_lem (Some (Ten low last next)) f =
      elim (ℕ_discrete last 0) [
        | yes h ↦ subst (IfSleb s at) (ten_plus s at refl f h refl)
            (record { within = ten_within s at f; fits = record { sfits = ten_low s at refl f } })
        | no h ↦ elim (ℕ_discrete last 127) [
          | yes l ↦ subst (IfSleb s at) (ten_minus s at refl f l refl)
              (record { within = ten_within s at f; fits = record { sfits = omega arith } })
          | no l ↦ subst (IfSleb s at) (ten_fault s at refl f h l) tt
        ]
      ]
  sleb_of_lem None f = subst (IfSleb s at) (cut_sleb s at refl f) tt

  pub sleb_read : {r : Option (ℤ × ℕ)} {v : ℤ} {next : ℕ} → r ≡ sleb_at s at → r ≡ Some (v, next) → SlebRead s at v next
  sleb_read e f = subst (IfSleb s at) (sym e ∙ f) (sleb_of_lem (gathered_at s at) refl)

-- ---- strings

pub record StringRead (s : List ℕ) (at : ℕ) (part : Part) (next : ℕ) : Type 0 where
  pub within : Within s at next
  pub starts : part.place ≡ at
  pub ends : next ≡ part.place + part.length + 1

abbrev IfString : List ℕ → ℕ → Option (Part × ℕ) → Type 0
IfString s at (Some (part, next)) = StringRead s at part next
IfString s at None = Unit {0}

module _ (s : List ℕ) (at : ℕ) where
  string_of_lem : (x : Span) → span_to is_nul (drop at s) ≡ x → IfString s at (string_of at x)
  string_of_lem (span bs) e =
      let i = is_span is_nul (drop at s) e in
      let n : length bs ≡ length i.passed + 1 = ap length i.split ∙ length_snoc i.passed i.last in
      record {
        within = record { beyond = omega (arith, n); inside = omega (arith, n, i.inside, length-drop at s) };
        starts = refl;
        ends = omega (arith, n);
      }
  string_of_lem unended e = tt

  pub string_read : {r : Option (Part × ℕ)} {part : Part} {next : ℕ} → r ≡ string_at s at → r ≡ Some (part, next) → StringRead s at part next
  unfolding string_at
  string_read e f = subst (IfString s at) (sym e ∙ f) (string_of_lem (span_to is_nul (drop at s)) refl)

-- ---- parts

module _ (s : List ℕ) (at len : ℕ) where
  pub part_length : at + len ≤ length s → length (part_of s at len) ≡ len
  unfolding part_of
  part_length h =
      rw (le-leb (at + len) (length s) h) (length-take-le len (drop at s) (omega (arith, length-drop at s)))
