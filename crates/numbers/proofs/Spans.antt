-- Laws of runs of bytes, over what ends them. Assumes nothing.
use Prim.Native.Nat.{ℕ, zero, suc, ◌+◌, ◌≤◌, ◌<◌}
use mathlib.Core.Path.{◌≡◌, refl, ap, sym, ◌∙◌, subst}
use mathlib.Core.Bool.{Bool, true, false, cond}
use mathlib.Core.List.{List, [], ◌∷◌, ◌++◌}
use native.Mathlib.Numerals.{add-one}
use native.Mathlib.Omega.{arith}
use lib.ListN.{length, get_or, drop, length-append, drop_of_length-le}
use lib.Seq.{append_snoc, drop-cons}
use Rattle.numbers.specs.Passed.{Passed, behind}
use Rattle.numbers.specs.Spans.{Span, span, unended, in_front, span_to}

pub length_snoc : (bs : List ℕ) (b : ℕ) → length (bs ++ (b ∷ [])) ≡ length bs + 1
length_snoc bs b = length-append bs (b ∷ [])

pub behind_none : (x : Span) → behind [] x ≡ x
behind_none (span bs) = refl
behind_none unended = refl

pub behind_more : (ps : List ℕ) (b : ℕ) (x : Span) → behind ps (in_front b x) ≡ behind (ps ++ (b ∷ [])) x
behind_more ps b (span bs) = ap span (sym (append_snoc ps b bs))
behind_more ps b unended = refl

-- ---- a span by the byte at a place

module _ (ends : ℕ → Bool) (s : List ℕ) (at : ℕ) where
  none_left : length s ≤ at → span_to ends (drop at s) ≡ unended
  unfolding span_to
  none_left h = rw (drop_of_length-le s h)

  ends_here : at < length s → ends (get_or s at 0) ≡ true → span_to ends (drop at s) ≡ span (get_or s at 0 ∷ [])
  unfolding span_to
  ends_here h e = rw (drop-cons s at 0 h, e)

  pub goes_on : at < length s → ends (get_or s at 0) ≡ false → span_to ends (drop at s) ≡ in_front (get_or s at 0) (span_to ends (drop (at + 1) s))
  unfolding span_to
  goes_on h e = rw (drop-cons s at 0 h, e, add-one at)

-- ---- a span as a loop reads it

abbrev pub none_passed : (ends : ℕ → Bool) (s : List ℕ) (from : ℕ) → Passed ends s from from
none_passed ends s from =
    record { passed = []; place = omega arith; rest = sym (behind_none (span_to ends (drop from s))) }

module _ {ends : ℕ → Bool} {s : List ℕ} {from at : ℕ} (i : Passed ends s from at) where
  pub runs_out : length s ≤ at → span_to ends (drop from s) ≡ unended
  runs_out h = i.rest ∙ ap (behind i.passed) (none_left ends s at h)

  pub span_ends : at < length s → ends (get_or s at 0) ≡ true → span_to ends (drop from s) ≡ span (i.passed ++ (get_or s at 0 ∷ []))
  span_ends h e = i.rest ∙ ap (behind i.passed) (ends_here ends s at h e)

  abbrev pub one_passed : at < length s → ends (get_or s at 0) ≡ false → Passed ends s from (at + 1)
  one_passed h e =
      let b = get_or s at 0 in
      record {
        passed = i.passed ++ (b ∷ []);
        place = omega (arith, i.place, length_snoc i.passed b);
        rest = i.rest ∙ ap (behind i.passed) (goes_on ends s at h e) ∙ behind_more i.passed b (span_to ends (drop (at + 1) s));
      }

-- ---- what a span is

pub record IsSpan (ends : ℕ → Bool) (from bs : List ℕ) : Type 0 where
  pub passed : List ℕ
  pub last : ℕ
  pub split : bs ≡ passed ++ (last ∷ [])
  pub goes : (i : ℕ) → i < length passed → ends (get_or passed i 0) ≡ false
  pub closes : ends last ≡ true
  pub inside : length passed < length from

abbrev IfSpan : (ℕ → Bool) → List ℕ → Span → Type 0
IfSpan ends from (span bs) = IsSpan ends from bs
IfSpan ends from unended = Unit {0}

module _ (ends : ℕ → Bool) where
  pub goes_before : (b : ℕ) (ps : List ℕ) → ends b ≡ false → ((i : ℕ) → i < length ps → ends (get_or ps i 0) ≡ false) → (i : ℕ) → i < length (b ∷ ps) → ends (get_or (b ∷ ps) i 0) ≡ false
  goes_before b ps e f zero h = e
  goes_before b ps e f (suc i) h = f i (omega arith)

  one_before : (b : ℕ) (from : List ℕ) → ends b ≡ false → (x : Span) → IfSpan ends from x → IfSpan ends (b ∷ from) (in_front b x)
  one_before b from e (span bs) i =
      record {
        passed = b ∷ i.passed;
        last = i.last;
        split = ap (λ (ds : List ℕ). b ∷ ds) i.split;
        goes = goes_before b i.passed e i.goes;
        closes = i.closes;
        inside = omega (arith, i.inside);
      }
  one_before b from e unended i = tt

  one_byte : (b : ℕ) (from : List ℕ) → ends b ≡ true → IsSpan ends (b ∷ from) (b ∷ [])
  one_byte b from e =
      record {
        passed = [];
        last = b;
        split = refl;
        goes = λ i h. absurd (omega arith);
        closes = e;
        inside = omega arith;
      }

  by_test : (b : ℕ) (from : List ℕ) (t : Bool) → ends b ≡ t → (x : Span) → IfSpan ends from x → IfSpan ends (b ∷ from) (cond t (span (b ∷ [])) (in_front b x))
  by_test b from true e x i = one_byte b from e
  by_test b from false e x i = one_before b from e x i

  span_of : (from : List ℕ) → IfSpan ends from (span_to ends from)
  unfolding span_to
  span_of [] = tt
  span_of (b ∷ from) = by_test b from (ends b) refl (span_to ends from) (span_of from)

  pub is_span : (from : List ℕ) {bs : List ℕ} → span_to ends from ≡ span bs → IsSpan ends from bs
  is_span from e = subst (IfSpan ends from) e (span_of from)
