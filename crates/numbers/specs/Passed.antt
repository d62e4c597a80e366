-- What loops over a span say, and the private functions that they call; no public promise cites it.
use Rattle.std.specs.Prelude.{ℕ, zero, suc, ◌+◌, Bool, ◌||◌, ◌≡◌, List, ◌++◌, length, get_or, drop}
use Rattle.numbers.specs.Spans.{Span, span, unended, span_to}
use Rattle.numbers.specs.Strings.{is_nul}

-- a span behind other bytes
abbrev pub behind : List ℕ → Span → Span
behind ps (span bs) = span (ps ++ bs)
behind ps unended = unended

-- the bytes from `from` up to `at` have passed, and none has ended the span
pub record Passed (ends : ℕ → Bool) (s : List ℕ) (from at : ℕ) : Type 0 where
  pub passed : List ℕ
  pub place : at ≡ from + length passed
  pub rest : span_to ends (drop from s) ≡ behind passed (span_to ends (drop at s))

-- whether there is a NUL at a place or in so many bytes behind it
unfoldable pub nul_within : ℕ → List ℕ → ℕ → Bool
nul_within zero s at = is_nul (get_or s at 0)
nul_within (suc n) s at = nul_within n s at || is_nul (get_or s (at + suc n) 0)
