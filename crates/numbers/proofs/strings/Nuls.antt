-- Laws of strings, as runs to a NUL. Assumes nothing.
use Prim.Native.Nat.{ℕ, zero, suc, ◌+◌, ◌-◌, ◌≤◌, ◌<◌}
use mathlib.Core.Path.{◌≡◌, ap, sym, ◌∙◌, subst}
use mathlib.Core.Bool.{Bool, false}
use mathlib.Core.List.{List, [], ◌∷◌, ◌++◌}
use native.Mathlib.Omega.{arith}
use borrow.Author.Tests.{eq-eqb, ne_eqb}
use lib.ListN.{length, get_or}
use Rattle.numbers.specs.Strings.{part_from, is_nul, string_of, string_at}
use Rattle.std.specs.Prelude.{Some, None}
use Rattle.numbers.specs.Passed.{Passed, nul_within}
use Rattle.numbers.proofs.Picks.{neither}
use Rattle.numbers.proofs.Spans.{length_snoc, none_passed, one_passed, runs_out, span_ends}

module _ {s : List ℕ} {from at : ℕ} (i : Passed is_nul s from at) where
  pub string_ends : at < length s → get_or s at 0 ≡ 0 → Some (part_from from (at - from), at + 1) ≡ string_at s from
  unfolding string_at
  string_ends h b =
      let n = length_snoc i.passed (get_or s at 0) in
      let e : at - from ≡ length (i.passed ++ (get_or s at 0 ∷ [])) - 1 = omega (arith, n, i.place) in
      let f : at + 1 ≡ from + length (i.passed ++ (get_or s at 0 ∷ [])) = omega (arith, n, i.place) in
      (λ j. Some (part_from from (e j), f j)) ∙ sym (ap (string_of from) (span_ends i h (eq-eqb (get_or s at 0) 0 b)))

  pub string_goes_on : at < length s → (get_or s at 0 ≡ 0 → ⊥) → Passed is_nul s from (at + 1)
  string_goes_on h b = one_passed i h (ne_eqb (get_or s at 0) 0 b)

  pub no_string : length s ≤ at → None ≡ string_at s from
  unfolding string_at
  no_string h = sym (ap (string_of from) (runs_out i h))

pub ruleset string_laws = (string_ends, string_goes_on, no_string)

-- ---- eight bytes at a time

module _ {s : List ℕ} {from at : ℕ} (i : Passed is_nul s from at) where
  more_passed : (n : ℕ) → at + n < length s → nul_within n s at ≡ false → Passed is_nul s from (at + suc n)
  unfolding nul_within
  more_passed zero h e = one_passed i (omega arith) e
  more_passed (suc n) h e =
      let both = neither (nul_within n s at) (is_nul (get_or s (at + suc n) 0)) e in
      let q : at + suc n + 1 ≡ at + suc (suc n) = omega arith in
      subst (Passed is_nul s from) q (one_passed (more_passed n (omega arith) both.0) h both.1)

  -- from what a call of `has_nul` promises and the arm of an `if` on it
  pub eight_passed : {r : Bool} → r ≡ nul_within 7 s at → r ≡ false → at + 8 ≤ length s → Passed is_nul s from (at + 8)
  eight_passed g f h = more_passed 7 (omega arith) (sym g ∙ f)

pub ruleset eight_laws = (none_passed, eight_passed)
