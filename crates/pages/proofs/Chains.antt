-- A chain by its first pointer. Assumes nothing.
use Rattle.std.proofs.Common.{◌≡◌, ℕ, zero, suc, ◌+◌, ◌-◌, ◌^◌, ◌<◌, ◌≤◌, min, Bool, true, false, cond, eqb, List, length, sym, refl, ap, ◌∙◌, arith}
use Rattle.std.specs.Prelude.{Option, Some, None}
use native.Mathlib.Decide.{dec_le}
use native.Mathlib.Nat.{min-eq_left, min-eq_right}
use borrow.Author.Tests.{eqb-false}
use Rattle.chains.specs.declared.Segment.{Segment}
use Rattle.numbers.proofs.Rows.{field_out}
use Rattle.numbers.specs.LittleEndian.{field_at}
use Rattle.numbers.specs.Then.{then}
use Rattle.pages.specs.ChainedPointers.{is_narrow, width_of, fixup_of, next_of, patch}
use Rattle.pages.specs.Listing.{Page, Paged, paged, outside, following, chain_in, chain}
use Rattle.runs.specs.Runs.{Run, stops, gives}

-- a pointer has bytes
has_width : (format : ℕ) → 4 ≤ width_of format
has_width format = by (is_narrow format)
  where
    by : (t : Bool) → 4 ≤ cond t 4 8
    by true = omega arith
    by false = omega arith

module _ (s d : List ℕ) (g : Segment) (base : ℕ) (p : Page) where
  -- what follows the read of a pointer, with what lists the rest of its chain
  abbrev Behind : (rest : ℕ → Run Paged) (place : ℕ) → Option (ℕ × ℕ) → Run Paged
  Behind rest place x =
      then x outside
      (λ n after.
      gives (paged p (patch place (fixup_of g.pointer_format base n))) (following rest place (next_of g.pointer_format n)))

  no_pointer : (place : ℕ) → length d ≤ place → field_at (width_of g.pointer_format) d place ≡ None
  no_pointer place h = field_out (width_of g.pointer_format) d place (omega (arith, has_width g.pointer_format))

  -- what lists alike, lists the rest alike
  by_read : (rest more : ℕ → Run Paged) (place : ℕ) →
      ((next : ℕ) → (next ≡ 0 → ⊥) → rest (place + next) ≡ more (place + next)) → (x : Option (ℕ × ℕ)) →
      Behind rest place x ≡ Behind more place x
  unfolding then
  by_read rest more place h None = refl
  by_read rest more place h (Some (n, after)) =
      ap (gives (paged p (patch place (fixup_of g.pointer_format base n))))
      (by_next (next_of g.pointer_format n) (eqb (next_of g.pointer_format n) 0) refl)
    where
      by_next : (next : ℕ) (t : Bool) → eqb next 0 ≡ t → cond t stops (rest (place + next)) ≡ cond t stops (more (place + next))
      by_next next true e = refl
      by_next next false e = h next (eqb-false next 0 e)

  -- more pointers than bytes there are not
  enough : (k place : ℕ) → length d ≤ place + k → chain_in s d g base p k place ≡ chain_in s d g base p (suc k) place
  unfolding chain_in then
  enough zero place h = sym (ap (Behind (chain_in s d g base p 0) place) (no_pointer place (omega arith)))
  enough (suc k) place h =
      by_read (chain_in s d g base p k) (chain_in s d g base p (suc k)) place
      (λ next n. enough k (place + next) (omega (arith, h, n))) (field_at (width_of g.pointer_format) d place)

  -- a chain is its first pointer, and then the chain from the next on
  pub chain_by : (place : ℕ) →
      chain s d g base p place ≡ Behind (chain s d g base p) place (field_at (width_of g.pointer_format) d place)
  unfolding chain chain_in
  chain_by place = enough (length d) place (omega arith)

  pub chain_out : (place : ℕ) → length d ≤ place → chain s d g base p place ≡ outside
  unfolding then
  chain_out place h = chain_by place ∙ ap (Behind (chain s d g base p) place) (no_pointer place h)

  -- no chain goes on at an offset that a u64 has not
  pub chain_far : length d < 2 ^ 64 → (place : ℕ) →
      chain s d g base p (min place (2 ^ 64 - 1)) ≡ chain s d g base p place
  chain_far l place =
      elim (dec_le place (2 ^ 64 - 1)) [
        | yes h ↦ ap (chain s d g base p) (min-eq_left h)
        | no h ↦ chain_out (min place (2 ^ 64 - 1)) (rw (min-eq_right {n = 2 ^ 64 - 1} {m = place} (omega arith)) (omega arith))
            ∙ sym (chain_out place (omega arith))
      ]
