-- The imports, their records and their names, by cases; a field of four bytes and a name as they are read. Assumes nothing.
use Rattle.std.proofs.Common.{◌≡◌, ℕ, ◌≤◌, not, List, length, ltb, eqb, refl, ap, sym, ◌∙◌, min, arith, ltb-false}
use native.Mathlib.Decide.{dec_le}
use native.Mathlib.Nat.{min-eq_left}
use Rattle.std.specs.Prelude.{Option, Some, Result, Ok, Err}
use Rattle.chains.proofs.Headers.{both_headers}
use Rattle.chains.specs.FixupChains.{header_at}
use Rattle.chains.specs.declared.header.Header.{Header}
use Rattle.imports.specs.ChainedImports.{then_imports, then_record}
use Rattle.imports.specs.declared.record.ChainedImport.{ChainedImport}
use Rattle.numbers.proofs.Picks.{both_picks}
use Rattle.numbers.proofs.Rows.{field_less}
use Rattle.numbers.proofs.Spans.{none_passed}
use Rattle.numbers.proofs.little_endian.Fields.{Bytes}
use Rattle.numbers.proofs.strings.Nuls.{no_string}
use Rattle.numbers.specs.LittleEndian.{field_at}
use Rattle.numbers.specs.Strings.{is_nul, string_at}
use Rattle.refusal.specs.declared.Refusal.{Refusal}

-- what holds of two definitions that go by the same imports
module _ {A B : Type 0} (R : A → B → Type 0) where
  pub both_imports : (s : List ℕ) (e : ℕ → A) (go : Header → A) (d : ℕ → B) (to : Header → B) → ((n : ℕ) → R (e n) (d n)) →
      ((h : Header) → h.imports_offset ≤ length s → h.symbols_offset ≤ length s → R (go h) (to h)) → R (then_imports s e go) (then_imports s d to)
  unfolding then_imports
  both_imports s e go d to p q =
      both_headers R (header_at s) e _ d _ p
      (λ h.
      both_picks R (not (eqb h.symbols_format 0)) _ _ _ _ (λ t. p _)
      (λ u.
      both_picks R (ltb (length s) h.imports_offset) _ _ _ _ (λ t. p _)
      (λ i.
      both_picks R (ltb (length s) h.symbols_offset) _ _ _ _ (λ t. p _)
      (λ j. q h (ltb-false (length s) h.imports_offset i) (ltb-false (length s) h.symbols_offset j)))))

-- what holds of what follows a record
module _ {A : Type 0} (x : Result (ChainedImport × ℕ) Refusal) (refused : Refusal → A) (go : ChainedImport → ℕ → A) where
  pub by_record : (P : A → Type 0) → ((d : Refusal) → P (refused d)) → ((v : ChainedImport) (next : ℕ) → x ≡ Ok (v, next) → P (go v next)) → P (then_record x refused go)
  unfolding then_record
  by_record P bad h = by x h
    where
      by : (y : Result (ChainedImport × ℕ) Refusal) → ((v : ChainedImport) (next : ℕ) → y ≡ Ok (v, next) → P (go v next)) → P (then_record y refused go)
      by (Ok (v, next)) g = g v next refl
      by (Err d) g = bad d

-- a field of four bytes is below 2^32
pub field_most : (s : List ℕ) (at : ℕ) {r : Option (ℕ × ℕ)} {v next : ℕ} → r ≡ field_at 4 s at → r ≡ Some (v, next) → Bytes s → v ≤ 0xffff_ffff
field_most s at e f h = omega (arith, field_less 4 s at e f h)

-- a name at a place that a usize has not is beyond the bytes, as is the largest
pub name_far : (s : List ℕ) (at : ℕ) → length s ≤ 0xffff_ffff_ffff_ffff → string_at s (min at 0xffff_ffff_ffff_ffff) ≡ string_at s at
name_far s at l =
    elim (dec_le at 0xffff_ffff_ffff_ffff) [
      | yes h ↦ ap (string_at s) (min-eq_left h)
      | no h ↦ sym (no_string (none_passed is_nul s (min at 0xffff_ffff_ffff_ffff)) (omega arith)) ∙ no_string (none_passed is_nul s at) (omega arith)
    ]
