-- The laws that callers cite: an operation ends behind its place and within the bytes, and what a parser's answer says determines it. They
-- are about the definitions alone. Assumes nothing.
use Prim.Native.Nat.{ℕ, ◌+◌, ◌≤◌, ◌<◌}
use mathlib.Core.Path.{◌≡◌, refl, sym, subst}
use mathlib.Core.List.{List}
use native.Mathlib.Omega.{arith}
use lib.ListN.{length}
use Rattle.numbers.proofs.Laws.{Within, uleb_read, sleb_read, string_read}
use Rattle.numbers.proofs.Then.{by_read}
use Rattle.numbers.specs.Leb128.{uleb_at, sleb_at}
use Rattle.numbers.specs.Strings.{string_at}
use Rattle.refusal.proofs.Unique.{one_each}
use Rattle.refusal.specs.declared.Refusal.{Refusal}
use Rattle.operations.specs.Table.{Parsed, operation, faulty, no_bytes, Operands, alone, uleb, ulebs, sleb, string, Row, operands_at, operation_at}
use Rattle.operations.proofs.Cases.{each, by_table}
use Rattle.operations.specs.Told.{told}
use Rattle.std.specs.Prelude.{Option, Some, None, Result, Ok, Err}

-- ---- an operation ends behind its place, and within the bytes

abbrev IfOperation : {Op : Type 0} → List ℕ → ℕ → Parsed Op → Type 0
IfOperation s at (operation op next) = Within s at next
IfOperation s at (faulty e) = Unit {0}
IfOperation s at no_bytes = length s ≤ at

further : {s : List ℕ} {at from next : ℕ} → at < from → Within s from next → Within s at next
further h w = record { beyond = omega (arith, w.beyond); inside = w.inside }

module _ {Op : Type 0} (s : List ℕ) (at : ℕ) where
  abbrev IfRead : Parsed Op → Type 0
  IfRead = IfOperation s at

  if_operands : at < length s → (o : Operands Op) → IfRead (operands_at s (at + 1) o)
  if_operands h (alone op) = record { beyond = omega arith; inside = omega arith }
  if_operands h (uleb make) =
      by_read (uleb_at s (at + 1)) _ _ IfRead tt (λ v next e. further (omega arith) (uleb_read s (at + 1) (sym e) refl).within)
  if_operands h (ulebs make) =
      by_read (uleb_at s (at + 1)) _ _ IfRead tt
      (λ v next e. let w = (uleb_read s (at + 1) (sym e) refl).within in
      by_read (uleb_at s next) _ _ IfRead tt (λ u after f. further (omega (arith, w.beyond)) (uleb_read s next (sym f) refl).within))
  if_operands h (sleb make) =
      by_read (sleb_at s (at + 1)) _ _ IfRead tt (λ v next e. further (omega arith) (sleb_read s (at + 1) (sym e) refl).within)
  if_operands h (string make) =
      by_read (string_at s (at + 1)) _ _ IfRead tt (λ name next e. further (omega arith) (string_read s (at + 1) (sym e) refl).within)

  module _ (table : ℕ → List (Row Op)) where
    if_operation : IfRead (operation_at table s at)
    if_operation = by_table IfRead (λ e. tt) table s at (λ h imm low. each IfRead (λ e. tt) s (at + 1) (if_operands h) (table imm)) (λ h. h)

    pub operation_read : {op : Op} {next : ℕ} → operation_at table s at ≡ operation op next → Within s at next
    operation_read e = subst IfRead e if_operation

    -- there is nothing only where no bytes are left
    pub no_bytes_left : operation_at table s at ≡ no_bytes → length s ≤ at
    no_bytes_left e = subst IfRead e if_operation

-- ---- what is told of a parse determines it

module _ {Op : Type 0} where
  abbrev untold : Parsed Op → Result (Option (Op × ℕ)) Refusal
  untold (operation op next) = Ok (Some (op, next))
  untold (faulty e) = Err e
  untold no_bytes = Ok None

  back : (r : Result (Option (Op × ℕ)) Refusal) → untold (told r) ≡ r
  back (Ok (Some (op, next))) = refl
  back (Ok None) = refl
  back (Err e) = refl

  pub told_one : (r q : Result (Option (Op × ℕ)) Refusal) → told r ≡ told q → r ≡ q
  told_one = one_each told untold back
