-- Reading an operation is local: what stands behind it does not matter to what it is, nor to the place behind it; and one byte decides that
-- an opcode is unknown. The laws are about the definitions alone. Assumes nothing.
use Prim.Native.Nat.{ℕ, ◌+◌, ◌≤◌, ◌<◌}
use mathlib.Core.Path.{◌≡◌, refl, ap, sym, ◌∙◌, subst}
use mathlib.Core.Bool.{cond}
use mathlib.Core.List.{List}
use Rattle.std.specs.Prelude.{Option, None, Some}
use native.Mathlib.Omega.{arith}
use borrow.Author.Tests.{lt-ltb, ltb-true}
use lib.Dec.{ltb}
use lib.ListN.{length, get_or}
use Rattle.numbers.proofs.Laws.{uleb_read, sleb_read, string_read}
use Rattle.numbers.proofs.Local.{Decided, later, decides, decides_then, byte_local, below_local, uleb_local, sleb_local, string_local}
use Rattle.numbers.proofs.Picks.{by_test}
use Rattle.numbers.proofs.Then.{by_read}
use Rattle.numbers.specs.Leb128.{uleb_at, sleb_at}
use Rattle.numbers.specs.Strings.{string_at}
use Rattle.numbers.specs.Then.{then}
use Rattle.refusal.specs.Numbers.{number_of}
use Rattle.refusal.specs.declared.Refusal.TheVariants.{UnknownOpcode, FaultyOperand}
use Rattle.operations.specs.Table.{Parsed, operation, faulty, no_bytes, Operands, alone, uleb, ulebs, sleb, string, Row, operands_at, operands_of, found_at, operation_at}

-- ---- operands

module _ {Op : Type 0} (s : List ℕ) where
  abbrev IfOperands : (at : ℕ) → Operands Op → Parsed Op → Type 0
  IfOperands at o (operation op next) = at ≤ next × Decided (λ r. operands_at r at o) s next
  IfOperands at o (faulty e) = e ≡ FaultyOperand
  IfOperands at o no_bytes = ⊥

  if_uleb : (at : ℕ) (make : ℕ → Op) → IfOperands at (uleb make) (operands_at s at (uleb make))
  if_uleb at make =
      by_read (uleb_at s at) _ _ (IfOperands at (uleb make)) refl
      (λ v next e. (
        omega (arith, (uleb_read s at (sym e) refl).within.beyond),
        decides (uleb_local s at e) (λ x. then x (faulty FaultyOperand) (λ v next. operation (make v) next)),
      ))

  -- two numbers are one, and then another
  abbrev second : (make : ℕ → ℕ → Op) → List ℕ → Option (ℕ × ℕ) → Parsed Op
  second make r x = then x (faulty FaultyOperand) (λ v next. operands_at r next (uleb (make v)))

  if_first : (at : ℕ) (make : ℕ → ℕ → Op) {v next : ℕ} → uleb_at s at ≡ Some (v, next) → (x : Parsed Op) → IfOperands next (uleb (make v)) x →
      IfOperands at (ulebs make) x
  unfolding then
  if_first at make {v} {next} e (operation op after) (h, d) = (
    omega (arith, (uleb_read s at (sym e) refl).within.beyond),
    decides_then (second make) (later (uleb_local s at e) after h d.inside)
        (subst (λ (x : Option (ℕ × ℕ)). Decided (λ r. second make r x) s after) (sym e) d),
  )
  if_first at make e (faulty n) h = h
  if_first at make e no_bytes h = h

  if_operands : (at : ℕ) → at ≤ length s → (o : Operands Op) → IfOperands at o (operands_at s at o)
  if_operands at h (alone op) = (omega arith, record { inside = h; same = λ r e. refl })
  if_operands at h (uleb make) = if_uleb at make
  if_operands at h (ulebs make) =
      by_read (uleb_at s at) _ _ (IfOperands at (ulebs make)) refl (λ v next e. if_first at make e (operands_at s next (uleb (make v))) (if_uleb next (make v)))
  if_operands at h (sleb make) =
      by_read (sleb_at s at) _ _ (IfOperands at (sleb make)) refl
      (λ v next e. (
        omega (arith, (sleb_read s at (sym e) refl).within.beyond),
        decides (sleb_local s at e) (λ x. then x (faulty FaultyOperand) (λ v next. operation (make v) next)),
      ))
  if_operands at h (string make) =
      by_read (string_at s at) _ _ (IfOperands at (string make)) refl
      (λ name next e. (
        omega (arith, (string_read s at (sym e) refl).within.beyond),
        decides (string_local s at e) (λ x. then x (faulty FaultyOperand) (λ name next. operation (make name) next)),
      ))

  pub operands_local : (at : ℕ) → at ≤ length s → (o : Operands Op) {op : Op} {next : ℕ} → operands_at s at o ≡ operation op next → Decided (λ r. operands_at r at o) s next
  operands_local at h o e = (subst (IfOperands at o) e (if_operands at h o)).1

-- ---- operations, of any table

module _ {Op : Type 0} (table : ℕ → List (Row Op)) (s : List ℕ) (at : ℕ) where
  abbrev Settled : (next : ℕ) → Type 0
  Settled next = Decided (λ r. operation_at table r at) s next

  -- what the operands of its byte make decides it
  by_byte : at < length s → (o : Option (Operands Op)) → operands_of table (get_or s at 0) ≡ o → {next : ℕ} → at + 1 ≤ next →
      Decided (λ r. found_at r (at + 1) o) s next → Settled next
  unfolding operation_at
  by_byte h o e {next} l d =
      decides_then (λ r t. cond t (found_at r (at + 1) (operands_of table (get_or r at 0))) no_bytes) (later (below_local s at h) next l d.inside)
      (rw (lt-ltb at (length s) h)
      (decides_then (λ r b. found_at r (at + 1) (operands_of table b)) (later (byte_local s at h) next l d.inside) (rw e d)))

  abbrev IfOperation : Parsed Op → Type 0
  IfOperation (operation op next) = Settled next
  IfOperation (faulty e) = e ≡ UnknownOpcode → Settled (at + 1)
  IfOperation no_bytes = Unit {0}

  if_found : at < length s → (o : Operands Op) → operands_of table (get_or s at 0) ≡ Some o → (x : Parsed Op) → IfOperands s (at + 1) o x → IfOperation x
  if_found h o e (operation op next) (l, d) = by_byte h (Some o) e l d
  if_found h o e (faulty n) f = λ g. absurd (omega (arith, ap number_of (sym f ∙ g)))
  if_found h o e no_bytes f = absurd f

  by_operands : at < length s → (o : Option (Operands Op)) → operands_of table (get_or s at 0) ≡ o → IfOperation (found_at s (at + 1) o)
  by_operands h None e = λ g. by_byte h None e (omega arith) (record { inside = omega arith; same = λ r f. refl })
  by_operands h (Some o) e = if_found h o e (operands_at s (at + 1) o) (if_operands s (at + 1) (omega arith) o)

  if_operation : IfOperation (operation_at table s at)
  unfolding operation_at
  if_operation =
      by_test IfOperation (ltb at (length s)) _ _ (λ e. by_operands (ltb-true at (length s) e) (operands_of table (get_or s at 0)) refl) (λ e. tt)

  pub operation_local : {op : Op} {next : ℕ} → operation_at table s at ≡ operation op next → Decided (λ r. operation_at table r at) s next
  operation_local e = subst IfOperation e if_operation

  pub unknown_local : operation_at table s at ≡ faulty UnknownOpcode → Decided (λ r. operation_at table r at) s (at + 1)
  unknown_local e = subst IfOperation e if_operation refl
