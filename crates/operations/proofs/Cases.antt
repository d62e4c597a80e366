-- What holds of each row of a table holds of the operation at a place. Assumes nothing.
use Prim.Native.Nat.{ℕ, ◌+◌, ◌*◌, ◌/◌, ◌%◌, ◌≤◌, ◌<◌}
use mathlib.Core.List.{List, [], ◌∷◌}
use Rattle.std.specs.Prelude.{Option, Some}
use native.Mathlib.Omega.{arith}
use borrow.Author.Tests.{ltb-true, ltb-false}
use lib.Dec.{ltb, eqb}
use lib.ListN.{length, get_or}
use Rattle.numbers.proofs.Picks.{by_pick, by_test}
use Rattle.operations.specs.Table.{Parsed, faulty, no_bytes, Operands, Row, ◌⇒◌, operands_at, looked_up, found_at, operation_at}
use Rattle.refusal.specs.declared.Refusal.{Refusal}
use Rattle.refusal.specs.declared.Refusal.TheVariants.{UnknownOpcode}

module _ {Op : Type 0} (P : Parsed Op → Type 0) (bad : (e : Refusal) → P (faulty e)) where
  module _ (s : List ℕ) (at : ℕ) where
    abbrev pub Each : List (Row Op) → Type 0
    Each [] = Unit {0}
    Each (k ⇒ operands ∷ rows) = P (operands_at s at operands) × Each rows

    pub each : ((operands : Operands Op) → P (operands_at s at operands)) → (rows : List (Row Op)) → Each rows
    each h [] = tt
    each h (k ⇒ operands ∷ rows) = (h operands, each h rows)

    by_row : (opcode : ℕ) (rows : List (Row Op)) → Each rows → P (found_at s at (looked_up opcode rows))
    unfolding looked_up
    by_row opcode [] h = bad UnknownOpcode
    by_row opcode (k ⇒ operands ∷ rows) h =
        by_pick (λ (o : Option (Operands Op)). P (found_at s at o)) (eqb opcode k) (Some operands) (looked_up opcode rows) h.0 (by_row opcode rows h.1)

  module _ (table : ℕ → List (Row Op)) (s : List ℕ) (at : ℕ) (rows : at < length s → (imm : ℕ) → imm < 16 → Each s (at + 1) (table imm)) (none : length s ≤ at → P no_bytes) where
    pub by_table : P (operation_at table s at)
    unfolding operation_at
    by_table =
        by_test P (ltb at (length s)) _ _
        (λ e. by_row s (at + 1) (get_or s at 0 / 16 * 16) (table (get_or s at 0 % 16)) (rows (ltb-true at (length s) e) (get_or s at 0 % 16) (omega arith)))
        (λ e. none (ltb-false at (length s) e))
