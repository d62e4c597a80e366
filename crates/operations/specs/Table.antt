-- The operation at a place of a stream, by a table of opcodes: the high four bits of a byte choose the row, the low four are the immediate,
-- and the row has what operands follow the byte and what operation they make.
use Rattle.std.specs.Prelude.{ℕ, ◌+◌, ◌*◌, ◌/◌, ◌%◌, cond, List, [], ◌∷◌, ltb, eqb, ℤ, length, get_or, Option, Some, None}
use Rattle.numbers.specs.Leb128.{uleb_at, sleb_at}
use Rattle.numbers.specs.Strings.{string_at}
use Rattle.numbers.specs.Then.{then}
use Rattle.numbers.specs.declared.parts.Part.{Part}
use Rattle.refusal.specs.declared.Refusal.{Refusal}
use Rattle.refusal.specs.declared.Refusal.TheVariants.{UnknownOpcode, FaultyOperand}

-- what stands at a place
pub data Parsed (Op : Type 0) : Type 0 where
  operation : Op → (next : ℕ) → Parsed Op  -- an operation, and the place behind it
  faulty : Refusal → Parsed Op
  no_bytes : Parsed Op  -- no bytes are left

-- the operands that follow an opcode's byte, and the operation that they make
pub data Operands (Op : Type 0) : Type 0 where
  alone : Op → Operands Op
  uleb : (ℕ → Op) → Operands Op
  ulebs : (ℕ → ℕ → Op) → Operands Op  -- two
  sleb : (ℤ → Op) → Operands Op
  string : (Part → Op) → Operands Op

pub data Row (Op : Type 0) : Type 0 where
  ◌⇒◌ : (opcode : ℕ) → Operands Op → Row Op

infix 70 ◌⇒◌
-- two unsigned numbers, one behind the other
abbrev pub ulebs_at : List ℕ → ℕ → Option ((ℕ × ℕ) × ℕ)
ulebs_at s at = then (uleb_at s at) None (λ v next. then (uleb_at s next) None (λ u after. Some ((v, u), after)))

module _ {Op : Type 0} where
  -- ---- operands: a faulty one is refused

  abbrev pub operands_at : List ℕ → ℕ → Operands Op → Parsed Op
  operands_at s at (alone op) = operation op at
  operands_at s at (uleb make) = then (uleb_at s at) (faulty FaultyOperand) (λ v next. operation (make v) next)
  operands_at s at (ulebs make) =
      then (uleb_at s at) (faulty FaultyOperand)
      (λ v next. then (uleb_at s next) (faulty FaultyOperand) (λ u after. operation (make v u) after))
  operands_at s at (sleb make) = then (sleb_at s at) (faulty FaultyOperand) (λ v next. operation (make v) next)
  operands_at s at (string make) = then (string_at s at) (faulty FaultyOperand) (λ name next. operation (make name) next)

  -- ---- opcodes: that of a byte is looked up in the table, and one that is not found there is refused

  -- the operands of an opcode
  unfoldable pub looked_up : (opcode : ℕ) → List (Row Op) → Option (Operands Op)
  looked_up opcode [] = None
  looked_up opcode (k ⇒ operands ∷ rows) = cond (eqb opcode k) (Some operands) (looked_up opcode rows)

  -- those of a byte
  abbrev pub operands_of : ((imm : ℕ) → List (Row Op)) → (byte : ℕ) → Option (Operands Op)
  operands_of table byte = looked_up (byte / 16 * 16) (table (byte % 16))

  -- the operation that they make, of the bytes at a place
  abbrev pub found_at : List ℕ → ℕ → Option (Operands Op) → Parsed Op
  found_at s at None = faulty UnknownOpcode
  found_at s at (Some operands) = operands_at s at operands

  unfoldable pub operation_at : ((imm : ℕ) → List (Row Op)) → List ℕ → ℕ → Parsed Op
  operation_at table s at = cond (ltb at (length s)) (found_at s (at + 1) (operands_of table (get_or s at 0))) no_bytes
