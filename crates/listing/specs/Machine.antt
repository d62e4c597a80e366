-- A kind of opcode stream: its table of opcodes, what each operation does, what a place gives, and where that lies. The registers are what
-- a walk keeps beside its cursor: what operations have set but for the offset, and what kind of walk it is.
use Rattle.std.specs.Prelude.{ℕ, List, Option}
use Rattle.cursor.specs.declared.Motion.{Motion}
use Rattle.listing.specs.declared.Effect.{Effect}
use Rattle.operations.specs.Table.{Row}
use Rattle.refusal.specs.declared.Refusal.{Refusal}

-- what an operation does: the registers are these from now on, and the place moves so
infix 20 ◌and◌
abbrev pub ◌and◌ : {Reg : Type 0} → Reg → Motion → Effect Reg
g and m = record { registers = g; motion = m }

-- where an item lies, and its type
pub record Place : Type 0 where
  pub segment : ℕ
  pub offset : ℕ
  pub kind : ℕ

pub record Machine (Op Reg Item : Type 0) : Type 0 where
  pub table : (imm : ℕ) → List (Row Op)
  pub effect : (size : ℕ) → Op → Reg → Effect Reg
  pub lack : Reg → Option Refusal  -- of a place that is due
  pub item : Reg → (offset : ℕ) → Item
  pub place : Item → Place
