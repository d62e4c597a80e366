-- The opcodes of mach-o/loader.h, a row an opcode: the opcode as the header has it, the operands behind its byte, and the operation they
-- make. `imm` is the low four bits of the byte.
use Rattle.std.specs.Prelude.{ℕ, cond, List, [], ◌∷◌, eqb, ℤ, pos, ◌-ℤ◌}
use Rattle.operations.specs.Table.{Row, ◌⇒◌, alone, uleb, ulebs, sleb, string}
use Rattle.operations.specs.declared.rebase_operation.RebaseOperation.{RebaseOperation}
use Rattle.operations.specs.declared.rebase_operation.RebaseOperation.TheVariants as rebase
use Rattle.operations.specs.declared.bind_operation.BindOperation.{BindOperation}
use Rattle.operations.specs.declared.bind_operation.BindOperation.TheVariants as bind

-- behind each row: its name in the header, without REBASE_OPCODE_
abbrev pub rebase_table : (imm : ℕ) → List (Row RebaseOperation)
rebase_table imm =
    0x00 ⇒ alone rebase.Done ∷  -- DONE
    0x10 ⇒ alone (rebase.SetType imm) ∷  -- SET_TYPE_IMM
    0x20 ⇒ uleb (λ offset. rebase.SetSegmentAndOffset imm offset) ∷  -- SET_SEGMENT_AND_OFFSET_ULEB
    0x30 ⇒ uleb (λ offset. rebase.AddAddr offset) ∷  -- ADD_ADDR_ULEB
    0x40 ⇒ alone (rebase.AddAddrScaled imm) ∷  -- ADD_ADDR_IMM_SCALED
    0x50 ⇒ alone (rebase.DoRebaseTimes imm) ∷  -- DO_REBASE_IMM_TIMES
    0x60 ⇒ uleb (λ count. rebase.DoRebaseTimes count) ∷  -- DO_REBASE_ULEB_TIMES
    0x70 ⇒ uleb (λ offset. rebase.DoRebaseAddAddr offset) ∷  -- DO_REBASE_ADD_ADDR_ULEB
    0x80 ⇒ ulebs (λ count skip. rebase.DoRebaseTimesSkipping count skip) ∷  -- DO_REBASE_ULEB_TIMES_SKIPPING_ULEB
    []

-- the library that a special immediate stands for: BIND_SPECIAL_DYLIB_SELF is 0, and the others are negative, of which the immediate
-- has the low four bits
abbrev pub special : (imm : ℕ) → ℤ
special imm = cond (eqb imm 0) (pos 0) (pos imm -ℤ pos 16)

-- behind each row: its name in the header, without BIND_OPCODE_. THREADED, 0xD0, is left out
abbrev pub bind_table : (imm : ℕ) → List (Row BindOperation)
bind_table imm =
    0x00 ⇒ alone bind.Done ∷  -- DONE
    0x10 ⇒ alone (bind.SetDylibOrdinal imm) ∷  -- SET_DYLIB_ORDINAL_IMM
    0x20 ⇒ uleb (λ ordinal. bind.SetDylibOrdinal ordinal) ∷  -- SET_DYLIB_ORDINAL_ULEB
    0x30 ⇒ alone (bind.SetDylibSpecial (special imm)) ∷  -- SET_DYLIB_SPECIAL_IMM
    0x40 ⇒ string (λ name. bind.SetSymbol imm name) ∷  -- SET_SYMBOL_TRAILING_FLAGS_IMM
    0x50 ⇒ alone (bind.SetType imm) ∷  -- SET_TYPE_IMM
    0x60 ⇒ sleb (λ addend. bind.SetAddend addend) ∷  -- SET_ADDEND_SLEB
    0x70 ⇒ uleb (λ offset. bind.SetSegmentAndOffset imm offset) ∷  -- SET_SEGMENT_AND_OFFSET_ULEB
    0x80 ⇒ uleb (λ offset. bind.AddAddr offset) ∷  -- ADD_ADDR_ULEB
    0x90 ⇒ alone bind.DoBind ∷  -- DO_BIND
    0xA0 ⇒ uleb (λ offset. bind.DoBindAddAddr offset) ∷  -- DO_BIND_ADD_ADDR_ULEB
    0xB0 ⇒ alone (bind.DoBindAddAddrScaled imm) ∷  -- DO_BIND_ADD_ADDR_IMM_SCALED
    0xC0 ⇒ ulebs (λ count skip. bind.DoBindTimesSkipping count skip) ∷  -- DO_BIND_ULEB_TIMES_SKIPPING_ULEB
    []
