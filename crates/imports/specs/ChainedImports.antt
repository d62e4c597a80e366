-- The imports of mach-o/fixup-chains.h: where they can be read, what a record says, by its format, and the import with its name.
use Rattle.std.specs.Prelude.{ℕ, ◌+◌, ◌-◌, ◌^◌, cond, not, List, ltb, eqb, ℤ, pos, ◌-ℤ◌, length, Result, Ok, Err}
use Rattle.chains.specs.FixupChains.{bits, header_at, then_header}
use Rattle.chains.specs.declared.header.Header.{Header}
use Rattle.imports.specs.declared.Import.{Import}
use Rattle.imports.specs.declared.record.ChainedImport.{ChainedImport}
use Rattle.numbers.specs.LittleEndian.{field_at}
use Rattle.numbers.specs.Strings.{string_at}
use Rattle.numbers.specs.Then.{then}
use Rattle.numbers.specs.declared.parts.Part.{Part}
use Rattle.refusal.specs.Numbers.{number_of}
use Rattle.refusal.specs.declared.Refusal.{Refusal}
use Rattle.refusal.specs.declared.Refusal.TheVariants.{UnsupportedFormat, FaultyImport}

-- ---- where the imports are

-- the imports, where they can be read: the header (9, 10), symbols that are not packed (11), and both offsets in the bytes (14)
unfoldable pub then_imports : {A : Type 0} → List ℕ → (refused : ℕ → A) → (Header → A) → A
then_imports s refused go =
    then_header (header_at s) refused
    (λ h.
    cond (not (eqb h.symbols_format 0)) (refused (number_of UnsupportedFormat))
    (cond (ltb (length s) h.imports_offset) (refused (number_of FaultyImport))
    (cond (ltb (length s) h.symbols_offset) (refused (number_of FaultyImport))
    (go h))))

-- ---- records

-- a number of so many bits, of which those above a bound stand for negative numbers, in two's complement
abbrev pub signed_above : (bound width n : ℕ) → ℤ
signed_above bound width n = cond (ltb bound n) (pos n -ℤ pos (2 ^ width)) (pos n)

-- DYLD_CHAINED_IMPORT and DYLD_CHAINED_IMPORT_ADDEND: four bytes. Libraries above 0xf0 are the special ones
-- lib_ordinal 8, weak_import 1, name_offset 23
abbrev pub narrow : (n : ℕ) → (addend : ℤ) → ChainedImport
narrow n addend =
    record {
      library = signed_above 0xf0 8 (bits 0 8 n);  -- lib_ordinal
      weak = eqb (bits 8 1 n) 1;  -- weak_import
      name_offset = bits 9 23 n;
      addend = addend;
    }

-- DYLD_CHAINED_IMPORT_ADDEND64: eight bytes, and libraries above 0xfff0
-- lib_ordinal 16, weak_import 1, reserved 15, name_offset 32
abbrev pub wide : (n : ℕ) → (addend : ℤ) → ChainedImport
wide n addend =
    record {
      library = signed_above 0xfff0 16 (bits 0 16 n);  -- lib_ordinal
      weak = eqb (bits 16 1 n) 1;  -- weak_import
      name_offset = bits 32 32 n;  -- above 15 bits that are reserved
      addend = addend;
    }

abbrev pub no_record : Result (ChainedImport × ℕ) Refusal
no_record = Err FaultyImport

-- format 1: the fields alone
unfoldable pub plain_at : List ℕ → ℕ → Result (ChainedImport × ℕ) Refusal
plain_at s at = then (field_at 4 s at) no_record (λ n next. Ok (narrow n (pos 0), next))

-- format 2: the fields, then an int32_t addend
unfoldable pub addend_at : List ℕ → ℕ → Result (ChainedImport × ℕ) Refusal
addend_at s at =
    then (field_at 4 s at) no_record
    (λ n at. then (field_at 4 s at) no_record (λ a next. Ok (narrow n (signed_above (2 ^ 31 - 1) 32 a), next)))

-- format 3: the fields, then a uint64_t addend, read as signed
unfoldable pub addend64_at : List ℕ → ℕ → Result (ChainedImport × ℕ) Refusal
addend64_at s at =
    then (field_at 8 s at) no_record
    (λ n at. then (field_at 8 s at) no_record (λ a next. Ok (wide n (signed_above (2 ^ 63 - 1) 64 a), next)))

-- the record of a format at a place, and the place behind it
unfoldable pub record_at : List ℕ → (format at : ℕ) → Result (ChainedImport × ℕ) Refusal
record_at s format at =
    cond (eqb format 1) (plain_at s at)  -- DYLD_CHAINED_IMPORT
    (cond (eqb format 2) (addend_at s at)  -- DYLD_CHAINED_IMPORT_ADDEND
    (cond (eqb format 3) (addend64_at s at)  -- DYLD_CHAINED_IMPORT_ADDEND64
    (Err UnsupportedFormat)))

-- ---- an import: a record, and the name at its offset in the symbols

unfoldable pub then_record : {A : Type 0} → Result (ChainedImport × ℕ) Refusal → (refused : Refusal → A) →
    (ChainedImport → (next : ℕ) → A) → A
then_record (Ok (r, next)) refused go = go r next
then_record (Err e) refused go = refused e

abbrev pub named : ChainedImport → (name : Part) → Import
named r name = record { library = r.library; weak = r.weak; addend = r.addend; name = name }

unfoldable pub import_at : List ℕ → (format symbols at : ℕ) → Result (Import × ℕ) Refusal
import_at s format symbols at =
    then_record (record_at s format at) Err
    (λ r next.
    then (string_at s (symbols + r.name_offset)) (Err FaultyImport)
    (λ name behind. Ok (named r name, next)))
