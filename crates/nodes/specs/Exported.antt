-- What an export says: its flags, and the values that its kind has.
use Rattle.std.specs.Prelude.{ℕ}
use Rattle.nodes.specs.declared.export.Export.{Export}
use Rattle.nodes.specs.declared.export.ExportData.{ExportData}
use Rattle.nodes.specs.declared.export.ExportData.TheVariants.{Regular, Reexport, StubAndResolver}

pub data Target : Type 0 where
  regular : (address : ℕ) → Target
  reexport : (ordinal place len : ℕ) → Target  -- a library, and the place and length of a name in the trie's bytes
  stub_and_resolver : (stub resolver : ℕ) → Target

pub record Exported : Type 0 where
  pub flags : ℕ
  pub target : Target

abbrev pub target_told : ExportData → Target
target_told (Regular address) = regular address
target_told (Reexport import) = reexport import.ordinal import.name.place import.name.length
target_told (StubAndResolver stub resolver) = stub_and_resolver stub resolver

abbrev pub export_told : Export → Exported
export_told x = record { flags = x.flags; target = target_told x.target }
