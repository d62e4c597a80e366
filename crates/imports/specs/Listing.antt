-- What chained fixups import: all imports in order, and how that ends.
use Rattle.std.specs.Prelude.{ℕ, zero, suc, List, Result, Ok, Err}
use Rattle.imports.specs.ChainedImports.{then_imports, import_at}
use Rattle.imports.specs.declared.Import.{Import}
use Rattle.refusal.specs.Numbers.{number_of}
use Rattle.refusal.specs.declared.Refusal.{Refusal}
use Rattle.runs.specs.Runs.{Run, stops, fails, gives}

-- an import that was read, and then the rest, from the place behind it on
unfoldable pub then_rest : (rest : ℕ → Run Import) → Result (Import × ℕ) Refusal → Run Import
then_rest rest (Ok (x, next)) = gives x (rest next)
then_rest rest (Err e) = fails (number_of e)

-- n imports from a place on
unfoldable pub imports : List ℕ → (format symbols n at : ℕ) → Run Import
imports s format symbols zero at = stops
imports s format symbols (suc n) at = then_rest (imports s format symbols n) (import_at s format symbols at)

unfoldable pub listing : List ℕ → Run Import
listing s =
    then_imports s fails
    (λ h. imports s h.imports_format h.symbols_offset h.imports_count h.imports_offset)
