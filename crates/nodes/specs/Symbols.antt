-- What a listing says: the exports with their names, how many nodes are visited, and how it ends.
use Rattle.std.specs.Prelude.{ℕ, ◌+◌, List, [], ◌∷◌, Option, Some, None}
use Rattle.nodes.specs.Exported.{Exported, export_told}
use Rattle.nodes.specs.Listing.{Visit}
use Rattle.nodes.specs.declared.export.Export.{Export}
use Rattle.runs.specs.Runs.{Run, stops, fails, gives}

-- an export with its name
pub record Symbol : Type 0 where
  pub name : List ℕ
  pub export : Exported

abbrev pub symbol : List ℕ → Exported → Symbol
symbol name x = record { name = name; export = x }

pub data Ending : Type 0 where
  at_end : Ending
  at_refusal : (number : ℕ) → Ending

abbrev pub with_symbol : List ℕ → Option Export → List Symbol → List Symbol
with_symbol name None symbols = symbols
with_symbol name (Some x) symbols = symbol name (export_told x) ∷ symbols

unfoldable pub exports_in : Run Visit → List Symbol
exports_in stops = []
exports_in (fails number) = []
exports_in (gives v l) = with_symbol v.name v.terminal (exports_in l)

unfoldable pub visits_in : Run Visit → ℕ
visits_in stops = 0
visits_in (fails number) = 0
visits_in (gives v l) = 1 + visits_in l

unfoldable pub ending_of : Run Visit → Ending
ending_of stops = at_end
ending_of (fails number) = at_refusal number
ending_of (gives v l) = ending_of l
