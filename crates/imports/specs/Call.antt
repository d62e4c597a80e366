-- A start and a call of the walk over imports: what they answer, and the state handed back, for any state and any bytes.
use Rattle.std.specs.Prelude.{ℕ, zero, suc, Bool, true, false, cond, ◌||◌, List, ltb, length, Result, Ok, Err}
use Rattle.chains.specs.declared.header.Header.{Header}
use Rattle.imports.specs.ChainedImports.{then_imports, import_at}
use Rattle.imports.specs.declared.Import.{Import}
use Rattle.imports.specs.declared.ImportWalk.{ImportWalk}
use Rattle.refusal.specs.Numbers.{number_of}
use Rattle.refusal.specs.declared.Refusal.{Refusal}
use Rattle.refusal.specs.declared.Refusal.TheVariants.{StateOutOfRange}
use Rattle.runs.specs.Runs.{Begin, begun, not_begun, Answer, item, end, refused}

-- ---- a start

abbrev pub at_start : Header → ImportWalk
at_start h =
    record {
      place = h.imports_offset;
      symbols_offset = h.symbols_offset;
      left = h.imports_count;
      imports_format = h.imports_format;
      ended = false;
    }

-- the format is not tested here: with no imports, any will do
unfoldable pub begin : List ℕ → Begin ImportWalk
begin s = then_imports s not_begun (λ h. begun (at_start h))

-- ---- a call

abbrev pub marked : ImportWalk → ImportWalk
marked w =
    record {
      place = w.place;
      symbols_offset = w.symbols_offset;
      left = w.left;
      imports_format = w.imports_format;
      ended = true;
    }

-- the next import is read up to a place, and so many are left
abbrev pub passed : (next left : ℕ) → ImportWalk → ImportWalk
passed next left w =
    record {
      place = next;
      symbols_offset = w.symbols_offset;
      left = left;
      imports_format = w.imports_format;
      ended = w.ended;
    }

unfoldable pub imported : ImportWalk → (left : ℕ) → Result (Import × ℕ) Refusal → Answer ImportWalk Import
imported w left (Ok (x, next)) = item x (passed next left w)
imported w left (Err e) = refused (number_of e) (marked w)

unfoldable pub next : List ℕ → ImportWalk → (n : ℕ) → Answer ImportWalk Import
next s w zero = end w
next s w (suc left) = imported w left (import_at s w.imports_format w.symbols_offset w.place)

-- 19: a place to read at is beyond the bytes
abbrev pub out_of_range : (place symbols len : ℕ) → Bool
out_of_range place symbols len = ltb len place || ltb len symbols

unfoldable pub call : List ℕ → ImportWalk → Answer ImportWalk Import
call s w =
    cond (out_of_range w.place w.symbols_offset (length s)) (refused (number_of StateOutOfRange) w)
    (cond w.ended (end w)
    (next s w w.left))
