-- The exports trie of mach-o/loader.h. The node at an offset from the trie's start: the size of its terminal area (ULEB), the
-- area, the number of its children (a byte), and for each child an edge: a string, and the offset of the child's node (ULEB). An area
-- of size 0 is none; any other begins with export data. Where the header is silent the crate is followed: the bytes of an area behind
-- the export data are ignored, and flags that the header has no name for are a fault.
use Rattle.std.specs.Prelude.{ℕ, ◌+◌, ◌/◌, ◌%◌, Bool, cond, List, leb, ltb, eqb, length, get_or, take, Option, Some, None}
use Rattle.numbers.specs.Leb128.{uleb_at}
use Rattle.numbers.specs.Strings.{string_at}
use Rattle.numbers.specs.Then.{then}
use Rattle.nodes.specs.declared.export.Export.{Export}
use Rattle.nodes.specs.declared.export.ExportData.{ExportData}
use Rattle.nodes.specs.declared.export.ExportData.TheVariants.{Regular, Reexport, StubAndResolver}
use Rattle.nodes.specs.declared.node.Edge.{Edge}
use Rattle.nodes.specs.declared.node.Node.{Node}

-- ---- export data: the flags, and what follows by them

abbrev pub has_bit : (bit flags : ℕ) → Bool
has_bit bit flags = eqb (flags / bit % 2) 1

abbrev pub exported : (flags : ℕ) → ExportData → Option Export
exported flags target = Some (record { flags = flags; target = target })

unfoldable pub regular_at : List ℕ → (flags at : ℕ) → Option Export
regular_at s flags at = then (uleb_at s at) None (λ address next. exported flags (Regular address))

unfoldable pub stub_at : List ℕ → (flags at : ℕ) → Option Export
stub_at s flags at =
    then (uleb_at s at) None
    (λ stub next. then (uleb_at s next) None (λ resolver behind. exported flags (StubAndResolver stub resolver)))

unfoldable pub reexport_at : List ℕ → (flags at : ℕ) → Option Export
reexport_at s flags at =
    then (uleb_at s at) None
    (λ ordinal next. then (string_at s next) None
    (λ name behind. exported flags (Reexport (record { ordinal = ordinal; name = name }))))

-- EXPORT_SYMBOL_FLAGS_REEXPORT is 0x08, EXPORT_SYMBOL_FLAGS_STUB_AND_RESOLVER 0x10; of a symbol that has both, the first says what
-- follows. 0x3f has every bit that the header names
unfoldable pub export_at : List ℕ → ℕ → Option Export
export_at s at =
    then (uleb_at s at) None
    (λ flags next.
    cond (leb flags 0x3f)
    (cond (has_bit 0x08 flags) (reexport_at s flags next)
    (cond (has_bit 0x10 flags) (stub_at s flags next)
    (regular_at s flags next)))
    None)

-- ---- nodes

-- what follows a read: where it was faulty an answer, else what goes on with what was read
unfoldable pub then_read : {R A : Type 0} → Option R → (faulty : A) → (R → A) → A
then_read (Some r) faulty go = go r
then_read None faulty go = faulty

-- from the number of children on
unfoldable pub counted_at : List ℕ → (terminal : Option Export) → ℕ → Option Node
counted_at s t at =
    cond (ltb at (length s))
    (Some (record { terminal = t; children = get_or s at 0; place = at + 1 }))
    None

-- no byte of the export data lies behind the area: it is read in the bytes up to the area's end
unfoldable pub node_at : List ℕ → (offset : ℕ) → Option Node
node_at s offset =
    then (uleb_at s offset) None
    (λ size at.
    cond (eqb size 0) (counted_at s None at)
    (cond (leb (at + size) (length s))
    (then_read (export_at (take (at + size) s) at) None (λ x. counted_at s (Some x) (at + size)))
    None))

-- ---- edges

unfoldable pub edge_at : List ℕ → ℕ → Option Edge
edge_at s at =
    then (string_at s at) None
    (λ name next. then (uleb_at s next) None
    (λ offset behind. Some (record { name = name; offset = offset; next = behind })))
