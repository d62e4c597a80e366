-- States and items whose fields are such as their types have: a start gives such a state, and every call on one hands such a one back, and
-- such an item. Refusals have a number of the table. Assumes nothing.
use Prim.Native.Nat.{ℕ, ◌-◌, ◌^◌, ◌<◌}
use mathlib.Core.Path.{◌≡◌, refl, subst}
use mathlib.Core.Bool.{not}
use mathlib.Core.List.{List}
use native.Mathlib.Omega.{arith}
use lib.Dec.{ltb, eqb}
use lib.IntN.{ℤ}
use lib.ListN.{length}
use mir.Syntax.{w32, w64}
use mir.Val.{SFits}
use Rattle.chains.proofs.Headers.{by_header}
use Rattle.chains.proofs.Typed.{typed_header}
use Rattle.chains.specs.FixupChains.{bits, header_at}
use Rattle.imports.specs.Call.{begin, marked, passed, call}
use Rattle.imports.specs.ChainedImports.{then_imports, narrow, wide}
use Rattle.imports.specs.declared.Import.{Import}
use Rattle.imports.specs.declared.ImportWalk.{ImportWalk}
use Rattle.imports.specs.declared.record.ChainedImport.{ChainedImport}
use Rattle.numbers.proofs.Picks.{by_pick}
use Rattle.numbers.proofs.Rows.{field_less}
use Rattle.numbers.proofs.little_endian.Fields.{Bytes}
use Rattle.refusal.proofs.Numbered.{IsNumber, is_number_lem}
use Rattle.refusal.specs.declared.Refusal.TheVariants.{StateOutOfRange}
use Rattle.runs.proofs.Walks.{IfBegun, Hands}
use Rattle.runs.specs.Runs.{begun, item}
use Rattle.imports.proofs.Answers.{by_call}
use Rattle.imports.proofs.Inside.{by_import, yielded, found_inside}
use Rattle.imports.proofs.Signs.{library_fits, addend_fits}

-- ---- an item

pub record TypedImport (x : Import) : Type 0 where
  pub library : SFits w32 x.library
  pub addend : SFits w64 x.addend
  pub place : x.name.place < 2 ^ 64
  pub length : x.name.length < 2 ^ 64

record TypedFields (r : ChainedImport) : Type 0 where
  library : SFits w32 r.library
  addend : SFits w64 r.addend

module _ (n : ℕ) {addend : ℤ} (h : SFits w64 addend) where
  typed_narrow : TypedFields (narrow n addend)
  typed_narrow = record { library = library_fits (bits 0 8 n) 0xf0 0xff refl (omega arith) (omega arith); addend = h }

  typed_wide : TypedFields (wide n addend)
  typed_wide = record { library = library_fits (bits 0 16 n) 0xfff0 0xffff refl (omega arith) (omega arith); addend = h }

-- every one that is yielded has fields such as their types have
pub typed_item : (s : List ℕ) → Bytes s → length s < 2 ^ 64 → (w : ImportWalk) {x : Import} {v : ImportWalk} → call s w ≡ item x v → TypedImport x
typed_item s b short w =
    yielded s w (λ x next. TypedImport x)
    (by_import s (λ r next. TypedFields r)
    (record {
      plain = λ n at next e. typed_narrow n (record { sfits = omega arith });
      addend = λ n a at next e. typed_narrow n (addend_fits a (2 ^ 31 - 1) (2 ^ 32 - 1) (omega (arith, field_less 4 s at refl e b)) (omega arith) (omega arith));
      addend64 = λ n a at next e. typed_wide n (addend_fits a (2 ^ 63 - 1) (2 ^ 64 - 1) (omega (arith, field_less 8 s at refl e b)) (omega arith) (omega arith));
    })
    (λ x next. TypedImport x)
    (λ r next name t l. record { library = t.library; addend = t.addend; place = omega (arith, short); length = omega (arith, short) })
    w.imports_format w.symbols_offset w.place)

-- ---- a state

pub record Typed (w : ImportWalk) : Type 0 where
  pub place : w.place < 2 ^ 64
  pub symbols_offset : w.symbols_offset < 2 ^ 64
  pub left : w.left < 2 ^ 64
  pub imports_format : w.imports_format < 2 ^ 64

-- a start
pub typed_begin : (s : List ℕ) → Bytes s → {w : ImportWalk} → begin s ≡ begun w → Typed w
unfolding begin then_imports
typed_begin s b e =
    subst (IfBegun Typed) e
    (by_header (header_at s) _ _ (IfBegun Typed) (λ n. tt)
    (λ h i.
    let t = typed_header s b i in
    by_pick (IfBegun Typed) (not (eqb h.symbols_format 0)) _ _ tt
    (by_pick (IfBegun Typed) (ltb (length s) h.imports_offset) _ _ tt
    (by_pick (IfBegun Typed) (ltb (length s) h.symbols_offset) _ _ tt
    (record { place = t.imports_offset; symbols_offset = t.symbols_offset; left = t.imports_count; imports_format = t.imports_format })))))

-- a call
module _ (s : List ℕ) (short : length s < 2 ^ 64) (w : ImportWalk) (t : Typed w) where
  passes : (at left : ℕ) → at < 2 ^ 64 → left < 2 ^ 64 → Typed (passed at left w)
  passes at left h l = record { place = h; symbols_offset = t.symbols_offset; left = l; imports_format = t.imports_format }

  ended : Typed (marked w)
  ended = record { place = t.place; symbols_offset = t.symbols_offset; left = t.left; imports_format = t.imports_format }

  pub typed_call : Hands Typed IsNumber (call s w)
  typed_call =
      by_call s w (Hands Typed IsNumber) t (λ e. (ended, is_number_lem e))
      (λ x at left l e. passes at left (omega (arith, (found_inside s w e).ends, short)) (omega (arith, t.left)))
      (λ o. (t, is_number_lem StateOutOfRange))
