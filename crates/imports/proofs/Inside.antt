-- What is read lies in the bytes: the record of an import up to the place behind it, and its name with the NUL. Assumes nothing.
use Prim.Native.Nat.{ℕ, ◌+◌, ◌-◌, ◌^◌, ◌≤◌, ◌<◌}
use mathlib.Core.Path.{◌≡◌, refl, subst}
use mathlib.Core.List.{List}
use native.Mathlib.Omega.{arith}
use lib.Dec.{eqb}
use lib.IntN.{pos}
use lib.ListN.{length}
use Rattle.std.specs.Prelude.{Some, Result, Ok, Err}
use Rattle.imports.specs.Call.{call}
use Rattle.imports.specs.ChainedImports.{signed_above, narrow, wide, plain_at, addend_at, addend64_at, record_at, named, import_at}
use Rattle.imports.specs.declared.Import.{Import}
use Rattle.imports.specs.declared.ImportWalk.{ImportWalk}
use Rattle.imports.specs.declared.record.ChainedImport.{ChainedImport}
use Rattle.refusal.specs.declared.Refusal.{Refusal}
use Rattle.numbers.proofs.Laws.{string_read, part_length}
use Rattle.numbers.proofs.Picks.{by_pick}
use Rattle.numbers.proofs.Rows.{field_inside}
use Rattle.numbers.proofs.Then.{by_read}
use Rattle.numbers.specs.LittleEndian.{field_at}
use Rattle.numbers.specs.Parts.{part_of}
use Rattle.numbers.specs.Strings.{string_at}
use Rattle.numbers.specs.declared.parts.Part.{Part}
use Rattle.runs.specs.Runs.{Answer, item, end, refused}
use Rattle.imports.proofs.Answers.{by_call}
use Rattle.imports.proofs.Imports.{by_record}

-- ---- what holds of whatever is read

abbrev pub IfRecord : (ChainedImport → (next : ℕ) → Type 0) → Result (ChainedImport × ℕ) Refusal → Type 0
IfRecord P (Ok (r, next)) = P r next
IfRecord P (Err e) = Unit {0}

abbrev pub IfImport : (Import → (next : ℕ) → Type 0) → Result (Import × ℕ) Refusal → Type 0
IfImport Q (Ok (x, next)) = Q x next
IfImport Q (Err e) = Unit {0}

-- of a record of each format, by its last field
pub record Formats (s : List ℕ) (P : ChainedImport → (next : ℕ) → Type 0) : Type 0 where
  pub plain : (n at next : ℕ) → field_at 4 s at ≡ Some (n, next) → P (narrow n (pos 0)) next
  pub addend : (n a at next : ℕ) → field_at 4 s at ≡ Some (a, next) → P (narrow n (signed_above (2 ^ 31 - 1) 32 a)) next
  pub addend64 : (n a at next : ℕ) → field_at 8 s at ≡ Some (a, next) → P (wide n (signed_above (2 ^ 63 - 1) 64 a)) next

module _ (s : List ℕ) (P : ChainedImport → (next : ℕ) → Type 0) (k : Formats s P) where
  module _ (at : ℕ) where
    by_plain : IfRecord P (plain_at s at)
    unfolding plain_at
    by_plain = by_read (field_at 4 s at) _ _ (IfRecord P) tt (λ n next e. k.plain n at next e)

    by_addend : IfRecord P (addend_at s at)
    unfolding addend_at
    by_addend =
        by_read (field_at 4 s at) _ _ (IfRecord P) tt
        (λ n next e. by_read (field_at 4 s next) _ _ (IfRecord P) tt (λ a last f. k.addend n a next last f))

    by_addend64 : IfRecord P (addend64_at s at)
    unfolding addend64_at
    by_addend64 =
        by_read (field_at 8 s at) _ _ (IfRecord P) tt
        (λ n next e. by_read (field_at 8 s next) _ _ (IfRecord P) tt (λ a last f. k.addend64 n a next last f))

    by_format : (format : ℕ) → IfRecord P (record_at s format at)
    unfolding record_at
    by_format format =
        by_pick (IfRecord P) (eqb format 1) _ _ by_plain
        (by_pick (IfRecord P) (eqb format 2) _ _ by_addend
        (by_pick (IfRecord P) (eqb format 3) _ _ by_addend64 tt))

  -- of an import: its name lies in the bytes, with the NUL
  pub by_import : (Q : Import → (next : ℕ) → Type 0) → ((r : ChainedImport) (next : ℕ) (name : Part) → P r next → name.place + name.length < length s → Q (named r name) next) →
      (format symbols at : ℕ) → IfImport Q (import_at s format symbols at)
  unfolding import_at
  by_import Q q format symbols at =
      by_record (record_at s format at) _ _ (IfImport Q) (λ d. tt)
      (λ r next e.
      by_read (string_at s (symbols + r.name_offset)) _ _ (IfImport Q) tt
      (λ name behind f.
      let t = string_read s (symbols + r.name_offset) refl f in
      q r next name (subst (IfRecord P) e (by_format at format)) (omega (arith, t.ends, t.within.inside))))

-- of an import that is yielded, which is read up to the place of the next state
module _ (s : List ℕ) (w : ImportWalk) (Q : Import → (next : ℕ) → Type 0) (holds : IfImport Q (import_at s w.imports_format w.symbols_offset w.place)) where
  abbrev Yields : Answer ImportWalk Import → Type 0
  Yields (item x v) = Q x v.place
  Yields (end v) = Unit {0}
  Yields (refused number v) = Unit {0}

  pub yielded : {x : Import} {v : ImportWalk} → call s w ≡ item x v → Q x v.place
  yielded e =
      subst Yields e (by_call s w Yields tt (λ e. tt) (λ x at left l f. subst (IfImport Q) f holds) (λ o. tt))

-- ---- what is read lies in the bytes

module _ (s : List ℕ) where
  pub record Inside (x : Import) (next : ℕ) : Type 0 where
    pub ends : next ≤ length s
    pub name : x.name.place + x.name.length < length s

  pub import_inside : (format symbols at : ℕ) → IfImport Inside (import_at s format symbols at)
  import_inside =
      by_import s (λ r next. next ≤ length s)
      (record {
        plain = λ n at next e. field_inside 4 s at refl e;
        addend = λ n a at next e. field_inside 4 s at refl e;
        addend64 = λ n a at next e. field_inside 8 s at refl e;
      })
      Inside (λ r next name h l. record { ends = h; name = l })

  pub found_inside : (w : ImportWalk) {x : Import} {next : ℕ} → import_at s w.imports_format w.symbols_offset w.place ≡ Ok (x, next) → Inside x next
  found_inside w e = subst (IfImport Inside) e (import_inside w.imports_format w.symbols_offset w.place)

  -- a call, from any state: `name` hands back the whole name
  pub named_whole : (w : ImportWalk) {x : Import} {v : ImportWalk} → call s w ≡ item x v → length (part_of s x.name.place x.name.length) ≡ x.name.length
  named_whole w {x} e =
      let i = yielded s w Inside (import_inside w.imports_format w.symbols_offset w.place) e in
      part_length s x.name.place x.name.length (omega (arith, i.name))
