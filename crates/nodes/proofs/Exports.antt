-- What is known of an export that is read: its numbers are below 2^64, and a name lies in the bytes. Assumes nothing.
use Prim.Native.Nat.{ℕ, ◌+◌, ◌^◌, ◌≤◌, ◌<◌}
use mathlib.Core.Path.{refl, sym}
use mathlib.Core.List.{List}
use native.Mathlib.Omega.{arith}
use lib.Dec.{leb}
use lib.ListN.{length}
use Rattle.numbers.proofs.Laws.{uleb_read, string_read}
use Rattle.numbers.proofs.Picks.{by_pick}
use Rattle.numbers.proofs.Then.{by_read}
use Rattle.numbers.specs.Leb128.{uleb_at}
use Rattle.numbers.specs.Strings.{string_at}
use Rattle.nodes.specs.Exported.{Target, regular, reexport, stub_and_resolver, Exported, export_told}
use Rattle.nodes.specs.ExportsTrie.{has_bit, regular_at, stub_at, reexport_at, export_at}
use Rattle.nodes.specs.declared.export.Export.{Export}
use Rattle.std.specs.Prelude.{Option, Some, None}

-- in so many bytes
abbrev pub TargetIn : (bytes : ℕ) → Target → Type 0
TargetIn bytes (regular address) = address < 2 ^ 64
TargetIn bytes (reexport ordinal place len) = (ordinal < 2 ^ 64) × (place + len ≤ bytes)
TargetIn bytes (stub_and_resolver stub resolver) = (stub < 2 ^ 64) × (resolver < 2 ^ 64)

pub record ExportIn (bytes : ℕ) (x : Exported) : Type 0 where
  pub flags : x.flags < 2 ^ 64
  pub target : TargetIn bytes x.target

abbrev pub IfExport : (bytes : ℕ) → Option Export → Type 0
IfExport bytes (Some x) = ExportIn bytes (export_told x)
IfExport bytes None = Unit {0}

-- in more bytes
target_more : {m n : ℕ} → m ≤ n → (x : Target) → TargetIn m x → TargetIn n x
target_more l (regular address) h = h
target_more l (reexport ordinal place len) h = (h.0, omega (arith, h.1))
target_more l (stub_and_resolver stub resolver) h = h

pub export_more : {m n : ℕ} → m ≤ n → (r : Option Export) → IfExport m r → IfExport n r
export_more l (Some x) h = record { flags = h.flags; target = target_more l (export_told x).target h.target }
export_more l None h = tt

module _ (s : List ℕ) where
  module _ (flags at : ℕ) (h : flags < 2 ^ 64) where
    regular_in : IfExport (length s) (regular_at s flags at)
    unfolding regular_at
    regular_in =
        by_read (uleb_at s at) _ _ (IfExport (length s)) tt
        (λ address next f. record { flags = h; target = (uleb_read s at (sym f) refl).below })

    stub_in : IfExport (length s) (stub_at s flags at)
    unfolding stub_at
    stub_in =
        by_read (uleb_at s at) _ _ (IfExport (length s)) tt
        (λ stub next f.
        by_read (uleb_at s next) _ _ (IfExport (length s)) tt
        (λ resolver behind g. record { flags = h; target = ((uleb_read s at (sym f) refl).below, (uleb_read s next (sym g) refl).below) }))

    reexport_in : IfExport (length s) (reexport_at s flags at)
    unfolding reexport_at
    reexport_in =
        by_read (uleb_at s at) _ _ (IfExport (length s)) tt
        (λ ordinal next f.
        by_read (string_at s next) _ _ (IfExport (length s)) tt
        (λ name behind g.
        let t = string_read s next (sym g) refl in
        record { flags = h; target = ((uleb_read s at (sym f) refl).below, omega (arith, t.ends, t.within.inside)) }))

  pub export_in : (at : ℕ) → IfExport (length s) (export_at s at)
  unfolding export_at
  export_in at =
      by_read (uleb_at s at) _ _ (IfExport (length s)) tt
      (λ flags next f.
      let h = (uleb_read s at (sym f) refl).below in
      by_pick (IfExport (length s)) (leb flags 0x3f) _ _
      (by_pick (IfExport (length s)) (has_bit 0x08 flags) _ _ (reexport_in flags next h)
      (by_pick (IfExport (length s)) (has_bit 0x10 flags) _ _ (stub_in flags next h) (regular_in flags next h)))
      tt)
