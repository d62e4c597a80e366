-- A lazy walk stays lazy, and says End only where no bytes are left. Assumes nothing.
use Prim.Native.Nat.{ℕ, ◌*◌, ◌^◌, ◌<◌}
use mathlib.Core.Path.{◌≡◌, refl, ap, sym, ◌∙◌}
use mathlib.Core.Bool.{Bool, true, false, cond}
use mathlib.Core.List.{List}
use native.Mathlib.Omega.{arith}
use lib.Dec.{leb}
use lib.IntN.{pos}
use lib.ListN.{length}
use Rattle.cursor.specs.declared.Motion.{Motion}
use Rattle.cursor.specs.declared.Motion.TheVariants.{Stays, Adds, Seeks, Restarts, Repeats, Ends, Refuses}
use Rattle.listing.proofs.Held.{held}
use Rattle.listing.proofs.Resumed.{Why, no_bytes, behind_done, resumed}
use Rattle.listing.specs.Call.{call}
use Rattle.listing.specs.declared.Walk.{Walk}
use Rattle.listing.specs.Machine.{◌and◌}
use Rattle.listing.specs.declared.Effect.{Effect}
use Rattle.operations.specs.declared.bind_operation.BindOperation.{BindOperation}
use Rattle.operations.specs.declared.bind_operation.BindOperation.TheVariants.{
  Done,
  SetDylibOrdinal,
  SetDylibSpecial,
  SetSymbol,
  SetType,
  SetAddend,
  SetSegmentAndOffset,
  AddAddr,
  DoBind,
  DoBindAddAddr,
  DoBindAddAddrScaled,
  DoBindTimesSkipping,
}
use Rattle.refusal.specs.declared.Refusal.TheVariants.{OrdinalTooLarge}
use Rattle.runs.specs.Runs.{end}
use Rattle.bind.specs.Binds.{with_library, lazily, effect_of, binds}
use Rattle.bind.specs.declared.Registers.{Registers}

-- what an operation does: a walk stays as lazy as it was, and the end is not said to a lazy one
record AsLazy (g : Registers) (did : Effect Registers) : Type 0 where
  same : did.registers.lazy ≡ g.lazy
  ends : did.motion ≡ Ends → g.lazy ≡ false

-- of an operation that does not say the end
goes_on : (g h : Registers) (m : Motion) → h.lazy ≡ g.lazy → (m ≡ Ends → ⊥) → AsLazy g (h and m)
goes_on g h m e n = record { same = e; ends = λ q. absurd (n q) }

clash : ◌≡◌ {A = ℕ} 0 1 → ⊥
clash e = omega arith

lazy_done : (g : Registers) (t : Bool) → g.lazy ≡ t → AsLazy g (cond t (lazily and Restarts) (g and Ends))
lazy_done g true e = goes_on g lazily Restarts (sym e) (λ q. clash cc)
lazy_done g false e = record { same = refl; ends = λ q. e }

lazy_ordinal : (g : Registers) (ordinal : ℕ) (t : Bool) → AsLazy g (cond t (with_library (pos ordinal) g and Stays) (g and Refuses OrdinalTooLarge))
lazy_ordinal g ordinal true = goes_on g _ Stays refl (λ q. clash cc)
lazy_ordinal g ordinal false = goes_on g g (Refuses OrdinalTooLarge) refl (λ q. clash cc)

as_lazy : (size : ℕ) (op : BindOperation) (g : Registers) → AsLazy g (effect_of size op g)
as_lazy size Done g = lazy_done g g.lazy refl
as_lazy size (SetDylibOrdinal ordinal) g = lazy_ordinal g ordinal (leb ordinal 2147483647)
as_lazy size (SetDylibSpecial ordinal) g = goes_on g _ Stays refl (λ q. clash cc)
as_lazy size (SetSymbol flags name) g = goes_on g _ Stays refl (λ q. clash cc)
as_lazy size (SetType kind) g = goes_on g _ Stays refl (λ q. clash cc)
as_lazy size (SetAddend addend) g = goes_on g _ Stays refl (λ q. clash cc)
as_lazy size (SetSegmentAndOffset index offset) g = goes_on g _ (Seeks offset) refl (λ q. clash cc)
as_lazy size (AddAddr offset) g = goes_on g g (Adds offset) refl (λ q. clash cc)
as_lazy size DoBind g = goes_on g g (Repeats 1 0) refl (λ q. clash cc)
as_lazy size (DoBindAddAddr offset) g = goes_on g g (Repeats 1 offset) refl (λ q. clash cc)
as_lazy size (DoBindAddAddrScaled count) g = goes_on g g (Repeats 1 (count * size)) refl (λ q. clash cc)
as_lazy size (DoBindTimesSkipping count skip) g = goes_on g g (Repeats count skip) refl (λ q. clash cc)

module _ (s : List ℕ) (w : Walk Registers) (e : w.cursor.ended ≡ false) (c : w.cursor.offset < 2 ^ 64) (l : w.registers.lazy ≡ true) where
  pub lazy_end : {v : Walk Registers} → call binds s w ≡ end v → v.cursor.at ≡ length s
  lazy_end {v} q = by_why (resumed binds s w e c q).why
    where
      still : v.registers.lazy ≡ true
      still = held binds s (λ (g : Registers). g.lazy ≡ true) (λ size at next op g p k. (as_lazy size op g).same ∙ k) w l q

      by_why : Why binds s w.cursor.at v → v.cursor.at ≡ length s
      by_why (no_bytes h) = h
      by_why (behind_done position op g h p f) =
          let x = as_lazy v.cursor.size op g in
          let y : g.lazy ≡ false = x.ends (ap (λ (did : Effect Registers). did.motion) f) in
          let z : v.registers.lazy ≡ g.lazy = ap (λ (did : Effect Registers). did.registers.lazy) (sym f) ∙ x.same in
          let t : ◌≡◌ {A = ℕ} 0 1 = cc still in
          absurd (clash t)
