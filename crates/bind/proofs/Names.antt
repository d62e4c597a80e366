-- The name of every bind that a walk yields lies in the stream, so that `name` hands back all of it. Assumes nothing.
use Prim.Native.Nat.{ℕ, ◌+◌, ◌<◌}
use mathlib.Core.Path.{◌≡◌, ap, sym, ◌∙◌}
use mathlib.Core.Bool.{Bool, true, false, cond}
use mathlib.Core.List.{List}
use native.Mathlib.Omega.{arith}
use lib.Dec.{leb}
use lib.IntN.{pos}
use lib.ListN.{length}
use Rattle.cursor.specs.declared.Motion.TheVariants.{Stays, Restarts, Ends, Refuses}
use Rattle.listing.proofs.Held.{held}
use Rattle.listing.specs.Call.{call}
use Rattle.listing.specs.declared.Walk.{Walk}
use Rattle.listing.specs.Machine.{◌and◌}
use Rattle.numbers.proofs.Laws.{part_length}
use Rattle.numbers.specs.Parts.{part_of}
use Rattle.operations.proofs.Typed.{BindTyped, bind_typed}
use Rattle.operations.specs.Loader.{bind_table}
use Rattle.operations.specs.Table.{operation, operation_at}
use Rattle.operations.specs.declared.bind_operation.BindOperation.{BindOperation}
use Rattle.operations.specs.declared.bind_operation.BindOperation.TheVariants.{
  Done,
  SetDylibOrdinal,
  SetDylibSpecial,
  SetSymbol,
  SetType,
  SetAddend,
  SetSegmentAndOffset,
  AddAddr,
  DoBind,
  DoBindAddAddr,
  DoBindAddAddrScaled,
  DoBindTimesSkipping,
}
use Rattle.refusal.specs.declared.Refusal.TheVariants.{OrdinalTooLarge}
use Rattle.runs.specs.Runs.{item}
use Rattle.bind.specs.Binds.{with_library, lazily, effect_of, binds}
use Rattle.bind.specs.declared.Bind.{Bind}
use Rattle.bind.specs.declared.Registers.{Registers}

module _ (s : List ℕ) where
  -- the name that is kept lies in the stream, and its NUL with it; or none is kept: place and length are 0
  abbrev pub Named : Registers → Type 0
  Named g = g.name.place + g.name.length < length s

  named_done : (g : Registers) → Named g → (t : Bool) → Named (cond t (lazily and Restarts) (g and Ends)).registers
  named_done g h true = omega arith
  named_done g h false = h

  named_ordinal : (g : Registers) (ordinal : ℕ) → Named g → (t : Bool) →
      Named (cond t (with_library (pos ordinal) g and Stays) (g and Refuses OrdinalTooLarge)).registers
  named_ordinal g ordinal h true = h
  named_ordinal g ordinal h false = h

  named_effect : (size : ℕ) (op : BindOperation) (g : Registers) → BindTyped s op → Named g → Named (effect_of size op g).registers
  named_effect size Done g n h = named_done g h g.lazy
  named_effect size (SetDylibOrdinal ordinal) g n h = named_ordinal g ordinal h (leb ordinal 2147483647)
  named_effect size (SetDylibSpecial ordinal) g n h = h
  named_effect size (SetSymbol flags name) g n h = n.1
  named_effect size (SetType kind) g n h = h
  named_effect size (SetAddend addend) g n h = h
  named_effect size (SetSegmentAndOffset index offset) g n h = h
  named_effect size (AddAddr offset) g n h = h
  named_effect size DoBind g n h = h
  named_effect size (DoBindAddAddr offset) g n h = h
  named_effect size (DoBindAddAddrScaled count) g n h = h
  named_effect size (DoBindTimesSkipping count skip) g n h = h

  keeps_named : (size at next : ℕ) (op : BindOperation) (g : Registers) → operation_at bind_table s at ≡ operation op next → Named g → Named (effect_of size op g).registers
  keeps_named size at next op g e = named_effect size op g (bind_typed s at e)

  -- the name of a bind, where the state that was called has a name in the stream; and the next state has one too
  pub record NamedBind (x : Bind) (v : Walk Registers) : Type 0 where
    pub whole : length (part_of s x.name.place x.name.length) ≡ x.name.length
    pub goes_on : Named v.registers

  pub named_bind : (w : Walk Registers) → Named w.registers → {x : Bind} {v : Walk Registers} → call binds s w ≡ item x v → NamedBind x v
  named_bind w h {x} {v} e =
      let y = held binds s Named keeps_named w h e in
      record {
        whole =
            ap (λ (z : Bind). length (part_of s z.name.place z.name.length)) y.is
            ∙ part_length s v.registers.name.place v.registers.name.length (let l = y.holds in omega arith)
            ∙ ap (λ (z : Bind). z.name.length) (sym y.is);
        goes_on = y.holds;
      }
