-- The registers of a bind walk are such as their types have, and stay so. Assumes nothing.
use Prim.Native.Nat.{ℕ, ◌^◌, ◌<◌}
use mathlib.Core.Path.{◌≡◌, refl, sym, subst}
use mathlib.Core.Bool.{Bool, true, false, cond}
use mathlib.Core.List.{List}
use native.Mathlib.Omega.{arith}
use borrow.Author.Tests.{leb-true}
use lib.Dec.{leb}
use lib.IntN.{ℤ, pos, neg_ℤ}
use lib.ListN.{length}
use mir.Syntax.{w32, w64}
use mir.Val.{SFits}
use Rattle.cursor.proofs.Typed.{Counted}
use Rattle.cursor.specs.declared.Motion.TheVariants.{Stays, Restarts, Ends, Refuses}
use Rattle.listing.proofs.Answers.{KeepsRegisters}
use Rattle.listing.proofs.Typed as typed
use Rattle.listing.specs.Call.{call}
use Rattle.listing.specs.declared.Walk.{Walk}
use Rattle.listing.specs.Machine.{◌and◌}
use Rattle.operations.proofs.Typed.{BindTyped, bind_typed}
use Rattle.operations.specs.declared.bind_operation.BindOperation.{BindOperation}
use Rattle.operations.specs.declared.bind_operation.BindOperation.TheVariants.{
  Done,
  SetDylibOrdinal,
  SetDylibSpecial,
  SetSymbol,
  SetType,
  SetAddend,
  SetSegmentAndOffset,
  AddAddr,
  DoBind,
  DoBindAddAddr,
  DoBindAddAddrScaled,
  DoBindTimesSkipping,
}
use Rattle.refusal.proofs.Numbered.{IsNumber}
use Rattle.refusal.specs.declared.Refusal.TheVariants.{OrdinalTooLarge}
use Rattle.runs.proofs.Walks.{Hands}
use Rattle.runs.specs.Runs.{item}
use Rattle.bind.specs.Binds.{unset, with_library, with_type, plainly, weakly, lazily, effect_of, binds}
use Rattle.bind.specs.declared.Bind.{Bind}
use Rattle.bind.specs.declared.Registers.{Registers}

pub record TypedRegisters (g : Registers) : Type 0 where
  pub place : g.name.place < 2 ^ 64
  pub length : g.name.length < 2 ^ 64
  pub addend : SFits w64 g.addend
  pub library : SFits w32 g.library
  pub segment : g.segment < 2 ^ 8
  pub kind : g.kind < 2 ^ 8
  pub flags : g.flags < 2 ^ 8

-- of each kind of walk, at its start
typed_unset : (lazy : Bool) → TypedRegisters (unset lazy)
typed_unset lazy =
    record {
      segment = omega arith;
      kind = omega arith;
      library = record { sfits = omega arith };
      place = omega arith;
      length = omega arith;
      flags = omega arith;
      addend = record { sfits = omega arith };
    }

module _ (g : Registers) (t : TypedRegisters g) where
  with_type_lem : (kind : ℕ) → kind < 16 → TypedRegisters (with_type kind g)
  with_type_lem kind h =
      record { segment = t.segment; kind = omega (arith, h); library = t.library; place = t.place; length = t.length; flags = t.flags; addend = t.addend }

  with_library_lem : (library : ℤ) → SFits w32 library → TypedRegisters (with_library library g)
  with_library_lem library h =
      record { segment = t.segment; kind = t.kind; library = h; place = t.place; length = t.length; flags = t.flags; addend = t.addend }

  with_ordinal : (ordinal : ℕ) (b : Bool) → leb ordinal 2147483647 ≡ b →
      TypedRegisters (cond b (with_library (pos ordinal) g and Stays) (g and Refuses OrdinalTooLarge)).registers
  with_ordinal ordinal true e = with_library_lem (pos ordinal) (record { sfits = omega (arith, leb-true ordinal 2147483647 e) })
  with_ordinal ordinal false e = t

pub typed_plainly : TypedRegisters plainly
typed_plainly = typed_unset false

pub typed_weakly : TypedRegisters weakly
typed_weakly = with_library_lem (with_type 1 plainly) (with_type_lem plainly typed_plainly 1 (omega arith)) (neg_ℤ (pos 3)) (record { sfits = omega arith })

pub typed_lazily : TypedRegisters lazily
typed_lazily = with_type_lem (unset true) (typed_unset true) 1 (omega arith)

module _ (s : List ℕ) (short : length s < 2 ^ 64) (size : ℕ) (g : Registers) where
  after_done : TypedRegisters g → (b : Bool) → TypedRegisters (cond b (lazily and Restarts) (g and Ends)).registers
  after_done t true = typed_lazily
  after_done t false = t

  stays : (op : BindOperation) → BindTyped s op → TypedRegisters g → TypedRegisters (effect_of size op g).registers
  stays Done b t = after_done t g.lazy
  stays (SetDylibOrdinal ordinal) b t = with_ordinal g t ordinal (leb ordinal 2147483647) refl
  stays (SetDylibSpecial ordinal) b t = with_library_lem g t ordinal b
  stays (SetSymbol flags name) b t =
      record { segment = t.segment; kind = t.kind; library = t.library; place = omega (arith, short, b.1); length = omega (arith, short, b.1); flags = omega (arith, b.0); addend = t.addend }
  stays (SetType kind) b t = with_type_lem g t kind b
  stays (SetAddend addend) b t =
      record { segment = t.segment; kind = t.kind; library = t.library; place = t.place; length = t.length; flags = t.flags; addend = b }
  stays (SetSegmentAndOffset index offset) b t =
      record { segment = omega (arith, b); kind = t.kind; library = t.library; place = t.place; length = t.length; flags = t.flags; addend = t.addend }
  stays (AddAddr offset) b t = t
  stays DoBind b t = t
  stays (DoBindAddAddr offset) b t = t
  stays (DoBindAddAddrScaled count) b t = t
  stays (DoBindTimesSkipping count skip) b t = t

  counted_done : (b : Bool) → Counted (cond b (lazily and Restarts) (g and Ends)).motion
  counted_done true = tt
  counted_done false = tt

  counted_ordinal : (ordinal : ℕ) (b : Bool) → Counted (cond b (with_library (pos ordinal) g and Stays) (g and Refuses OrdinalTooLarge)).motion
  counted_ordinal ordinal true = tt
  counted_ordinal ordinal false = tt

  counted : (op : BindOperation) → BindTyped s op → Counted (effect_of size op g).motion
  counted Done b = counted_done g.lazy
  counted (SetDylibOrdinal ordinal) b = counted_ordinal ordinal (leb ordinal 2147483647)
  counted (SetDylibSpecial ordinal) b = tt
  counted (SetSymbol flags name) b = tt
  counted (SetType kind) b = tt
  counted (SetAddend addend) b = tt
  counted (SetSegmentAndOffset index offset) b = tt
  counted (AddAddr offset) b = tt
  counted DoBind b = omega arith
  counted (DoBindAddAddr offset) b = omega arith
  counted (DoBindAddAddrScaled count) b = omega arith
  counted (DoBindTimesSkipping count skip) b = b

pub record TypedBind (x : Bind) : Type 0 where
  pub offset : x.offset < 2 ^ 64
  pub place : x.name.place < 2 ^ 64
  pub length : x.name.length < 2 ^ 64
  pub addend : SFits w64 x.addend
  pub library : SFits w32 x.library
  pub segment : x.segment < 2 ^ 8
  pub kind : x.kind < 2 ^ 8
  pub flags : x.flags < 2 ^ 8

-- every call on a state whose fields are such as their types have hands such a state back, and such items
module _ (s : List ℕ) (short : length s < 2 ^ 64) (w : Walk Registers) (t : typed.Typed TypedRegisters w) where
  abbrev keeps : KeepsRegisters binds s TypedRegisters
  keeps size at next op g e b = stays s short size g op (bind_typed s at e) b

  abbrev counts : typed.Counts binds s
  counts size at next op g e = counted s short size g op (bind_typed s at e)

  pub typed_call : Hands (typed.Typed TypedRegisters) IsNumber (call binds s w)
  typed_call = typed.typed_call binds s short TypedRegisters keeps counts w t

  pub typed_item : {x : Bind} {v : Walk Registers} → call binds s w ≡ item x v → TypedBind x
  typed_item e =
      let m = typed.typed_item binds s short TypedRegisters keeps counts w t e in
      let g = m.typed in
      subst TypedBind (sym m.is)
      (record { segment = g.segment; offset = m.below; kind = g.kind; library = g.library; place = g.place; length = g.length; flags = g.flags; addend = g.addend })
