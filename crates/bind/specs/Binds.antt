-- Bind streams: how a walk begins, what each operation does, what a place lacks and what it gives.
use Rattle.std.specs.Prelude.{ℕ, ◌*◌, Bool, true, false, cond, leb, ℤ, pos, neg_ℤ, Option, None, Some}
use Rattle.cursor.specs.declared.Motion.TheVariants.{Stays, Adds, Seeks, Restarts, Repeats, Ends, Refuses}
use Rattle.listing.specs.Machine.{◌and◌, Place, Machine}
use Rattle.listing.specs.declared.Effect.{Effect}
use Rattle.numbers.specs.declared.parts.Part.{Part}
use Rattle.operations.specs.Loader.{bind_table}
use Rattle.operations.specs.declared.bind_operation.BindOperation.{BindOperation}
use Rattle.operations.specs.declared.bind_operation.BindOperation.TheVariants.{
  Done,
  SetDylibOrdinal,
  SetDylibSpecial,
  SetSymbol,
  SetType,
  SetAddend,
  SetSegmentAndOffset,
  AddAddr,
  DoBind,
  DoBindAddAddr,
  DoBindAddAddrScaled,
  DoBindTimesSkipping,
}
use Rattle.bind.specs.declared.Bind.{Bind}
use Rattle.bind.specs.declared.Registers.{Registers}
use Rattle.refusal.specs.declared.Refusal.TheVariants.{OrdinalTooLarge, NoSegment, NoType, NoLibrary, NoSymbol}
use Rattle.refusal.specs.declared.Refusal.{Refusal}

-- ---- the registers

abbrev pub unset : (lazy : Bool) → Registers
unset lazy =
    record {
      name = record { place = 0; length = 0 };
      addend = pos 0;
      library = pos 0;
      segment = 0;
      kind = 0;
      flags = 0;
      lazy = lazy;
      segmented = false;
      typed = false;
      sourced = false;
      named = false;
    }

abbrev pub with_library : ℤ → Registers → Registers
with_library library g = record g { library = library; sourced = true }

abbrev pub with_symbol : (flags : ℕ) → (name : Part) → Registers → Registers
with_symbol flags name g = record g { name = name; flags = flags; named = true }

abbrev pub with_type : ℕ → Registers → Registers
with_type kind g = record g { kind = kind; typed = true }

abbrev pub with_addend : ℤ → Registers → Registers
with_addend addend g = record g { addend = addend }

abbrev pub with_segment : ℕ → Registers → Registers
with_segment index g = record g { segment = index; segmented = true }

-- ---- how a walk begins: plain with nothing set, weak with type 1 and library -3, lazy with type 1

abbrev pub plainly : Registers
plainly = unset false

abbrev pub weakly : Registers
weakly = with_library (neg_ℤ (pos 3)) (with_type 1 plainly)

abbrev pub lazily : Registers
lazily = with_type 1 (unset true)

-- ---- what an operation does

-- in a lazy walk Done puts everything back to a lazy start
abbrev pub done_effect : Registers → Effect Registers
done_effect g = cond g.lazy (lazily and Restarts) (g and Ends)

abbrev pub ordinal_effect : (ordinal : ℕ) → Registers → Effect Registers
ordinal_effect ordinal g = cond (leb ordinal 2147483647) (with_library (pos ordinal) g and Stays) (g and Refuses OrdinalTooLarge)

abbrev pub effect_of : (size : ℕ) → BindOperation → Registers → Effect Registers
effect_of size Done g = done_effect g
effect_of size (SetDylibOrdinal ordinal) g = ordinal_effect ordinal g
effect_of size (SetDylibSpecial ordinal) g = with_library ordinal g and Stays
effect_of size (SetSymbol flags name) g = with_symbol flags name g and Stays
effect_of size (SetType kind) g = with_type kind g and Stays
effect_of size (SetAddend addend) g = with_addend addend g and Stays
effect_of size (SetSegmentAndOffset index offset) g = with_segment index g and Seeks offset
effect_of size (AddAddr offset) g = g and Adds offset
effect_of size DoBind g = g and Repeats 1 0
effect_of size (DoBindAddAddr offset) g = g and Repeats 1 offset
effect_of size (DoBindAddAddrScaled count) g = g and Repeats 1 (count * size)
effect_of size (DoBindTimesSkipping count skip) g = g and Repeats count skip

-- ---- a place that is due

abbrev pub lack_of : Registers → Option Refusal
lack_of g =
    cond g.segmented
    (cond g.typed
    (cond g.sourced
    (cond g.named None (Some NoSymbol))
    (Some NoLibrary))
    (Some NoType))
    (Some NoSegment)

abbrev pub item_of : Registers → (offset : ℕ) → Bind
item_of g offset =
    record {
      offset = offset;
      name = g.name;
      addend = g.addend;
      library = g.library;
      segment = g.segment;
      kind = g.kind;
      flags = g.flags;
    }

abbrev pub place_of : Bind → Place
place_of x = record { segment = x.segment; offset = x.offset; kind = x.kind }

abbrev pub binds : Machine BindOperation Registers Bind
binds =
    record {
      table = bind_table;
      effect = effect_of;
      lack = lack_of;
      item = item_of;
      place = place_of;
    }
