-- Rebase streams: what each operation does, what a place lacks and what it gives.
use Rattle.std.specs.Prelude.{ℕ, ◌*◌, true, false, cond, Option, None, Some}
use Rattle.cursor.specs.declared.Motion.TheVariants.{Stays, Adds, Seeks, Repeats, Ends}
use Rattle.listing.specs.Machine.{◌and◌, Place, Machine}
use Rattle.listing.specs.declared.Effect.{Effect}
use Rattle.operations.specs.Loader.{rebase_table}
use Rattle.operations.specs.declared.rebase_operation.RebaseOperation.{RebaseOperation}
use Rattle.operations.specs.declared.rebase_operation.RebaseOperation.TheVariants.{
  Done,
  SetType,
  SetSegmentAndOffset,
  AddAddr,
  AddAddrScaled,
  DoRebaseTimes,
  DoRebaseAddAddr,
  DoRebaseTimesSkipping,
}
use Rattle.rebase.specs.declared.Rebase.{Rebase}
use Rattle.rebase.specs.declared.Registers.{Registers}
use Rattle.refusal.specs.declared.Refusal.TheVariants.{NoSegment, NoType}
use Rattle.refusal.specs.declared.Refusal.{Refusal}

-- ---- the registers

-- at a start
abbrev pub unset : Registers
unset = record { segment = 0; kind = 0; segmented = false; typed = false }

abbrev pub with_type : ℕ → Registers → Registers
with_type kind g = record g { kind = kind; typed = true }

abbrev pub with_segment : ℕ → Registers → Registers
with_segment index g = record g { segment = index; segmented = true }

-- ---- what an operation does

abbrev pub effect_of : (size : ℕ) → RebaseOperation → Registers → Effect Registers
effect_of size Done g = g and Ends
effect_of size (SetType kind) g = with_type kind g and Stays
effect_of size (SetSegmentAndOffset index offset) g = with_segment index g and Seeks offset
effect_of size (AddAddr offset) g = g and Adds offset
effect_of size (AddAddrScaled count) g = g and Adds (count * size)
effect_of size (DoRebaseTimes count) g = g and Repeats count 0
effect_of size (DoRebaseAddAddr offset) g = g and Repeats 1 offset
effect_of size (DoRebaseTimesSkipping count skip) g = g and Repeats count skip

-- ---- a place that is due

abbrev pub lack_of : Registers → Option Refusal
lack_of g = cond g.segmented (cond g.typed None (Some NoType)) (Some NoSegment)

abbrev pub item_of : Registers → (offset : ℕ) → Rebase
item_of g offset = record { offset = offset; segment = g.segment; kind = g.kind }

abbrev pub place_of : Rebase → Place
place_of x = record { segment = x.segment; offset = x.offset; kind = x.kind }

abbrev pub rebases : Machine RebaseOperation Registers Rebase
rebases =
    record {
      table = rebase_table;
      effect = effect_of;
      lack = lack_of;
      item = item_of;
      place = place_of;
    }
