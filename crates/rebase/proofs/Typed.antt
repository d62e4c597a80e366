-- The registers of a rebase walk are such as their types have, and stay so. Assumes nothing.
use Prim.Native.Nat.{ℕ, ◌^◌, ◌<◌}
use mathlib.Core.Path.{◌≡◌, sym, subst}
use mathlib.Core.List.{List}
use native.Mathlib.Omega.{arith}
use lib.ListN.{length}
use Rattle.cursor.proofs.Typed.{Counted}
use Rattle.listing.proofs.Answers.{KeepsRegisters}
use Rattle.listing.proofs.Typed as typed
use Rattle.listing.specs.Call.{call}
use Rattle.listing.specs.declared.Walk.{Walk}
use Rattle.operations.proofs.Typed.{RebaseTyped, rebase_typed}
use Rattle.operations.specs.declared.rebase_operation.RebaseOperation.{RebaseOperation}
use Rattle.operations.specs.declared.rebase_operation.RebaseOperation.TheVariants.{
  Done,
  SetType,
  SetSegmentAndOffset,
  AddAddr,
  AddAddrScaled,
  DoRebaseTimes,
  DoRebaseAddAddr,
  DoRebaseTimesSkipping,
}
use Rattle.refusal.proofs.Numbered.{IsNumber}
use Rattle.runs.proofs.Walks.{Hands}
use Rattle.runs.specs.Runs.{item}
use Rattle.rebase.specs.Rebases.{unset, effect_of, rebases}
use Rattle.rebase.specs.declared.Rebase.{Rebase}
use Rattle.rebase.specs.declared.Registers.{Registers}

pub record TypedRegisters (g : Registers) : Type 0 where
  pub segment : g.segment < 2 ^ 8
  pub kind : g.kind < 2 ^ 8

pub typed_unset : TypedRegisters unset
typed_unset = record { segment = omega arith; kind = omega arith }

module _ (size : ℕ) (g : Registers) where
  stays : (op : RebaseOperation) → RebaseTyped op → TypedRegisters g → TypedRegisters (effect_of size op g).registers
  stays Done t b = b
  stays (SetType kind) t b = record { segment = b.segment; kind = omega (arith, t) }
  stays (SetSegmentAndOffset index offset) t b = record { segment = omega (arith, t); kind = b.kind }
  stays (AddAddr offset) t b = b
  stays (AddAddrScaled count) t b = b
  stays (DoRebaseTimes count) t b = b
  stays (DoRebaseAddAddr offset) t b = b
  stays (DoRebaseTimesSkipping count skip) t b = b

  counted : (op : RebaseOperation) → RebaseTyped op → Counted (effect_of size op g).motion
  counted Done t = tt
  counted (SetType kind) t = tt
  counted (SetSegmentAndOffset index offset) t = tt
  counted (AddAddr offset) t = tt
  counted (AddAddrScaled count) t = tt
  counted (DoRebaseTimes count) t = t
  counted (DoRebaseAddAddr offset) t = omega arith
  counted (DoRebaseTimesSkipping count skip) t = t

pub record TypedRebase (x : Rebase) : Type 0 where
  pub offset : x.offset < 2 ^ 64
  pub segment : x.segment < 2 ^ 8
  pub kind : x.kind < 2 ^ 8

-- every call on a state whose fields are such as their types have hands such a state back, and such items
module _ (s : List ℕ) (short : length s < 2 ^ 64) (w : Walk Registers) (t : typed.Typed TypedRegisters w) where
  abbrev keeps : KeepsRegisters rebases s TypedRegisters
  keeps size at next op g e b = stays size g op (rebase_typed s at e) b

  abbrev counts : typed.Counts rebases s
  counts size at next op g e = counted size g op (rebase_typed s at e)

  pub typed_call : Hands (typed.Typed TypedRegisters) IsNumber (call rebases s w)
  typed_call = typed.typed_call rebases s short TypedRegisters keeps counts w t

  pub typed_item : {x : Rebase} {v : Walk Registers} → call rebases s w ≡ item x v → TypedRebase x
  typed_item e =
      let m = typed.typed_item rebases s short TypedRegisters keeps counts w t e in
      subst TypedRebase (sym m.is) (record { offset = m.below; segment = m.typed.segment; kind = m.typed.kind })
