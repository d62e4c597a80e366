-- What is read of an operation is such as its types have: an immediate is below 16, an unsigned number below 2^64, a signed one an i64; and
-- the name of a symbol lies in the stream, with its NUL behind it. Assumes nothing.
use Prim.Native.Nat.{ℕ, ◌+◌, ◌^◌, ◌<◌}
use mathlib.Core.Path.{◌≡◌, refl, sym, subst}
use mathlib.Core.List.{List}
use native.Mathlib.Omega.{arith}
use lib.IntN.{ℤ, pos, ◌-ℤ◌}
use lib.Dec.{eqb}
use mathlib.Core.Bool.{Bool, true, false, cond}
use Rattle.numbers.proofs.leb128.Sleb.{take_away}
use lib.ListN.{length}
use mir.Syntax.{w32, w64}
use mir.Val.{SFits}
use Rattle.numbers.proofs.Laws.{uleb_read, sleb_read, string_read}
use Rattle.numbers.proofs.Then.{by_read}
use Rattle.numbers.specs.Leb128.{uleb_at, sleb_at}
use Rattle.numbers.specs.Strings.{string_at}
use Rattle.numbers.specs.declared.parts.Part.{Part}
use Rattle.operations.proofs.Cases.{Each, by_table}
use Rattle.operations.specs.Loader.{rebase_table, special, bind_table}
use Rattle.operations.specs.Table.{Parsed, operation, faulty, no_bytes, uleb, ulebs, sleb, string, Row, operands_at, operation_at}
use Rattle.operations.specs.declared.rebase_operation.RebaseOperation.{RebaseOperation}
use Rattle.operations.specs.declared.rebase_operation.RebaseOperation.TheVariants as rebase
use Rattle.operations.specs.declared.bind_operation.BindOperation.{BindOperation}
use Rattle.operations.specs.declared.bind_operation.BindOperation.TheVariants as bind

-- ---- any table: what holds of operations that are made of such operands

module _ {Op : Type 0} (P : Op → Type 0) where
  abbrev IfTyped : Parsed Op → Type 0
  IfTyped (operation op next) = P op
  IfTyped (faulty e) = Unit {0}
  IfTyped no_bytes = Unit {0}

  module _ (s : List ℕ) (at : ℕ) where
    with_uleb : (make : ℕ → Op) → ((v : ℕ) → v < 2 ^ 64 → P (make v)) → IfTyped (operands_at s at (uleb make))
    with_uleb make h = by_read (uleb_at s at) _ _ IfTyped tt (λ v next e. h v (uleb_read s at (sym e) refl).below)

    with_ulebs : (make : ℕ → ℕ → Op) → ((v u : ℕ) → v < 2 ^ 64 → P (make v u)) → IfTyped (operands_at s at (ulebs make))
    with_ulebs make h =
        by_read (uleb_at s at) _ _ IfTyped tt
        (λ v next e. by_read (uleb_at s next) _ _ IfTyped tt (λ u after f. h v u (uleb_read s at (sym e) refl).below))

    with_sleb : (make : ℤ → Op) → ((z : ℤ) → SFits w64 z → P (make z)) → IfTyped (operands_at s at (sleb make))
    with_sleb make h = by_read (sleb_at s at) _ _ IfTyped tt (λ z next e. h z (sleb_read s at (sym e) refl).fits)

    with_string : (make : Part → Op) → ((name : Part) → name.place + name.length < length s → P (make name)) → IfTyped (operands_at s at (string make))
    with_string make h =
        by_read (string_at s at) _ _ IfTyped tt
        (λ name next e. let r = string_read s at (sym e) refl in h name (omega (arith, r.ends, r.within.inside)))

  typed_by : (table : (imm : ℕ) → List (Row Op)) (s : List ℕ) (at : ℕ) → ((imm : ℕ) → imm < 16 → Each IfTyped (λ e. tt) s (at + 1) (table imm)) →
      {op : Op} {next : ℕ} → operation_at table s at ≡ operation op next → P op
  typed_by table s at rows e = subst IfTyped e (by_table IfTyped (λ e. tt) table s at (λ h imm low. rows imm low) (λ h. tt))

-- ---- rebase streams

abbrev pub RebaseTyped : RebaseOperation → Type 0
RebaseTyped rebase.Done = Unit {0}
RebaseTyped (rebase.SetType kind) = kind < 16
RebaseTyped (rebase.SetSegmentAndOffset index offset) = index < 16
RebaseTyped (rebase.AddAddr offset) = Unit {0}
RebaseTyped (rebase.AddAddrScaled count) = Unit {0}
RebaseTyped (rebase.DoRebaseTimes count) = count < 2 ^ 64
RebaseTyped (rebase.DoRebaseAddAddr offset) = Unit {0}
RebaseTyped (rebase.DoRebaseTimesSkipping count skip) = count < 2 ^ 64

pub rebase_typed : (s : List ℕ) (at : ℕ) {op : RebaseOperation} {next : ℕ} → operation_at rebase_table s at ≡ operation op next → RebaseTyped op
rebase_typed s at =
    typed_by RebaseTyped rebase_table s at
    (λ imm low. (
      tt,
      (
        low,
        (
          with_uleb RebaseTyped s (at + 1) (rebase.SetSegmentAndOffset imm) (λ v h. low),
          (
            with_uleb RebaseTyped s (at + 1) rebase.AddAddr (λ v h. tt),
            (
              tt,
              (
                omega arith,
                (
                  with_uleb RebaseTyped s (at + 1) rebase.DoRebaseTimes (λ v h. h),
                  (
                    with_uleb RebaseTyped s (at + 1) rebase.DoRebaseAddAddr (λ v h. tt),
                    (with_ulebs RebaseTyped s (at + 1) rebase.DoRebaseTimesSkipping (λ v u h. h), tt),
                  ),
                ),
              ),
            ),
          ),
        ),
      ),
    ))

-- ---- bind streams

special_small : (imm : ℕ) → imm < 16 → SFits w32 (special imm)
special_small imm h = by (eqb imm 0)
  where
    by : (b : Bool) → SFits w32 (cond b (pos 0) (pos imm -ℤ pos 16))
    by true = record { sfits = omega arith }
    by false = rw (take_away imm 16 15 refl (omega arith)) (record { sfits = omega arith })

abbrev pub BindTyped : List ℕ → BindOperation → Type 0
BindTyped s bind.Done = Unit {0}
BindTyped s (bind.SetDylibOrdinal ordinal) = Unit {0}
BindTyped s (bind.SetDylibSpecial ordinal) = SFits w32 ordinal
BindTyped s (bind.SetSymbol flags name) = flags < 16 × name.place + name.length < length s
BindTyped s (bind.SetType kind) = kind < 16
BindTyped s (bind.SetAddend addend) = SFits w64 addend
BindTyped s (bind.SetSegmentAndOffset index offset) = index < 16
BindTyped s (bind.AddAddr offset) = Unit {0}
BindTyped s bind.DoBind = Unit {0}
BindTyped s (bind.DoBindAddAddr offset) = Unit {0}
BindTyped s (bind.DoBindAddAddrScaled count) = Unit {0}
BindTyped s (bind.DoBindTimesSkipping count skip) = count < 2 ^ 64

pub bind_typed : (s : List ℕ) (at : ℕ) {op : BindOperation} {next : ℕ} → operation_at bind_table s at ≡ operation op next → BindTyped s op
bind_typed s at =
    let P = BindTyped s in
    typed_by P bind_table s at
    (λ imm low. (tt, (tt, (with_uleb P s (at + 1) bind.SetDylibOrdinal (λ v h. tt), (special_small imm low, (with_string P s (at + 1) (bind.SetSymbol imm) (λ name h. (low, h)), (low, (with_sleb P s (at + 1) bind.SetAddend (λ z h. h), (with_uleb P s (at + 1) (bind.SetSegmentAndOffset imm) (λ v h. low), (with_uleb P s (at + 1) bind.AddAddr (λ v h. tt), (tt, (with_uleb P s (at + 1) bind.DoBindAddAddr (λ v h. tt), (tt, (with_ulebs P s (at + 1) bind.DoBindTimesSkipping (λ v u h. h), tt))))))))))))))
