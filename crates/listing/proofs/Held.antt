-- What every operation of a stream keeps of the registers holds of all that calls hand back. Assumes nothing.
use Prim.Native.Nat.{ℕ}
use mathlib.Core.Path.{◌≡◌, refl, subst}
use mathlib.Core.List.{List}
use Rattle.listing.specs.Call.{call}
use Rattle.listing.specs.declared.Walk.{Walk}
use Rattle.listing.specs.Machine.{Machine}
use Rattle.listing.proofs.Answers.{KeepsRegisters, by_registers, by_call}
use Rattle.runs.specs.Runs.{Answer, item, end, refused}

module _ {Op Reg Item : Type 0} (M : Machine Op Reg Item) (s : List ℕ) (P : Reg → Type 0) (keeps : KeepsRegisters M s P) where
  -- an item is made of registers of which it holds
  pub record Gives (x : Item) (v : Walk Reg) : Type 0 where
    pub offset : ℕ
    pub is : x ≡ M.item v.registers offset
    pub holds : P v.registers

  abbrev pub Holds : Answer (Walk Reg) Item → Type 0
  Holds (item x v) = Gives x v
  Holds (end v) = P v.registers
  Holds (refused e v) = P v.registers

  module _ (w : Walk Reg) (p : P w.registers) where
    pub held : {a : Answer (Walk Reg) Item} → call M s w ≡ a → Holds a
    held e =
        subst Holds e
        (by_call M s (λ v. P v.registers) (λ v. P v.registers) (by_registers M s P keeps) w Holds
        (λ u v q d. record { offset = _; is = refl; holds = d }) (λ v q. q) (λ e. p) p (λ r. p) (λ n e. p))
