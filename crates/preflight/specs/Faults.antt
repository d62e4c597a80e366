-- The first fault of a stream, or its end, said operation by operation, with no listing and no verdict. Where pointer size
-- and sizes are fit, a preflight says exactly this: `fault_at`, `pass_at` (proofs/Faults.antt).
use Rattle.std.specs.Prelude.{ℕ, suc, ◌≤◌, ◌<◌, ◌≡◌, Bool, true, false, List, length, None, Some}
use Rattle.cursor.specs.Motion.{turn_of}
use Rattle.cursor.specs.declared.Turn.{Turn}
use Rattle.cursor.specs.declared.Turn.TheVariants.{On, Anew, Due, End, Refused}
use Rattle.listing.specs.Machine.{Machine}
use Rattle.operations.specs.Table.{operation, faulty, operation_at}
use Rattle.places.specs.Places.{place_at}
use Rattle.refusal.specs.Numbers.{number_of}
use Rattle.refusal.specs.declared.Refusal.{Refusal}
use Rattle.refusal.specs.declared.Refusal.TheVariants.{PlaceOutside}
use Rattle.preflight.specs.Verdict.{inside}

-- ---- an operation: the registers that it leaves, and what it comes to at an offset

module _ {Op Reg Item : Type 0} (M : Machine Op Reg Item) (size : ℕ) where
  abbrev pub registers_by : Op → Reg → Reg
  registers_by op g = (M.effect size op g).registers

  abbrev pub turn_by : Op → Reg → (offset : ℕ) → Turn
  turn_by op g offset = turn_of size offset (M.effect size op g).motion

-- ---- a fault or none, by what it comes to and the registers that it leaves

module _ {Op Reg Item : Type 0} (M : Machine Op Reg Item) (size : ℕ) (sizes : List ℕ) where
  -- whether place i of a repeat lies inside its segment
  abbrev pub inside_at : Reg → (offset advance i : ℕ) → Bool
  inside_at g offset advance i = inside size sizes (M.place (M.item g (place_at offset advance i)))

  -- no fault: the stream goes on at an offset
  pub data Clear (g : Reg) (offset : ℕ) : Turn → (to : ℕ) → Type 0 where
    goes_on : {to : ℕ} → Clear g offset (On to) to
    anew : Clear g offset Anew 0
    all_inside : {left advance : ℕ} → M.lack g ≡ None → ((i : ℕ) → i ≤ left → inside_at g offset advance i ≡ true) →
        Clear g offset (Due left advance) (place_at offset advance (suc left))

  -- a fault, of a number, at an index of the repeat
  pub data Faulty (g : Reg) (offset : ℕ) : Turn → (number index : ℕ) → Type 0 where
    refused : {e : Refusal} → Faulty g offset (Refused e) (number_of e) 0
    lacking : {left advance : ℕ} {e : Refusal} → M.lack g ≡ Some e → Faulty g offset (Due left advance) (number_of e) 0
    outside : {left advance index : ℕ} → M.lack g ≡ None → index ≤ left → ((i : ℕ) → i < index → inside_at g offset advance i ≡ true) →
        inside_at g offset advance index ≡ false → Faulty g offset (Due left advance) (number_of PlaceOutside) index

  -- ---- a stream, from the registers of a start

  module _ (s : List ℕ) where
    -- operation by operation, none with a fault, the stream comes to a place, with k operations read, to these registers and this offset
    pub data Comes (start : Reg) : (at k : ℕ) → Reg → (offset : ℕ) → Type 0 where
      begins : Comes start 0 0 start 0
      over : {at k next offset to : ℕ} {g : Reg} {op : Op} → Comes start at k g offset → operation_at M.table s at ≡ operation op next →
          Clear (registers_by M size op g) offset (turn_by M size op g offset) to → Comes start next (suc k) (registers_by M size op g) to

    -- what stands at a place has a fault: it is no operation, or one with a fault
    pub data FaultAt (at : ℕ) (g : Reg) (offset : ℕ) : (number index : ℕ) → Type 0 where
      unread : {e : Refusal} → operation_at M.table s at ≡ faulty e → FaultAt at g offset (number_of e) 0
      read : {next number index : ℕ} {op : Op} → operation_at M.table s at ≡ operation op next →
          Faulty (registers_by M size op g) offset (turn_by M size op g offset) number index → FaultAt at g offset number index

    -- what stands at a place ends the stream: no bytes are left, or an operation says the end, which is read too
    pub data EndAt (at k : ℕ) (g : Reg) (offset : ℕ) : (operations : ℕ) → Type 0 where
      no_more : length s ≤ at → EndAt at k g offset k
      done : {next : ℕ} {op : Op} → operation_at M.table s at ≡ operation op next → turn_by M size op g offset ≡ End → EndAt at k g offset (suc k)

    -- the first fault, at the position of its operation; or the end
    pub record FirstFault (start : Reg) (number position index : ℕ) : Type 0 where
      pub k : ℕ
      pub registers : Reg
      pub offset : ℕ
      pub comes : Comes start position k registers offset
      pub faults : FaultAt position registers offset number index

    pub record Ends (start : Reg) (operations : ℕ) : Type 0 where
      pub at : ℕ
      pub k : ℕ
      pub registers : Reg
      pub offset : ℕ
      pub comes : Comes start at k registers offset
      pub ends : EndAt at k registers offset operations
