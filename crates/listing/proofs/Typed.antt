-- States whose fields are such as their types have: a start gives one, and every call on one hands one back. Refusals have a number of the
-- table. Assumes nothing.
use Prim.Native.Nat.{ℕ, ◌^◌, ◌<◌}
use mathlib.Core.Path.{◌≡◌, refl, sym, subst}
use mathlib.Core.List.{List}
use native.Mathlib.Omega.{arith}
use lib.ListN.{length}
use Rattle.cursor.proofs.Typed as cursor
use Rattle.cursor.proofs.Typed.{IfMoved, Counted}
use Rattle.cursor.specs.Cursor.{marked_ended, moved_of}
use Rattle.cursor.specs.declared.Moved.{Moved}
use Rattle.cursor.specs.declared.Moved.TheVariants as moved
use Rattle.listing.specs.Call.{state, begin, call}
use Rattle.listing.specs.declared.Walk.{Walk}
use Rattle.listing.specs.Machine.{Machine}
use Rattle.listing.proofs.Answers.{Keeps, KeepsRegisters, by_call}
use Rattle.listing.proofs.Starts.{byte_size, begun_is}
use Rattle.listing.proofs.Streams.{ends_within}
use Rattle.operations.specs.Table.{operation, operation_at}
use Rattle.refusal.proofs.Numbered.{IsNumber, is_number_lem}
use Rattle.refusal.specs.declared.Refusal.TheVariants.{StateOutOfRange}
use Rattle.runs.proofs.Walks.{Hands}
use Rattle.runs.specs.Runs.{begun, Answer, item, end, refused}

-- the cursor's fields, and what the registers' types say
pub record Typed {Reg : Type 0} (P : Reg → Type 0) (w : Walk Reg) : Type 0 where
  pub cursor : cursor.Typed w.cursor
  pub registers : P w.registers

-- a start
pub typed_begin : {Reg : Type 0} (P : Reg → Type 0) (size : ℕ) (g : Reg) → P g → {w : Walk Reg} → begin size g ≡ begun w → Typed P w
typed_begin P size g p e =
    let b = begun_is size g e in
    subst (Typed P) (sym b.is) (record { cursor = cursor.typed_start size (byte_size b.sized); registers = p })

-- a call: no operation of the stream has a repeat whose count is no u64
abbrev pub Counts : {Op Reg Item : Type 0} (M : Machine Op Reg Item) → List ℕ → Type 0
Counts {Op} {Reg} {Item} M s = (size at next : ℕ) (op : Op) (g : Reg) → operation_at M.table s at ≡ operation op next → Counted (M.effect size op g).motion

module _ {Op Reg Item : Type 0} (M : Machine Op Reg Item) (s : List ℕ) (short : length s < 2 ^ 64) (P : Reg → Type 0) (keeps : KeepsRegisters M s P) (counts : Counts M s) where
  both : (g : Reg) → P g → (m : Moved) → IfMoved cursor.Typed cursor.Typed m →
      IfMoved (λ c. Typed P (state c g)) (λ c. Typed P (state c g)) m
  both g p (moved.On c) t = record { cursor = t; registers = p }
  both g p (moved.Due c) t = record { cursor = t; registers = p }
  both g p (moved.End c) t = record { cursor = t; registers = p }
  both g p (moved.Refused e) t = tt

  keeps_typed : Keeps M s (Typed P) (Typed P)
  keeps_typed v at next op e t =
      let c = v.cursor in
      let did = M.effect c.size op v.registers in
      both did.registers (keeps c.size at next op v.registers e t.registers) (moved_of c next did.motion)
      (cursor.typed_moved c t.cursor next (omega (arith, short, (ends_within M s at e).inside)) did.motion (counts c.size at next op v.registers e))

  -- an item is made of such registers, at such an offset
  pub record Made (x : Item) : Type 0 where
    pub registers : Reg
    pub offset : ℕ
    pub is : x ≡ M.item registers offset
    pub typed : P registers
    pub below : offset < 2 ^ 64

  -- what is shown of each answer
  abbrev Good : Answer (Walk Reg) Item → Type 0
  Good (item x v) = Typed P v × Made x
  Good (end v) = Typed P v
  Good (refused number v) = Typed P v × IsNumber number

  module _ (w : Walk Reg) (t : Typed P w) where
    ended : Typed P (state (marked_ended w.cursor) w.registers)
    ended = record { cursor = cursor.typed_ended t.cursor; registers = t.registers }

    good : Good (call M s w)
    good =
        by_call M s (Typed P) (Typed P) keeps_typed w Good
        (λ u v p d.
        (d, record { registers = _; offset = _; is = refl; typed = d.registers; below = p.cursor.offset }))
        (λ v u. u) (λ e. (ended, is_number_lem e)) t (λ r. (t, is_number_lem StateOutOfRange))
        (λ n e. record { cursor = cursor.typed_behind w.cursor t.cursor n e; registers = t.registers })

    pub typed_call : Hands (Typed P) IsNumber (call M s w)
    typed_call = by (call M s w) good
      where
        by : (a : Answer (Walk Reg) Item) → Good a → Hands (Typed P) IsNumber a
        by (item x v) g = g.0
        by (end v) g = g
        by (refused number v) g = g

    pub typed_item : {x : Item} {v : Walk Reg} → call M s w ≡ item x v → Made x
    typed_item e = (subst Good e good).1
