-- What holds of every answer: of items and ends made of states that operations keep in order, and of refusals of the given state.
-- Assumes nothing.
use Rattle.std.specs.Prelude.{Option, None, Some}
use Prim.Native.Nat.{ℕ, suc}
use mathlib.Core.Path.{◌≡◌, refl}
use mathlib.Core.Bool.{false}
use mathlib.Core.List.{List}
use lib.ListN.{length}
use Rattle.cursor.proofs.Typed.{IfMoved}
use Rattle.cursor.specs.Cursor.{behind_place, in_range, moved_of}
use Rattle.cursor.specs.declared.Cursor.{Cursor}
use Rattle.cursor.specs.declared.Moved.{Moved}
use Rattle.cursor.specs.declared.Moved.TheVariants as moved
use Rattle.listing.specs.Call.{state, refusal, due, answered, read, called, call}
use Rattle.listing.specs.declared.Walk.{Walk}
use Rattle.listing.specs.Machine.{Machine}
use Rattle.listing.specs.Stream.{Stream, out, bad, one, stream_at}
use Rattle.listing.proofs.Calls.{by_standing}
use Rattle.listing.proofs.Streams.{behind}
use Rattle.operations.specs.Table.{operation, operation_at}
use Rattle.refusal.specs.declared.Refusal.{Refusal}
use Rattle.runs.specs.Runs.{Answer, item, end, refused}

-- P is kept by every operation of the stream: of the state that it leaves, and so of the registers where it asks for no
-- more; D holds of the state behind a place that is due
abbrev pub Keeps : {Op Reg Item : Type 0} (M : Machine Op Reg Item) → List ℕ → (P D : Walk Reg → Type 0) → Type 0
Keeps {Op} {Reg} {Item} M s P D =
    (v : Walk Reg) (at next : ℕ) (op : Op) → operation_at M.table s at ≡ operation op next → P v →
    let did = M.effect v.cursor.size op v.registers in
    let g = did.registers in
    IfMoved (λ c. P (state c g)) (λ c. D (state c g)) (moved_of v.cursor next did.motion)

abbrev pub KeepsRegisters : {Op Reg Item : Type 0} (M : Machine Op Reg Item) → List ℕ → (Reg → Type 0) → Type 0
KeepsRegisters {Op} {Reg} {Item} M s P =
    (size at next : ℕ) (op : Op) (g : Reg) → operation_at M.table s at ≡ operation op next → P g → P (M.effect size op g).registers

-- what asks nothing of the cursor holds wherever it is moved
anywhere : {P : Type 0} → P → (m : Moved) → IfMoved (λ c. P) (λ c. P) m
anywhere p (moved.On c) = p
anywhere p (moved.Due c) = p
anywhere p (moved.End c) = p
anywhere p (moved.Refused e) = tt

pub by_registers : {Op Reg Item : Type 0} (M : Machine Op Reg Item) (s : List ℕ) (P : Reg → Type 0) → KeepsRegisters M s P →
    Keeps M s (λ v. P v.registers) (λ v. P v.registers)
by_registers M s P keeps v at next op e p =
    let did = M.effect v.cursor.size op v.registers in
    anywhere (keeps v.cursor.size at next op v.registers e p) (moved_of v.cursor next did.motion)

-- an item is of the offset of one state and the registers of the next
module _ {Op Reg Item : Type 0} (M : Machine Op Reg Item) (s : List ℕ) (P D : Walk Reg → Type 0) (keeps : Keeps M s P D)
    (w : Walk Reg) (Q : Answer (Walk Reg) Item → Type 0)
    (gives : (u v : Walk Reg) → P u → D v → Q (item (M.item v.registers u.cursor.offset) v))
    (ends : (v : Walk Reg) → P v → Q (end v)) (refuses : (e : Refusal) → Q (refusal w e)) where
  by_due : (u v : Walk Reg) → P u → D v → (l : Option Refusal) → Q (due M w u.cursor.offset v l)
  unfolding due
  by_due u v p d None = gives u v p d
  by_due u v p d (Some e) = refuses e

  by_moved : (u : Walk Reg) → P u → (g : Reg) (rest : Walk Reg → Answer (Walk Reg) Item) →
      ((v : Walk Reg) → P v → Q (rest v)) →
      (m : Moved) → IfMoved (λ c. P (state c g)) (λ c. D (state c g)) m → Q (answered M w u.cursor.offset g rest m)
  unfolding answered
  by_moved u p g rest h (moved.On c) q = h (state c g) q
  by_moved u p g rest h (moved.Due c) d = by_due u (state c g) p d (M.lack g)
  by_moved u p g rest h (moved.End c) q = ends (state c g) q
  by_moved u p g rest h (moved.Refused e) q = refuses e

  by_read : (xs : Stream Op) (at : ℕ) → stream_at M s at ≡ xs → (v : Walk Reg) → P v → Q (read M w xs v)
  unfolding read
  by_read out at same v p = ends v p
  by_read (bad e position) at same v p = refuses e
  by_read (one position op next rest) at same v p =
      let b = behind M s at same in
      let did = M.effect v.cursor.size op v.registers in
      by_moved v p did.registers (read M w rest) (by_read rest next b.same)
      (moved_of v.cursor next did.motion) (keeps v at next op b.parsed p)

  abbrev c : Cursor
  c = w.cursor

  pub by_call : P w → (in_range c (length s) ≡ false → Q (refused 19 w)) →
      ((n : ℕ) → c.remaining ≡ suc n → D (state (behind_place c n c.advance) w.registers)) → Q (call M s w)
  unfolding call
  by_call p unfit left =
      by_standing c (length s) (λ x. Q (called M w s x)) unfit (λ e. ends w p)
      (λ r e z. by_read (stream_at M s c.at) c.at refl w p)
      (λ r e n z. by_due w _ p (left n z) (M.lack w.registers))
