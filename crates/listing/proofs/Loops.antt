-- One turn of the loop that reads operations. Assumes nothing.
use Prim.Native.Nat.{ℕ, ◌-◌, ◌<◌}
use mathlib.Core.Path.{◌≡◌, refl, ap, sym, ◌∙◌, subst}
use mathlib.Core.List.{List}
use native.Mathlib.Omega.{arith}
use lib.ListN.{length}
use Rattle.cursor.specs.Cursor.{moved_by, moved_of}
use Rattle.cursor.specs.Motion.{turn_of}
use Rattle.cursor.specs.declared.Cursor.{Cursor}
use Rattle.cursor.specs.declared.Moved.{Moved}
use Rattle.cursor.specs.declared.Moved.TheVariants as moved
use Rattle.cursor.specs.declared.Turn.{Turn}
use Rattle.cursor.specs.declared.Turn.TheVariants.{On, Anew, Due, End, Refused}
use Rattle.listing.specs.Call.{state, answered, read}
use Rattle.listing.specs.declared.Walk.{Walk}
use Rattle.listing.specs.Machine.{Machine}
use Rattle.listing.specs.declared.Effect.{Effect}
use Rattle.listing.specs.Stream.{Stream, before, stream_at}
use Rattle.listing.proofs.Streams.{fewer_left, stream_by}
use Rattle.operations.specs.Table.{Parsed, operation, operation_at}
use Rattle.runs.specs.Runs.{Answer}

-- the invariant: the call answers what reading on from here answers
pub record Reading {Op Reg Item : Type 0} (M : Machine Op Reg Item) (s : List ℕ) (given : Walk Reg) (a : Answer (Walk Reg) Item) (c : Cursor) (g : Reg) : Type 0 where
  pub same : a ≡ read M given (stream_at M s c.at) (state c g)

-- where an operation moves the cursor on, it reads behind the operation
abbrev IfOn : ℕ → Moved → Type 0
IfOn next (moved.On c) = c.at ≡ next
IfOn next (moved.Due c) = Unit {0}
IfOn next (moved.End c) = Unit {0}
IfOn next (moved.Refused e) = Unit {0}

if_on : (c : Cursor) (next : ℕ) (t : Turn) → IfOn next (moved_by c next t)
unfolding moved_by
if_on c next (On to) = refl
if_on c next Anew = refl
if_on c next (Due left advance) = tt
if_on c next End = tt
if_on c next (Refused e) = tt

module _ {Op Reg Item : Type 0} {M : Machine Op Reg Item} {s : List ℕ} {given : Walk Reg} {a : Answer (Walk Reg) Item} {c : Cursor} {g : Reg}
    (r : Reading M s given a c g) where
  -- by what is parsed
  pub by_parsed : {q : Parsed Op} → q ≡ operation_at M.table s c.at → read M given (before M c.at (stream_at M s) q) (state c g) ≡ a
  by_parsed p = ap (λ (xs : Stream Op). read M given xs (state c g)) (sym (stream_by M s c.at (sym p))) ∙ sym r.same

  module _ {op : Op} {next : ℕ} (p : operation op next ≡ operation_at M.table s c.at) {did : Effect Reg} (f : did ≡ M.effect c.size op g)
      {m : Moved} (e : m ≡ moved_of c next did.motion) where
    -- by what the operation makes of the cursor
    pub by_moved : answered M given c.offset did.registers (read M given (stream_at M s next)) m ≡ a
    unfolding read before
    by_moved =
        ap (answered M given c.offset did.registers (read M given (stream_at M s next))) e
        ∙ ap (λ (did : Effect Reg). answered M given c.offset did.registers (read M given (stream_at M s next)) (moved_of c next did.motion)) f
        ∙ by_parsed p

    module _ {d : Cursor} (u : m ≡ moved.On d) where
      there : d.at ≡ next
      there = subst (IfOn next) (sym e ∙ u) (if_on c next (turn_of c.size c.offset did.motion))

      pub further : length s - d.at < length s - c.at
      further = omega (arith, fewer_left M s c.at (sym p), there)

      pub reads_on : Reading M s given a d did.registers
      unfolding answered
      reads_on =
          record {
            same =
                sym by_moved
                ∙ ap (answered M given c.offset did.registers (read M given (stream_at M s next))) u
                ∙ ap (λ (at : ℕ). read M given (stream_at M s at) (state d did.registers)) (sym there);
          }
