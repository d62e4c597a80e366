-- After End a walk goes on where it stands: behind a Done, or where no bytes are left. Assumes nothing.
use Rattle.std.specs.Prelude.{Option, None, Some}
use Prim.Native.Nat.{ℕ, zero, suc, ◌≤◌, ◌<◌, ◌^◌}
use mathlib.Core.Path.{◌≡◌, refl, ap, sym, ◌∙◌, subst}
use mathlib.Core.List.{List}
use mathlib.Core.Bool.{false, true≢false}
use native.Mathlib.Omega.{arith}
use lib.ListN.{length}
use Rattle.cursor.specs.Cursor.{read_to, anew, moved_by, moved_of}
use Rattle.cursor.specs.Motion.{turn_of}
use Rattle.cursor.specs.declared.Cursor.{Cursor}
use Rattle.cursor.specs.declared.Motion.{Motion}
use Rattle.cursor.specs.declared.Motion.TheVariants.{Stays, Adds, Seeks, Restarts, Repeats, Ends, Refuses}
use Rattle.listing.specs.Call.{state, due, answered, read, called, call}
use Rattle.listing.specs.declared.Walk.{Walk}
use Rattle.listing.specs.Listing.{heard}
use Rattle.listing.specs.Machine.{◌and◌, Machine}
use Rattle.listing.specs.declared.Effect.{Effect}
use Rattle.listing.specs.Stream.{Stream, out, bad, one, stream_at}
use Rattle.listing.proofs.Ahead.{listing_from, reads_on}
use Rattle.listing.proofs.Calls.{by_standing, Live, is_live, live_to, live_start}
use Rattle.listing.proofs.Streams.{Behind, behind, is_out}
use Rattle.operations.specs.Table.{operation, operation_at}
use Rattle.runs.specs.Runs.{Answer, item, end, refused, Walks}
use Rattle.refusal.specs.declared.Refusal.{Refusal}

module _ {Op Reg Item : Type 0} (M : Machine Op Reg Item) (s : List ℕ) where
  -- why End was said in a state that has read from a place on: no bytes are left, or it stands behind an operation that says the end
  pub data Why (from : ℕ) (v : Walk Reg) : Type 0 where
    no_bytes : v.cursor.at ≡ length s → Why from v
    behind_done : (position : ℕ) (op : Op) (g : Reg) → from ≤ position → operation_at M.table s position ≡ operation op v.cursor.at →
        M.effect v.cursor.size op g ≡ (v.registers and Ends) → Why from v

  -- and calls from that state on say what the operations from there on list
  pub record Resumed (from : ℕ) (v : Walk Reg) : Type 0 where
    pub why : Why from v
    pub goes_on : Walks (call M s) v (heard (listing_from M s v))

  abbrev IfEnd : (from : ℕ) → Answer (Walk Reg) Item → Type 0
  IfEnd from (item x v) = Unit {0}
  IfEnd from (end v) = Resumed from v
  IfEnd from (refused e v) = Unit {0}

  module _ (w : Walk Reg) (from : ℕ) where
    end_due : (o : ℕ) (v : Walk Reg) (l : Option Refusal) → IfEnd from (due M w o v l)
    unfolding due
    end_due o v None = tt
    end_due o v (Some e) = tt

    abbrev IfReads : Stream Op → Type 0
    IfReads xs =
        (c : Cursor) (g : Reg) → stream_at M s c.at ≡ xs → Live c (length s) → c.remaining ≡ 0 → from ≤ c.at →
        IfEnd from (read M w xs (state c g))

    module _ (c : Cursor) (l : Live c (length s)) (z : c.remaining ≡ 0) (g : Reg) (before : from ≤ c.at)
        {position next : ℕ} {op : Op} {rest : Stream Op} (b : Behind M s c.at position op next rest)
        (h : IfReads rest) where
      abbrev did : Effect Reg
      did = M.effect c.size op g

      on : (to : ℕ) → to < 2 ^ 64 → IfEnd from (read M w rest (state (read_to next c to) did.registers))
      on to d = h (read_to next c to) _ b.same (live_to to l b.inside d) z (omega (arith, b.beyond))

      end_motion : (m : Motion) → did.motion ≡ m →
          IfEnd from (answered M w c.offset did.registers (read M w rest) (moved_of c next m))
      unfolding answered moved_by turn_of
      end_motion Stays e = on c.offset l.below
      end_motion (Adds n) e = on _ (omega arith)
      end_motion (Seeks to) e = on _ (omega arith)
      end_motion Restarts e =
          h (anew next c) _ b.same (live_start b.inside l.sized) refl (omega (arith, b.beyond))
      end_motion (Repeats zero addition) e = on c.offset l.below
      end_motion (Repeats (suc n) addition) e = end_due c.offset _ (M.lack did.registers)
      end_motion Ends e =
          record {
            why = behind_done c.at op g before b.parsed (ap (λ (m : Motion). did.registers and m) e);
            goes_on = reads_on M s _ (live_to c.offset l b.inside l.below) z;
          }
      end_motion (Refuses f) e = tt

    end_read : (xs : Stream Op) → IfReads xs
    unfolding read
    end_read out c g same l z before =
        record { why = no_bytes (omega (arith, is_out M s c.at same, l.inside)); goes_on = reads_on M s _ l z }
    end_read (bad e position) c g same l z before = tt
    end_read (one position op next rest) c g same l z before =
        end_motion c l z g before (behind M s c.at same) (end_read rest) (M.effect c.size op g).motion refl

  -- after End a call goes on behind what this one read
  pub resumed : (w : Walk Reg) → w.cursor.ended ≡ false → w.cursor.offset < 2 ^ 64 →
      {v : Walk Reg} → call M s w ≡ end v → Resumed w.cursor.at v
  unfolding call
  resumed w e b q =
      let c = w.cursor in
      subst (IfEnd c.at) q
      (by_standing c (length s) (λ x. IfEnd c.at (called M w s x)) (λ r. tt) (λ d. absurd (true≢false (sym d ∙ e)))
      (λ r d z. end_read w c.at _ c w.registers refl (is_live c (length s) r d b) z (omega arith))
      (λ r d n z. end_due w c.at c.offset _ (M.lack w.registers)))
