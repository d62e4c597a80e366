-- The theorems of every opcode stream, of the rebase walk. Assumes nothing.
use Prim.Native.Nat.{ℕ, ◌^◌, ◌<◌}
use mathlib.Core.Path.{◌≡◌}
use mathlib.Core.Bool.{true, false}
use mathlib.Core.List.{List}
use lib.ListN.{length}
use Rattle.cursor.specs.Cursor.{in_range}
use Rattle.listing.proofs.Joined as joins
use Rattle.listing.proofs.Kept as keeps
use Rattle.listing.proofs.Resumed as resumes
use Rattle.listing.specs.Call.{begin, call}
use Rattle.listing.specs.Listing.{listing, heard}
use Rattle.listing.specs.declared.Walk.{Walk}
use Rattle.runs.specs.Runs.{begun, end, refused, Run, Walks}
use Rattle.rebase.specs.Rebases.{unset, rebases}
use Rattle.rebase.specs.declared.Rebase.{Rebase}
use Rattle.rebase.specs.declared.Registers.{Registers}

module _ (s : List ℕ) (w : Walk Registers) where
  -- calls from a start on say what the stream lists
  pub joined : (size : ℕ) → begin size unset ≡ begun w → Walks (call rebases s) w (heard (listing rebases size unset s))
  joined size = joins.joined rebases s size unset w

  pub joined_only : (size : ℕ) → begin size unset ≡ begun w → (r : Run Rebase) → Walks (call rebases s) w r → r ≡ heard (listing rebases size unset s)
  joined_only size = joins.joined_only rebases s size unset w

  -- after End a call goes on behind what this one read: behind a Done, or where no bytes are left
  pub resumed : w.cursor.ended ≡ false → w.cursor.offset < 2 ^ 64 → (v : Walk Registers) → call rebases s w ≡ end v →
      resumes.Resumed rebases s w.cursor.at v
  resumed e c v = resumes.resumed rebases s w e c

  -- a refused walk says End ever after
  pub kept : in_range w.cursor (length s) ≡ true → {e : ℕ} (v : Walk Registers) → call rebases s w ≡ refused e v →
      (t : List ℕ) → in_range w.cursor (length t) ≡ true → call rebases t v ≡ end v
  kept r v q t = keeps.kept rebases w s r q t
