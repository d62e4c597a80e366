-- The theorems of every opcode stream, of the bind walk. Assumes nothing.
use Prim.Native.Nat.{ℕ, ◌^◌, ◌<◌}
use mathlib.Core.Path.{◌≡◌}
use mathlib.Core.Bool.{true, false}
use mathlib.Core.List.{List}
use lib.ListN.{length}
use Rattle.cursor.specs.Cursor.{in_range}
use Rattle.listing.proofs.Joined as joins
use Rattle.listing.proofs.Kept as keeps
use Rattle.listing.proofs.Resumed as resumes
use Rattle.listing.specs.Call.{begin, call}
use Rattle.listing.specs.Listing.{listing, heard}
use Rattle.listing.specs.declared.Walk.{Walk}
use Rattle.runs.specs.Runs.{begun, end, refused, Run, Walks}
use Rattle.bind.specs.Binds.{plainly, weakly, lazily, binds}
use Rattle.bind.specs.declared.Bind.{Bind}
use Rattle.bind.specs.declared.Registers.{Registers}

module _ (s : List ℕ) (w : Walk Registers) where
  -- calls from a start on say what the stream lists
  module _ (size : ℕ) where
    pub joined_plain : begin size plainly ≡ begun w → Walks (call binds s) w (heard (listing binds size plainly s))
    joined_plain = joins.joined binds s size plainly w

    pub joined_weak : begin size weakly ≡ begun w → Walks (call binds s) w (heard (listing binds size weakly s))
    joined_weak = joins.joined binds s size weakly w

    pub joined_lazy : begin size lazily ≡ begun w → Walks (call binds s) w (heard (listing binds size lazily s))
    joined_lazy = joins.joined binds s size lazily w

    -- and nothing else, however it was started
    pub joined_only : (g : Registers) → begin size g ≡ begun w → (r : Run Bind) → Walks (call binds s) w r → r ≡ heard (listing binds size g s)
    joined_only g = joins.joined_only binds s size g w

  -- after End a call goes on behind what this one read: behind a Done, or where no bytes are left (of a lazy walk only there: proofs/Lazy.antt)
  pub resumed : w.cursor.ended ≡ false → w.cursor.offset < 2 ^ 64 → (v : Walk Registers) → call binds s w ≡ end v →
      resumes.Resumed binds s w.cursor.at v
  resumed e c v = resumes.resumed binds s w e c

  -- a refused walk says End ever after
  pub kept : in_range w.cursor (length s) ≡ true → {e : ℕ} (v : Walk Registers) → call binds s w ≡ refused e v →
      (t : List ℕ) → in_range w.cursor (length t) ≡ true → call binds t v ≡ end v
  kept r v q t = keeps.kept binds w s r q t
