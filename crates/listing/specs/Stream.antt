-- The operations of a stream, in order, from a place on.
use Rattle.std.specs.Prelude.{ℕ, zero, suc, List, length}
use Rattle.listing.specs.Machine.{Machine}
use Rattle.operations.specs.Table.{Parsed, operation, faulty, no_bytes, operation_at}
use Rattle.refusal.specs.declared.Refusal.{Refusal}

pub data Stream (Op : Type 0) : Type 0 where
  out : Stream Op  -- no bytes are left
  bad : Refusal → (position : ℕ) → Stream Op  -- what stands at this position is refused
  one : (position : ℕ) → Op → (next : ℕ) → Stream Op → Stream Op  -- an operation, the place behind it, and those from there on

module _ {Op Reg Item : Type 0} (M : Machine Op Reg Item) where
  unfoldable pub before : (position : ℕ) → (ℕ → Stream Op) → Parsed Op → Stream Op
  before position from (operation op next) = one position op next (from next)
  before position from (faulty e) = bad e position
  before position from no_bytes = out

  -- so many operations at most
  unfoldable pub stream_in : ℕ → List ℕ → (at : ℕ) → Stream Op
  stream_in zero s at = out
  stream_in (suc most) s at = before at (stream_in most s) (operation_at M.table s at)

  -- there are no more operations than bytes (so none is cut off: `stream_by`, proofs/Streams.antt)
  unfoldable pub stream_at : List ℕ → (at : ℕ) → Stream Op
  stream_at s at = stream_in (length s) s at
