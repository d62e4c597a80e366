-- Laws of a part of a slice. Assumes nothing.
use Prim.Native.Nat.{ℕ, ◌+◌, ◌-◌, ◌≤◌, ◌<◌}
use mathlib.Core.Path.{◌≡◌}
use mathlib.Core.List.{List, []}
use native.Mathlib.Omega.{arith}
use native.Mathlib.Nat.{add_comm, add-sub_cancel_left}
use borrow.Author.Tests.{le-leb, lt-leb}
use lib.ListN.{length, take, drop}
use Rattle.numbers.specs.Parts.{part_of, lies_at, part_at}

module _ (p : ℕ × ℕ) (s : List ℕ) (at len : ℕ) where
  pub lies_out : length s < at + len → (p, []) ≡ part_at p s at len
  unfolding lies_at part_of
  lies_out h = rw (lt-leb (at + len) (length s) h)

  pub lies_in : at ≤ length s → len ≤ length s - at → ((p.0, at + p.1), take (at + len - at) (drop at s)) ≡ part_at p s at len
  unfolding lies_at part_of
  lies_in h l =
      rw (le-leb (at + len) (length s) (omega arith), add_comm at p.1, add-sub_cancel_left at len)
