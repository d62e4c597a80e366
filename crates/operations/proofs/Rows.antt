-- Where no bytes are left, there is no operation. Assumes nothing.
use Prim.Native.Nat.{ℕ, ◌≤◌}
use mathlib.Core.Path.{◌≡◌}
use mathlib.Core.List.{List}
use borrow.Author.Tests.{le-ltb}
use lib.ListN.{length}
use Rattle.operations.specs.Table.{Row, no_bytes, operation_at}

module _ {Op : Type 0} (table : ℕ → List (Row Op)) (s : List ℕ) (at : ℕ) where
  pub no_byte : length s ≤ at → no_bytes ≡ operation_at table s at
  unfolding operation_at
  no_byte h = rw (le-ltb at (length s) h)
