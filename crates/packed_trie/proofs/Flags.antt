-- The bytes of a state, tested. Assumes nothing.
use Prim.Native.Nat.{ℕ, ◌≤◌}
use mathlib.Core.Path.{◌≡◌}
use mathlib.Core.Bool.{true, and-eq-true_iff}
use mathlib.Core.List.{List}
use borrow.Author.Tests.{leb-true, eqb-true}
use lib.Dec.{eqb, leb}
use lib.ListN.{length}
use Rattle.packing.specs.Words.{word_at}
use Rattle.packed_trie.specs.Packed.{state_long, holds}

module _ (s : List ℕ) where
  module _ (e : holds s ≡ true) where
    parts : eqb (length s) state_long ≡ true × leb (word_at s 1) 1 ≡ true
    unfolding holds
    parts = (and-eq-true_iff (eqb (length s) state_long) (leb (word_at s 1) 1)).0 e

    pub holds_long : length s ≡ state_long
    holds_long = eqb-true (length s) state_long parts.0

    pub holds_flag : word_at s 1 ≤ 1
    holds_flag = leb-true (word_at s 1) 1 parts.1
