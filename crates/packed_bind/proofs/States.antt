-- Bytes that are those of a state: for `search`. Assumes nothing.
use Prim.Native.Nat.{ℕ}
use mathlib.Core.Path.{◌≡◌, ap, ◌∙◌}
use mathlib.Core.Bool.{true, and-eq-true_iff}
use mathlib.Core.List.{List}
use Rattle.packed_bind.specs.Packed.{largest, is_i32, is_state}
use Rattle.packing.specs.Fields.{is_record}
use Rattle.packing.specs.Words.{word_at}

pub state_is : (s : List ℕ) → is_record s largest ≡ true → is_i32 (word_at s 13) ≡ true → is_state s ≡ true
state_is s e f = (and-eq-true_iff (is_record s largest) (is_i32 (word_at s 13))).1 (e, f)

module _ (s : List ℕ) (e : is_state s ≡ true) where
  both : is_record s largest ≡ true × is_i32 (word_at s 13) ≡ true
  both = (and-eq-true_iff (is_record s largest) (is_i32 (word_at s 13))).0 e

  pub state_record : is_record s largest ≡ true
  state_record = both.0

  pub library_is : {w : ℕ} → w ≡ word_at s 13 → is_i32 w ≡ true
  library_is f = ap is_i32 f ∙ both.1
