-- Words read one by one into an array: what a loop has read, and how it goes on. Assumes nothing.
use Prim.Native.Nat.{ℕ, ◌+◌, ◌≤◌, ◌<◌}
use mathlib.Core.Path.{◌≡◌, refl, sym, ap, ◌∙◌}
use mathlib.Core.List.{List}
use native.Mathlib.Numerals.{add-one}
use native.Mathlib.Omega.{arith}
use lib.ListN.{length, take, set, length-set}
use lib.Seq.{take-suc-set, take_all}
use Rattle.packing.proofs.Whole.{words_add}
use Rattle.packing.specs.Words.{words_from, word_at}

-- of so many words, from an index on, the first i are in the array, which has room for just them all
pub record Reading (s : List ℕ) (first count : ℕ) (words : List ℕ) (i : ℕ) : Type 0 where
  pub long : length words ≡ count
  pub upto : i ≤ count
  pub read : take i words ≡ words_from s first i

pub reads_none : (s : List ℕ) (first count : ℕ) (words : List ℕ) → length words ≡ count → Reading s first count words 0
unfolding words_from
reads_none s first count words l = record { long = l; upto = omega arith; read = refl }

module _ {s : List ℕ} {first count : ℕ} {words : List ℕ} {i : ℕ} (r : Reading s first count words i) where
  pub reads_on : {j v : ℕ} → j ≡ first + i → v ≡ word_at s j → i < count → Reading s first count (set words i v) (i + 1)
  unfolding words_from
  reads_on {j} {v} q e h =
      let k : i < length words = omega (arith, r.long) in
      record {
        long = length-set words i v ∙ r.long;
        upto = omega arith;
        read = rw (words_add s first i 1, add-one, take-suc-set words i v, r.read, e, q);
      }

  pub reads_whole : count ≤ i → words ≡ words_from s first count
  reads_whole h =
      let z : i ≡ count = omega (arith, r.upto) in
      sym (take_all i words (omega (arith, r.long))) ∙ r.read ∙ ap (words_from s first) z
