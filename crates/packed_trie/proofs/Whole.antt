-- Bytes that are those of a state are the bytes of the state that is read from them, whose fields are such as their types have. Assumes
-- nothing.
use Prim.Native.Nat.{ℕ, ◌+◌, ◌*◌}
use mathlib.Core.Path.{◌≡◌, refl, sym, ap, ◌∙◌}
use mathlib.Core.Bool.{true}
use mathlib.Core.List.{List, [], ◌∷◌, ◌++◌}
use native.Mathlib.Omega.{arith}
use lib.ListN.{drop, take-append-drop, length-drop}
use Rattle.packed_trie.proofs.Flags.{holds_long, holds_flag}
use Rattle.packed_trie.specs.Packed.{most, places, offsets, lengths, left, state_words, state_bytes, state_at, holds}
use Rattle.packing.proofs.Whole.{Bytes, bytes_drop, word_below, words_front, words_add, words_below, flag_whole}
use Rattle.packing.proofs.Words.{length-words}
use Rattle.packing.specs.Words.{word_at, words_from, bytes_of}
use Rattle.trie.proofs.Typed.{Typed}

module _ (s : List ℕ) where
  -- the words are read in three arrays, behind two by themselves
  first : words_from s 0 places ≡ word_at s 0 ∷ word_at s 1 ∷ []
  unfolding words_from
  first = refl

  arrays : words_from s places (3 * most) ≡ words_from s places most ++ words_from s offsets most ++ words_from s lengths most
  arrays = words_add s places (2 * most) most ∙ ap (λ (l : List ℕ). l ++ words_from s lengths most) (words_add s places most most)

  module _ (h : Bytes s) (e : holds s ≡ true) where
    words : state_words (state_at s) ≡ words_from s 0 (lengths + most)
    words =
        (λ j. word_at s 0 ∷ flag_whole (word_at s 1) (holds_flag s e) j ∷ (words_from s places most ++ words_from s offsets most ++ words_from s lengths most))
        ∙ sym (words_add s 0 places (3 * most) ∙ (λ j. first j ++ arrays j))

    pub bytes_back : state_bytes (state_at s) ≡ s
    unfolding state_bytes
    bytes_back =
        ap (λ (l : List ℕ). bytes_of l ++ drop left s) words
        ∙ ap (λ (l : List ℕ). l ++ drop left s) (words_front s h (lengths + most) (omega (arith, holds_long s e)))
        ∙ take-append-drop left s

    pub typed_at : Typed (state_at s)
    typed_at =
        record {
          places = record { long = length-words s places most; each = words_below s h places most };
          offsets = record { long = length-words s offsets most; each = words_below s h offsets most };
          left = record { long = omega (arith, length-drop left s, holds_long s e); each = λ i. omega (arith, bytes_drop left s h i) };
          lengths = record { long = length-words s lengths most; each = words_below s h lengths most };
          depth = word_below s h 0;
        }
