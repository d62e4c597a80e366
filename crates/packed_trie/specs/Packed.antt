-- Trie walks at the boundary: a state in bytes, an answer in words, and what a step answers and writes.
use Rattle.std.specs.Prelude.{ℕ, ◌+◌, ◌*◌, Bool, cond, ◌&&◌, List, [], ◌∷◌, ◌++◌, eqb, leb, length, drop}
use Rattle.nodes.specs.Exported.{Target, regular, reexport, stub_and_resolver, Exported}
use Rattle.packing.specs.Boundary.{States, item_told, end_told, more_told, unfit}
use Rattle.packing.specs.Fields.{flag, is_set, bit}
use Rattle.packing.specs.Words.{word_at, words_from, bytes_of}
use Rattle.trie.specs.Call.{Answer, export, more, end, refused, Reply, seen, call}
use Rattle.trie.specs.declared.TrieWalk.{TrieWalk}

-- ---- states: words, and behind them a byte for each node

-- so many nodes may be open
abbrev pub most : ℕ
most = 256

-- the words are depth, ended, and for each node its place, its offset and the length of its name; of these three the first word
abbrev pub places : ℕ
places = 2

abbrev pub offsets : ℕ
offsets = places + most

abbrev pub lengths : ℕ
lengths = offsets + most

-- the bytes are the children left, and where the first of them is
abbrev pub left : ℕ
left = 8 * (lengths + most)

abbrev pub state_long : ℕ
state_long = left + most

abbrev pub state_words : TrieWalk → List ℕ
state_words w = w.depth ∷ bit w.ended ∷ w.places ++ w.offsets ++ w.lengths

unfoldable pub state_bytes : TrieWalk → List ℕ
state_bytes w = bytes_of (state_words w) ++ w.left

abbrev pub state_at : List ℕ → TrieWalk
state_at s =
    record {
      depth = word_at s 0;
      ended = is_set (word_at s 1);
      places = words_from s places most;
      offsets = words_from s offsets most;
      lengths = words_from s lengths most;
      left = drop left s;
    }

-- bytes are those of a state where they are so many, and the flag is 0 or 1
unfoldable pub holds : List ℕ → Bool
holds s = eqb (length s) state_long && leb (word_at s 1) flag

abbrev pub states : States TrieWalk
states =
    record {
      long = state_long;
      bytes = state_bytes;
      holds = holds;
      value = state_at;
    }

-- ---- items: visits, and of an export the length of its name, flags, kind, address or stub, resolver, ordinal, place, size

abbrev pub item_long : ℕ
item_long = 8 * 9

abbrev pub target_words : Target → List ℕ
target_words (regular address) = 0 ∷ address ∷ 0 ∷ 0 ∷ 0 ∷ 0 ∷ []
target_words (reexport ordinal place size) = 1 ∷ 0 ∷ 0 ∷ ordinal ∷ place ∷ size ∷ []
target_words (stub_and_resolver stub resolver) = 2 ∷ stub ∷ resolver ∷ 0 ∷ 0 ∷ 0 ∷ []

abbrev pub export_words : (len : ℕ) → Exported → List ℕ
export_words len x = len ∷ x.flags ∷ target_words x.target

abbrev pub no_export : List ℕ
no_export = 0 ∷ 0 ∷ 0 ∷ 0 ∷ 0 ∷ 0 ∷ 0 ∷ 0 ∷ []

abbrev pub item_words : (visits : ℕ) → Answer → List ℕ
item_words visits (export len x) = visits ∷ export_words len x
item_words visits more = visits ∷ no_export
item_words visits end = visits ∷ no_export
item_words visits (refused n) = visits ∷ no_export

-- ---- a step

abbrev pub answer_told : Answer → ℕ
answer_told (export len x) = item_told
answer_told more = more_told
answer_told end = end_told
answer_told (refused n) = n

-- the answer, the state, the name buffer and the item
abbrev pub step_told : Reply × List ℕ → ℕ × List ℕ × List ℕ × List ℕ
step_told p =
    (answer_told p.0.answer, state_bytes p.0.walk, p.1, bytes_of (item_words p.0.visits p.0.answer))

unfoldable pub stepped : (s : List ℕ) (limit : ℕ) (state name item : List ℕ) → ℕ × List ℕ × List ℕ × List ℕ
stepped s limit state name item =
    cond (eqb (length item) item_long && holds state) (step_told (seen (call most s limit (state_at state) name))) (unfit, state, name, item)
