-- A state whose fields are such as their types have comes back from its bytes whole. Assumes nothing.
use Prim.Native.Nat.{ℕ, zero, suc, ◌+◌, ◌*◌, ◌≤◌, ◌<◌}
use mathlib.Core.Path.{◌≡◌, refl, sym, ap, ◌∙◌}
use mathlib.Core.Bool.{Bool, true, false}
use mathlib.Core.List.{List, ◌++◌}
use native.Mathlib.Omega.{arith}
use borrow.Author.Tests.{le-leb, eq-eqb}
use mir.Syntax.{w8}
use mir.Val.{Fits}
use lib.ListN.{length, take, drop, get_or, length-append, length-drop, get_or-append}
use lib.Seq.{take-append-le, drop-append-le, drop_at, get_or-append-add}
use Rattle.numbers.specs.Digits.{from_digits}
use Rattle.numbers.specs.LittleEndian.{little_endian, field_at}
use Rattle.numbers.specs.Then.{then}
use Rattle.packed_trie.proofs.Steps.{by_state}
use Rattle.packed_trie.specs.Packed.{most, places, offsets, lengths, left, state_long, state_words, state_bytes, state_at, holds, item_long, step_told, stepped}
use Rattle.packing.proofs.Back.{word_back, flag_back}
use Rattle.packing.proofs.Whole.{Bytes, append-each, bytes_written, words_back}
use Rattle.packing.proofs.Words.{length-bytes}
use Rattle.packing.specs.Fields.{u64, is_set, bit}
use Rattle.packing.specs.Words.{words_from, word_at, bytes_of}
use Rattle.trie.proofs.Typed.{Typed}
use Rattle.trie.specs.Call.{seen, call}
use Rattle.trie.specs.declared.TrieWalk.{TrieWalk}

-- what stands behind a word does not matter
word_front : (s t : List ℕ) (i : ℕ) → 8 * i + 8 ≤ length s → word_at (s ++ t) i ≡ word_at s i
unfolding word_at field_at then little_endian
word_front s t i h =
    let part : take 8 (drop (8 * i) (s ++ t)) ≡ take 8 (drop (8 * i) s) =
    ap (take 8) (drop-append-le (8 * i) s t (omega arith)) ∙ take-append-le 8 (drop (8 * i) s) t (omega (arith, length-drop (8 * i) s)) in
    rw (le-leb (8 * i + 8) (length (s ++ t)) (omega (arith, length-append s t)), le-leb (8 * i + 8) (length s) h)
    (ap (from_digits 256) part)

flag_most : (b : Bool) → bit b ≤ 1
flag_most true = omega arith
flag_most false = omega arith

module _ (w : TrieWalk) (t : Typed w) where
  words_most : (i : ℕ) → get_or (state_words w) i 0 ≤ u64
  words_most zero = t.depth
  words_most (suc zero) = omega (arith, flag_most w.ended)
  words_most (suc (suc i)) =
      append-each (λ v. v ≤ u64) (w.places ++ w.offsets) w.lengths (append-each (λ v. v ≤ u64) w.places w.offsets t.places.each t.offsets.each) t.lengths.each i

  long : length (bytes_of (state_words w)) ≡ left
  long =
      let n₁ = length-append w.places w.offsets in
      let n₂ = length-append (w.places ++ w.offsets) w.lengths in
      omega (arith, length-bytes (state_words w), t.places.long, t.offsets.long, t.lengths.long)

  back : (i : ℕ) → i < lengths + most → word_at (state_bytes w) i ≡ get_or (state_words w) i 0
  unfolding state_bytes
  back i h =
      let n = length-bytes (state_words w) in
      word_front (bytes_of (state_words w)) w.left i (omega (arith, long))
      ∙ word_back (state_words w) i (omega (arith, long)) (words_most i)

  flag : (i : ℕ) (b : Bool) → i < lengths + most → get_or (state_words w) i 0 ≡ bit b → is_set (word_at (state_bytes w) i) ≡ b
  flag i b h q = ap is_set (back i h ∙ q) ∙ flag_back b

  list : (l : List ℕ) (first : ℕ) → length l ≡ most → first + most ≤ lengths + most → ((i : ℕ) → i < most → get_or (state_words w) (first + i) 0 ≡ get_or l i 0) → words_from (state_bytes w) first most ≡ l
  list l first n h q =
      ap (words_from (state_bytes w) first) (sym n)
      ∙ words_back (state_bytes w) l first (λ i k. back (first + i) (omega arith) ∙ q i (omega arith))

  module _ (i : ℕ) (h : i < most) where
    in_places : get_or (state_words w) (places + i) 0 ≡ get_or w.places i 0
    in_places =
        let e : places + i ≡ suc (suc i) = omega arith in
        ap (λ (n : ℕ). get_or (state_words w) n 0) e
        ∙ get_or-append (w.places ++ w.offsets) w.lengths 0 i (omega (arith, length-append w.places w.offsets, t.places.long))
        ∙ get_or-append w.places w.offsets 0 i (omega (arith, t.places.long))

    in_offsets : get_or (state_words w) (offsets + i) 0 ≡ get_or w.offsets i 0
    in_offsets =
        let e : offsets + i ≡ suc (suc (length w.places + i)) = omega (arith, t.places.long) in
        ap (λ (n : ℕ). get_or (state_words w) n 0) e
        ∙ get_or-append (w.places ++ w.offsets) w.lengths 0 (length w.places + i) (omega (arith, length-append w.places w.offsets, t.offsets.long))
        ∙ get_or-append-add w.places w.offsets i 0

    in_lengths : get_or (state_words w) (lengths + i) 0 ≡ get_or w.lengths i 0
    in_lengths =
        let e : lengths + i ≡ suc (suc (length (w.places ++ w.offsets) + i)) = omega (arith, length-append w.places w.offsets, t.places.long, t.offsets.long) in
        ap (λ (n : ℕ). get_or (state_words w) n 0) e ∙ get_or-append-add (w.places ++ w.offsets) w.lengths i 0

  bytes : drop left (state_bytes w) ≡ w.left
  unfolding state_bytes
  bytes = drop_at (bytes_of (state_words w)) w.left left long

  pub whole : state_at (state_bytes w) ≡ w
  whole =
      λ j.
      record {
        depth = back 0 (omega arith) j;
        ended = flag 1 w.ended (omega arith) refl j;
        places = list w.places places t.places.long (omega arith) in_places j;
        offsets = list w.offsets offsets t.offsets.long (omega arith) in_offsets j;
        lengths = list w.lengths lengths t.lengths.long (omega arith) in_lengths j;
        left = bytes j;
      }

  holds_back : holds (state_bytes w) ≡ true
  unfolding holds state_bytes
  holds_back =
      let n : length (state_bytes w) ≡ state_long = omega (arith, length-append (bytes_of (state_words w)) w.left, long, t.left.long) in
      let e : word_at (state_bytes w) 1 ≤ 1 = omega (arith, back 1 (omega arith), flag_most w.ended) in
      rw (eq-eqb (length (state_bytes w)) state_long n, le-leb (word_at (state_bytes w) 1) 1 e)

  pub state_bytes_lem : Bytes (state_bytes w)
  unfolding state_bytes
  state_bytes_lem = append-each (Fits w8) (bytes_of (state_words w)) w.left (bytes_written (state_words w)) (λ i. record { fits = omega (arith, t.left.each i) })

  -- so a call on the bytes of a state is a call on the state
  pub carried : (s : List ℕ) (limit : ℕ) (name item : List ℕ) → length item ≡ item_long →
      stepped s limit (state_bytes w) name item ≡ step_told (seen (call most s limit w name))
  carried s limit name item l =
      by_state s limit (state_bytes w) name item l holds_back ∙ ap (λ (v : TrieWalk). step_told (seen (call most s limit v name))) whole
