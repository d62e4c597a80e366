-- A word read, and words written one behind the other. Assumes nothing.
use Prim.Native.Nat.{ℕ, zero, suc, ◌+◌, ◌*◌, ◌/◌, ◌%◌, ◌^◌, ◌≤◌, ◌<◌}
use mathlib.Core.Path.{◌≡◌, refl, sym, ap, ◌∙◌}
use mathlib.Core.List.{List, [], ◌∷◌, ◌++◌, append_assoc, append-nil}
use native.Mathlib.Numerals.{add-one}
use native.Mathlib.Omega.{arith}
use borrow.Author.Tests.{eq-eqb, ne_eqb}
use lib.ListN.{length, take, drop, get_or, length-append, drop_of_length-le}
use lib.Seq.{take-suc, length-take-le, take_all, take_at, drop_at, drop-drop}
use Rattle.std.specs.Int.{byte_at, bytes_low_first, to_le_bytes, w64}
use Rattle.std.proofs.Math.Nat.{div-div-eq-div-mul}
use borrow.Rule.Slice.PartMut.{put_mid}
use Rattle.numbers.proofs.Rows.{field_out}
use Rattle.numbers.specs.Then.{then}
use Rattle.packing.specs.Words.{word_at, words_from, to_digits, word_bytes, bytes_of, written}

-- ---- a word read

pub word_out : (s : List ℕ) (i : ℕ) → length s / 8 ≤ i → 0 ≡ word_at s i
unfolding word_at then
word_out s i h = rw (field_out 8 s (8 * i) (omega arith))

-- ---- words read

pub length-words : (s : List ℕ) (i n : ℕ) → length (words_from s i n) ≡ n
unfolding words_from
length-words s i zero = refl
length-words s i (suc n) = ap suc (length-words s (i + 1) n)

pub take_words : (s : List ℕ) (i n m : ℕ) → n ≤ m → take n (words_from s i m) ≡ words_from s i n
unfolding words_from
take_words s i zero m h = refl
take_words s i (suc n) zero h = absurd (omega arith)
take_words s i (suc n) (suc m) h = ap (λ (l : List ℕ). word_at s i ∷ l) (take_words s (i + 1) n m (omega arith))

-- ---- words written

-- the machine's bytes of a word
low_digits : (i k n : ℕ) → bytes_low_first i k n ≡ to_digits 256 k (n / 256 ^ i)
unfolding to_digits
low_digits i zero n = refl
low_digits i (suc k) n =
    let next : 256 ^ i * 256 ≡ 256 ^ suc i = omega arith in
    let here : byte_at i n ≡ n / 256 ^ i % 256 = by i in
    (λ j. here j ∷ (low_digits (suc i) k n ∙ ap (to_digits 256 k) (ap (λ (m : ℕ). n / m) (sym next) ∙ sym (div-div-eq-div-mul n (256 ^ i) 256))) j)
  where
    by : (i : ℕ) → byte_at i n ≡ n / 256 ^ i % 256
    by zero = omega arith
    by (suc i) = refl

pub machine_bytes : (v : ℕ) → to_le_bytes w64 v ≡ word_bytes v
machine_bytes v = low_digits 0 8 v ∙ ap (to_digits 256 8) (omega arith)

pub length_word : (v : ℕ) → length (word_bytes v) ≡ 8
unfolding to_digits
length_word v = refl

pub length-bytes : (vs : List ℕ) → length (bytes_of vs) ≡ 8 * length vs
unfolding bytes_of
length-bytes [] = refl
length-bytes (v ∷ vs) = omega (arith, length-append (word_bytes v) (bytes_of vs), length_word v, length-bytes vs)

bytes_snoc : (vs : List ℕ) (w : ℕ) → bytes_of (vs ++ (w ∷ [])) ≡ bytes_of vs ++ word_bytes w
unfolding bytes_of
bytes_snoc [] w = append-nil (word_bytes w)
bytes_snoc (v ∷ vs) w = ap (λ (l : List ℕ). word_bytes v ++ l) (bytes_snoc vs w) ∙ sym (append_assoc (word_bytes v) (bytes_of vs) (word_bytes w))

-- the first i words stand in the bytes, which are as long as all of them, and behind these what stood there
pub record Writing (vs s₀ s : List ℕ) (i : ℕ) : Type 0 where
  pub long : length s₀ ≡ 8 * length vs
  pub is : s ≡ bytes_of (take i vs) ++ drop (8 * i) s₀

module _ {vs s₀ s : List ℕ} {i : ℕ} (w : Writing vs s₀ s i) where
  -- the next one's bytes are written over those behind the first
  pub writes_on : (k : ℕ) (d : List ℕ) → i < length vs → k ≡ 8 → d ≡ to_le_bytes w64 (get_or vs i 0) → Writing vs s₀ (put_mid (8 * i) k s d) (i + 1)
  writes_on k d h e f =
      let v : List ℕ = word_bytes (get_or vs i 0) in
      let p : List ℕ = bytes_of (take i vs) in
      let q : List ℕ = drop (8 * i) s₀ in
      let front : length p ≡ 8 * i =
      length-bytes (take i vs) ∙ ap (λ (n : ℕ). 8 * n) (length-take-le i vs (omega arith)) in
      let behind : 8 * i + 8 ≡ 8 * (i + 1) = omega arith in
      let rest : drop 8 (drop (8 * i) s) ≡ drop (8 * (i + 1)) s₀ =
      ap (drop 8) (ap (drop (8 * i)) w.is ∙ drop_at p q (8 * i) front)
      ∙ drop-drop 8 (8 * i) s₀
      ∙ ap (λ (n : ℕ). drop n s₀) behind in
      let before : take (8 * i) s ≡ p = ap (take (8 * i)) w.is ∙ take_at p q (8 * i) front in
      let words : p ++ v ≡ bytes_of (take (i + 1) vs) =
      sym (bytes_snoc (take i vs) (get_or vs i 0))
      ∙ ap bytes_of (sym (take-suc vs i 0 h) ∙ ap (λ (n : ℕ). take n vs) (sym (add-one i))) in
      let is : put_mid (8 * i) k s d ≡ bytes_of (take (i + 1) vs) ++ drop (8 * (i + 1)) s₀ =
      ap (λ (m : ℕ). put_mid (8 * i) m s d) e
      ∙ ap (λ (c : List ℕ). put_mid (8 * i) 8 s c) (f ∙ machine_bytes (get_or vs i 0))
      ∙ (λ j. before j ++ (v ++ rest j))
      ∙ sym (append_assoc p v (drop (8 * (i + 1)) s₀))
      ∙ ap (λ (l : List ℕ). l ++ drop (8 * (i + 1)) s₀) words in
      record { long = w.long; is = is }

  pub writes_all : length vs ≤ i → s ≡ written vs s₀
  unfolding written
  writes_all h =
      rw (eq-eqb (length s₀) (8 * length vs) w.long)
      (w.is
      ∙ (λ j. bytes_of (take_all i vs h j) ++ drop_of_length-le s₀ {i = 8 * i} (omega (arith, w.long)) j)
      ∙ append-nil (bytes_of vs))

pub writes_nothing : (vs s : List ℕ) → (length s ≡ 8 * length vs → ⊥) → s ≡ written vs s
unfolding written
writes_nothing vs s h = rw (ne_eqb (length s) (8 * length vs) h)
