-- Bytes that are read as words, and written again, are as they were; and words that are read are below 2^64. Assumes nothing.
use Prim.Native.Nat.{ℕ, zero, suc, ◌+◌, ◌*◌, ◌/◌, ◌%◌, ◌^◌, ◌≤◌, ◌<◌}
use mathlib.Core.Path.{◌≡◌, refl, sym, ap, ◌∙◌}
use mathlib.Core.Bool.{Bool, true, false, cond}
use mathlib.Core.List.{List, [], ◌∷◌, ◌++◌}
use native.Mathlib.Omega.{arith}
use native.Mathlib.Decide.{dec_lt}
use borrow.Author.Tests.{le-leb}
use lib.Dec.{leb}
use lib.ListN.{length, take, drop, get_or, length-drop}
use lib.Seq.{take-add, take_all, drop-drop}
use mir.Syntax.{w8}
use mir.Val.{Fits}
pub use Rattle.numbers.proofs.little_endian.Fields.{Bytes}
use Rattle.numbers.proofs.little_endian.Fields.{field_below}
use Rattle.numbers.specs.Digits.{from_digits}
use Rattle.numbers.specs.LittleEndian.{little_endian, field_at}
use Rattle.numbers.specs.Then.{then}
use Rattle.std.specs.Prelude.{Some, None}
use Rattle.packing.proofs.Signs.{positive, negative}
use Rattle.packing.specs.Fields.{u64, is_set, bit, signed_of, unsigned_of}
use Rattle.packing.specs.Words.{word_at, words_from, to_digits, word_bytes, bytes_of}

pub bytes_drop : (k : ℕ) (s : List ℕ) → Bytes s → Bytes (drop k s)
bytes_drop zero s h = h
bytes_drop (suc k) [] h = h
bytes_drop (suc k) (d ∷ s) h = bytes_drop k s (λ i. h (suc i))

-- what holds of each of two lists holds of each of both
pub append-each : (P : ℕ → Type 0) (xs ys : List ℕ) → ((i : ℕ) → P (get_or xs i 0)) → ((i : ℕ) → P (get_or ys i 0)) → (i : ℕ) → P (get_or (xs ++ ys) i 0)
append-each P [] ys f g i = g i
append-each P (x ∷ xs) ys f g zero = f 0
append-each P (x ∷ xs) ys f g (suc i) = append-each P xs ys (λ j. f (suc j)) g i

-- what is written are bytes
digits_bytes : (n v : ℕ) → Bytes (to_digits 256 n v)
unfolding to_digits
digits_bytes zero v i = record { fits = omega arith }
digits_bytes (suc n) v zero = record { fits = omega arith }
digits_bytes (suc n) v (suc i) = digits_bytes n (v / 256) i

pub bytes_written : (vs : List ℕ) → Bytes (bytes_of vs)
unfolding bytes_of
bytes_written [] = λ i. record { fits = omega arith }
bytes_written (v ∷ vs) = append-each (Fits w8) (word_bytes v) (bytes_of vs) (digits_bytes 8 v) (bytes_written vs)

-- ---- a word

digits_whole : (n : ℕ) (s : List ℕ) → Bytes s → n ≤ length s → to_digits 256 n (from_digits 256 (take n s)) ≡ take n s
unfolding to_digits from_digits
digits_whole zero s h l = refl
digits_whole (suc n) [] h l = absurd (omega arith)
digits_whole (suc n) (d ∷ s) h l =
    let v : ℕ = from_digits 256 (take n s) in
    let low : (d + 256 * v) % 256 ≡ d = omega (arith, (h 0).fits) in
    let high : (d + 256 * v) / 256 ≡ v = omega (arith, (h 0).fits) in
    λ j. low j ∷ (ap (to_digits 256 n) high ∙ digits_whole n s (λ i. h (suc i)) (omega arith)) j

pub word_whole : (s : List ℕ) → Bytes s → (i : ℕ) → 8 * i + 8 ≤ length s → word_bytes (word_at s i) ≡ take 8 (drop (8 * i) s)
unfolding word_at field_at then little_endian
word_whole s h i l =
    rw (le-leb (8 * i + 8) (length s) l)
    (digits_whole 8 (drop (8 * i) s) (bytes_drop (8 * i) s h) (omega (arith, length-drop (8 * i) s)))

pub word_below : (s : List ℕ) → Bytes s → (i : ℕ) → word_at s i ≤ u64
unfolding word_at field_at then
word_below s h i = by (leb (8 * i + 8) (length s))
  where
    by : (t : Bool) → then (cond t (Some (little_endian 8 s (8 * i), 8 * i + 8)) None) 0 (λ v next. v) ≤ u64
    by true = omega (arith, field_below s 8 (8 * i) h)
    by false = omega arith

-- ---- words

-- so many, from an index on
pub words_from_lem : (s : List ℕ) → Bytes s → (i n : ℕ) → 8 * (i + n) ≤ length s → bytes_of (words_from s i n) ≡ take (8 * n) (drop (8 * i) s)
unfolding bytes_of words_from
words_from_lem s h i zero l = refl
words_from_lem s h i (suc n) l =
    let next : 8 * i + 8 ≡ 8 * (i + 1) = omega arith in
    let more : 8 + 8 * n ≡ 8 * suc n = omega arith in
    (λ j. word_whole s h i (omega arith) j ++ words_from_lem s h (i + 1) n (omega arith) j)
    ∙ sym
    (ap (λ (k : ℕ). take k (drop (8 * i) s)) (sym more)
    ∙ take-add 8 (8 * n) (drop (8 * i) s)
    ∙ ap (λ (t : List ℕ). take 8 (drop (8 * i) s) ++ take (8 * n) t) (drop-drop 8 (8 * i) s ∙ ap (λ (k : ℕ). drop k s) next))

-- so many in front
pub words_front : (s : List ℕ) → Bytes s → (n : ℕ) → 8 * n ≤ length s → bytes_of (words_from s 0 n) ≡ take (8 * n) s
words_front s h n l = words_from_lem s h 0 n (omega arith)

-- all
pub words_whole : (s : List ℕ) → Bytes s → (n : ℕ) → length s ≡ 8 * n → bytes_of (words_from s 0 n) ≡ s
words_whole s h n l = words_front s h n (omega arith) ∙ take_all (8 * n) s (omega arith)

-- words one part behind the other
pub words_add : (s : List ℕ) (i m n : ℕ) → words_from s i (m + n) ≡ words_from s i m ++ words_from s (i + m) n
unfolding words_from
words_add s i zero n =
    let e : 0 + n ≡ n = omega arith in
    let f : i + 0 ≡ i = omega arith in
    rw (e, f)
words_add s i (suc m) n =
    let e : suc m + n ≡ suc (m + n) = omega arith in
    let f : i + 1 + m ≡ i + suc m = omega arith in
    ap (words_from s i) e
    ∙ ap (λ (l : List ℕ). word_at s i ∷ l) (words_add s (i + 1) m n ∙ ap (λ (k : ℕ). words_from s (i + 1) m ++ words_from s k n) f)

pub words_below : (s : List ℕ) → Bytes s → (i n j : ℕ) → get_or (words_from s i n) j 0 ≤ u64
unfolding words_from
words_below s h i zero j = omega arith
words_below s h i (suc n) zero = word_below s h i
words_below s h i (suc n) (suc j) = words_below s h (i + 1) n j

-- words by what stands at each index
pub words_back : (s l : List ℕ) (first : ℕ) → ((i : ℕ) → i < length l → word_at s (first + i) ≡ get_or l i 0) → words_from s first (length l) ≡ l
unfolding words_from
words_back s [] first h = refl
words_back s (x ∷ l) first h =
    let z : first ≡ first + 0 = omega arith in
    let next : (i : ℕ) → i < length l → word_at s (first + 1 + i) ≡ get_or l i 0 =
    λ i k. let e : first + 1 + i ≡ first + suc i = omega arith in ap (word_at s) e ∙ h (suc i) (omega arith) in
    (λ j. (ap (word_at s) z ∙ h 0 (omega arith)) j ∷ words_back s l (first + 1) next j)

-- ---- fields

pub flag_whole : (v : ℕ) → v ≤ 1 → bit (is_set v) ≡ v
flag_whole zero h = refl
flag_whole (suc zero) h = refl
flag_whole (suc (suc v)) h = absurd (omega arith)

pub signed_whole : (v : ℕ) → v < 2 ^ 64 → unsigned_of (signed_of v) ≡ v
signed_whole v h =
    elim (dec_lt v (2 ^ 63)) [
      | yes l ↦ ap unsigned_of (positive v l)
      | no l ↦ ap unsigned_of (negative v (omega arith) h) ∙ omega arith
    ]
