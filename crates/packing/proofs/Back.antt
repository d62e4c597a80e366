-- Words that were written are read as they were. Assumes nothing.
use Prim.Native.Nat.{ℕ, zero, suc, ◌+◌, ◌*◌, ◌/◌, ◌^◌, ◌≤◌, ◌<◌}
use mathlib.Core.Path.{◌≡◌, refl, sym, ap, ◌∙◌, subst}
use mathlib.Core.Bool.{Bool, true, false}
use mathlib.Core.List.{List, [], ◌∷◌, ◌++◌}
use native.Mathlib.Omega.{arith}
use borrow.Author.Tests.{le-leb, eq-eqb}
use lib.ListN.{length, take, drop, get_or, length-append}
use lib.Seq.{append_snoc, get_or-append_seam, drop-drop, drop_at, drop-nil, take_at, drop-cons}
use Rattle.numbers.specs.Digits.{from_digits}
use Rattle.numbers.specs.LittleEndian.{little_endian, field_at}
use Rattle.numbers.specs.Then.{then}
use Rattle.packing.proofs.Words.{length_word, length-bytes}
use Rattle.packing.specs.Fields.{flag, u8, u16, u64, within_from, is_record, is_set, bit}
use Rattle.packing.specs.Words.{word_at, to_digits, word_bytes, bytes_of}

digits_back : (n v : ℕ) → v < 256 ^ n → from_digits 256 (to_digits 256 n v) ≡ v
unfolding from_digits to_digits
digits_back zero v h = omega arith
digits_back (suc n) v h =
    let less : v / 256 < 256 ^ n = omega arith in
    let e = digits_back n (v / 256) less in
    omega (arith, e)

drop-words : (i : ℕ) (vs : List ℕ) → drop (8 * i) (bytes_of vs) ≡ bytes_of (drop i vs)
unfolding bytes_of
drop-words zero vs = refl
drop-words (suc i) [] = drop-nil (8 * suc i) ∙ sym (ap bytes_of (drop-nil (suc i)))
drop-words (suc i) (v ∷ vs) =
    let z : 8 * suc i ≡ 8 + 8 * i = omega arith in
    ap (λ (k : ℕ). drop k (word_bytes v ++ bytes_of vs)) z
    ∙ sym (drop-drop (8 * i) 8 (word_bytes v ++ bytes_of vs))
    ∙ ap (drop (8 * i)) (drop_at (word_bytes v) (bytes_of vs) 8 (length_word v))
    ∙ drop-words i vs

-- the word of an index
pub word_back : (vs : List ℕ) (i : ℕ) → i < length vs → get_or vs i 0 ≤ u64 → word_at (bytes_of vs) i ≡ get_or vs i 0
unfolding word_at field_at then little_endian bytes_of
word_back vs i h m =
    let v = get_or vs i 0 in
    let inside : 8 * i + 8 ≤ length (bytes_of vs) = omega (arith, length-bytes vs) in
    let part : take 8 (drop (8 * i) (bytes_of vs)) ≡ word_bytes v =
    ap (take 8) (drop-words i vs ∙ ap bytes_of (drop-cons vs i 0 h))
    ∙ take_at (word_bytes v) (bytes_of (drop (suc i) vs)) 8 (length_word v) in
    rw (le-leb (8 * i + 8) (length (bytes_of vs)) inside) (ap (from_digits 256) part ∙ digits_back 8 v (omega arith))

-- ---- a record whose words are all such as their types have

pub data Each : (words largest : List ℕ) → Type 0 where
  none : Each [] []
  one : {v most : ℕ} {vs rest : List ℕ} → v ≤ most → v ≤ u64 → Each vs rest → Each (v ∷ vs) (most ∷ rest)

-- a field of each type
module _ {vs rest : List ℕ} (e : Each vs rest) where
  pub word_field : {v : ℕ} → v < 2 ^ 64 → Each (v ∷ vs) (u64 ∷ rest)
  word_field {v} h = one {v = v} {most = u64} (omega arith) (omega arith) e

  pub half_field : {v : ℕ} → v < 2 ^ 16 → Each (v ∷ vs) (u16 ∷ rest)
  half_field {v} h = one {v = v} {most = u16} (omega arith) (omega arith) e

  pub byte_field : {v : ℕ} → v < 2 ^ 8 → Each (v ∷ vs) (u8 ∷ rest)
  byte_field {v} h = one {v = v} {most = u8} (omega arith) (omega arith) e

  pub flag_field : (b : Bool) → Each (bit b ∷ vs) (flag ∷ rest)
  flag_field true = one {v = 1} {most = flag} (omega arith) (omega arith) e
  flag_field false = one {v = 0} {most = flag} (omega arith) (omega arith) e

pub each_at : {vs largest : List ℕ} → Each vs largest → (i : ℕ) → i < length vs → get_or vs i 0 ≤ u64
each_at none i h = absurd (omega arith)
each_at (one m w e) zero h = w
each_at (one m w e) (suc i) h = each_at e i (omega arith)

each_long : {vs largest : List ℕ} → Each vs largest → length vs ≡ length largest
each_long none = refl
each_long (one m w e) = ap suc (each_long e)

within_back : (before : List ℕ) {vs largest : List ℕ} → Each vs largest → within_from (bytes_of (before ++ vs)) (length before) largest ≡ true
unfolding within_from
within_back before none = refl
within_back before (one {v} {most} {vs} {rest} m w e) =
    let l : length (before ++ v ∷ vs) ≡ length before + suc (length vs) = length-append before (v ∷ vs) in
    let is : get_or (before ++ v ∷ vs) (length before) 0 ≡ v = get_or-append_seam before v vs 0 in
    let back : word_at (bytes_of (before ++ v ∷ vs)) (length before) ≡ v = word_back (before ++ v ∷ vs) (length before) (omega (arith, l)) (rw is w) ∙ is in
    let more : within_from (bytes_of (before ++ v ∷ vs)) (length before + 1) rest ≡ true =
    subst (λ (k : ℕ). within_from (bytes_of (before ++ v ∷ vs)) k rest ≡ true) (length-append before (v ∷ []))
    (subst (λ (l : List ℕ). within_from (bytes_of l) (length (before ++ (v ∷ []))) rest ≡ true) (append_snoc before v vs) (within_back (before ++ (v ∷ [])) e)) in
    rw (back, le-leb v most m) more

pub record_back : {vs largest : List ℕ} → Each vs largest → is_record (bytes_of vs) largest ≡ true
unfolding is_record
record_back {vs} {largest} e =
    let l : length (bytes_of vs) ≡ 8 * length largest = length-bytes vs ∙ ap (λ (n : ℕ). 8 * n) (each_long e) in
    rw (eq-eqb (length (bytes_of vs)) (8 * length largest) l) (within_back [] e)

pub flag_back : (b : Bool) → is_set (bit b) ≡ b
flag_back true = refl
flag_back false = refl
