-- Fields of a record: each is a word, and holds a value of its type.
use Rattle.std.specs.Prelude.{ℕ, suc, ◌+◌, ◌*◌, ◌-◌, ◌^◌, Bool, true, cond, ◌&&◌, List, [], ◌∷◌, eqb, leb, ltb, ℤ, pos, negsuc, ◌-ℤ◌, Result, Ok, Err, length}
use Rattle.packing.specs.Words.{word_at}
use Rattle.refusal.specs.declared.Refusal.{Refusal}
use Rattle.refusal.specs.declared.Refusal.TheVariants.{PointerSize}

-- ---- the largest value of a type

abbrev pub flag : ℕ
flag = 1

abbrev pub u8 : ℕ
u8 = 2 ^ 8 - 1

abbrev pub u16 : ℕ
u16 = 2 ^ 16 - 1

abbrev pub u64 : ℕ
u64 = 2 ^ 64 - 1

-- ---- a record has a word for each field, at most the largest value of the field's type

unfoldable pub within_from : List ℕ → ℕ → (largest : List ℕ) → Bool
within_from s i [] = true
within_from s i (most ∷ rest) = leb (word_at s i) most && within_from s (i + 1) rest

unfoldable pub is_record : List ℕ → (largest : List ℕ) → Bool
is_record s largest = eqb (length s) (8 * length largest) && within_from s 0 largest

-- ---- flags

abbrev pub is_set : ℕ → Bool
is_set v = eqb v 1

abbrev pub bit : Bool → ℕ
bit b = cond b 1 0

-- ---- signed numbers, in two's complement of 64 bits

abbrev pub unsigned_of : ℤ → ℕ
unsigned_of (pos n) = n
unsigned_of (negsuc n) = 2 ^ 64 - suc n  -- -1 - n

abbrev pub signed_of : ℕ → ℤ
signed_of v = cond (ltb v (2 ^ 63)) (pos v) (pos v -ℤ pos (2 ^ 64))

-- ---- pointer sizes: each is a byte

abbrev pub pointer_size : ℕ → Result ℕ Refusal
pointer_size v = cond (leb v u8) (Ok v) (Err PointerSize)
