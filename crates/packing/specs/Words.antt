-- Words in bytes: each is eight bytes, the lowest first.
use Rattle.std.specs.Prelude.{ℕ, zero, suc, ◌+◌, ◌*◌, ◌/◌, ◌%◌, cond, List, [], ◌∷◌, ◌++◌, eqb, length}
use Rattle.numbers.specs.LittleEndian.{field_at}
use Rattle.numbers.specs.Then.{then}

-- the word of an index; 0 where it does not lie in the bytes
unfoldable pub word_at : List ℕ → ℕ → ℕ
word_at s i = then (field_at 8 s (8 * i)) 0 (λ v next. v)

-- so many words, from an index on
unfoldable pub words_from : List ℕ → (i count : ℕ) → List ℕ
words_from s i zero = []
words_from s i (suc n) = word_at s i ∷ words_from s (i + 1) n

-- the lowest digits of a number, so many
unfoldable pub to_digits : (base count : ℕ) → ℕ → List ℕ
to_digits base zero v = []
to_digits base (suc n) v = v % base ∷ to_digits base n (v / base)

abbrev pub word_bytes : ℕ → List ℕ
word_bytes v = to_digits 256 8 v

unfoldable pub bytes_of : List ℕ → List ℕ
bytes_of [] = []
bytes_of (v ∷ vs) = word_bytes v ++ bytes_of vs

-- bytes with words written over them: all of them, or none where they have another length
unfoldable pub written : (words bytes : List ℕ) → List ℕ
written vs s = cond (eqb (length s) (8 * length vs)) (bytes_of vs) s

-- an answer's number, with the words of a state and those of an item written over their bytes
abbrev pub reported : (number : ℕ) (kept found state item : List ℕ) → ℕ × List ℕ × List ℕ
reported number kept found state item = (number, written kept state, written found item)
