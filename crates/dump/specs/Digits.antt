-- A number in digits. Assumes nothing.
use Rattle.std.specs.Prelude.{ℕ, zero, suc, ◌+◌, ◌/◌, ◌%◌, ◌^◌, cond, List, [], ◌∷◌, nat_lt}

-- the code of a digit in ASCII: 0 to 9, then a to f
abbrev pub ascii_digit : ℕ → ℕ
ascii_digit d = cond (nat_lt d 10) (48 + d) (87 + d)

-- so many digits of a number in a base, from the last one on; the highest stands first
unfoldable pub last_digits : ℕ → ℕ → ℕ → List ℕ
last_digits base zero n = []
last_digits base (suc k) n = ascii_digit (n / base ^ k % base) ∷ last_digits base k n
