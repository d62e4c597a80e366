-- Numbers as they are written on a command line. Assumes nothing.
use Rattle.std.specs.Prelude.{ℕ, ◌+◌, ◌-◌, ◌*◌, ◌^◌, Bool, true, if◌then◌else◌, ◌&&◌, List, [], ◌∷◌, Option, Some, None, nat_lt, nat_le, ◌==◌, length, slice_index, drop}

abbrev pub among : ℕ → ℕ → ℕ → Bool
among first last b = nat_le first b && nat_le b last

-- what a digit comes to, in ASCII: 0 to 9, A to F, a to f; any other byte to 16, which is a digit of no base here
abbrev pub digit_of : ℕ → ℕ
digit_of b = if among 48 57 b then b - 48 else if among 65 70 b then b - 65 + 10 else if among 97 102 b then b - 97 + 10 else 16

-- a digit of a base
abbrev pub digit_in : ℕ → ℕ → Option ℕ
digit_in base b = if nat_lt (digit_of b) base then Some (digit_of b) else None

-- all of them are digits of a base
abbrev pub are_digits : ℕ → List ℕ → Bool
are_digits base [] = true
are_digits base (b ∷ bs) = nat_lt (digit_of b) base && are_digits base bs

-- what they come to: each counts as often as its place says, the last one once
abbrev pub value_of : ℕ → List ℕ → ℕ
value_of base [] = 0
value_of base (b ∷ bs) = digit_of b * base ^ length bs + value_of base bs

-- a number below 2^64
abbrev pub in_base : ℕ → List ℕ → Option ℕ
in_base base bs = if are_digits base bs && nat_lt (value_of base bs) (2 ^ 64) then Some (value_of base bs) else None

-- 0x, and more
abbrev pub is_hexadecimal : List ℕ → Bool
is_hexadecimal t = nat_lt 2 (length t) && slice_index t 0 == 48 && slice_index t 1 == 120

unfoldable pub numeral_of : List ℕ → Option ℕ
numeral_of t = if is_hexadecimal t then in_base 16 (drop 2 t) else if length t == 0 then None else in_base 10 t
