-- What a turn of the loop that writes digits does. Assumes nothing.
use Rattle.std.proofs.Common.{◌≡◌, ℕ, suc, ◌+◌, ◌-◌, ◌/◌, ◌%◌, ◌^◌, ◌<◌, ◌≤◌, List, ◌∷◌, length, drop, ap, sym, ◌∙◌, arith}
use native.Mathlib.Numerals.{unary_clauses}
use Rattle.std.proofs.Math.ListN.{set}
use Rattle.std.proofs.Math.Nat.{div-div-eq-div-mul, div-one, div-eq_of_lt, lt-div-mul-add, one-le-pow, pow-le-pow_left, pow-suc}
use Rattle.std.proofs.lemmas.List.{drop-set, drop_all}
use Rattle.dump.specs.Digits.{ascii_digit, last_digits}

-- no digits yet
pub none_yet : (base n : ℕ) (room : List ℕ) → length room ≡ 20 → drop 20 room ≡ last_digits base 0 n
unfolding last_digits
none_yet base n room e = drop_all 20 room (omega arith)

-- what is left of the number: all of it at first, and less after a digit
pub all_left : (n base : ℕ) → n ≡ n / base ^ 0
all_left n base = simp unary_clauses (sym (div-one n))

pub less_left : (n base k : ℕ) → n / base ^ k / base ≡ n / base ^ suc k
less_left n base k = div-div-eq-div-mul n (base ^ k) base ∙ ap (λ (m : ℕ). n / m) (sym (pow-suc base k))

-- one digit more
pub one_more : (base n at : ℕ) (room : List ℕ) (d : ℕ) → 0 < at → at ≤ 20 → length room ≡ 20 → drop at room ≡ last_digits base (20 - at) n → d ≡ ascii_digit (n / base ^ (20 - at) % base) → drop (at - 1) (set room (at - 1) d) ≡ last_digits base (20 - (at - 1)) n
unfolding last_digits
one_more base n at room d low high long written is =
    let inside : at - 1 < length room = omega arith in
    let longer : 20 - (at - 1) ≡ suc (20 - at) = omega arith in
    let up : at - 1 + 1 ≡ at = omega arith in
    drop-set room (at - 1) d inside
    ∙ ap (λ (m : ℕ). d ∷ drop m room) up
    ∙ ap (λ (x : ℕ). x ∷ drop at room) is
    ∙ ap (λ (xs : List ℕ). ascii_digit (n / base ^ (20 - at) % base) ∷ xs) written
    ∙ ap (λ (k : ℕ). last_digits base k n) (sym longer)

-- twenty digits are enough for any number of 64 bits
pub enough : (base n : ℕ) → 10 ≤ base → n < 2 ^ 64 → n < base ^ 20
enough base n low h = omega (arith, pow-le-pow_left {n = 10} {m = base} low 20)

-- nothing is left: all digits are there
pub all_there : (base n k : ℕ) → 0 < base → n / base ^ k ≡ 0 → n < base ^ k
all_there base n k h e =
    let some : 1 ≤ base ^ k = one-le-pow k base h in
    let near = lt-div-mul-add {a = n} {b = base ^ k} some in
    let nearer = rw e at near in
    omega arith

-- something is left: the digits are not all of them yet
pub not_yet : (base n k : ℕ) → 0 < n / base ^ k → base ^ k ≤ n
not_yet base n k h = grind (arith, div-eq_of_lt {n = n} {m = base ^ k})
