-- Laws of little-endian fields, over their width. Assumes nothing.
use Prim.Native.Nat.{ℕ, zero, suc, ◌+◌, ◌-◌, ◌*◌, ◌^◌, ◌≤◌, ◌<◌}
use mathlib.Core.Path.{◌≡◌, ap, ap₂, ◌∙◌}
use mathlib.Core.List.{List, [], ◌∷◌}
use native.Mathlib.Omega.{arith}
use native.Mathlib.Nat.{one-le-pow, pow-le-pow_right}
use borrow.Author.Tests.{le-leb, lt-leb}
use lib.ListN.{length, get_or}
use lib.Seq.{take-nil, drop-nil, drop-cons}
use mir.Syntax.{w8, w64}
use mir.Val.{Fits}
use Rattle.numbers.specs.Digits.{from_digits}
use Rattle.numbers.specs.LittleEndian.{little_endian, field_at}
use Rattle.std.specs.Prelude.{Some, None}
use Rattle.numbers.proofs.Digits.{digit_below}

-- what a slice of bytes is known to hold
abbrev pub Bytes : List ℕ → Type 0
Bytes s = (i : ℕ) → Fits w8 (get_or s i 0)

-- ---- bounds

pub field_below : (s : List ℕ) (n at : ℕ) → Bytes s → little_endian n s at < 256 ^ n
unfolding from_digits little_endian
field_below [] n at h = rw (drop-nil at, take-nil n) (one-le-pow n 256 (omega arith))
field_below (b ∷ s) zero at h = omega arith
field_below (b ∷ s) (suc n) zero h =
    digit_below 256 n (h 0).fits (field_below s n 0 (λ i. h (suc i)))
field_below (b ∷ s) (suc n) (suc at) h = field_below s (suc n) at (λ i. h (suc i))

-- ---- a field of n bytes, of which the last i are read

module _ (s : List ℕ) (at : ℕ) where
  pub none_read : 0 ≡ little_endian 0 s at
  unfolding from_digits little_endian
  none_read = omega arith

  lowest_read : (i : ℕ) → at < length s → little_endian i s (at + 1) * 256 + get_or s at 0 ≡ little_endian (i + 1) s at
  unfolding from_digits little_endian
  lowest_read i h =
      let e : i + 1 ≡ suc i = omega arith in
      let p : at + 1 ≡ suc at = omega arith in
      rw (e, p, drop-cons s at 0 h) (omega arith)

module _ (s : List ℕ) (at n i : ℕ) {v : ℕ} (read : v ≡ little_endian i s (at + (n - i))) where
  pub one_more : at ≤ length s → n ≤ length s - at → i < n → v * 256 + get_or s (at + (n - 1 - i)) 0 ≡ little_endian (i + 1) s (at + (n - (i + 1)))
  one_more in_bytes fits more =
      let p : at + (n - (i + 1)) ≡ at + (n - 1 - i) = omega arith in
      let q : at + (n - i) ≡ at + (n - 1 - i) + 1 = omega arith in
      rw (p, read, q) (lowest_read s (at + (n - 1 - i)) i (omega arith))

  pub more_fits : Bytes s → n ≤ 8 → i < n → Fits w64 (v * 256)
  more_fits bytes few more =
      let b : v < 256 ^ i = rw read (field_below s i (at + (n - i)) bytes) in
      let m : i ≤ 7 = omega arith in
      let p : 256 ^ i ≤ 256 ^ 7 = pow-le-pow_right {n = 256} (omega arith) m in
      record { fits = omega (arith, b, p) }

  pub sum_fits : Bytes s → n ≤ 8 → i < n → (k : ℕ) → Fits w64 (v * 256 + get_or s k 0)
  sum_fits bytes few more k =
      let b : v < 256 ^ i = rw read (field_below s i (at + (n - i)) bytes) in
      let m : i ≤ 7 = omega arith in
      let p : 256 ^ i ≤ 256 ^ 7 = pow-le-pow_right {n = 256} (omega arith) m in
      record { fits = omega (arith, b, p, (bytes k).fits) }

  pub all_read : i ≤ n → n ≤ i → v ≡ little_endian n s at
  all_read h l =
      let e : i ≡ n = omega arith in
      let p : at + (n - i) ≡ at = omega arith in
      read ∙ ap₂ (λ (m k : ℕ). little_endian m s k) e p

-- ---- a field where it fits

module _ (n : ℕ) (s : List ℕ) (at : ℕ) where
  pub field_in : {x : ℕ} → at ≤ length s → n ≤ length s - at → x ≡ little_endian n s at → Some (x, at + n) ≡ field_at n s at
  unfolding field_at
  field_in h l i = rw (le-leb (at + n) (length s) (omega arith)) (ap (λ (v : ℕ). Some (v, at + n)) i)

  pub field_past : length s < at → None ≡ field_at n s at
  unfolding field_at
  field_past h = rw (lt-leb (at + n) (length s) (omega arith))

  pub field_cut : at ≤ length s → length s - at < n → None ≡ field_at n s at
  unfolding field_at
  field_cut h l = rw (lt-leb (at + n) (length s) (omega arith))
