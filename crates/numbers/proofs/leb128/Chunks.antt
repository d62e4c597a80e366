-- What chunks are worth. Assumes nothing.
use Prim.Native.Nat.{ℕ, ◌+◌, ◌*◌, ◌%◌, ◌^◌, ◌≤◌, ◌<◌}
use mathlib.Core.Path.{◌≡◌, refl, ap, sym, ◌∙◌}
use mathlib.Core.List.{List, [], ◌∷◌, ◌++◌}
use native.Mathlib.Decide.{dec_lt}
use native.Mathlib.Omega.{arith}
use native.Mathlib.Nat.{pow-le-pow_right, pow-suc}
use native.Mathlib.Numerals.{add-one}
use lib.Arith.{digits_lt}
use lib.ListN.{length, length-map}
use Rattle.numbers.specs.Digits.{from_digits}
use Rattle.numbers.specs.Leb128.{chunks, unsigned}
use Rattle.numbers.proofs.Digits.{digits_snoc, digit_below}
use Rattle.numbers.proofs.Spans.{length_snoc}

chunks_append : (ps qs : List ℕ) → chunks (ps ++ qs) ≡ chunks ps ++ chunks qs
chunks_append [] qs = refl
chunks_append (p ∷ ps) qs = ap (λ (ds : List ℕ). p % 128 ∷ ds) (chunks_append ps qs)

unsigned_snoc : (ps : List ℕ) (b : ℕ) → unsigned (ps ++ (b ∷ [])) ≡ unsigned ps + 128 ^ length ps * (b % 128)
unsigned_snoc ps b =
    ap (from_digits 128) (chunks_append ps (b ∷ [])) ∙ digits_snoc 128 (chunks ps) (b % 128) ∙
    ap (λ (n : ℕ). unsigned ps + 128 ^ n * (b % 128)) (length-map ps (λ b. b % 128))

unsigned_below : (ps : List ℕ) → unsigned ps < 128 ^ length ps
unfolding from_digits
unsigned_below [] = omega arith
unsigned_below (p ∷ ps) = digit_below 128 {d = p % 128} (length ps) (omega arith) (unsigned_below ps)

weight_rises : (n m : ℕ) → n ≤ m → 128 ^ n ≤ 128 ^ m
weight_rises n m h = pow-le-pow_right {n = 128} (omega arith) h

-- ---- some bytes in numbers: what they are worth, and what the byte behind them counts

pub record Worth (ps : List ℕ) (low scale : ℕ) : Type 0 where
  pub worth : low ≡ unsigned ps
  pub counts : scale ≡ 128 ^ length ps

pub none_worth : Worth [] 0 1
unfolding from_digits
none_worth = record { worth = refl; counts = refl }

module _ {ps : List ℕ} {low scale : ℕ} (w : Worth ps low scale) where
  pub one_more : (b : ℕ) → Worth (ps ++ (b ∷ [])) (low + b % 128 * scale) (scale * 128)
  one_more b =
      record {
        worth = omega (arith, w.worth, unsigned_snoc ps b, ap (λ (m : ℕ). m * (b % 128)) w.counts);
        counts = ap (λ (m : ℕ). m * 128) w.counts ∙ sym (ap (λ (m : ℕ). 128 ^ m) (length_snoc ps b ∙ add-one (length ps)) ∙ pow-suc 128 (length ps));
      }

  pub low_below : low < scale
  low_below = rw (w.worth, w.counts) (unsigned_below ps)

  pub sum_below : {c b : ℕ} → c < b → low + c * scale < b * scale
  sum_below h = omega (arith, digits_lt h low_below)

  pub scale_small : length ps ≤ 8 → scale ≤ 2 ^ 56
  scale_small h = rw w.counts (weight_rises (length ps) 8 h)

  -- the scale tells whether nine bytes have passed
  pub nine_passed : length ps ≤ 9 → scale ≡ 2 ^ 63 → length ps ≡ 9
  nine_passed h e =
      elim (dec_lt (length ps) 9) [ yes l ↦ absurd (omega (arith, scale_small (omega arith))) | no l ↦ omega arith ]

  pub eight_passed : length ps ≤ 9 → (scale ≡ 2 ^ 63 → ⊥) → length ps ≤ 8
  eight_passed h e =
      elim (dec_lt (length ps) 9) [
        | yes l ↦ omega arith
        | no l ↦ let q : length ps ≡ 9 = omega arith in absurd (e (w.counts ∙ ap (λ (m : ℕ). 128 ^ m) q))
      ]
