-- Fields tested one by one, and what is known of a record. Assumes nothing.
use Prim.Native.Nat.{ℕ, zero, suc, ◌+◌, ◌*◌, ◌≤◌, ◌<◌}
use mathlib.Core.Path.{◌≡◌, refl, sym, ap, ◌∙◌, subst}
use mathlib.Core.Bool.{Bool, true, false, ◌&&◌, and-eq-true_iff}
use mathlib.Core.List.{List, [], ◌∷◌}
use native.Mathlib.Omega.{arith}
use borrow.Author.Tests.{le-leb, leb-true, eqb-true}
use lib.Dec.{eqb, leb}
use lib.ListN.{length, get_or}
use mir.Syntax.{w8}
use mir.Val.{Fits}
use Rattle.std.specs.List.{EachIndex}
use Rattle.std.specs.Prelude.{◌↔◌}
use Rattle.packing.specs.Fields.{u8, within_from, is_record}
use Rattle.packing.specs.Words.{word_at}

-- ---- a record

within_at : (s : List ℕ) (k : ℕ) (largest : List ℕ) → within_from s k largest ≡ true → (i : ℕ) → i < length largest → word_at s (k + i) ≤ get_or largest i 0
unfolding within_from
within_at s k (most ∷ rest) e zero h =
    let z : k + 0 ≡ k = omega arith in
    rw z (leb-true (word_at s k) most ((and-eq-true_iff (leb (word_at s k) most) (within_from s (k + 1) rest)).0 e).0)
within_at s k (most ∷ rest) e (suc i) h =
    let m = within_at s (k + 1) rest ((and-eq-true_iff (leb (word_at s k) most) (within_from s (k + 1) rest)).0 e).1 i (omega arith) in
    let n : k + 1 + i ≡ k + suc i = omega arith in
    rw (← n) m
within_at s k [] e i h = absurd (omega arith)

within_back : (s : List ℕ) (k : ℕ) (largest : List ℕ) → ((i : ℕ) → i < length largest → word_at s (k + i) ≤ get_or largest i 0) → within_from s k largest ≡ true
unfolding within_from
within_back s k [] h = refl
within_back s k (most ∷ rest) h =
    let z : k + 0 ≡ k = omega arith in
    let first : word_at s k ≤ most = subst (λ (j : ℕ). word_at s j ≤ most) z (h 0 (omega arith)) in
    let next : (i : ℕ) → i < length rest → word_at s (k + 1 + i) ≤ get_or rest i 0 =
    λ i l. let n : k + suc i ≡ k + 1 + i = omega arith in subst (λ (j : ℕ). word_at s j ≤ get_or rest i 0) n (h (suc i) (omega arith)) in
    (and-eq-true_iff (leb (word_at s k) most) (within_from s (k + 1) rest)).1 (le-leb (word_at s k) most first, within_back s (k + 1) rest next)

-- a test of each field at its index, and of the length
module _ (s largest : List ℕ) where
  each_within : {b : Bool} → (b ≡ true ↔ EachIndex largest (λ i. word_at s i ≤ get_or largest i 0)) → b ≡ within_from s 0 largest
  each_within {b} e = by b (within_from s 0 largest) (λ p. within_back s 0 largest (λ i l. let z : i ≡ 0 + i = omega arith in subst (λ (j : ℕ). word_at s j ≤ get_or largest i 0) z (e.0 p i l)))
      (λ q. e.1 (λ i l. let z : 0 + i ≡ i = omega arith in subst (λ (j : ℕ). word_at s j ≤ get_or largest i 0) z (within_at s 0 largest q i l)))
    where
      by : (b c : Bool) → (b ≡ true → c ≡ true) → (c ≡ true → b ≡ true) → b ≡ c
      by true c f g = sym (f refl)
      by false true f g = g refl
      by false false f g = refl

  module _ {t : Bool} (e : t ≡ eqb (length s) (8 * length largest)) where
    pub tests_each : {b : Bool} → t ≡ true → (b ≡ true ↔ EachIndex largest (λ i. word_at s i ≤ get_or largest i 0)) → b ≡ is_record s largest
    unfolding is_record
    tests_each f g = each_within g ∙ ap (λ (c : Bool). c && within_from s 0 largest) (sym f ∙ e)

    pub other_length : t ≡ false → t ≡ is_record s largest
    unfolding is_record
    other_length f = f ∙ ap (λ (c : Bool). c && within_from s 0 largest) (sym f ∙ e)

module _ (largest s : List ℕ) where
  both : is_record s largest ≡ true → eqb (length s) (8 * length largest) ≡ true × within_from s 0 largest ≡ true
  unfolding is_record
  both e = (and-eq-true_iff (eqb (length s) (8 * length largest)) (within_from s 0 largest)).0 e

  pub record_long : {n : ℕ} → is_record s largest ≡ true → 8 * length largest ≡ n → length s ≡ n
  record_long e q = eqb-true (length s) (8 * length largest) (both e).0 ∙ q

  -- and where more is asked of it
  pub record_and_long : (b : Bool) {n : ℕ} → (is_record s largest && b) ≡ true → 8 * length largest ≡ n → length s ≡ n
  record_and_long b e q = record_long ((and-eq-true_iff (is_record s largest) b).0 e).0 q

  -- a field is at most its largest value
  pub at_most : is_record s largest ≡ true → (i : ℕ) → i < length largest → word_at s i ≤ get_or largest i 0
  at_most e i h =
      let z : 0 + i ≡ i = omega arith in
      subst (λ (k : ℕ). word_at s k ≤ get_or largest i 0) z (within_at s 0 largest (both e).1 i h)

  -- so is one of a type, and fits in it: for `search`
  module _ {i : ℕ} (e : is_record s largest ≡ true) (h : i < length largest) where
    pub word_most : {m : ℕ} → get_or largest i 0 ≡ m → word_at s i ≤ m
    word_most q = rw (← q) (at_most e i h)

    pub byte_fits : {w : ℕ} → w ≡ word_at s i → get_or largest i 0 ≡ u8 → Fits w8 w
    byte_fits f q = record { fits = omega (arith, f, word_most q) }
