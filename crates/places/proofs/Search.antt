-- What the search answers: the offset behind the places where every one is inside, and j where place j is outside and each before it is
-- inside. Assumes nothing.
use Rattle.std.proofs.Common.{◌≡◌, ℕ, zero, suc, ◌+◌, ◌<◌, ◌≤◌, sym, ap, ◌∙◌, ⊎_elim, le_refl, eq-or-lt_of_le, arith, le-leb}
use borrow.Author.Tests.{lt-leb}
use Rattle.places.specs.Places.{place_at, fits, judged_from, largest_size, judged_of}
use Rattle.places.specs.declared.Judged.TheVariants.{Inside, Outside}

module _ (o a w z : ℕ) where
  abbrev pub In : ℕ → Type 0
  In k = place_at o a k + w ≤ z

  none_from : (i n : ℕ) → ((k : ℕ) → i ≤ k → k < i + n → In k) → judged_from o a w z i n ≡ Inside (place_at o a (i + n))
  unfolding judged_from fits
  none_from i zero h = ap (λ (k : ℕ). Inside (place_at o a k)) (omega arith)
  none_from i (suc n) h =
      rw (le-leb _ _ (h i (le_refl i) (omega arith)), judged_from)
      (none_from (suc i) n (λ k p q. h k (omega arith) (omega arith)) ∙ ap (λ (k : ℕ). Inside (place_at o a k)) (omega arith))

  one_from : (i n j : ℕ) → i ≤ j → j < i + n → ((k : ℕ) → i ≤ k → k < j → In k) → z < place_at o a j + w → judged_from o a w z i n ≡ Outside j
  unfolding judged_from fits
  one_from i zero j p q h e = absurd (omega arith)
  one_from i (suc n) j p q h e =
      ⊎_elim
      (λ (s : i ≡ j). rw (s, lt-leb _ _ e, judged_from) (ap Outside s))
      (λ (s : i < j). rw (le-leb _ _ (h i (le_refl i) s), judged_from) (one_from (suc i) n j s (omega arith) (λ k u v. h k (omega arith) v) e))
      (eq-or-lt_of_le p)

  module _ (z≤ : z ≤ largest_size) (left : ℕ) where
    pub none_outside : ((k : ℕ) → k ≤ left → In k) → Inside (place_at o a (suc left)) ≡ judged_of o a left w z
    unfolding judged_of
    none_outside h =
        sym (rw (le-leb z largest_size z≤) (none_from 0 (suc left) (λ k p q. h k (omega arith)) ∙ ap (λ (k : ℕ). Inside (place_at o a k)) (omega arith)))

    pub one_outside : (j : ℕ) → j ≤ left → ((k : ℕ) → k < j → In k) → z < place_at o a j + w → Outside j ≡ judged_of o a left w z
    unfolding judged_of
    one_outside j q h e =
        sym (rw (le-leb z largest_size z≤) (one_from 0 (suc left) j (omega arith) (omega arith) (λ k p. h k) e))
