-- What `judge` answers is what the search answers: a law for each of its returns. Assumes nothing.
use Rattle.std.proofs.Common.{◌≡◌, ℕ, suc, ◌+◌, ◌-◌, ◌*◌, ◌/◌, ◌%◌, ◌^◌, ◌<◌, ◌≤◌, sym, ap, ◌∙◌, arith}
use borrow.Author.Tests.{lt-leb}
use Rattle.places.specs.Places.{place_at, largest_size, judged_of}
use Rattle.places.specs.declared.Judged.TheVariants.{Inside, Outside, TooLarge}
use Rattle.places.proofs.Search.{none_outside, one_outside}
use Rattle.places.proofs.Steps.{forth_in, forth_out, back_in, back_out, back_behind}

module _ (o a left w z : ℕ) where
  pub too_large : largest_size < z → TooLarge ≡ judged_of o a left w z
  unfolding judged_of
  too_large h = sym (rw (lt-leb z largest_size h))

  module _ (z≤ : z ≤ largest_size) where
    pub at_once : o < 2 ^ 64 → z < o + w → Outside 0 ≡ judged_of o a left w z
    unfolding place_at
    at_once b h = one_outside o a w z z≤ left 0 (omega arith) (λ k p. absurd (omega arith)) (omega arith)

    module _ (w≤ : w ≤ z) (o≤ : o ≤ z - w) where
      pub still : a ≡ 0 → Inside o ≡ judged_of o a left w z
      unfolding place_at
      still e =
          let at : (i : ℕ) → place_at o a i ≡ o = λ i. rw e (omega arith) in
          ap Inside (sym (at (suc left))) ∙ none_outside o a w z z≤ left (λ k p. omega (arith, at k))

      module _ (pos : 0 < a) (a≤ : a ≤ 2 ^ 63) where
        pub forth_leaves : (z - w - o) / a < left → {first : ℕ} → first ≡ (z - w - o) / a + 1 → Outside first ≡ judged_of o a left w z
        forth_leaves h e =
            ap Outside e
            ∙ one_outside o a w z z≤ left ((z - w - o) / a + 1) (omega arith)
            (λ k p. omega (arith, forth_in o a (z - w) pos o≤ (omega arith) k (omega arith)))
            (omega (arith, forth_out o a (z - w) pos o≤ (omega arith)))

        pub forth_stays : left ≤ (z - w - o) / a → {behind : ℕ} → behind ≡ (o + left * a + a) % 2 ^ 64 → Inside behind ≡ judged_of o a left w z
        unfolding place_at
        forth_stays h e =
            ap Inside (e ∙ omega arith)
            ∙ none_outside o a w z z≤ left (λ k p. omega (arith, forth_in o a (z - w) pos o≤ (omega arith) k (omega arith)))

      module _ (back : ℕ) (e : a + back ≡ 2 ^ 64) (pos : 0 < back) (back≤ : back ≤ 2 ^ 63) where
        pub back_leaves : o / back < left → {first : ℕ} → first ≡ o / back + 1 → Outside first ≡ judged_of o a left w z
        back_leaves h f =
            ap Outside f
            ∙ one_outside o a w z z≤ left (o / back + 1) (omega arith)
            (λ k p. omega (arith, back_in o a back (z - w) pos o≤ e (omega arith) k (omega arith)))
            (omega (arith, back_out o a back (z - w) pos o≤ e (omega arith)))

        pub back_stays : left ≤ o / back → {behind : ℕ} → behind ≡ (o - left * back + a) % 2 ^ 64 → Inside behind ≡ judged_of o a left w z
        back_stays h f =
            ap Inside (f ∙ back_behind o a back (z - w) pos o≤ e left h)
            ∙ none_outside o a w z z≤ left (λ k p. omega (arith, back_in o a back (z - w) pos o≤ e (omega arith) k (omega arith)))
