-- What a definition picks by a test, from what the code's test told: for `search`. Assumes nothing.
use mathlib.Core.Path.{◌≡◌, refl, sym, ◌∙◌}
use mathlib.Core.Bool.{Bool, true, false, cond, ◌||◌, true≢false}
use borrow.Author.Tests.{lt-ltb, le-ltb, le-leb, lt-leb, eq-eqb, ne_eqb}

module _ {A : Type 0} (t : Bool) (a b : A) {y : A} where
  pub pick_yes : t ≡ true → y ≡ a → y ≡ cond t a b
  pick_yes e q = rw e q

  pub pick_no : t ≡ false → y ≡ b → y ≡ cond t a b
  pick_no e q = rw e q

-- where the code asked a function for the test
module _ {A : Type 0} (t : Bool) (a b : A) {r : Bool} (e : r ≡ t) {y : A} where
  pub asked_yes : r ≡ true → y ≡ a → y ≡ cond t a b
  asked_yes f q = rw (sym e ∙ f) q

  pub asked_no : r ≡ false → y ≡ b → y ≡ cond t a b
  asked_no f q = rw (sym e ∙ f) q

pub ruleset asked = (asked_yes, asked_no)

pub ruleset picks = (pick_yes, pick_no, lt-ltb, le-ltb, le-leb, lt-leb, eq-eqb, ne_eqb)

pub neither : (x y : Bool) → x || y ≡ false → (x ≡ false) × (y ≡ false)
neither true y e = absurd (true≢false e)
neither false y e = (refl, e)

-- what holds of both, holds of what is picked
pub by_pick : {A : Type 0} (P : A → Type 0) (t : Bool) (a b : A) → P a → P b → P (cond t a b)
by_pick P true a b p q = p
by_pick P false a b p q = q

-- the same, where each may use how the test went
pub by_test : {A : Type 0} (P : A → Type 0) (t : Bool) (a b : A) → (t ≡ true → P a) → (t ≡ false → P b) → P (cond t a b)
by_test P true a b p q = p refl
by_test P false a b p q = q refl

-- what holds of two definitions that pick by one test
pub both_picks : {A B : Type 0} (R : A → B → Type 0) (t : Bool) (a b : A) (c d : B) → (t ≡ true → R a c) → (t ≡ false → R b d) →
    R (cond t a b) (cond t c d)
both_picks R true a b c d p q = p refl
both_picks R false a b c d p q = q refl
