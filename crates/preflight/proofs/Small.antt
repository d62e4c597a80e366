-- The sizes of the segments: what a search through them finds, and that each that is fit is small. Assumes nothing.
use Prim.Native.Nat.{ℕ, zero, suc, ◌≤◌}
use mathlib.Core.Path.{◌≡◌, refl, ◌∙◌}
use mathlib.Core.Bool.{Bool, true, ◌&&◌, and-eq-true_iff}
use mathlib.Core.List.{List, [], ◌∷◌}
use native.Mathlib.Omega.{arith}
use borrow.Author.Tests.{le-leb, leb-true}
use lib.Dec.{leb}
use lib.ListN.{length, get_or}
use Rattle.std.proofs.lemmas.List.Recursion.{same_from_clauses}
use Rattle.std.specs.List.{list_all}
use Rattle.places.specs.Places.{largest_size}
use Rattle.preflight.specs.Verdict.{all_small, fit_sizes}

-- ---- what a search through them finds

pub by_sizes : (sizes : List ℕ) → length sizes ≤ 16 → {b : Bool} → b ≡ list_all (λ z. leb z largest_size) sizes → b ≡ fit_sizes sizes
by_sizes sizes h e =
    rw (le-leb (length sizes) 16 h) (e ∙ same_from_clauses (list_all (λ z. leb z largest_size)) all_small (λ z b. leb z largest_size && b) refl (λ z zs. refl) (λ z zs. refl) sizes)

-- ---- each size that is fit is small

small : (sizes : List ℕ) → all_small sizes ≡ true → (i : ℕ) → get_or sizes i 0 ≤ largest_size
small [] e i = omega arith
small (z ∷ sizes) e zero = leb-true z largest_size ((and-eq-true_iff (leb z largest_size) (all_small sizes)).0 e).0
small (z ∷ sizes) e (suc i) = small sizes ((and-eq-true_iff (leb z largest_size) (all_small sizes)).0 e).1 i

pub fit_small : (sizes : List ℕ) → fit_sizes sizes ≡ true → (i : ℕ) → get_or sizes i 0 ≤ largest_size
fit_small sizes e = small sizes ((and-eq-true_iff (leb (length sizes) 16) (all_small sizes)).0 e).1
