-- The searches through the open nodes: the first of an array, as the code lends them as a slice; and what the library's methods
-- answer, as the definitions say it. Assumes nothing.
use Rattle.std.proofs.Common.{◌≢◌, add-one, ◌+◌, ◌≡◌, ℕ, zero, suc, ◌≤◌, ◌<◌, Bool, true, false, cond, ◌||◌, List, [], ◌∷◌, length, get_or, take, refl, sym, ap, ◌∙◌, arith}
use Rattle.std.proofs.lemmas.List.{get_or-take}
use Rattle.std.specs.List.{list_any}
use native.Mathlib.Decide.{dec_lt}
use borrow.Author.Tests.{eq-eqb, ne_eqb, lt-ltb, le-ltb}
use lib.Dec.{eqb, ltb}
use lib.Seq.{length-take-le}
use Rattle.nodes.specs.Child.{any}
use Rattle.trie.specs.Frames.{top_down, out_of_range, still_open}

-- ---- the first d of an array

top_front : (xs : List ℕ) (n d : ℕ) → d ≤ n → top_down (take n xs) d ≡ top_down xs d
unfolding top_down
top_front xs n zero h = refl
top_front xs n (suc d) h =
    (λ i. get_or-take n xs d 0 (omega arith) i ∷ top_front xs n d (omega arith) i)

still_front : (left : List ℕ) (n d : ℕ) → d ≤ n → still_open (take n left) d ≡ still_open left d
unfolding still_open
still_front left n zero h = refl
still_front left n (suc d) h =
    λ i. cond (eqb (get_or-take n left d 0 (omega arith) i) 0) (still_front left n d (omega arith) i) (suc d)

pub front_top : (xs : List ℕ) (d : ℕ) → d ≤ length xs → top_down (take d xs) (length (take d xs)) ≡ top_down xs d
front_top xs d h = ap (top_down (take d xs)) (length-take-le d xs h) ∙ top_front xs d d (omega arith)

pub front_open : (left : List ℕ) (d : ℕ) → d ≤ length left → still_open (take d left) (length (take d left)) ≡ still_open left d
front_open left d h = ap (still_open (take d left)) (length-take-le d left h) ∙ still_front left d d (omega arith)

-- ---- whether one passes a test

or_swap : (a b c : Bool) → a || (b || c) ≡ b || (a || c)
or_swap true true c = refl
or_swap true false c = refl
or_swap false true c = refl
or_swap false false c = refl

module _ (p : ℕ → Bool) where
  any_behind : (x : ℕ) (xs : List ℕ) (d : ℕ) → any p (top_down (x ∷ xs) (suc d)) ≡ p x || any p (top_down xs d)
  unfolding any top_down
  any_behind x xs zero = refl
  any_behind x xs (suc d) =
      ap (λ (b : Bool). p (get_or xs d 0) || b) (any_behind x xs d) ∙ or_swap (p (get_or xs d 0)) (p x) (any p (top_down xs d))

  pub any_top : (xs : List ℕ) → any p (top_down xs (length xs)) ≡ list_any p xs
  unfolding any top_down
  any_top [] = refl
  any_top (x ∷ xs) = any_behind x xs (length xs) ∙ ap (λ (b : Bool). p x || b) (any_top xs)

  pub any_front : (xs : List ℕ) (d : ℕ) → d ≤ length xs → list_any p (take d xs) ≡ any p (top_down xs d)
  any_front xs d h = sym (any_top (take d xs)) ∙ ap (any p) (front_top xs d h)

-- ---- how many are left, by where the last is that has a child left

closed_on : (left : List ℕ) (d : ℕ) → get_or left d 0 ≡ 0 → still_open left (suc d) ≡ still_open left d
unfolding still_open
closed_on left d e = ap (λ (t : Bool). cond t (still_open left d) (suc d)) (eq-eqb (get_or left d 0) 0 e)

still_down : (left : List ℕ) (i d : ℕ) → i ≤ d → ((k : ℕ) → i ≤ k → k < d → get_or left k 0 ≡ 0) → still_open left d ≡ still_open left i
still_down left i zero h none = let e : i ≡ 0 = omega arith in ap (still_open left) (sym e)
still_down left i (suc d) h none =
    elim (dec_lt d i) [
      | yes l ↦ let e : suc d ≡ i = omega arith in ap (still_open left) e
      | no l ↦ closed_on left d (none d (omega arith) (omega arith)) ∙ still_down left i d (omega arith) (λ k a b. none k a (omega arith))
    ]

pub open_none : (left : List ℕ) → ((k : ℕ) → k < length left → get_or left k 0 ≡ 0) → still_open left (length left) ≡ 0
unfolding still_open
open_none left none = still_down left 0 (length left) (omega arith) (λ k a b. none k b)

pub open_to : (left : List ℕ) (i : ℕ) → i < length left → get_or left i 0 ≢ 0 → ((k : ℕ) → i + 1 ≤ k → k < length left → get_or left k 0 ≡ 0)
    → still_open left (length left) ≡ i + 1
unfolding still_open
open_to left i h some none =
    still_down left (i + 1) (length left) (omega arith) none
    ∙ ap (still_open left) (add-one i)
    ∙ ap (λ (t : Bool). cond t (still_open left i) (suc i)) (ne_eqb (get_or left i 0) 0 some)
    ∙ sym (add-one i)

-- ---- whether a state is out of range

module _ (places lengths : List ℕ) (d bytes room : ℕ) where
  pub too_many : 256 < d → true ≡ out_of_range 256 places lengths d bytes room
  unfolding out_of_range
  too_many h = rw (lt-ltb 256 d h)

  module _ (h : d ≤ 256) (p : d ≤ length places) {r : Bool} (e : r ≡ list_any (λ y. ltb bytes y) (take d places)) where
    pub place_out : r ≡ true → r ≡ out_of_range 256 places lengths d bytes room
    unfolding out_of_range
    place_out f = rw (le-ltb 256 d h, sym (any_front (λ y. ltb bytes y) places d p), sym e, f)

    pub name_out : r ≡ false → d ≤ length lengths → {q : Bool} → q ≡ list_any (λ y. ltb room y) (take d lengths) → q ≡ out_of_range 256 places lengths d bytes room
    unfolding out_of_range
    name_out f l g = rw (le-ltb 256 d h, sym (any_front (λ y. ltb bytes y) places d p), sym e, f) (g ∙ any_front (λ y. ltb room y) lengths d l)
