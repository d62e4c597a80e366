-- A start and a step at the boundary, by what their parts answered: for `search`. Assumes nothing.
use Prim.Native.Nat.{ℕ, ◌*◌}
use mathlib.Core.Path.{◌≡◌, sym, ap, ◌∙◌}
use mathlib.Core.Bool.{Bool, true, false, cond}
use mathlib.Core.List.{List}
use borrow.Author.Tests.{eq-eqb, ne_eqb}
use lib.ListN.{length}
use Rattle.packing.specs.Boundary.{States, Items, unfit, start_told, started, step_told, stepped}
use Rattle.packing.specs.Words.{bytes_of, written}
use Rattle.runs.specs.Runs.{Begin, Answer}

-- what a test `b` of the code's says of what it tests
pub tested : {b c x : Bool} → b ≡ x → b ≡ c → x ≡ c
tested e f = sym e ∙ f

-- words are written over a record of their length
pub over : (s : List ℕ) {t : List ℕ} (vs ws : List ℕ) → t ≡ written vs s → vs ≡ ws → length s ≡ 8 * length ws → t ≡ bytes_of ws
unfolding written
over s vs ws e f l = e ∙ ap (λ (v : List ℕ). written v s) f ∙ rw (eq-eqb (length s) (8 * length ws) l)

-- an answer, and what was written
pub two : {m n : ℕ} {a c : List ℕ} → m ≡ n → a ≡ c → ◌≡◌ {A = ℕ × List ℕ} (m, a) (n, c)
two q e = λ j. (q j, e j)

pub three : {m n : ℕ} {a b c d : List ℕ} → m ≡ n → a ≡ c → b ≡ d → ◌≡◌ {A = ℕ × List ℕ × List ℕ} (m, a, b) (n, c, d)
three q e f = λ j. (q j, e j, f j)

-- ---- a start

module _ {W : Type 0} (S : States W) (state : List ℕ) (b : Begin W) where
  pub started_unfit : (length state ≡ S.long → ⊥) → ◌≡◌ {A = ℕ × List ℕ} (unfit, state) (started S state b)
  unfolding started
  started_unfit h = rw (ne_eqb (length state) S.long h)

  pub started_as : {y : ℕ × List ℕ} → length state ≡ S.long → y ≡ start_told S state b → y ≡ started S state b
  unfolding started
  started_as l e = rw (eq-eqb (length state) S.long l) e

pub starts_as : {W : Type 0} (S : States W) (state : List ℕ) {y : ℕ × List ℕ} {a b : Begin W} →
    y ≡ started S state a → a ≡ b → y ≡ started S state b
starts_as S state e f = e ∙ ap (started S state) f

-- ---- a step

module _ {W X : Type 0} (S : States W) (I : Items X) (state item : List ℕ) (call : W → Answer W X) where
  pub item_unfit : (length item ≡ I.long → ⊥) →
      ◌≡◌ {A = ℕ × List ℕ × List ℕ} (unfit, state, item) (stepped S I state item call)
  unfolding stepped
  item_unfit h = rw (ne_eqb (length item) I.long h)

  module _ (l : length item ≡ I.long) where
    pub by_state : {b : Bool} → S.holds state ≡ b →
        stepped S I state item call ≡ cond b (step_told S I (call (S.value state))) (unfit, state, item)
    unfolding stepped
    by_state e = rw (eq-eqb (length item) I.long l, e)

    pub state_unfit : S.holds state ≡ false →
        ◌≡◌ {A = ℕ × List ℕ × List ℕ} (unfit, state, item) (stepped S I state item call)
    state_unfit e = sym (by_state e)

    pub stepped_as : {v : W} {y : Answer W X} {z : ℕ × List ℕ × List ℕ} → z ≡ step_told S I y →
        y ≡ call v → v ≡ S.value state → S.holds state ≡ true → z ≡ stepped S I state item call
    stepped_as f e q h = f ∙ ap (step_told S I) (e ∙ ap call q) ∙ sym (by_state h)

-- a state that is handed back and given again is the same state: a call on its bytes is a call on it
module _ {W X : Type 0} (S : States W) (I : Items X) (call : W → Answer W X) (w : W) where
  pub carried : S.holds (S.bytes w) ≡ true → S.value (S.bytes w) ≡ w → (item : List ℕ) → length item ≡ I.long →
      stepped S I (S.bytes w) item call ≡ step_told S I (call w)
  carried h e item l = by_state S I (S.bytes w) item call l h ∙ ap (λ (v : W). step_told S I (call v)) e
