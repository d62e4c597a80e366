-- The boundary to C: what a start and a step of a walk answer and write, whatever bytes they are lent for the state and the item.
-- `W` are the states of the walk and `X` its items.
use Rattle.std.specs.Prelude.{ℕ, ◌≡◌, Bool, cond, ◌&&◌, List, Option, Some, None, eqb, length}
use Rattle.refusal.specs.Numbers.{number_of}
use Rattle.refusal.specs.declared.Refusal.TheVariants.{StateOutOfRange}
use Rattle.runs.specs.Runs.{Begin, begun, not_begun, Answer}
use Rattle.runs.specs.Runs as answer
use Rattle.runs.specs.Told.{told}
use Rattle.runs.specs.declared.Step.{Step}

-- ---- answers; any other number is that of a refusal

abbrev pub item_told : ℕ
item_told = 0

abbrev pub end_told : ℕ
end_told = 256

abbrev pub more_told : ℕ
more_told = 257

-- bytes of another length than the record's, or that are no value of it
abbrev pub unfit : ℕ
unfit = number_of StateOutOfRange

-- ---- records

-- states: how many bytes, those of a state, whether bytes are those of a state, and which
pub record States (W : Type 0) : Type 0 where
  pub long : ℕ
  pub bytes : W → List ℕ
  pub holds : List ℕ → Bool
  pub value : List ℕ → W

-- the state that bytes hold
abbrev pub held : {W : Type 0} → States W → List ℕ → Option W
held S s = cond (S.holds s) (Some (S.value s)) None

-- items: how many bytes, those of an item, and those where there is none
pub record Items (X : Type 0) : Type 0 where
  pub long : ℕ
  pub bytes : X → List ℕ
  pub blank : List ℕ

-- ---- a start

module _ {W : Type 0} (S : States W) (state : List ℕ) where
  abbrev pub start_told : Begin W → ℕ × List ℕ
  start_told (begun w) = (item_told, S.bytes w)
  start_told (not_begun n) = (n, state)

  unfoldable pub started : Begin W → ℕ × List ℕ
  started b = cond (eqb (length state) S.long) (start_told b) (unfit, state)

-- ---- a step

module _ {W X : Type 0} (S : States W) (I : Items X) where
  abbrev pub step_told : Answer W X → ℕ × List ℕ × List ℕ
  step_told (answer.item x w) = (item_told, S.bytes w, I.bytes x)
  step_told (answer.end w) = (end_told, S.bytes w, I.blank)
  step_told (answer.refused n w) = (n, S.bytes w, I.blank)

  unfoldable pub stepped : (state item : List ℕ) → (W → Answer W X) → ℕ × List ℕ × List ℕ
  stepped state item call =
      cond (eqb (length item) I.long && S.holds state) (step_told (call (S.value state))) (unfit, state, item)

-- what a call of the code's may answer says what `call` does
abbrev pub Says : {W X : Type 0} → (may : W → Step W X → Type 0) → (call : W → Answer W X) → Type 0
Says {W} {X} may call = (w : W) (r : Step W X) → may w r → told r ≡ call w
