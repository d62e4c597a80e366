-- What an answer says determines it: `start_told` and `told` lose nothing, so the contracts of a walk's start and of its step leave one
-- answer and one state each. Assumes nothing.
use mathlib.Core.Path.{◌≡◌, refl, ap}
use Rattle.std.specs.Prelude.{Result, Ok, Err}
use Rattle.refusal.proofs.Numbered.{refusal_of, refusal_back}
use Rattle.refusal.proofs.Unique.{one_each}
use Rattle.refusal.specs.declared.Refusal.{Refusal}
use Rattle.runs.specs.Runs.{Begin, begun, not_begun, Answer, item, end, refused}
use Rattle.runs.specs.Told.{start_told, told}
use Rattle.runs.specs.declared.Step.{Step}
use Rattle.runs.specs.declared.Step.TheVariants as step

module _ {W : Type 0} where
  abbrev begun_of : Begin W → Result W Refusal
  begun_of (begun w) = Ok w
  begun_of (not_begun n) = Err (refusal_of n)

  begun_back : (r : Result W Refusal) → begun_of (start_told r) ≡ r
  begun_back (Ok w) = refl
  begun_back (Err e) = ap Err (refusal_back e)

  pub start_one : (r q : Result W Refusal) → start_told r ≡ start_told q → r ≡ q
  start_one = one_each start_told begun_of begun_back

  module _ {X : Type 0} where
    abbrev answer_of : Answer W X → Step W X
    answer_of (item x w) = step.Item w x
    answer_of (end w) = step.End w
    answer_of (refused n w) = step.Refused w (refusal_of n)

    answer_back : (r : Step W X) → answer_of (told r) ≡ r
    answer_back (step.Item w x) = refl
    answer_back (step.End w) = refl
    answer_back (step.Refused w e) = ap (step.Refused w) (refusal_back e)

    pub told_one : (r q : Step W X) → told r ≡ told q → r ≡ q
    told_one = one_each told answer_of answer_back
