-- What the code's values say, of any walk.
use Rattle.std.specs.Prelude.{Result, Ok, Err}
use Rattle.refusal.specs.Numbers.{number_of}
use Rattle.refusal.specs.declared.Refusal.{Refusal}
use Rattle.runs.specs.Runs.{Begin, begun, not_begun, Answer, item, end, refused}
use Rattle.runs.specs.declared.Step.{Step}
use Rattle.runs.specs.declared.Step.TheVariants as step

module _ {W : Type 0} where
  abbrev pub start_told : Result W Refusal → Begin W
  start_told (Ok w) = begun w
  start_told (Err e) = not_begun (number_of e)

  abbrev pub told : {Item : Type 0} → Step W Item → Answer W Item
  told (step.Item w x) = item x w
  told (step.End w) = end w
  told (step.Refused w e) = refused (number_of e) w
