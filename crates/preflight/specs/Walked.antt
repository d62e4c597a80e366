-- What one who calls the walk to its first end or refusal can say of the stream: of positions, indexes and operations nothing is heard.
use Rattle.std.specs.Prelude.{ℕ, true, false, List}
use Rattle.listing.specs.Machine.{Machine}
use Rattle.refusal.specs.Numbers.{number_of}
use Rattle.refusal.specs.declared.Refusal.TheVariants.{PlaceOutside}
use Rattle.runs.specs.Runs.{Run, stops, fails, gives}
use Rattle.preflight.specs.Verdict.{Verdict, pass, fault, inside}

pub data Outcome : Type 0 where
  sound : Outcome
  faulty : (number : ℕ) → Outcome

abbrev pub outcome : Verdict → Outcome
outcome (pass operations) = sound
outcome (fault number position index) = faulty number

module _ {Op Reg Item : Type 0} (M : Machine Op Reg Item) (size : ℕ) (sizes : List ℕ) where
  -- calls end without refusal, and each item is inside; else what comes first: a refusal, or an item that is outside
  unfoldable pub walked : Run Item → Outcome
  walked stops = sound
  walked (fails number) = faulty number
  walked (gives x rest) = elim (inside size sizes (M.place x)) [ true ↦ walked rest | false ↦ faulty (number_of PlaceOutside) ]
