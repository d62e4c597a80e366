-- What the code's values say.
use Rattle.std.specs.Prelude.{ℕ, Result, Ok, Err}
use Rattle.refusal.specs.Numbers.{number_of}
use Rattle.refusal.specs.declared.Refusal.{Refusal}
use Rattle.preflight.specs.Leg.{Leg, on, said}
use Rattle.preflight.specs.Verdict.{Verdict, pass, fault}
use Rattle.preflight.specs.declared.Fault.{Fault}
use Rattle.preflight.specs.declared.flight.Leg as code
use Rattle.preflight.specs.declared.flight.Leg.TheVariants as code-leg

abbrev pub fault_of : Refusal → (position index : ℕ) → Fault
fault_of refusal position index = record { refusal = refusal; position = position; index = index }

abbrev pub told : Result ℕ Fault → Verdict
told (Ok operations) = pass operations
told (Err f) = fault (number_of f.refusal) f.position f.index

-- one operation
abbrev pub leg_told : {Reg : Type 0} → code.Leg Reg → Leg Reg
leg_told (code-leg.On f places) = on f places
leg_told (code-leg.Said verdict) = said (told verdict)
