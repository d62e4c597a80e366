-- What a verdict says determines it: `told` loses nothing, so each preflight has one answer. Assumes nothing.
use Rattle.std.specs.Prelude.{◌≡◌, ℕ, Result, Ok, Err}
use mathlib.Core.Path.{refl, ap}
use Rattle.refusal.proofs.Numbered.{refusal_of, refusal_back}
use Rattle.refusal.proofs.Unique.{one_each}
use Rattle.refusal.specs.declared.Refusal.{Refusal}
use Rattle.preflight.specs.Told.{fault_of, told}
use Rattle.preflight.specs.Verdict.{Verdict, pass, fault}
use Rattle.preflight.specs.declared.Fault.{Fault}

abbrev verdict_of : Verdict → Result ℕ Fault
verdict_of (pass operations) = Ok operations
verdict_of (fault number position index) = Err (fault_of (refusal_of number) position index)

verdict_back : (r : Result ℕ Fault) → verdict_of (told r) ≡ r
verdict_back (Ok operations) = refl
verdict_back (Err f) = ap (λ (e : Refusal). Err (fault_of e f.position f.index)) (refusal_back f.refusal)

pub told_one : (r q : Result ℕ Fault) → told r ≡ told q → r ≡ q
told_one = one_each told verdict_of verdict_back
