-- What the parsers' answers say.
use Rattle.std.specs.Prelude.{ℕ, Option, Some, None, Result, Ok, Err}
use Rattle.refusal.specs.declared.Refusal.{Refusal}
use Rattle.operations.specs.Table.{Parsed, operation, faulty, no_bytes}

abbrev pub told : {Op : Type 0} → Result (Option (Op × ℕ)) Refusal → Parsed Op
told (Ok (Some (op, next))) = operation op next
told (Ok None) = no_bytes
told (Err e) = faulty e
