-- What follows a read: where nothing was read an answer, else what goes on with what was read and the place behind it.
use Rattle.std.specs.Prelude.{ℕ, Option, Some, None}

unfoldable pub then : {A B : Type 0} → Option (A × ℕ) → (faulty : B) → (A → (next : ℕ) → B) → B
then (Some (x, next)) faulty go = go x next
then None faulty go = faulty
