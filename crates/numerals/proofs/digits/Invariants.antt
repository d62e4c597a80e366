use Rattle.std.proofs.Common.{◌≡◌, drop}
use Rattle.numerals.specs.Numerals.{in_base}
use Rattle.numerals.proofs.Turns.{behind}
use Rattle.numerals.proofs.digits.Given as goal

abbrev pub invariant-loop-b : goal.invariant-loop-b
invariant-loop-b l = in_base l.base l.text ≡ behind l.base l.value (drop l.b-index l.text)
