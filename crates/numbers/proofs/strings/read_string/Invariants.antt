use Rattle.numbers.specs.Passed.{Passed}
use Rattle.numbers.specs.Strings.{is_nul}
use Rattle.numbers.proofs.strings.read_string.Given as goal

abbrev pub invariant-loop-at : goal.invariant-loop-at
invariant-loop-at l = Passed is_nul l.s l.fn.from l.at
