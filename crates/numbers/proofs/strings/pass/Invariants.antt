use Rattle.std.proofs.Common.{◌≡◌, ◌+◌, ◌-◌, length}
use Rattle.numbers.specs.Passed.{Passed}
use Rattle.numbers.specs.Strings.{is_nul}
use Rattle.numbers.proofs.strings.pass.Given as goal

abbrev pub invariant-loop-at : goal.invariant-loop-at
invariant-loop-at l = Passed is_nul l.s l.fn.from l.at × (l.last + 8 ≡ length l.s)

abbrev pub decreases-loop-at : goal.decreases-loop-at
decreases-loop-at l = length l.s - l.at
