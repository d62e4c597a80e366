use Rattle.numbers.proofs.leb128.Gathering.{Held}
use Rattle.numbers.proofs.leb128.gather.Given as goal

abbrev pub invariant-loop-at : goal.invariant-loop-at
invariant-loop-at l = Held l.s l.fn.from l.at l.low l.scale
