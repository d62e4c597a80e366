use Rattle.packing.proofs.Words.{Writing}
use Rattle.packing.proofs.write.Given as goal

abbrev pub invariant-loop-i : goal.invariant-loop-i
invariant-loop-i l = Writing l.words l.fn.s l.s l.i
