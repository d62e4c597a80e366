-- The segments before the index have no record.
use Rattle.chains.proofs.Seeks.{Seeking}
use Rattle.chains.proofs.SegmentWalk.step.Given as goal

abbrev pub invariant-loop-index : goal.invariant-loop-index
invariant-loop-index l = Seeking l.s l.self l.index
