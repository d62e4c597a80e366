-- `packing::word` reads a word. Assumes nothing.
use Rattle.std.proofs.Common.{rules}
use Rattle.numbers.proofs.Then.{reads}
use Rattle.packing.specs.Words.{word_at}
use Rattle.packing.proofs.Words.{word_out}
use Rattle.packing.proofs.word.Goals as goal

pub returns-in-Some : goal.returns-in-Some
unfolding word_at
returns-in-Some c = search (reads, rules)

pub returns-in-None : goal.returns-in-None
unfolding word_at
returns-in-None c = search (reads, rules)

pub returns : goal.returns
returns c = word_out _ _ c.if-i-s.false
