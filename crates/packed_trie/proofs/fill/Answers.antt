-- `packed_trie::fill` reads word by word. Assumes nothing.
use Rattle.std.proofs.Common.{refl, arith}
use Rattle.packing.proofs.Reading.{reads_none, reads_on, reads_whole}
use Rattle.packed_trie.proofs.fill.Goals as goal

pub loop-i-init : goal.loop-i-init
loop-i-init c = reads_none _ _ _ _ (omega arith)

pub loop-i-preserved : goal.loop-i-preserved
loop-i-preserved c = reads_on c.loop-i.invariant refl c.word.ensures c.loop-i-test.true

pub returns : goal.returns
returns c = reads_whole c.loop-i.invariant c.loop-i-test.false
