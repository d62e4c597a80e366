-- What the loop of `packed_trie::fill` keeps: the words below the index are read.
use Rattle.packing.proofs.Reading.{Reading}
use Rattle.packed_trie.specs.Packed.{most}
use Rattle.packed_trie.proofs.fill.Given as goal

abbrev pub invariant-loop-i : goal.invariant-loop-i
invariant-loop-i l = Reading l.s l.first most l.words l.i
