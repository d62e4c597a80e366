-- What the loop of `trie::names::put` keeps: the bytes below the index are copied.
use Rattle.trie.proofs.Puts.{Copied}
use Rattle.trie.proofs.names.put.Given as goal

abbrev pub invariant-loop-i : goal.invariant-loop-i
invariant-loop-i l = Copied l.bytes l.fn.name l.at l.name l.i
