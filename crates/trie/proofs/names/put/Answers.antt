-- `trie::names::put` puts all the bytes, or none. Assumes nothing.
use Rattle.std.proofs.Common.{rules}
use Rattle.trie.proofs.Puts.{putting}
use Rattle.trie.proofs.names.put.Goals as goal

pub loop-i-init : goal.loop-i-init
loop-i-init c = search (putting, rules)

pub loop-i-preserved : goal.loop-i-preserved
loop-i-preserved c = search (putting, rules)

pub returns : goal.returns
returns c = search (putting, rules)
