-- `trie::TrieWalk::root` visits the root as it is defined to: at each way that it goes the law for it. Assumes nothing.
use Rattle.std.proofs.Common.{rules}
use Rattle.trie.proofs.Calls.{no_root, root_exports, root_on}
use Rattle.trie.proofs.TrieWalk.root.Goals as goal

pub returns-in_default : goal.returns-in_default
returns-in_default c = no_root _ _ _ _ c.read_node.ensures (search rules) c.refused.ensures

pub returns-in_default-terminal : goal.returns-in_default-terminal
returns-in_default-terminal c = root_on _ _ _ _ c.read_node.ensures {n = c.in-Some.node} (search rules) (search rules) c.onward.ensures

pub returns : goal.returns
returns c = root_exports _ _ _ _ c.read_node.ensures {n = c.in-Some.node} (search rules) (search rules) c.answer.ensures
