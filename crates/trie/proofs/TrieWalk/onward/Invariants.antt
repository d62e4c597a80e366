-- What the loop of `trie::TrieWalk::onward` keeps from visit to visit.
use Rattle.std.proofs.Common.{◌-◌}
use Rattle.trie.proofs.Visits.{Going}
use Rattle.trie.proofs.TrieWalk.onward.Given as goal

abbrev pub invariant-loop-self : goal.invariant-loop-self
invariant-loop-self l = Going l.s l.fn.self l.limit l.fn.done l.fn.from l.fn.name l.w l.name l.visits

abbrev pub decreases-loop-self : goal.decreases-loop-self
decreases-loop-self l = l.limit - l.visits
