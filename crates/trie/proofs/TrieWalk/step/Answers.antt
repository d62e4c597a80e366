-- `trie::TrieWalk::step` answers what the call is defined to: at each return the law for it. Assumes nothing.
use Rattle.std.proofs.Common.{arith}
use Rattle.trie.proofs.Calls.{is_out, is_ended, is_none, range_fits, is_begun, is_first}
use Rattle.trie.proofs.TrieWalk.step.Goals as goal

pub returns-then-out_of_range : goal.returns-then-out_of_range
returns-then-out_of_range c = is_out _ _ _ _ c.out_of_range.ensures c.if-out_of_range.true c.answer.ensures

pub returns-then-self : goal.returns-then-self
returns-then-self c = is_ended _ _ _ _ c.out_of_range.ensures c.if-out_of_range.false c.if-self.true c.answer-then-self.ensures

pub returns-then-limit-eq0 : goal.returns-then-limit-eq0
returns-then-limit-eq0 c =
    is_none _ _ _ _ c.out_of_range.ensures c.if-out_of_range.false c.if-self.false c.if-limit-eq0.true c.answer-then-limit-eq0.ensures

pub returns-then-self-eq0 : goal.returns-then-self-eq0
returns-then-self-eq0 c =
    is_first _ _ _ _ c.out_of_range.ensures c.if-out_of_range.false c.if-self.false c.if-limit-eq0.false c.if-self-eq0.true c.root.ensures

pub onward-requires : goal.onward-requires
onward-requires c = (range_fits _ _ _ _ _ c.out_of_range.ensures c.if-out_of_range.false, omega arith)

pub returns : goal.returns
returns c =
    is_begun _ _ _ _ c.out_of_range.ensures c.if-out_of_range.false c.if-self.false c.if-limit-eq0.false c.if-self-eq0.false c.onward.ensures
