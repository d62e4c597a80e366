-- `trie::TrieWalk::onward` visits as its definition does: at each way that a turn goes the law for it. Assumes nothing.
use Rattle.std.proofs.Common.{arith, rules}
use Rattle.trie.proofs.Visits.{child_left, ends, pauses, refuses, name_fits, full, exports, goes_on}
use Rattle.trie.proofs.TrieWalk.onward.Goals as goal

pub returns-then-depth-eq0 : goal.returns-then-depth-eq0
returns-then-depth-eq0 c = ends c.loop-self.invariant c.still_open-depth.ensures.0 c.if-depth-eq0.true c.answer.ensures

pub returns-then-limit-visits : goal.returns-then-limit-visits
returns-then-limit-visits c =
    pauses c.loop-self.invariant c.still_open-depth.ensures.0 c.if-depth-eq0.false c.if-limit-visits.true c.answer-then-limit-visits.ensures

pub returns-in-Err : goal.returns-in-Err
returns-in-Err c =
    refuses c.loop-self.invariant c.still_open-depth.ensures.0 c.if-depth-eq0.false c.if-limit-visits.false c.read_child.ensures c.in-Err.is c.refused.ensures

pub returns-then-depth-ge-MOST : goal.returns-then-depth-ge-MOST
returns-then-depth-ge-MOST c =
    full c.loop-self.invariant c.still_open-depth.ensures.0 c.if-depth-eq0.false c.if-limit-visits.false c.read_child.ensures c.in-Ok.is c.if-depth-ge-MOST.true c.refused-then-depth-ge-MOST.ensures

pub overflow_add-length : goal.overflow_add-length
overflow_add-length c =
    let h = name_fits c.loop-self.invariant c.still_open-depth.ensures.0 c.if-depth-eq0.false c.if-limit-visits.false c.read_child.ensures c.in-Ok.is in
    omega (arith, h)

pub overflow_sub-w : goal.overflow_sub-w
overflow_sub-w c = child_left c.loop-self.invariant c.still_open-depth.ensures.0 c.if-depth-eq0.false

pub loop-self-preserved : goal.loop-self-preserved
loop-self-preserved c =
    goes_on c.loop-self.invariant c.still_open-depth.ensures.0 c.if-depth-eq0.false c.if-limit-visits.false c.read_child.ensures c.in-Ok.is c.if-depth-ge-MOST.false _ c.of.ensures c.put.ensures c.put.auto.name (search rules)

pub returns-in-Some : goal.returns-in-Some
returns-in-Some c =
    exports c.loop-self.invariant c.still_open-depth.ensures.0 c.if-depth-eq0.false c.if-limit-visits.false c.read_child.ensures c.in-Ok.is c.if-depth-ge-MOST.false _ c.of.ensures c.put.ensures c.in-Some.is c.answer-in-Some.ensures
