-- `trie::frames::out_of_range` tests as it is defined to. Assumes nothing.
use Rattle.std.proofs.Common.{arith}
use Rattle.trie.proofs.Searches.{too_many, place_out, name_out}
use Rattle.trie.proofs.frames.out_of_range.Goals as goal

pub returns-then-depth-gt-MOST : goal.returns-then-depth-gt-MOST
returns-then-depth-gt-MOST c = too_many _ _ _ _ _ c.if-depth-gt-MOST.true

pub returns-then-one_above : goal.returns-then-one_above
returns-then-one_above c = place_out _ _ _ _ _ c.if-depth-gt-MOST.false (omega arith) c.one_above.ensures c.if-one_above.true

pub returns-else-one_above : goal.returns-else-one_above
returns-else-one_above c =
    name_out _ _ _ _ _ c.if-depth-gt-MOST.false (omega arith) c.one_above.ensures c.if-one_above.false (omega arith) c.one_above-else-one_above.ensures
