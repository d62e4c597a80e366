-- `packing::walks::Layout::begin` writes the state of a walk that begins. Assumes nothing.
use Rattle.std.proofs.Common.{rules}
use Rattle.packing.proofs.Crossing.{so_many, not_so_many, begins_unfit, begins, begins_not}
use Rattle.packing.proofs.walks.Layout.begin.Goals as goal

pub returns-then-not-has_words : goal.returns-then-not-has_words
returns-then-not-has_words g c =
    begins_unfit _ _ _ c.refused.ensures (not_so_many _ _ c.has_words.ensures c.if-not-has_words.true g.met.Self.Layout.state_long)

pub returns-in-Ok : goal.returns-in-Ok
returns-in-Ok g c =
    begins _ _ _ g.met.Self.Layout.state_long (so_many _ _ c.has_words.ensures c.if-not-has_words.false)
    _ c.in-Ok.is (search rules) c.state.ensures c.write.ensures

pub returns-in-Err : goal.returns-in-Err
returns-in-Err g c =
    begins_not _ _ _ g.met.Self.Layout.state_long (so_many _ _ c.has_words.ensures c.if-not-has_words.false) c.in-Err.is c.refused-in-Err.ensures
