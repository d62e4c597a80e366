-- `packing::walks::Layout::step` answers what the walk answers, where the bytes are those of a state. Assumes nothing.
use Rattle.std.proofs.Common.{rules, sym, ◌∙◌}
use Rattle.packing.proofs.Crossing.{so_many, not_so_many, holds_none, holds_some, value_some, steps_unfit, steps_not, steps}
use Rattle.packing.proofs.walks.Layout.step.Goals as goal

pub returns-then-not-has_words : goal.returns-then-not-has_words
returns-then-not-has_words g c call h =
    steps_unfit _ _ _ _ call c.refused.ensures (not_so_many _ _ c.has_words.ensures c.if-not-has_words.true g.met.Self.Layout.item_long)

pub returns-in_default : goal.returns-in_default
returns-in_default g c call h =
    steps_not _ _ _ _ call c.refused-in_default.ensures
    (so_many _ _ c.has_words.ensures c.if-not-has_words.false ∙ sym g.met.Self.Layout.item_long) (holds_none g.Self.Layout.states c.args.state.now c.held.ensures (search rules))

pub returns : goal.returns
returns g c call h =
    steps _ _ _ _ call _ _ (so_many _ _ c.has_words.ensures c.if-not-has_words.false ∙ sym g.met.Self.Layout.item_long)
    c.tell.ensures (h _ _ c.call.ensures) (value_some g.Self.Layout.states c.args.state.now c.held.ensures c.in-Some.is) (holds_some g.Self.Layout.states c.args.state.now c.held.ensures c.in-Some.is)
