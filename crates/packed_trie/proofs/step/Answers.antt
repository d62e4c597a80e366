-- `packed_trie::step` answers and writes what a step is defined to. Assumes nothing.
use Rattle.std.proofs.Common.{sym, ◌∙◌}
use Rattle.packed_trie.proofs.Flags.{holds_long}
use Rattle.packed_trie.proofs.Steps.{stepped_as}
use Rattle.packed_trie.proofs.step.Goals as goal

pub held-requires : goal.held-requires
held-requires c = holds_long c.args.state.now (sym c.is_state.ensures ∙ c.if-not-is_state.false)

pub keep-requires : goal.keep-requires
keep-requires c = holds_long c.args.state.now (sym c.is_state.ensures ∙ c.if-not-is_state.false)

pub returns : goal.returns
returns c =
    stepped_as c.args.s.now c.args.limit c.args.state.now c.args.name.now c.args.item.now c.if-item-ne-ITEM_BYTES.false
    (sym c.is_state.ensures ∙ c.if-not-is_state.false) c.held.ensures c.step-visits.ensures
    c.keep.ensures c.write.ensures c.words.ensures c.number.ensures
