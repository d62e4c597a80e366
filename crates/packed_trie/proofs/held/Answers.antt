-- `packed_trie::held` reads the state that the bytes are. Assumes nothing.
use Rattle.packed_trie.proofs.Kept.{held_as}
use Rattle.packed_trie.proofs.held.Goals as goal

pub returns : goal.returns
returns c = held_as c.args.s.now c.requires c.fill.ensures c.fill-2.ensures c.fill-3.ensures c.copy_from_slice.ensures.after c.word.ensures c.word-2.ensures
