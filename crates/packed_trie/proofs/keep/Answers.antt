-- `packed_trie::keep` writes the words of a state, and behind them its bytes. Assumes nothing.
use Rattle.std.proofs.Common.{rules}
use Rattle.packed_trie.proofs.Kept.{kept}
use Rattle.packed_trie.proofs.keep.Goals as goal

pub returns : goal.returns
returns c =
    kept c.args.w.now c.args.state.now c.requires (search rules) (search rules) (search rules) c.bit.ensures
    c.put.ensures c.put-2.ensures c.put-3.ensures c.put-4.ensures c.copy_from_slice.ensures.after
