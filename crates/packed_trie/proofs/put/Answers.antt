-- `packed_trie::put` writes words over a part. Assumes nothing.
use Rattle.packed_trie.proofs.Kept.{put_as}
use Rattle.packed_trie.proofs.put.Goals as goal

pub returns : goal.returns
returns c = put_as _ _ _ c.requires c.write.ensures
