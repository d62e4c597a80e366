-- `trie::frames::still_open` counts the open nodes up to the last that has a child left. Assumes nothing.
use Rattle.std.proofs.Common.{rules, sym}
use Rattle.trie.proofs.Searches.{open_none, open_to}
use Rattle.trie.proofs.frames.still_open.Goals as goal

pub returns-in-Some : goal.returns-in-Some
returns-in-Some c = let e = open_to c.args.left.now c.in-Some.top (search rules) (search rules) (search rules) in (sym e, search rules)

pub returns-in-None : goal.returns-in-None
returns-in-None c = let e = open_none c.args.left.now (search rules) in (sym e, search rules)
