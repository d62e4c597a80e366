-- `trie::child::read_child` reads a child as it is defined. Assumes nothing.
use Rattle.std.proofs.Common.{◌≡◌, rules, sym, ◌∙◌, Some}
use Rattle.nodes.specs.ExportsTrie.{edge_at}
use Rattle.trie.proofs.Children.{child_entered}
use Rattle.trie.proofs.child.read_child.Goals as goal

pub returns : goal.returns
returns c =
    let e : edge_at c.args.s.now c.args.place ≡ Some c.in_ok-edge.edge = search rules in
    child_entered _ _ _ _ _ e (sym c.is_long.ensures ∙ c.if-is_long.false) c.contains.ensures.value c.enter.ensures
