-- A child of an open node, from its edge on.
use Rattle.std.specs.Prelude.{ℕ, Bool, false, cond, ◌||◌, List, [], ◌∷◌, eqb, Result, Ok, Err}
use Rattle.nodes.specs.ExportsTrie.{then_read, node_at}
use Rattle.nodes.specs.declared.node.Edge.{Edge}
use Rattle.nodes.specs.declared.node.Node.{Node}
use Rattle.refusal.specs.declared.Refusal.{Refusal}
use Rattle.refusal.specs.declared.Refusal.TheVariants.{FaultyNode, ChildIsOpen}

-- its edge and its node, or why it is not entered
abbrev pub Child : Type 0
Child = Result (Edge × Node) Refusal

-- whether one of a list passes a test
unfoldable pub any : (ℕ → Bool) → List ℕ → Bool
any p [] = false
any p (x ∷ xs) = p x || any p xs

abbrev pub is_one_of : ℕ → List ℕ → Bool
is_one_of x xs = any (λ y. eqb y x) xs

-- a child is entered, whose edge and offset are read: the offset is not that of an open node (16), and the node is read (15)
unfoldable pub entered_at : List ℕ → (isOpen : Bool) → Edge → Child
entered_at s isOpen e =
    cond isOpen (Err ChildIsOpen)
    (then_read (node_at s e.offset) (Err FaultyNode) (λ n. Ok (e, n)))
