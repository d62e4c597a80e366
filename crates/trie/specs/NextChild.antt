-- The next child of an open node: what is read of it, and what refuses it but for the number of open nodes.
use Rattle.std.specs.Prelude.{ℕ, ◌+◌, cond, List, ltb, Err}
use Rattle.nodes.specs.Child.{Child, is_one_of, entered_at}
use Rattle.nodes.specs.ExportsTrie.{then_read, edge_at}
use Rattle.refusal.specs.declared.Refusal.TheVariants.{FaultyNode, NameTooLong}

-- in this order: edge and offset are read (15), the name fits the room (18), the child is entered (16, 15). Behind these comes 17
-- (`opening` in Call.antt), and only then is its edge put into the buffer. `ancestors` has the offsets of the open nodes, `kept` is the length of the
-- parent's name, `place` where the edge is
unfoldable pub child_at : List ℕ → (room : ℕ) (ancestors : List ℕ) (kept place : ℕ) → Child
child_at s room ancestors kept place =
    then_read (edge_at s place) (Err FaultyNode)
    (λ e.
    cond (ltb room (kept + e.name.length)) (Err NameTooLong)
    (entered_at s (is_one_of e.offset ancestors) e))
