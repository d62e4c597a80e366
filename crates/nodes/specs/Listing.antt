-- What a trie lists: nodes in preorder, edges in stored order, each node with its whole name; and how that ends. A node is open until its
-- whole subtree is listed: where a node is listed, the open ones are its ancestors. Of one child, in this order: its edge and its offset
-- are read (15); then there is a choice; a child that is entered is not at the offset of an open node (16), its node is read (15), and
-- there is room for one more open node (17).
use Rattle.std.specs.Prelude.{ℕ, zero, suc, ◌+◌, cond, List, [], ◌∷◌, ◌++◌, ltb, length, Option, Some, None, Ok, Err}
use Rattle.nodes.specs.Child.{Child, is_one_of, entered_at}
use Rattle.nodes.specs.ExportsTrie.{then_read, node_at, edge_at}
use Rattle.nodes.specs.declared.export.Export.{Export}
use Rattle.nodes.specs.declared.node.Edge.{Edge}
use Rattle.nodes.specs.declared.node.Node.{Node}
use Rattle.numbers.specs.Parts.{part_of}
use Rattle.refusal.specs.Numbers.{number_of}
use Rattle.refusal.specs.declared.Refusal.TheVariants.{FaultyNode, TooManyOpenNodes, NameTooLong}
use Rattle.runs.specs.Runs.{Run, stops, fails, gives, ◌then◌}

-- a node that is listed: its name, its offset, and what it exports
pub record Visit : Type 0 where
  pub name : List ℕ
  pub offset : ℕ
  pub terminal : Option Export

abbrev pub visit : List ℕ → ℕ → Option Export → Visit
visit name offset terminal = record { name = name; offset = offset; terminal = terminal }

-- ---- by a choice

-- what lists a node, with its name and its offset, and what is below it
abbrev pub Below : Type 0 → Type 0
Below Item = (ancestors name : List ℕ) (offset : ℕ) → Node → Run Item

-- what is listed of a child, by the name of its parent and its edge: `enters` if it is entered, with the children behind it; `passes` if it
-- is passed by, which is those alone; or a refusal
abbrev pub Choice : Type 0 → Type 0
Choice Item = (name : List ℕ) → Edge → (enters passes : Run Item) → Run Item

module _ {Item : Type 0} (s : List ℕ) where
  -- a child that is entered; `later` lists the children behind it, from their place on
  unfoldable pub entered : Below Item → (later : ℕ → Run Item) (ancestors name : List ℕ) → Child → Run Item
  entered below later ancestors name (Err e) = fails (number_of e)
  entered below later ancestors name (Ok (e, n)) =
      below ancestors (name ++ part_of s e.name.place e.name.length) e.offset n then later e.next

  module _ (choice : Choice Item) where
    unfoldable pub child_by : Below Item → (later : ℕ → Run Item) (ancestors name : List ℕ) → Option Edge → Run Item
    child_by below later ancestors name None = fails (number_of FaultyNode)
    child_by below later ancestors name (Some e) =
        choice name e (entered below later ancestors name (entered_at s (is_one_of e.offset ancestors) e)) (later e.next)

    -- n children, the first edge at a place
    unfoldable pub children_by : Below Item → (ancestors name : List ℕ) (n place : ℕ) → Run Item
    children_by below ancestors name zero place = stops
    children_by below ancestors name (suc n) place =
        child_by below (children_by below ancestors name n) ancestors name (edge_at s place)

    -- `listed` is what stands for a node that is listed
    module _ (listed : Visit → Item) where
      -- a node and what is below it, where k nodes more may be open, this one among them
      unfoldable pub subtree_by : (k : ℕ) → Below Item
      subtree_by zero ancestors name offset n = fails (number_of TooManyOpenNodes)
      subtree_by (suc k) ancestors name offset n =
          gives (listed (visit name offset n.terminal))
          (children_by (subtree_by k) (offset ∷ ancestors) name n.children n.place)

      -- from the root, where k nodes may be open at once
      unfoldable pub listing_by : (k : ℕ) → Run Item
      listing_by k = then_read (node_at s 0) (fails (number_of FaultyNode)) (λ n. subtree_by k [] [] 0 n)

-- ---- what a trie lists: every child is entered whose name is no longer than the room (18)

abbrev pub if_room : (room : ℕ) → Choice Visit
if_room room name e enters passes = cond (ltb room (length name + e.name.length)) (fails (number_of NameTooLong)) enters

module _ (s : List ℕ) (room : ℕ) where
  abbrev pub children : Below Visit → (ancestors name : List ℕ) (n place : ℕ) → Run Visit
  children = children_by s (if_room room)

  abbrev pub subtree : (k : ℕ) → Below Visit
  subtree = subtree_by s (if_room room) (λ v. v)

  abbrev pub listing : (k : ℕ) → Run Visit
  listing = listing_by s (if_room room) (λ v. v)
