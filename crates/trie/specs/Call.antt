-- One call of the walk: what it answers, the state that it hands back, how many nodes it visited, and what it leaves in the name buffer;
-- for any state. The first `depth` elements of the state's arrays are those of the open nodes, the one on top last. A walk that has no
-- node open and has not ended has not begun. `most` nodes may be open at once.
use Rattle.std.specs.Prelude.{ℕ, zero, suc, ◌+◌, ◌-◌, true, false, cond, List, ◌++◌, leb, eqb, length, get_or, set, take, drop, replicate, Option, Some, None, Ok, Err}
use Rattle.nodes.specs.Exported.{Exported, export_told}
use Rattle.nodes.specs.ExportsTrie.{node_at}
use Rattle.nodes.specs.declared.node.Edge.{Edge}
use Rattle.nodes.specs.declared.node.Node.{Node}
use Rattle.numbers.specs.Parts.{part_of}
use Rattle.refusal.specs.Numbers.{number_of}
use Rattle.refusal.specs.declared.Refusal.TheVariants.{FaultyNode, TooManyOpenNodes, StateOutOfRange}
use Rattle.trie.specs.Frames.{top_down, out_of_range, still_open}
use Rattle.trie.specs.NextChild.{child_at}
use Rattle.trie.specs.declared.TrieWalk.{TrieWalk}
use Rattle.nodes.specs.Child.{Child}
use Rattle.nodes.specs.declared.export.Export.{Export}

-- ---- the state

abbrev pub at_start : (most : ℕ) → TrieWalk
at_start most =
    record {
      places = replicate most 0;
      offsets = replicate most 0;
      left = replicate most 0;
      lengths = replicate most 0;
      depth = 0;
      ended = false;
    }

-- ---- what becomes of it

-- with so many nodes open
abbrev pub at_depth : (d : ℕ) → TrieWalk → TrieWalk
at_depth d w =
    record {
      places = w.places;
      offsets = w.offsets;
      left = w.left;
      lengths = w.lengths;
      depth = d;
      ended = w.ended;
    }

-- marked as ended
abbrev pub marked : TrieWalk → TrieWalk
marked w =
    record {
      places = w.places;
      offsets = w.offsets;
      left = w.left;
      lengths = w.lengths;
      depth = w.depth;
      ended = true;
    }

-- the nodes on top that have no child left to read are closed, down to the first that has one
abbrev pub closed : TrieWalk → TrieWalk
closed w = at_depth (still_open w.left w.depth) w

-- what an array has for the node on top
abbrev pub on_top : TrieWalk → List ℕ → ℕ
on_top w xs = get_or xs (w.depth - 1) 0

-- the next child of the node on top is read: its edge ends at `next`, and a child fewer is left
abbrev pub passed : (next : ℕ) → TrieWalk → TrieWalk
passed next w =
    record {
      places = set w.places (w.depth - 1) next;
      offsets = w.offsets;
      left = set w.left (w.depth - 1) (on_top w w.left - 1);
      lengths = w.lengths;
      depth = w.depth;
      ended = w.ended;
    }

-- a node is opened above d others
abbrev pub opened : (d place offset children len : ℕ) → TrieWalk → TrieWalk
opened d place offset children len w =
    record {
      places = set w.places d place;
      offsets = set w.offsets d offset;
      left = set w.left d children;
      lengths = set w.lengths d len;
      depth = d + 1;
      ended = w.ended;
    }

-- the root is opened
abbrev pub rooted : TrieWalk → Node → TrieWalk
rooted w n = opened 0 n.place 0 n.children 0 w

-- bytes are put into the buffer at a place; none where they do not fit (an edge does: 18 is tested before)
unfoldable pub put : (bytes buffer : List ℕ) (at : ℕ) → List ℕ
put bytes buffer at =
    cond (leb (at + length bytes) (length buffer))
    (take at buffer ++ bytes ++ drop (at + length bytes) buffer)
    buffer

-- ---- the next child of the node on top

-- what is read of it
abbrev pub child_of : List ℕ → (room : ℕ) → TrieWalk → Child
child_of s room w =
    child_at s room (top_down w.offsets w.depth) (on_top w w.lengths) (on_top w w.places)

-- the length of its name, the walk when it is opened, and the buffer with its edge
abbrev pub child_name : TrieWalk → Edge → ℕ
child_name w e = on_top w w.lengths + e.name.length

abbrev pub child_opened : TrieWalk → Edge → Node → TrieWalk
child_opened w e n =
    opened w.depth n.place e.offset n.children (child_name w e) (passed e.next w)

abbrev pub edge_put : List ℕ → TrieWalk → Edge → (buffer : List ℕ) → List ℕ
edge_put s w e b = put (part_of s e.name.place e.name.length) b (on_top w w.lengths)

-- ---- what a call comes to

pub data Answer : Type 0 where
  export : (len : ℕ) → Exported → Answer  -- its name is the first `len` bytes of the buffer
  more : Answer
  end : Answer
  refused : (number : ℕ) → Answer

-- what it answers, the state that it hands back, and how many nodes it visited
pub record Reply : Type 0 where
  pub answer : Answer
  pub walk : TrieWalk
  pub visits : ℕ

-- beside the reply the buffer as it is left, and the walk as it was reached, which a refusal does not hand back
pub record Outcome : Type 0 where
  pub reply : Reply
  pub buffer : List ℕ
  pub reached : TrieWalk

-- what is seen of it
abbrev pub seen : Outcome → Reply × List ℕ
seen o = (o.reply, o.buffer)

-- the walk that was reached is handed back
abbrev pub replied : Answer → TrieWalk → (visits : ℕ) (buffer : List ℕ) → Outcome
replied answer w n b = record { reply = record { answer = answer; walk = w; visits = n }; buffer = b; reached = w }

-- any refusal but 19 hands back the state as it was given, marked as ended; visits and buffer are those before it
abbrev pub refusing : (number : ℕ) (given reached : TrieWalk) (visits : ℕ) (buffer : List ℕ) → Outcome
refusing number given w n b =
    record { reply = record { answer = refused number; walk = marked given; visits = n }; buffer = b; reached = w }

-- ---- a call

-- a node is visited, the nth, whose name has this length: an export is answered, from any other node the call goes on
unfoldable pub visited : (on : (n : ℕ) → TrieWalk → List ℕ → Outcome) (len n : ℕ) → TrieWalk → List ℕ → Option Export → Outcome
visited on len n w b None = on n w b
visited on len n w b (Some x) = replied (export len (export_told x)) w n b

module _ (most : ℕ) (s : List ℕ) where
  -- a node is opened above d others, where one more may be; n nodes were visited before
  abbrev pub opening : (d : ℕ) (given : TrieWalk) (n : ℕ) → TrieWalk → List ℕ → (visit : Outcome) → Outcome
  opening d given n w b visit = cond (leb most d) (refusing (number_of TooManyOpenNodes) given w n b) visit

  -- the next child is visited
  unfoldable pub visit_child : (on : (n : ℕ) → TrieWalk → List ℕ → Outcome) (given : TrieWalk) (n : ℕ) → TrieWalk → List ℕ → Child → Outcome
  visit_child on given n w b (Err e) = refusing (number_of e) given w n b
  visit_child on given n w b (Ok (e, node)) =
      opening w.depth given n w b
      (visited on (child_name w e) (n + 1) (child_opened w e node) (edge_put s w e b) node.terminal)

  -- n nodes are visited, and k more may be. Finished nodes are closed before the limit is tested
  unfoldable pub onward : (given : TrieWalk) (k n : ℕ) → TrieWalk → List ℕ → Outcome
  onward given zero n w b =
      cond (eqb (closed w).depth 0) (replied end (marked (closed w)) n b)
      (replied more (closed w) n b)
  onward given (suc k) n w b =
      cond (eqb (closed w).depth 0) (replied end (marked (closed w)) n b)
      (visit_child (onward given k) given n (closed w) b (child_of s (length b) (closed w)))

  -- the root, and k nodes more may be visited
  unfoldable pub visit_root : (given : TrieWalk) (k : ℕ) → List ℕ → Option Node → Outcome
  visit_root given k b None = refusing (number_of FaultyNode) given given 0 b
  visit_root given k b (Some n) =
      opening 0 given 0 given b
      (visited (onward given k) 0 1 (rooted given n) b n.terminal)

  -- of a walk that has not ended: limit 0 says More and changes nothing
  unfoldable pub go_on : (limit : ℕ) → TrieWalk → List ℕ → Outcome
  go_on zero w b = replied more w 0 b
  go_on (suc k) w b = cond (eqb w.depth 0) (visit_root w k b (node_at s 0)) (onward w (suc k) 0 w b)

  -- 19 is tested first and returns the state as it came; then a walk that has ended says End, at any limit
  unfoldable pub call : (limit : ℕ) → TrieWalk → (buffer : List ℕ) → Outcome
  call limit w b =
      cond (out_of_range most w.places w.lengths w.depth (length s) (length b))
      (replied (refused (number_of StateOutOfRange)) w 0 b)
      (cond w.ended (replied end w 0 b)
      (go_on limit w b))
