-- The small tries say what they are to say. Assumes nothing.
use Prim.Native.Nat.{ℕ}
use mathlib.Core.Path.{◌≡◌, refl}
use mathlib.Core.List.{List, [], ◌∷◌, ◌++◌, map}
use lib.ListN.{replicate}
use Rattle.nodes.specs.Child.{any, entered_at}
use Rattle.nodes.specs.ExportsTrie.{regular_at, stub_at, reexport_at, export_at, then_read, counted_at, node_at, edge_at}
use Rattle.nodes.specs.Listing.{Visit, Choice, entered, child_by, children_by, subtree_by, listing_by, listing}
use Rattle.nodes.specs.Symbols.{exports_in, visits_in, ending_of}
use Rattle.numbers.specs.Digits.{from_digits}
use Rattle.numbers.specs.Leb128.{uleb_at}
use Rattle.numbers.specs.Parts.{part_of}
use Rattle.numbers.specs.Spans.{span_to}
use Rattle.numbers.specs.Strings.{string_at}
use Rattle.numbers.specs.Then.{then}
use Rattle.runs.specs.Runs.{Run, stops, fails, ◌then◌}
use Rattle.trie.specs.Call.{at_start, at_depth, marked, put, end, refused, replied, visited, visit_child, onward, visit_root, go_on, call}
use Rattle.trie.specs.Frames.{top_down, out_of_range, still_open}
use Rattle.trie.specs.Joined.{calls, joined_in}
use Rattle.trie.specs.NextChild.{child_at}
use Rattle.worked.specs.Tries.{Sample, loop, cut_edge, cut_node, row, samples, rows}

-- each lists it
tries_list : map (λ (x : Sample). joined_in (listing x.bytes x.room 256)) (samples ++ rows) ≡ map (λ (x : Sample). x.says) (samples ++ rows)
unfolding row uleb_at string_at span_to from_digits part_of then regular_at stub_at reexport_at export_at then_read counted_at node_at edge_at any entered_at ◌then◌ entered child_by children_by subtree_by listing_by exports_in visits_in ending_of
tries_list = refl

-- and calls say it, with these limits as with any (crates/trie/proofs/Joined.antt)
tries_call : map (λ (x : Sample). calls 256 x.bytes (at_start 256) (replicate x.room 0) (1 ∷ 0 ∷ 1 ∷ 300 ∷ 7 ∷ 300 ∷ [])) (samples ++ rows) ≡ map (λ (x : Sample). x.says) (samples ++ rows)
unfolding row uleb_at string_at span_to from_digits part_of then regular_at stub_at reexport_at export_at then_read counted_at node_at edge_at any entered_at child_at top_down out_of_range still_open put visited visit_child onward visit_root go_on call calls
tries_call = refl

-- ---- states that only a host can make up

-- more than 256 open nodes are 19
deep_refused : call 256 loop 9 (at_depth 257 (at_start 256)) [] ≡ replied (refused 19) (at_depth 257 (at_start 256)) 0 []
unfolding out_of_range call
deep_refused = refl

-- a walk that has ended says End, and has no node open
ended_stays : call 256 loop 9 (marked (at_start 256)) [] ≡ replied end (marked (at_start 256)) 0 []
unfolding top_down any out_of_range call
ended_stays = refl

-- ---- how many nodes may be open

-- of two nodes, where none may be, and where one may be
few_open : map (λ (most : ℕ). ending_of (listing loop 9 most)) (0 ∷ 1 ∷ 2 ∷ []) ≡ map (λ (number : ℕ). ending_of (fails number)) (17 ∷ 17 ∷ 16 ∷ [])
unfolding uleb_at string_at span_to from_digits part_of then counted_at node_at edge_at then_read any entered_at ◌then◌ entered child_by children_by subtree_by listing_by ending_of
few_open = refl

-- ---- a choice at each edge

-- one that stops at every child with a number; and one that passes every child by
abbrev stopping : (number : ℕ) → Choice Visit
stopping number name e enters passes = fails number

abbrev passing : Choice Visit
passing name e enters passes = passes

abbrev by : Choice Visit → List ℕ → Run Visit
by choice s = listing_by s choice (λ v. v) 256

-- an edge that is cut is faulty before there is a choice; one whose node is faulty is not, and where the child is passed by nothing is
choices_tell : map (λ (l : Run Visit). ending_of l)
    (by (stopping 29) cut_edge ∷ by (stopping 29) cut_node ∷ by passing cut_edge ∷ by passing cut_node ∷ listing cut_edge 9 256 ∷ listing cut_node 9 256 ∷ [])
    ≡ map (λ (l : Run Visit). ending_of l) (fails 15 ∷ fails 29 ∷ fails 15 ∷ stops ∷ fails 15 ∷ fails 15 ∷ [])
unfolding uleb_at string_at span_to from_digits part_of then counted_at node_at edge_at then_read any entered_at ◌then◌ entered child_by children_by subtree_by listing_by ending_of
choices_tell = refl
