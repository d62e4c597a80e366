-- Small tries, one for each thing that a trie can do, with what each is to say: its exports with their names, how many nodes are visited,
-- and how it ends.
use Rattle.std.specs.Prelude.{ℕ, zero, suc, ◌+◌, ◌/◌, ◌%◌, List, [], ◌∷◌, Some}
use Rattle.nodes.specs.Exported.{Exported, Target, regular, reexport, stub_and_resolver}
use Rattle.nodes.specs.Symbols.{symbol, at_end, at_refusal}
use Rattle.trie.specs.Joined.{Joined, joined}

abbrev pub exports : (flags : ℕ) → Target → Exported
exports flags target = record { flags = flags; target = target }

-- a trie, the room for a name, and what it is to say
pub record Sample : Type 0 where
  pub bytes : List ℕ
  pub room : ℕ
  pub says : Joined

-- no bytes
abbrev pub empty : List ℕ
empty = []

-- the root is an export, and so is its child at the end of an empty edge
abbrev pub empty_edge : List ℕ
empty_edge = 0x02 ∷ 0x00 ∷ 0x05 ∷ 0x01 ∷ 0x00 ∷ 0x06 ∷ 0x02 ∷ 0x00 ∷ 0x07 ∷ 0x00 ∷ []

-- two edges, `ab` and `c`, to one node
abbrev pub shared : List ℕ
shared = 0x00 ∷ 0x02 ∷ 0x61 ∷ 0x62 ∷ 0x00 ∷ 0x09 ∷ 0x63 ∷ 0x00 ∷ 0x09 ∷ 0x02 ∷ 0x01 ∷ 0x10 ∷ 0x00 ∷ []

-- the child of the root has the root for its child
abbrev pub loop : List ℕ
loop = 0x00 ∷ 0x01 ∷ 0x61 ∷ 0x00 ∷ 0x05 ∷ 0x00 ∷ 0x01 ∷ 0x62 ∷ 0x00 ∷ 0x00 ∷ []

-- a child whose edge has no offset; and one whose offset leads out of the bytes
abbrev pub cut_edge : List ℕ
cut_edge = 0x00 ∷ 0x01 ∷ 0x61 ∷ []

abbrev pub cut_node : List ℕ
cut_node = 0x00 ∷ 0x01 ∷ 0x61 ∷ 0x00 ∷ 0x09 ∷ []

-- a re-export of `_x` from library 1, with a spare byte in its area; below it a stub with a resolver
abbrev pub kinds : List ℕ
kinds =
    0x06 ∷ 0x08 ∷ 0x01 ∷ 0x5f ∷ 0x78 ∷ 0x00 ∷ 0xff ∷ 0x01 ∷ 0x61 ∷ 0x00 ∷ 0x0b ∷ 0x03 ∷ 0x10 ∷ 0x20 ∷ 0x30 ∷ 0x00 ∷ []

-- a node whose flags are 0x40; one whose export data run out of its area, and not of the bytes
abbrev pub unknown_flags : List ℕ
unknown_flags = 0x02 ∷ 0x40 ∷ 0x00 ∷ 0x00 ∷ []

abbrev pub short_area : List ℕ
short_area = 0x01 ∷ 0x00 ∷ 0x00 ∷ 0x00 ∷ []

-- a row of nodes, each the only child of the one before, along empty edges; n of them have a child
unfoldable pub row : (n at : ℕ) → List ℕ
row zero at = 0x00 ∷ 0x00 ∷ []
row (suc n) at = 0x00 ∷ 0x01 ∷ 0x00 ∷ ((at + 5) % 128 + 128) ∷ ((at + 5) / 128) ∷ row n (at + 5)

abbrev pub samples : List Sample
samples =
    record { bytes = empty; room = 9; says = joined [] 0 (Some (at_refusal 15)) }
    ∷ record { bytes = empty_edge; room = 0; says = joined (symbol [] (exports 0x00 (regular 5)) ∷ symbol [] (exports 0x00 (regular 7)) ∷ []) 2 (Some at_end) }
    ∷ record { bytes = shared; room = 2; says = joined (symbol (0x61 ∷ 0x62 ∷ []) (exports 0x01 (regular 0x10)) ∷ symbol (0x63 ∷ []) (exports 0x01 (regular 0x10)) ∷ []) 3 (Some at_end) }
    ∷ record { bytes = shared; room = 1; says = joined [] 1 (Some (at_refusal 18)) }
    ∷ record { bytes = loop; room = 9; says = joined [] 2 (Some (at_refusal 16)) }
    ∷ record { bytes = loop; room = 1; says = joined [] 2 (Some (at_refusal 18)) }
    ∷ record { bytes = kinds; room = 9; says = joined (symbol [] (exports 0x08 (reexport 1 3 2)) ∷ symbol (0x61 ∷ []) (exports 0x10 (stub_and_resolver 0x20 0x30)) ∷ []) 2 (Some at_end) }
    ∷ record { bytes = unknown_flags; room = 9; says = joined [] 0 (Some (at_refusal 15)) }
    ∷ record { bytes = short_area; room = 9; says = joined [] 0 (Some (at_refusal 15)) }
    ∷ []

-- 256 open nodes, and one more
abbrev pub rows : List Sample
rows =
    record { bytes = row 255 0; room = 0; says = joined [] 256 (Some at_end) }
    ∷ record { bytes = row 256 0; room = 0; says = joined [] 256 (Some (at_refusal 17)) }
    ∷ []
