-- A part of a slice: so many of its bytes from a place; none where place and length do not lie in it.
use Rattle.std.specs.Prelude.{ℕ, ◌+◌, cond, List, [], leb, length, take, drop}

-- its bytes
unfoldable pub part_of : List ℕ → ℕ → ℕ → List ℕ
part_of s at len = cond (leb (at + len) (length s)) (take len (drop at s)) []

-- where it lies, for a slice that lies at an offset in a block of memory
unfoldable pub lies_at : ℕ × ℕ → List ℕ → ℕ → ℕ → ℕ × ℕ
lies_at p s at len = cond (leb (at + len) (length s)) (p.0, p.1 + at) p

-- both: the part, and not a copy
abbrev pub part_at : ℕ × ℕ → List ℕ → ℕ → ℕ → (ℕ × ℕ) × List ℕ
part_at p s at len = (lies_at p s at len, part_of s at len)
