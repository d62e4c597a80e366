-- The places of one operation: where they are, whether one lies inside a segment, and the first that does not.
use Rattle.std.specs.Prelude.{ℕ, zero, suc, ◌+◌, ◌*◌, ◌%◌, ◌^◌, Bool, true, false, cond, nat_le}
use Rattle.places.specs.declared.Judged.{Judged}
use Rattle.places.specs.declared.Judged.TheVariants.{Inside, Outside, TooLarge}

-- place i of a repeat whose place 0 is at an offset
unfoldable pub place_at : (offset advance i : ℕ) → ℕ
place_at offset advance i = (offset + i * advance) % 2 ^ 64

-- so many bytes at an offset lie inside a segment of a size; the sum is one of natural numbers, and does not wrap
unfoldable pub fits : (width size offset : ℕ) → Bool
fits width size offset = nat_le (offset + width) size

-- of n places from place i on, the first that is outside; if there is none, where place i + n would be
unfoldable pub judged_from : (offset advance width size i n : ℕ) → Judged
judged_from offset advance width size i zero = Inside (place_at offset advance i)
judged_from offset advance width size i (suc n) =
    elim (fits width size (place_at offset advance i)) [
      | true ↦ judged_from offset advance width size (suc i) n
      | false ↦ Outside i
    ]

-- the largest segment that places are judged in
abbrev pub largest_size : ℕ
largest_size = 2 ^ 62

-- place 0 and so many more, in a segment that is not too large
unfoldable pub judged_of : (offset advance left width size : ℕ) → Judged
judged_of offset advance left width size =
    cond (nat_le size largest_size) (judged_from offset advance width size 0 (suc left)) TooLarge
