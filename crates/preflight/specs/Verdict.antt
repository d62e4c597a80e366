-- The verdict on a stream, read off what it lists: a pass where the listing ends without refusal and every entry lies inside its segment;
-- else the first fault, with the position of its operation and its index in the repeat.
use Rattle.std.specs.Prelude.{ℕ, Bool, true, false, cond, ◌&&◌, ◌||◌, List, [], ◌∷◌, eqb, leb, ltb, length, get_or}
use Rattle.cursor.specs.Cursor.{is_pointer_size}
use Rattle.listing.specs.Listing.{Listing, ends, refuses, lists, listing}
use Rattle.listing.specs.Machine.{Place, Machine}
use Rattle.places.specs.Places.{fits, largest_size}
use Rattle.refusal.specs.Numbers.{number_of}
use Rattle.refusal.specs.declared.Refusal.TheVariants.{PointerSize, PlaceOutside, UnfitSizes}

pub data Verdict : Type 0 where
  pass : (operations : ℕ) → Verdict  -- so many were read, Done included
  fault : (number position index : ℕ) → Verdict

-- ---- a place inside its segment

-- the width of a place, by the pointer size and its type. Two types of mach-o/loader.h are text relocations, of 32 bits: in rebases
-- REBASE_TYPE_TEXT_ABSOLUTE32 and REBASE_TYPE_TEXT_PCREL32, in binds BIND_TYPE_TEXT_ABSOLUTE32 and BIND_TYPE_TEXT_PCREL32
abbrev pub width_of : (size kind : ℕ) → ℕ
width_of size kind = cond (eqb kind 2 || eqb kind 3) 4 size  -- TEXT_ABSOLUTE32 or TEXT_PCREL32

-- its segment is below the number of sizes, and its width at its offset fits in that size
unfoldable pub inside : (size : ℕ) (sizes : List ℕ) → Place → Bool
inside size sizes p = ltb p.segment (length sizes) && fits (width_of size p.kind) (get_or sizes p.segment 0) p.offset

-- ---- a listing

module _ {Op Reg Item : Type 0} (M : Machine Op Reg Item) (size : ℕ) (sizes : List ℕ) where
  -- the first entry that is outside, else how the listing ends
  unfoldable pub verdict : Listing Item → Verdict
  verdict (ends operations) = pass operations
  verdict (refuses number position) = fault number position 0
  verdict (lists position index x rest) =
      elim (inside size sizes (M.place x)) [
        | true ↦ verdict rest
        | false ↦ fault (number_of PlaceOutside) position index
      ]

-- ---- a stream, walked from the registers of a start

abbrev pub all_small : List ℕ → Bool
all_small [] = true
all_small (z ∷ sizes) = leb z largest_size && all_small sizes

-- not more than 16, and none above 2^62
abbrev pub fit_sizes : List ℕ → Bool
fit_sizes sizes = leb (length sizes) 16 && all_small sizes

-- 21 comes before any byte of the stream
unfoldable pub with_sizes : {Op Reg Item : Type 0} (M : Machine Op Reg Item) → Reg → (size : ℕ) (sizes s : List ℕ) → Verdict
with_sizes M start size sizes s =
    cond (fit_sizes sizes) (verdict M size sizes (listing M size start s)) (fault (number_of UnfitSizes) 0 0)

-- and 1 before 21
unfoldable pub preflight : {Op Reg Item : Type 0} (M : Machine Op Reg Item) → Reg → (size : ℕ) (sizes s : List ℕ) → Verdict
preflight M start size sizes s = cond (is_pointer_size size) (with_sizes M start size sizes s) (fault (number_of PointerSize) 0 0)
