-- Page starts and chained pointers, as mach-o/fixup-chains.h has them.
use Rattle.std.specs.Prelude.{ℕ, ◌+◌, ◌-◌, ◌*◌, ◌%◌, ◌^◌, Bool, cond, ◌||◌, List, ◌==◌, bit_or, nat_le, nat_lt, Option, None}
use Rattle.chains.specs.FixupChains.{bits}
use Rattle.chains.specs.declared.Segment.{Segment}
use Rattle.numbers.specs.LittleEndian.{field_at}
use Rattle.pages.specs.declared.Patch.{Patch}
use Rattle.pages.specs.declared.pointer.Fixup.{Fixup}
use Rattle.pages.specs.declared.pointer.Fixup.TheVariants.{Rebase, Bind}

-- ---- starts, of two bytes each: one for each page, then the lists of chains

-- a start of a segment, and the place behind it
unfoldable pub start_at : List ℕ → Segment → (index : ℕ) → Option (ℕ × ℕ)
start_at s g index = cond (nat_lt index g.count) (field_at 2 s (g.place + 2 * index)) None

-- DYLD_CHAINED_PTR_START_NONE: the page has no chain
abbrev pub is_none : (start : ℕ) → Bool
is_none start = start == 0xffff

-- 0x8000. Of a page, DYLD_CHAINED_PTR_START_MULTI: it has a list of chains. Of an entry of such a list, DYLD_CHAINED_PTR_START_LAST: it is
-- the last
abbrev pub is_marked : (start : ℕ) → Bool
is_marked start = nat_le 0x8000 start

-- without the mark: an index in the starts, or an offset in the page
abbrev pub unmarked : (start : ℕ) → ℕ
unmarked start = bits 0 15 start

-- ---- formats of pointers

-- DYLD_CHAINED_PTR_64, DYLD_CHAINED_PTR_32 and DYLD_CHAINED_PTR_64_OFFSET
abbrev pub is_format : (format : ℕ) → Bool
is_format format = format == 2 || format == 3 || format == 6

abbrev pub is_narrow : (format : ℕ) → Bool
is_narrow format = format == 3

-- the bytes of a pointer
abbrev pub width_of : (format : ℕ) → ℕ
width_of format = cond (is_narrow format) 4 8

-- what is taken off a target: the preferred load address, or 0 where targets are offsets already
abbrev pub base_of : (format base : ℕ) → ℕ
base_of format base = cond (format == 6) 0 base

-- the bytes that `next` counts
abbrev pub stride : ℕ
stride = 4

-- ---- pointers

-- what the loader makes of a pointer: it is to be this far from the start of the image
abbrev pub rebase : (target : ℕ) → Fixup
rebase target = Rebase (record { target = target })

-- or the import of this index, and so much more
abbrev pub bind : (ordinal addend : ℕ) → Fixup
bind ordinal addend = Bind (record { ordinal = ordinal; addend = addend })

-- modulo 2^64
abbrev pub minus : (target base : ℕ) → ℕ
minus target base = (target + 2 ^ 64 - base) % 2 ^ 64

-- first bits, and widths in brackets:
-- dyld_chained_ptr_64_rebase: target 0 (36), high8 36 (8), reserved 44 (7), next 51 (12), bind 63 (1)
-- dyld_chained_ptr_64_bind: ordinal 0 (24), addend 24 (8), reserved 32 (19), next 51 (12), bind 63 (1)
unfoldable pub wide_fixup : (base n : ℕ) → Fixup
wide_fixup base n =
    cond (bits 63 1 n == 1)
    (bind (bits 0 24 n) (bits 24 8 n))
    (rebase (bit_or (minus (bits 0 36 n) base) (bits 36 8 n * 2 ^ 56)))

-- dyld_chained_ptr_32_rebase: target 0 (26), next 26 (5), bind 31 (1)
-- dyld_chained_ptr_32_bind: ordinal 0 (20), addend 20 (6), next 26 (5), bind 31 (1)
unfoldable pub narrow_fixup : (base n : ℕ) → Fixup
narrow_fixup base n =
    cond (bits 31 1 n == 1)
    (bind (bits 0 20 n) (bits 20 6 n))
    (rebase (minus (bits 0 26 n) base))

unfoldable pub fixup_of : (format base n : ℕ) → Fixup
fixup_of format base n = cond (is_narrow format) (narrow_fixup (base_of format base) n) (wide_fixup (base_of format base) n)

-- how many bytes after a pointer the next one is; 0 ends the chain
unfoldable pub next_of : (format n : ℕ) → ℕ
next_of format n = stride * cond (is_narrow format) (bits 26 5 n) (bits 51 12 n)

-- a fixup with its place in the segment
abbrev pub patch : (place : ℕ) → Fixup → Patch
patch place x = record { place = place; fixup = x }
