-- A start and a call of the walk over the pages of a segment: what they answer, and the state handed back, for any state and any bytes. `s`
-- are the bytes of the chained fixups, `d` those of the segment.
use Rattle.std.specs.Prelude.{ℕ, zero, suc, ◌+◌, ◌-◌, ◌*◌, ◌^◌, min, Bool, true, false, cond, not, ◌||◌, List, length, ◌==◌, nat_lt, Option, Some, None}
use Rattle.chains.specs.declared.Segment.{Segment}
use Rattle.numbers.specs.LittleEndian.{field_at}
use Rattle.numbers.specs.Then.{then}
use Rattle.pages.specs.ChainedPointers.{start_at, is_none, is_marked, unmarked, is_format, width_of}
use Rattle.pages.specs.ChainedPointers.{fixup_of, next_of, patch}
use Rattle.pages.specs.Due.{behind, pointer_due}
use Rattle.pages.specs.Farthest.{farthest}
use Rattle.pages.specs.declared.Due.{Due}
use Rattle.pages.specs.declared.Due.TheVariants.{NextPage, NextChain, PointerThenPage, PointerThenChain}
use Rattle.pages.specs.declared.PageWalk.{PageWalk}
use Rattle.pages.specs.declared.Patch.{Patch}
use Rattle.pages.specs.declared.search.Sought.{Sought}
use Rattle.pages.specs.declared.search.Sought.TheVariants as sought
use Rattle.refusal.specs.Numbers.{number_of}
use Rattle.refusal.specs.declared.Refusal.{Refusal}
use Rattle.refusal.specs.declared.Refusal.TheVariants.{UnsupportedFormat, BeyondStarts, PointerOutside, StateOutOfRange}
use Rattle.runs.specs.Runs.{Begin, begun, not_begun, Answer, item, end, refused}

-- ---- a start

-- whether the starts of a segment do not lie in so many bytes
abbrev pub starts_out : Segment → (len : ℕ) → Bool
starts_out g len = nat_lt len (g.place + 2 * g.count)

abbrev pub at_start : Segment → (base : ℕ) → PageWalk
at_start g base =
    record { segment = g; base = base; due = NextPage; page = 0; chain = 0; origin = 0; offset = 0; ended = false }

-- the record is state (19), but for its format (11)
unfoldable pub begin : List ℕ → Segment → (base : ℕ) → Begin PageWalk
begin s g base =
    cond (starts_out g (length s)) (not_begun (number_of StateOutOfRange))
    (cond (is_format g.pointer_format) (begun (at_start g base)) (not_begun (number_of UnsupportedFormat)))

-- ---- what becomes of a state

abbrev pub marked : PageWalk → PageWalk
marked w =
    record {
      segment = w.segment;
      base = w.base;
      due = w.due;
      page = w.page;
      chain = w.chain;
      origin = w.origin;
      offset = w.offset;
      ended = true;
    }

-- the same walk elsewhere
abbrev pub moved : PageWalk → (due : Due) → (page chain origin offset : ℕ) → PageWalk
moved w due page chain origin offset =
    record {
      segment = w.segment;
      base = w.base;
      due = due;
      page = page;
      chain = chain;
      origin = origin;
      offset = offset;
      ended = w.ended;
    }

-- the start of the next page is read
abbrev pub on_page : PageWalk → PageWalk
on_page w = moved w w.due (w.page + 1) w.chain (w.page * w.segment.page_size) w.offset

-- the start of a chain is due, of this index
abbrev pub to_chain : (index : ℕ) → PageWalk → PageWalk
to_chain index w = moved w NextChain w.page index w.origin w.offset

-- a pointer is due at an offset
abbrev pub to_pointer : Due → (offset : ℕ) → PageWalk → PageWalk
to_pointer due offset w = moved w due w.page w.chain w.origin offset

-- a pointer was read; the next of its chain is `next` bytes after it, 0 if it is the last. A sum above 2^64 - 1 becomes 2^64 - 1, where no
-- pointer lies
unfoldable pub onward : (next : ℕ) → PageWalk → PageWalk
onward next w =
    cond (next == 0)
    (moved w (behind w.due) w.page w.chain w.origin w.offset)
    (moved w w.due w.page w.chain w.origin (min (w.offset + next) (2 ^ 64 - 1)))

-- ---- the next pointer

module _ (s : List ℕ) where
  -- the start of a chain is due
  unfoldable pub chain : PageWalk → Option Sought
  chain w =
      then (start_at s w.segment w.chain) None
      (λ start after. Some (sought.At (to_pointer (pointer_due (not (is_marked start))) (w.origin + unmarked start) (to_chain (w.chain + 1) w))))

  -- a page by its start: a list of chains, or one chain
  unfoldable pub opened : PageWalk → (start : ℕ) → Option Sought
  opened w start = cond (is_marked start) (chain (to_chain (unmarked start) w)) (Some (sought.At (to_pointer PointerThenPage (w.origin + start) w)))

  -- the start of a page is due, and n pages are left
  unfoldable pub pages : (n : ℕ) → PageWalk → Option Sought
  pages zero w = Some (sought.End w)
  pages (suc n) w =
      then (start_at s w.segment w.page) None
      (λ start after. cond (is_none start) (pages n (on_page w)) (opened (on_page w) start))

  -- by what is due
  unfoldable pub sought_by : Due → PageWalk → Option Sought
  sought_by NextPage w = pages (w.segment.page_count - w.page) w
  sought_by NextChain w = chain w
  sought_by PointerThenPage w = Some (sought.At w)
  sought_by PointerThenChain w = Some (sought.At w)

  abbrev pub seek : PageWalk → Option Sought
  seek w = sought_by w.due w

-- ---- a call

-- any refusal but 19 hands back the state as given, marked as ended
abbrev pub refusing : (given : PageWalk) → Refusal → Answer PageWalk Patch
refusing given e = refused (number_of e) (marked given)

-- a pointer is due
unfoldable pub pointer : List ℕ → (given : PageWalk) → PageWalk → Answer PageWalk Patch
pointer d given w =
    let format = w.segment.pointer_format in
    then (field_at (width_of format) d w.offset) (refusing given PointerOutside)
    (λ n after. item (patch w.offset (fixup_of format w.base n)) (onward (next_of format n) w))

unfoldable pub answered : List ℕ → (given : PageWalk) → Option Sought → Answer PageWalk Patch
answered d given (Some (sought.At w)) = pointer d given w
answered d given (Some (sought.End w)) = end w
answered d given None = refusing given BeyondStarts

-- 19: the starts do not lie in the bytes, the format is not 2, 3 or 6, or the page's offset is above `farthest`. Indexes and the pointer's
-- offset may be any: they fall to 12 and 13
abbrev pub out_of_range : PageWalk → (len : ℕ) → Bool
out_of_range w len =
    starts_out w.segment len || (not (is_format w.segment.pointer_format) || nat_lt farthest w.origin)

unfoldable pub call : List ℕ → List ℕ → PageWalk → Answer PageWalk Patch
call s d w =
    cond (out_of_range w (length s)) (refused (number_of StateOutOfRange) w)
    (cond w.ended (end w)
    (answered d w (seek s w)))
