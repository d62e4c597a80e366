-- What the chains of a segment list: every fixup, page by page and chain by chain, each with its place in the segment
-- and the page that its chain was reached from; how that ends; and what of it a caller hears. `s` are the bytes of the
-- chained fixups, `d` those of the segment.
use Rattle.std.specs.Prelude.{ℕ, zero, suc, ◌+◌, ◌-◌, ◌*◌, cond, List, length, ◌==◌}
use Rattle.chains.specs.declared.Segment.{Segment}
use Rattle.numbers.specs.LittleEndian.{field_at}
use Rattle.numbers.specs.Then as read
use Rattle.pages.specs.ChainedPointers.{start_at, is_none, is_marked, unmarked, is_format, width_of}
use Rattle.pages.specs.ChainedPointers.{fixup_of, next_of, patch}
use Rattle.pages.specs.declared.Patch.{Patch}
use Rattle.refusal.specs.Numbers.{number_of}
use Rattle.refusal.specs.declared.Refusal.TheVariants.{UnsupportedFormat, BeyondStarts, PointerOutside}
use Rattle.runs.specs.Runs.{Run, stops, fails, gives, ◌then◌, mapped}

-- a page: its index, and its offset in the segment
pub record Page : Type 0 where
  pub index : ℕ
  pub origin : ℕ

abbrev pub page_at : Segment → (index : ℕ) → Page
page_at g index = record { index = index; origin = index * g.page_size }

-- a fixup, and the page that its chain was reached from, also where the chain runs on beyond that page
pub record Paged : Type 0 where
  pub page : Page
  pub patch : Patch

abbrev pub paged : Page → Patch → Paged
paged p x = record { page = p; patch = x }

abbrev pub outside : Run Paged
outside = fails (number_of PointerOutside)

abbrev pub beyond : Run Paged
beyond = fails (number_of BeyondStarts)

-- what follows a pointer at a place: nothing, or the rest of its chain, from the pointer that is `next` bytes after it
abbrev pub following : (rest : ℕ → Run Paged) (place next : ℕ) → Run Paged
following rest place next = cond (next == 0) stops (rest (place + next))

module _ (s d : List ℕ) (g : Segment) (base : ℕ) where
  -- so many pointers at most, of a chain that was reached from page p
  unfoldable pub chain_in : (p : Page) (most place : ℕ) → Run Paged
  chain_in p zero place = outside
  chain_in p (suc most) place =
      read.then (field_at (width_of g.pointer_format) d place) outside
      (λ n after.
      gives (paged p (patch place (fixup_of g.pointer_format base n)))
      (following (chain_in p most) place (next_of g.pointer_format n)))

  -- a chain, from a pointer on. There are no more pointers than bytes (so none is cut off: `chain_by`, proofs/Chains.antt)
  unfoldable pub chain : (p : Page) (place : ℕ) → Run Paged
  chain p place = chain_in p (length d) place

  -- the chains of a list, from an index on, where n starts are left
  unfoldable pub chains : (p : Page) (n index : ℕ) → Run Paged
  chains p zero index = beyond
  chains p (suc n) index =
      read.then (start_at s g index) beyond
      (λ start after. chain p (p.origin + unmarked start) then cond (is_marked start) stops (chains p n (index + 1)))

  -- a page by its start
  unfoldable pub page : (p : Page) (start : ℕ) → Run Paged
  page p start =
      cond (is_none start) stops
      (cond (is_marked start) (chains p (g.count - unmarked start) (unmarked start))
      (chain p (p.origin + start)))

  -- n pages from an index on
  unfoldable pub pages : (n index : ℕ) → Run Paged
  pages zero index = stops
  pages (suc n) index =
      read.then (start_at s g index) beyond (λ start after. page (page_at g index) start then pages n (index + 1))

  unfoldable pub listing : Run Paged
  listing = cond (is_format g.pointer_format) (pages g.page_count 0) (fails (number_of UnsupportedFormat))

-- a listing as a caller hears it: of pages nothing is said
abbrev pub heard : Run Paged → Run Patch
heard r = mapped (λ (e : Paged). e.patch) r
