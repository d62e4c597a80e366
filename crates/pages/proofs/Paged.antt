-- The pages of what is listed: every patch is of a page that the segment has, and that page's offset is its index times
-- the page size. Assumes nothing.
use Rattle.std.proofs.Common.{◌≡◌, ℕ, zero, suc, ◌+◌, ◌-◌, ◌*◌, ◌<◌, ◌≤◌, eqb, List, length, refl, arith}
use Rattle.chains.specs.declared.Segment.{Segment}
use Rattle.numbers.proofs.Picks.{by_pick}
use Rattle.numbers.proofs.Then.{by_read}
use Rattle.numbers.specs.LittleEndian.{field_at}
use Rattle.pages.specs.ChainedPointers.{start_at, is_none, is_marked, unmarked, is_format, width_of, next_of}
use Rattle.pages.specs.Listing.{Page, page_at, Paged, paged, chain_in, chain, chains, page, pages, listing}
use Rattle.pages.specs.declared.Patch.{Patch}
use Rattle.runs.specs.Runs.{Run, stops, fails, gives, ◌then◌}

-- what holds of everything that is listed
abbrev pub Each : (Paged → Type 0) → Run Paged → Type 0
Each P stops = Unit {0}
Each P (fails number) = Unit {0}
Each P (gives e r) = P e × Each P r

each_then : (P : Paged → Type 0) (r q : Run Paged) → Each P r → Each P q → Each P (r then q)
unfolding ◌then◌
each_then P stops q h k = k
each_then P (fails number) q h k = tt
each_then P (gives e r) q h k = (h.0, each_then P r q h.1 k)

module _ (s d : List ℕ) (g : Segment) (base : ℕ) (P : Paged → Type 0) where
  -- what holds of whatever there is of a page
  module _ (p : Page) (h : (x : Patch) → P (paged p x)) where
    each_in : (most place : ℕ) → Each P (chain_in s d g base p most place)
    unfolding chain_in
    each_in zero place = tt
    each_in (suc most) place =
        by_read (field_at (width_of g.pointer_format) d place) _ _ (Each P) tt
        (λ n after e.
        (h _, by_pick (Each P) (eqb (next_of g.pointer_format n) 0) _ _ tt (each_in most (place + next_of g.pointer_format n))))

    each_chain : (place : ℕ) → Each P (chain s d g base p place)
    unfolding chain
    each_chain place = each_in (length d) place

    each_chains : (n index : ℕ) → Each P (chains s d g base p n index)
    unfolding chains
    each_chains zero index = tt
    each_chains (suc n) index =
        by_read (start_at s g index) _ _ (Each P) tt
        (λ start after e.
        each_then P _ _ (each_chain (p.origin + unmarked start))
        (by_pick (Each P) (is_marked start) _ _ tt (each_chains n (index + 1))))

    each_page : (start : ℕ) → Each P (page s d g base p start)
    unfolding page
    each_page start =
        by_pick (Each P) (is_none start) _ _ tt
        (by_pick (Each P) (is_marked start) _ _ (each_chains (g.count - unmarked start) (unmarked start))
        (each_chain (p.origin + start)))

  module _ (h : (index : ℕ) → index < g.page_count → (x : Patch) → P (paged (page_at g index) x)) where
    each_pages : (n index : ℕ) → index + n ≤ g.page_count → Each P (pages s d g base n index)
    unfolding pages
    each_pages zero index l = tt
    each_pages (suc n) index l =
        by_read (start_at s g index) _ _ (Each P) tt
        (λ start after e.
        each_then P _ _ (each_page (page_at g index) (h index (omega (arith, l))) start)
        (each_pages n (index + 1) (omega (arith, l))))

    -- what holds of whatever there is of the segment's pages, holds of everything that is listed
    pub each_listed : Each P (listing s d g base)
    unfolding listing
    each_listed = by_pick (Each P) (is_format g.pointer_format) _ _ (each_pages g.page_count 0 (omega arith)) tt

-- a patch of page i is of a page of the segment, whose offset is i times the page size
pub paged_at : (s d : List ℕ) (g : Segment) (base : ℕ) →
    Each (λ e. (e.page.index < g.page_count) × (e.page.origin ≡ e.page.index * g.page_size)) (listing s d g base)
paged_at s d g base = each_listed s d g base _ (λ index l x. (l, refl))
