-- The loop over pages, and a call in range. Assumes nothing.
use Rattle.std.proofs.Common.{◌≡◌, ℕ, suc, ◌+◌, ◌-◌, ◌*◌, ◌<◌, Bool, true, false, cond, ltb, List, length, sym, refl, ap, ◌∙◌, arith, ltb-true, eq-eqb, ne_eqb}
use Rattle.std.specs.Prelude.{Option, Some, None}
use Rattle.chains.specs.declared.Segment.{Segment}
use Rattle.numbers.specs.LittleEndian.{field_at}
use Rattle.numbers.specs.Then.{then}
use Rattle.pages.specs.Call.{on_page, opened, pages, seek, answered, out_of_range, call}
use Rattle.pages.specs.ChainedPointers.{start_at, is_none}
use Rattle.pages.specs.declared.PageWalk.{PageWalk}
use Rattle.pages.specs.declared.search.Sought.{Sought}
use Rattle.refusal.specs.Numbers.{number_of}
use Rattle.refusal.specs.declared.Refusal.TheVariants.{StateOutOfRange}
use Rattle.runs.specs.Runs.{end, refused}

pub counted : (s : List ℕ) (g : Segment) (index : ℕ) {r : Option (ℕ × ℕ)} {v next : ℕ} → r ≡ start_at s g index → r ≡ Some (v, next) → index < g.count
unfolding start_at
counted s g index e f = by_test (ltb index g.count) refl (field_at 2 s (g.place + 2 * index)) (sym e ∙ f)
  where
    by_test : (t : Bool) → ltb index g.count ≡ t → (x : Option (ℕ × ℕ)) {v next : ℕ} → cond t x None ≡ Some (v, next) → index < g.count
    by_test true h x q = ltb-true index g.count h
    by_test false h x q = let n : ◌≡◌ {A = ℕ} 0 1 = cc in absurd (omega arith)

-- ---- the start of a page is due

-- w stands at a page: those before it have no chain, and from it on the search of `from` goes on
pub record Paging (s : List ℕ) (from : PageWalk) (page : ℕ) (w : PageWalk) : Type 0 where
  pub at : w.page ≡ page
  pub same : w.segment ≡ from.segment
  pub rest : pages s (from.segment.page_count - from.page) from ≡ pages s (from.segment.page_count - page) w

module _ (s : List ℕ) (from : PageWalk) {page : ℕ} {w : PageWalk} (p : Paging s from page w) where
  -- what the pages come to
  abbrev Whole : Option Sought
  Whole = pages s (from.segment.page_count - from.page) from

  module _ (h : page < from.segment.page_count) where
    -- what follows the start of the page
    abbrev Behind : Option (ℕ × ℕ) → Option Sought
    Behind q =
        then q None
        (λ start after. cond (is_none start) (pages s (from.segment.page_count - (page + 1)) (on_page w)) (opened s (on_page w) start))

    by_start : {q : Option (ℕ × ℕ)} → q ≡ start_at s from.segment page → Whole ≡ Behind q
    unfolding pages
    by_start e =
        p.rest ∙ ap (λ (n : ℕ). pages s n w) next_left
        ∙ ap Behind (ap (λ (g : Segment). start_at s g w.page) p.same ∙ ap (start_at s from.segment) p.at ∙ sym e)
      where
        next_left : from.segment.page_count - page ≡ suc (from.segment.page_count - (page + 1))
        next_left = omega arith

    module _ {start next : ℕ} (e : Some (start, next) ≡ start_at s from.segment page) {v : PageWalk} (i : v ≡ on_page w) where
      pub paging_none : start ≡ 0xffff → Paging s from (page + 1) v
      unfolding then
      paging_none n =
          record {
            at = rw i (ap (λ (k : ℕ). k + 1) p.at);
            same = rw i p.same;
            rest = by_start e ∙ rw (eq-eqb start 0xffff n, i);
          }

      pub paging_open : (start ≡ 0xffff → ⊥) → opened s v start ≡ Whole
      unfolding then
      paging_open n = rw i (sym (by_start e ∙ rw (ne_eqb start 0xffff n)))

-- ---- a call

module _ (s d : List ℕ) (w : PageWalk) (e : out_of_range w (length s) ≡ false) where
  call_within : call s d w ≡ cond w.ended (end w) (answered d w (seek s w))
  unfolding call
  call_within =
      ap (λ (b : Bool). cond b (refused (number_of StateOutOfRange) w) (cond w.ended (end w) (answered d w (seek s w)))) e

  pub call_ended : w.ended ≡ true → end w ≡ call s d w
  call_ended g = sym (call_within ∙ ap (λ (b : Bool). cond b (end w) (answered d w (seek s w))) g)

  pub call_live : w.ended ≡ false → call s d w ≡ answered d w (seek s w)
  call_live g = call_within ∙ ap (λ (b : Bool). cond b (end w) (answered d w (seek s w))) g
