-- What a state has still to list, and that each call takes the first off it. Assumes nothing.
use Rattle.std.proofs.Common.{◌≡◌, ℕ, zero, suc, ◌+◌, ◌-◌, ◌*◌, ◌^◌, ◌<◌, min, Bool, true, false, cond, not, eqb, List, length, sym, refl, ap, ◌∙◌, arith, le-ltb}
use Rattle.std.specs.Prelude.{Option, Some, None}
use Rattle.numbers.specs.LittleEndian.{field_at}
use Rattle.numbers.specs.Then as read
use Rattle.pages.proofs.Calls.{call_live}
use Rattle.pages.proofs.Chains.{chain_by, chain_far}
use Rattle.pages.specs.Call.{moved, on_page, to_chain, to_pointer, onward, opened, sought_by, refusing, pointer, answered, out_of_range, call}
use Rattle.pages.specs.Call as call
use Rattle.pages.specs.ChainedPointers.{start_at, is_none, is_marked, unmarked, width_of, fixup_of, next_of, patch}
use Rattle.pages.specs.Listing.{Page, page_at, Paged, paged, outside, beyond, following, chain, chains, page, pages, heard}
use Rattle.pages.specs.Due.{behind, pointer_due, linked, more}
use Rattle.pages.specs.declared.Due.{Due}
use Rattle.pages.specs.declared.Due.TheVariants.{NextPage, NextChain, PointerThenPage, PointerThenChain}
use Rattle.pages.specs.declared.PageWalk.{PageWalk}
use Rattle.pages.specs.declared.Patch.{Patch}
use Rattle.pages.specs.declared.search.Sought.{Sought}
use Rattle.pages.specs.declared.search.Sought.TheVariants as sought
use Rattle.refusal.specs.declared.Refusal.TheVariants.{PointerOutside}
use Rattle.runs.proofs.Walks.{shown, then_then}
use Rattle.runs.specs.Runs.{Answer, item, Run, stops, gives, ◌then◌, mapped}

-- the page that a state stands on: the one before the next
abbrev here : PageWalk → Page
here w = record { index = w.page - 1; origin = w.origin }

-- the next, once its start is read
here_next : (w : PageWalk) → page_at w.segment w.page ≡ here (on_page w)
here_next w =
    let e : w.page ≡ w.page + 1 - 1 = omega arith in
    ap (λ (i : ℕ). record { index = i; origin = w.page * w.segment.page_size }) e

module _ (s d : List ℕ) where
  -- n pages from the next on
  abbrev pages_in : PageWalk → (n : ℕ) → Run Paged
  pages_in w n = pages s d w.segment w.base n w.page

  -- all of them
  abbrev pages_from : PageWalk → Run Paged
  pages_from w = pages_in w (w.segment.page_count - w.page)

  -- the chains of the page's list, from an index on
  abbrev chains_from : PageWalk → (index : ℕ) → Run Paged
  chains_from w index = chains s d w.segment w.base (here w) (w.segment.count - index) index

  -- a chain of the page, from an offset on
  abbrev chain_from : PageWalk → (offset : ℕ) → Run Paged
  chain_from w = chain s d w.segment w.base (here w)

  -- what is due, where no pointer is
  abbrev behind_chain : Due → PageWalk → Run Paged
  behind_chain due w = cond (more due) (chains_from w w.chain then pages_from w) (pages_from w)

  abbrev ahead_by : Due → PageWalk → Run Paged
  ahead_by due w = cond (linked due) (chain_from w w.offset then behind_chain due w) (behind_chain due w)

  abbrev pub ahead : PageWalk → Run Paged
  ahead w = ahead_by w.due w

  -- what an answer says, with what a caller hears of what is ahead of the state that it hands back
  abbrev pub Shown : Answer PageWalk Patch → Run Patch
  Shown = shown (λ w. heard (ahead w))

  module _ (l : length d < 2 ^ 64) (given : PageWalk) where
    -- what the answer says that a search leads to
    abbrev Told : Option Sought → Run Patch
    Told x = Shown (answered d given x)

    -- a pointer is due
    module _ (w : PageWalk) (h : linked w.due ≡ true) where
      abbrev R : Run Paged
      R = behind_chain w.due w

      -- of the number that is read: the item, and how far the next pointer is
      abbrev item_of : (n : ℕ) → Patch
      item_of n = patch w.offset (fixup_of w.segment.pointer_format w.base n)

      abbrev step_of : (n : ℕ) → ℕ
      step_of n = next_of w.segment.pointer_format n

      by_next : (next : ℕ) → heard (following (chain_from w) w.offset next then R) ≡ heard (ahead (onward next w))
      unfolding onward ◌then◌
      by_next next = by (eqb next 0)
        where
          -- the state behind the chain, and that at its next pointer
          behind_it : PageWalk
          behind_it = moved w (behind w.due) w.page w.chain w.origin w.offset

          at_next : PageWalk
          at_next = moved w w.due w.page w.chain w.origin (min (w.offset + next) (2 ^ 64 - 1))

          -- the mark of a list stays
          behind_lem : (due : Due) → behind_chain due w ≡ ahead_by (behind due) w
          behind_lem NextPage = refl
          behind_lem NextChain = refl
          behind_lem PointerThenPage = refl
          behind_lem PointerThenChain = refl

          by : (t : Bool) → heard (cond t stops (chain_from w (w.offset + next)) then R)
              ≡ heard (ahead (cond t behind_it at_next))
          by true = ap heard (behind_lem w.due)
          by false =
              ap (λ (r : Run Paged). heard (r then R))
              (sym (chain_far s d w.segment w.base (here w) l (w.offset + next)))
              ∙ ap (λ (b : Bool). heard (cond b (chain_from at_next at_next.offset then behind_chain w.due at_next) (behind_chain w.due at_next))) (sym h)

      pub pointer_says : heard (chain_from w w.offset then R) ≡ Shown (pointer d given w)
      unfolding pointer read.then ◌then◌ mapped
      pointer_says =
          ap (λ (r : Run Paged). heard (r then R)) (chain_by s d w.segment w.base (here w) w.offset)
          ∙ by_read (field_at (width_of w.segment.pointer_format) d w.offset)
        where
          by_read : (x : Option (ℕ × ℕ)) →
              heard
              (read.then x outside
              (λ n b. gives (paged (here w) (item_of n)) (following (chain_from w) w.offset (step_of n))) then R)
              ≡ Shown (read.then x (refusing given PointerOutside) (λ n b. item (item_of n) (onward (step_of n) w)))
          by_read None = refl
          by_read (Some (n, b)) = ap (gives (item_of n)) (by_next (step_of n))

    -- the start of a chain is due
    module _ (w : PageWalk) where
      -- the chain of a start
      abbrev First : (start : ℕ) → Run Paged
      First start = chain_from w (w.origin + unmarked start)

      -- what follows the read of the start: its chain, then the others of the list, where n starts are left
      abbrev Listed : (n : ℕ) → Option (ℕ × ℕ) → Run Paged
      Listed n x =
          read.then x beyond
          (λ start b.
          First start then
          cond (is_marked start) stops (chains s d w.segment w.base (here w) n (w.chain + 1)))

      abbrev left : ℕ
      left = w.segment.count - (w.chain + 1)

      by_index : chains_from w w.chain ≡ Listed left (start_at s w.segment w.chain)
      unfolding chains start_at read.then
      by_index = by (w.segment.count - w.chain) refl
        where
          by : (n : ℕ) → w.segment.count - w.chain ≡ n →
              chains s d w.segment w.base (here w) n w.chain ≡ Listed left (start_at s w.segment w.chain)
          by zero e =
              let z : start_at s w.segment w.chain ≡ None = rw (le-ltb w.chain w.segment.count (omega arith)) in
              sym (ap (Listed left) z)
          by (suc n) e =
              let k : n ≡ left = omega arith in
              ap (λ (m : ℕ). Listed m (start_at s w.segment w.chain)) k

      pub chain_says : heard (chains_from w w.chain then pages_from w) ≡ Told (call.chain s w)
      unfolding call.chain answered read.then ◌then◌ mapped
      chain_says =
          ap (λ (r : Run Paged). heard (r then pages_from w)) by_index ∙ by_read (start_at s w.segment w.chain)
        where
          -- the state at the first pointer of the chain
          opened_at : (start : ℕ) → PageWalk
          opened_at start = to_pointer (pointer_due (not (is_marked start))) (w.origin + unmarked start) (to_chain (w.chain + 1) w)

          -- behind the chain: the rest of the list, unless it is the last
          others : (t : Bool) → Run Paged
          others t = cond t stops (chains_from w (w.chain + 1))

          by_mark : (t : Bool) → (others t then pages_from w) ≡ behind_chain (pointer_due (not t)) (to_chain (w.chain + 1) w)
          by_mark true = refl
          by_mark false = refl

          is_linked : (t : Bool) → linked (pointer_due (not t)) ≡ true
          is_linked true = refl
          is_linked false = refl

          by_read : (x : Option (ℕ × ℕ)) → heard (Listed left x then pages_from w)
              ≡ Told (read.then x None (λ start b. Some (sought.At (opened_at start))))
          by_read None = refl
          by_read (Some (start, b)) =
              ap heard
              (then_then (First start) (others (is_marked start)) (pages_from w)
              ∙ ap (λ (r : Run Paged). First start then r) (by_mark (is_marked start)))
              ∙ pointer_says (opened_at start) (is_linked (is_marked start))

    -- a page by its start, which has a chain
    module _ (w : PageWalk) (start : ℕ) where
      abbrev Chained : (t : Bool) → Run Paged
      Chained t = cond t (chains_from w (unmarked start)) (chain_from w (w.origin + start))

      open_says : heard (Chained (is_marked start) then pages_from w) ≡ Told (opened s w start)
      unfolding opened answered
      open_says = by (is_marked start)
        where
          by : (t : Bool) → heard (Chained t then pages_from w)
              ≡ Told
              (cond t (call.chain s (to_chain (unmarked start) w)) (Some (sought.At (to_pointer PointerThenPage (w.origin + start) w))))
          by true = chain_says (to_chain (unmarked start) w)
          by false = pointer_says (to_pointer PointerThenPage (w.origin + start) w) refl

    -- the start of a page is due, and n pages are left behind it
    module _ (n : ℕ) (w : PageWalk) (k : w.segment.page_count - (w.page + 1) ≡ n)
        (later : heard (pages_in (on_page w) n) ≡ Told (call.pages s n (on_page w))) where
      -- what the page lists by its start, and those behind it
      abbrev FromPage : Page → (start : ℕ) → Run Paged
      FromPage p start = page s d w.segment w.base p start then pages_in (on_page w) n

      -- what the search comes to, by whether the page has no chain
      abbrev found : (t : Bool) (start : ℕ) → Option Sought
      found t start = cond t (call.pages s n (on_page w)) (opened s (on_page w) start)

      by_start : (start : ℕ) → heard (FromPage (here (on_page w)) start) ≡ Told (found (is_none start) start)
      unfolding page ◌then◌
      by_start start = by (is_none start)
        where
          chained : Run Paged
          chained = Chained (on_page w) start (is_marked start)

          by : (t : Bool) → heard (cond t stops chained then pages_in (on_page w) n) ≡ Told (found t start)
          by true = later
          by false = ap (λ (m : ℕ). heard (chained then pages_in (on_page w) m)) (sym k) ∙ open_says (on_page w) start

      by_page : (x : Option (ℕ × ℕ)) → heard (read.then x beyond (λ start b. FromPage (page_at w.segment w.page) start))
          ≡ Told (read.then x None (λ start b. found (is_none start) start))
      unfolding read.then answered mapped
      by_page None = refl
      by_page (Some (start, b)) = ap (λ (p : Page). heard (FromPage p start)) (here_next w) ∙ by_start start

    pub pages_say : (n : ℕ) (w : PageWalk) → w.segment.page_count - w.page ≡ n →
        heard (pages_in w n) ≡ Told (call.pages s n w)
    unfolding pages call.pages answered mapped
    pages_say zero w e = refl
    pages_say (suc n) w e =
        let k : w.segment.page_count - (w.page + 1) ≡ n = omega arith in
        by_page n w k (pages_say n (on_page w) k) (start_at s w.segment w.page)

  -- each call takes the first off what is ahead
  pub says : length d < 2 ^ 64 → (w : PageWalk) → out_of_range w (length s) ≡ false → w.ended ≡ false →
      heard (ahead w) ≡ Shown (call s d w)
  unfolding sought_by answered
  says l w f g = by w.due refl ∙ ap Shown (sym (call_live s d w f g))
    where
      at_pointer : (due : Due) → w.due ≡ due → linked due ≡ true → heard (chain_from w w.offset then behind_chain due w) ≡ Shown (pointer d w w)
      at_pointer due h q = ap (λ (e : Due). heard (chain_from w w.offset then behind_chain e w)) (sym h) ∙ pointer_says l w w (ap linked h ∙ q)

      by : (due : Due) → w.due ≡ due → heard (ahead_by due w) ≡ Shown (answered d w (sought_by s due w))
      by NextPage h = pages_say l w (w.segment.page_count - w.page) w refl
      by NextChain h = chain_says l w w
      by PointerThenPage h = at_pointer PointerThenPage h refl
      by PointerThenChain h = at_pointer PointerThenChain h refl
