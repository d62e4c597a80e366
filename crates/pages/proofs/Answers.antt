-- What holds of every answer of a call, by what holds of the states on the way. Assumes nothing.
use Rattle.std.proofs.Common.{◌≡◌, ℕ, zero, suc, ◌+◌, ◌-◌, ◌<◌, true, false, List, length, refl, arith, leb-false}
use Rattle.std.specs.Prelude.{Option, Some, None}
use Rattle.numbers.proofs.Picks.{by_pick, by_test}
use Rattle.numbers.proofs.Then.{by_read}
use Rattle.numbers.specs.LittleEndian.{field_at}
use Rattle.pages.proofs.Calls.{counted}
use Rattle.pages.specs.Call.{on_page, to_chain, to_pointer, onward, chain, opened, pages, sought_by, seek, refusing, pointer, answered, out_of_range, call}
use Rattle.pages.specs.ChainedPointers.{start_at, is_none, is_marked, unmarked, width_of, fixup_of, next_of, patch}
use Rattle.pages.specs.declared.Due.{Due}
use Rattle.pages.specs.declared.Due.TheVariants.{NextPage, NextChain, PointerThenPage, PointerThenChain}
use Rattle.pages.specs.declared.PageWalk.{PageWalk}
use Rattle.pages.specs.declared.Patch.{Patch}
use Rattle.pages.specs.declared.search.Sought.{Sought}
use Rattle.pages.specs.declared.search.Sought.TheVariants as sought
use Rattle.refusal.specs.Numbers.{number_of}
use Rattle.refusal.specs.declared.Refusal.{Refusal}
use Rattle.refusal.specs.declared.Refusal.TheVariants.{BeyondStarts, PointerOutside, StateOutOfRange}
use Rattle.runs.specs.Runs.{Answer, item, end, refused}

-- what holds of the state that a search comes to
abbrev pub Comes : (PageWalk → Type 0) → Option Sought → Type 0
Comes I (Some (sought.At w)) = I w
Comes I (Some (sought.End w)) = I w
Comes I None = Unit {0}

-- what every step of a search keeps
pub record Keeps (I : PageWalk → Type 0) : Type 0 where
  pub on_page_lem : (w : PageWalk) → w.page < w.segment.page_count → I w → I (on_page w)
  pub to_list : (w : PageWalk) (index : ℕ) → index < 0x8000 → I w → I (to_chain index w)
  pub next_chain : (w : PageWalk) → w.chain < w.segment.count → I w → I (to_chain (w.chain + 1) w)
  pub to_pointer_lem : (w : PageWalk) (due : Due) (place : ℕ) → place < 0x8000 → I w → I (to_pointer due (w.origin + place) w)

module _ (s : List ℕ) {I : PageWalk → Type 0} (k : Keeps I) where
  by_chain : (w : PageWalk) → I w → Comes I (chain s w)
  unfolding chain
  by_chain w i =
      by_read (start_at s w.segment w.chain) _ _ (Comes I) tt
      (λ start after e.
      k.to_pointer_lem (to_chain (w.chain + 1) w) _ (unmarked start) (omega arith) (k.next_chain w (counted s w.segment w.chain refl e) i))

  by_open : (w : PageWalk) (start : ℕ) → I w → Comes I (opened s w start)
  unfolding opened
  by_open w start i =
      by_test (Comes I) (is_marked start) _ _
      (λ e. by_chain (to_chain (unmarked start) w) (k.to_list w (unmarked start) (omega arith) i))
      (λ e. k.to_pointer_lem w PointerThenPage start (leb-false 0x8000 start e) i)

  by_pages : (n : ℕ) (w : PageWalk) → w.segment.page_count - w.page ≡ n → I w → Comes I (pages s n w)
  unfolding pages
  by_pages zero w e i = i
  by_pages (suc n) w e i =
      let j = k.on_page_lem w (omega arith) i in
      by_read (start_at s w.segment w.page) _ _ (Comes I) tt
      (λ start after q. by_pick (Comes I) (is_none start) _ _ (by_pages n (on_page w) (omega arith) j) (by_open (on_page w) start j))

  pub by_seek : (w : PageWalk) → I w → Comes I (seek s w)
  unfolding sought_by
  by_seek w i = by w.due
    where
      by : (due : Due) → Comes I (sought_by s due w)
      by NextPage = by_pages (w.segment.page_count - w.page) w refl i
      by NextChain = by_chain w i
      by PointerThenPage = i
      by PointerThenChain = i

-- of the answers, by what the search comes to
module _ (s d : List ℕ) (given : PageWalk) {I : PageWalk → Type 0} (Q : Answer PageWalk Patch → Type 0) (k : Keeps I)
    (refuses : (e : Refusal) → Q (refusing given e)) (ends : (w : PageWalk) → I w → Q (end w))
    (gives : (w : PageWalk) (n : ℕ) → I w → Q (item (patch w.offset (fixup_of w.segment.pointer_format w.base n)) (onward (next_of w.segment.pointer_format n) w))) where
  by_answer : (x : Option Sought) → Comes I x → Q (answered d given x)
  unfolding answered pointer
  by_answer (Some (sought.At w)) i = by_read (field_at (width_of w.segment.pointer_format) d w.offset) _ _ Q (refuses PointerOutside) (λ n after e. gives w n i)
  by_answer (Some (sought.End w)) i = ends w i
  by_answer None i = refuses BeyondStarts

  pub by_call : (out_of_range given (length s) ≡ true → Q (refused (number_of StateOutOfRange) given)) → (out_of_range given (length s) ≡ false → I given) → Q (call s d given)
  unfolding call
  by_call out i =
      by_test Q (out_of_range given (length s)) _ _ out
      (λ e. by_pick Q given.ended _ _ (ends given (i e)) (by_answer (seek s given) (by_seek s k given (i e))))
