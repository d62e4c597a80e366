-- States and items whose fields are such as their types have: a start gives such a state, and every call on one hands such a one back, and
-- such an item. Refusals have a number of the table. Assumes nothing.
use Rattle.std.proofs.Common.{◌≡◌, ℕ, ◌+◌, ◌-◌, ◌*◌, ◌^◌, ◌<◌, ◌≤◌, eqb, List, length, subst, arith}
use native.Mathlib.Nat.{min-le_right}
use lib.Bits.{or_lt}
use Rattle.chains.proofs.Typed.{TypedSegment}
use Rattle.chains.specs.FixupChains.{bits}
use Rattle.chains.specs.declared.Segment.{Segment}
use Rattle.numbers.proofs.Picks.{by_pick}
use Rattle.pages.proofs.Answers.{Keeps, by_call}
use Rattle.pages.proofs.Moves.{in_range_lem, origin_within}
use Rattle.pages.specs.Call.{starts_out, begin, marked, moved, on_page, to_chain, to_pointer, onward, refusing, call}
use Rattle.pages.specs.Farthest.{farthest}
use Rattle.pages.specs.ChainedPointers.{is_format, is_narrow, base_of, minus, wide_fixup, narrow_fixup, fixup_of, next_of, patch}
use Rattle.pages.specs.declared.Due.{Due}
use Rattle.pages.specs.declared.PageWalk.{PageWalk}
use Rattle.pages.specs.declared.Patch.{Patch}
use Rattle.pages.specs.declared.pointer.Fixup.{Fixup}
use Rattle.pages.specs.declared.pointer.Fixup.TheVariants.{Rebase, Bind}
use Rattle.refusal.proofs.Numbered.{IsNumber, is_number_lem}
use Rattle.refusal.specs.Numbers.{number_of}
use Rattle.refusal.specs.declared.Refusal.{Refusal}
use Rattle.refusal.specs.declared.Refusal.TheVariants.{StateOutOfRange}
use Rattle.runs.proofs.Walks.{IfBegun, IfItem, Hands}
use Rattle.runs.specs.Runs.{begun, Answer, item, end, refused}

pub record Typed (w : PageWalk) : Type 0 where
  pub segment : TypedSegment w.segment
  pub base : w.base < 2 ^ 64
  pub page : w.page < 2 ^ 64
  pub chain : w.chain < 2 ^ 64
  pub origin : w.origin < 2 ^ 64
  pub offset : w.offset < 2 ^ 64

-- a start
pub typed_begin : (s : List ℕ) (g : Segment) (base : ℕ) → TypedSegment g → base < 2 ^ 64 → {w : PageWalk} → begin s g base ≡ begun w → Typed w
unfolding begin
typed_begin s g base t h e =
    subst (IfBegun Typed) e
    (by_pick (IfBegun Typed) (starts_out g (length s)) _ _ tt
    (by_pick (IfBegun Typed) (is_format g.pointer_format) _ _
    (record { segment = t; base = h; page = omega arith; chain = omega arith; origin = omega arith; offset = omega arith })
    tt))

-- ---- what becomes of a state; on the way the page is near

record Near (w : PageWalk) : Type 0 where
  typed : Typed w
  near : w.origin ≤ farthest

-- elsewhere
typed_moved : (w : PageWalk) → Typed w → {due : Due} {page chain origin offset : ℕ} → page < 2 ^ 64 → chain < 2 ^ 64 → origin < 2 ^ 64 → offset < 2 ^ 64 →
    Typed (moved w due page chain origin offset)
typed_moved w t p c o f = record { segment = t.segment; base = t.base; page = p; chain = c; origin = o; offset = f }

near_page : (w : PageWalk) → w.page < w.segment.page_count → Near w → Near (on_page w)
near_page w l i =
    let t = i.typed in
    let n = origin_within {page = w.page} {size = w.segment.page_size} l (omega (arith, t.segment.page_count)) (omega (arith, t.segment.page_size)) in
    record { typed = typed_moved w t (omega (arith, t.segment.page_count)) t.chain (omega (arith, n)) t.offset; near = n }

near_chain : (w : PageWalk) (index : ℕ) → index < 2 ^ 64 → Near w → Near (to_chain index w)
near_chain w index l i =
    let t = i.typed in
    record { typed = typed_moved w t t.page l t.origin t.offset; near = i.near }

near_pointer : (w : PageWalk) (due : Due) (place : ℕ) → place < 0x8000 → Near w → Near (to_pointer due (w.origin + place) w)
near_pointer w due place l i =
    let t = i.typed in
    record { typed = typed_moved w t t.page t.chain t.origin (omega (arith, i.near)); near = i.near }

keeps_near : Keeps Near
keeps_near =
    record {
      on_page_lem = near_page;
      to_list = λ w index l. near_chain w index (omega arith);
      next_chain = λ w l i. near_chain w (w.chain + 1) (omega (arith, i.typed.segment.count)) i;
      to_pointer_lem = near_pointer;
    }

typed_onward : (next : ℕ) (w : PageWalk) → Typed w → Typed (onward next w)
unfolding onward
typed_onward next w t =
    by_pick Typed (eqb next 0) _ _ (typed_moved w t t.page t.chain t.origin t.offset)
    (typed_moved w t t.page t.chain t.origin (omega (arith, min-le_right (w.offset + next) (2 ^ 64 - 1))))

typed_marked : (w : PageWalk) → Typed w → Typed (marked w)
typed_marked w t =
    record { segment = t.segment; base = t.base; page = t.page; chain = t.chain; origin = t.origin; offset = t.offset }

-- ---- an item

abbrev pub TypedFixup : Fixup → Type 0
TypedFixup (Rebase r) = r.target < 2 ^ 64
TypedFixup (Bind b) = (b.ordinal < 2 ^ 64) × (b.addend < 2 ^ 64)

typed_narrow : (base n : ℕ) → TypedFixup (narrow_fixup base n)
unfolding narrow_fixup
typed_narrow base n = by_pick TypedFixup (eqb (bits 31 1 n) 1) _ _ (omega arith, omega arith) (omega arith)

typed_wide : (base n : ℕ) → TypedFixup (wide_fixup base n)
unfolding wide_fixup
typed_wide base n =
    by_pick TypedFixup (eqb (bits 63 1 n) 1) _ _ (omega arith, omega arith)
    (or_lt 64 (minus (bits 0 36 n) base) (bits 36 8 n * 2 ^ 56) (omega arith) (omega arith))

typed_fixup : (format base n : ℕ) → TypedFixup (fixup_of format base n)
unfolding fixup_of
typed_fixup format base n =
    by_pick TypedFixup (is_narrow format) _ _ (typed_narrow (base_of format base) n) (typed_wide (base_of format base) n)

pub record TypedPatch (x : Patch) : Type 0 where
  pub place : x.place < 2 ^ 64
  pub fixup : TypedFixup x.fixup

-- ---- a call

module _ (s d : List ℕ) (w : PageWalk) (t : Typed w) where
  -- what holds of its answer, by what holds where the states on the way are typed
  by_typed : (Q : Answer PageWalk Patch → Type 0) → Q (refused (number_of StateOutOfRange) w) → ((e : Refusal) → Q (refusing w e)) → ((v : PageWalk) → Typed v → Q (end v)) →
      ((v : PageWalk) (n : ℕ) → Typed v → Q (item (patch v.offset (fixup_of v.segment.pointer_format v.base n)) (onward (next_of v.segment.pointer_format n) v))) → Q (call s d w)
  by_typed Q out refuses ends gives =
      by_call s d w {I = Near} Q keeps_near refuses (λ v i. ends v i.typed) (λ v n i. gives v n i.typed)
      (λ e. out) (λ e. record { typed = t; near = (in_range_lem s w e).near })

  pub typed_call : Hands Typed IsNumber (call s d w)
  typed_call =
      by_typed (Hands Typed IsNumber) (t, is_number_lem StateOutOfRange) (λ e. (typed_marked w t, is_number_lem e)) (λ v u. u)
      (λ v n u. typed_onward (next_of v.segment.pointer_format n) v u)

  -- every item that is yielded has fields such as their types have
  pub typed_item : {x : Patch} {v : PageWalk} → call s d w ≡ item x v → TypedPatch x
  typed_item e =
      subst (IfItem TypedPatch) e
      (by_typed (IfItem TypedPatch) tt (λ e. tt) (λ v u. tt)
      (λ v n u. record { place = u.offset; fixup = typed_fixup v.segment.pointer_format v.base n }))
