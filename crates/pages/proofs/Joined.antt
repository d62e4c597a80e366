-- Calls from a start on say what the chains of the segment list, and nothing else. Assumes nothing.
use Rattle.std.proofs.Common.{◌≡◌, ℕ, ◌-◌, ◌^◌, ◌<◌, ◌≤◌, Bool, true, false, eqb, ◌⊎◌, List, length, refl, subst, inl, inr, arith, le-ltb}
use Rattle.chains.proofs.Typed.{TypedSegment}
use Rattle.chains.specs.declared.Segment.{Segment}
use Rattle.numbers.proofs.Picks.{by_pick, by_test, both_picks}
use Rattle.pages.proofs.Ahead.{ahead, says}
use Rattle.pages.proofs.Answers.{by_call}
use Rattle.pages.proofs.Moves.{origin_within}
use Rattle.pages.specs.Call.{starts_out, at_start, begin, onward, out_of_range, call}
use Rattle.pages.specs.Farthest.{farthest}
use Rattle.pages.specs.ChainedPointers.{is_format, next_of}
use Rattle.pages.specs.Listing.{Paged, pages, listing, heard}
use Rattle.pages.specs.declared.PageWalk.{PageWalk}
use Rattle.pages.specs.declared.Patch.{Patch}
use Rattle.runs.proofs.Walks.{Stays, Starts, walks_ahead, walks_one}
use Rattle.runs.specs.Runs.{Begin, begun, not_begun, Run, fails, mapped, Walks}

module _ (s d : List ℕ) (short : length d < 2 ^ 64) where
  -- a walk that goes on: in range, and not ended
  pub record Going (g : Segment) (origin : ℕ) (ended : Bool) : Type 0 where
    pub typed : TypedSegment g
    pub inside : starts_out g (length s) ≡ false
    pub format : is_format g.pointer_format ≡ true
    pub near : origin ≤ farthest
    pub live : ended ≡ false

  abbrev pub Goes : PageWalk → Type 0
  Goes w = Going w.segment w.origin w.ended

  in_range_lem : (w : PageWalk) → Goes w → out_of_range w (length s) ≡ false
  in_range_lem w h = rw (h.inside, h.format, le-ltb farthest w.origin h.near)

  -- each call keeps it so
  goes : (w : PageWalk) → Goes w → Stays Goes (call s d w)
  unfolding onward
  goes w h =
      by_call s d w {I = Goes} (Stays Goes)
      (record {
        on_page_lem =
            λ v l i.
            record {
              typed = i.typed;
              inside = i.inside;
              format = i.format;
              near = origin_within {pages = v.segment.page_count} l (omega (arith, i.typed.page_count)) (omega (arith, i.typed.page_size));
              live = i.live;
            };
        to_list = λ v index l i. i;
        next_chain = λ v l i. i;
        to_pointer_lem = λ v due place l i. i;
      })
      (λ e. tt)
      (λ v i. tt)
      (λ v n i. by_pick Goes (eqb (next_of v.segment.pointer_format n) 0) _ _ i i)
      (λ o. tt) (λ e. h)

  -- calls from any state that goes on, made up or not, say what it has still to list; so every walk ends
  pub walks : (w : PageWalk) → Goes w → Walks (call s d) w (heard (ahead s d w))
  walks = walks_ahead (call s d) (λ w. heard (ahead s d w)) Goes (λ w h. says s d short w (in_range_lem w h) h.live) goes

  -- ---- a start

  module _ (g : Segment) (base : ℕ) (t : TypedSegment g) where
    abbrev Lists : Begin PageWalk → Run Paged → Type 0
    Lists b l = Starts (call s d) (λ n r. (n ≡ 19) ⊎ (r ≡ fails n)) b (heard l)

    starts : Lists (begin s g base) (listing s d g base)
    unfolding begin listing mapped
    starts =
        by_test (λ b. Lists b (listing s d g base)) (starts_out g (length s)) _ _ (λ e. inl refl)
        (λ e.
        both_picks Lists (is_format g.pointer_format) _ _ _ _
        (λ f.
        let z : g.page_count - 0 ≡ g.page_count = omega arith in
        subst (λ (n : ℕ). Lists (begun (at_start g base)) (pages s d g base n 0)) z
        (walks (at_start g base) (record { typed = t; inside = e; format = f; near = omega arith; live = refl })))
        (λ f. inr refl))

    -- calls from a start on say what the chains list
    pub joined : (w : PageWalk) → begin s g base ≡ begun w → Walks (call s d) w (heard (listing s d g base))
    joined w e = subst (λ (b : Begin PageWalk). Lists b (listing s d g base)) e starts

    -- and nothing else
    pub joined_only : (w : PageWalk) {r : Run Patch} → begin s g base ≡ begun w → Walks (call s d) w r →
        r ≡ heard (listing s d g base)
    joined_only w e h = walks_one (call s d) h (joined w e)

    -- a start is refused for its record, 19, or the listing is that refusal
    pub not_begun_lem : {n : ℕ} → begin s g base ≡ not_begun n → (n ≡ 19) ⊎ (heard (listing s d g base) ≡ fails n)
    not_begun_lem e = subst (λ (b : Begin PageWalk). Lists b (listing s d g base)) e starts
