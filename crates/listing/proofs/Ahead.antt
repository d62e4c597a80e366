-- What is ahead of a state, said by the listing: each call takes the first off it, so calls say it. Assumes nothing.
use Rattle.std.specs.Prelude.{Option, None, Some}
use Prim.Native.Nat.{ℕ, zero, suc, ◌+◌, ◌%◌, ◌^◌, ◌≤◌, ◌<◌}
use mathlib.Core.Path.{◌≡◌, refl, ap, ap₂, sym, ◌∙◌, subst}
use mathlib.Core.List.{List}
use native.Mathlib.Omega.{arith}
use lib.ListN.{length}
use Rattle.cursor.proofs.Typed.{IfMoved}
use Rattle.cursor.specs.Cursor.{behind_place, standing_of, read_to, anew, moved_by, moved_of}
use Rattle.cursor.specs.Motion.{advance_of, turn_of}
use Rattle.cursor.specs.declared.Cursor.{Cursor}
use Rattle.cursor.specs.declared.Motion.{Motion}
use Rattle.cursor.specs.declared.Motion.TheVariants.{Stays, Adds, Seeks, Restarts, Repeats, Ends, Refuses}
use Rattle.cursor.specs.declared.Standing.{Standing}
use Rattle.cursor.specs.declared.Standing.TheVariants as standing
use Rattle.cursor.specs.declared.Turn.{Turn}
use Rattle.cursor.specs.declared.Turn.TheVariants.{On, Anew, Due, End, Refused}
use Rattle.listing.proofs.Answers.{by_call}
use Rattle.listing.proofs.Calls.{by_standing, Live, is_live, stands, live_behind, live_to, live_start}
use Rattle.listing.proofs.Streams.{behind}
use Rattle.listing.specs.Call.{state, due, answered, read, called, call}
use Rattle.listing.specs.declared.Walk.{Walk}
use Rattle.listing.specs.Listing.{Listing, places, repeated, listed, listing_of, heard}
use Rattle.listing.specs.Machine.{Machine}
use Rattle.listing.specs.Stream.{Stream, out, bad, one, stream_at}
use Rattle.places.proofs.Places.{place_first, place_below}
use Rattle.places.specs.Places.{place_at}
use Rattle.refusal.specs.Numbers.{number_of}
use Rattle.refusal.specs.declared.Refusal.TheVariants.{StateOutOfRange}
use Rattle.runs.proofs.Walks as walks
use Rattle.runs.proofs.Walks.{shown, walks_ahead}
use Rattle.runs.specs.Runs.{Answer, item, end, refused, Run, stops, fails, gives, Walks, at_end_lem, at_refusal_lem, at_item}
use Rattle.refusal.specs.declared.Refusal.{Refusal}

-- the place behind one is the first of those that are left
left_places : (o a i : ℕ) → place_at o a (suc i) ≡ place_at ((o + a) % 2 ^ 64) a i
unfolding place_at
left_places o a i = omega arith

-- n places from index i + 1 on, and the same counted from the place behind the first
heard_places : {Op Reg Item : Type 0} (M : Machine Op Reg Item) (p q : ℕ) (g : Reg) (o a i n : ℕ) (l r : Listing Item) → heard l ≡ heard r →
    heard (places M p g o a (suc i) n l) ≡ heard (places M q g ((o + a) % 2 ^ 64) a i n r)
unfolding heard places
heard_places M p q g o a i zero l r h = h
heard_places M p q g o a i (suc n) l r h =
    ap₂ gives (ap (M.item g) (left_places o a i)) (heard_places M p q g o a (suc i) n l r h)

module _ {Op Reg Item : Type 0} (M : Machine Op Reg Item) (s : List ℕ) where
  -- what the operations from a cursor's read place on list, from registers and an offset on
  abbrev behind_it : Cursor → Reg → (offset : ℕ) → Listing Item
  behind_it c g o = listing_of M c.size (stream_at M s c.at) 0 g o

  abbrev pub listing_from : Walk Reg → Listing Item
  listing_from w = behind_it w.cursor w.registers w.cursor.offset

  abbrev ahead_by : Walk Reg → Standing → Run Item
  ahead_by w standing.OutOfRange = fails (number_of StateOutOfRange)
  ahead_by w standing.Ended = stops
  ahead_by w (standing.Due c) =
      let g = w.registers in
      let o = w.cursor.offset in
      let n = suc c.remaining in
      heard (repeated M 0 g o c.advance n (behind_it c g (place_at o c.advance n)) (M.lack g))
  ahead_by w standing.Reading = heard (listing_from w)

  -- what a state has still to say: the places of its repeat that are left, and the operations behind them
  unfoldable pub ahead : Walk Reg → Run Item
  ahead w = ahead_by w (standing_of w.cursor (length s))

  -- ---- each call takes the first off it

  -- places that are left and lack nothing
  ahead_places : (c : Cursor) → Live c (length s) → (g : Reg) → M.lack g ≡ None → (n : ℕ) → c.remaining ≡ n →
      let o = c.offset in
      ahead (state c g) ≡ heard (places M 0 g o c.advance 0 n (behind_it c g (place_at o c.advance n)))
  unfolding ahead places repeated
  ahead_places c l g k zero e =
      ap (ahead_by (state c g)) (stands c (length s) l e)
      ∙ ap (λ (f : ℕ). heard (behind_it c g f)) (sym (place_first c.offset c.advance l.below))
  ahead_places c l g k (suc n) e =
      let f = place_at c.offset c.advance (suc n) in
      ap (ahead_by (state c g)) (stands c (length s) l e)
      ∙ ap (λ (x : Option Refusal). heard (repeated M 0 g c.offset c.advance (suc n) (behind_it c g f) x)) k

  module _ (w : Walk Reg) where
    -- a place that is due, and n more, and then what is heard alike
    due_says : (c : Cursor) → Live c (length s) → (g : Reg) (p a n : ℕ) (r : Listing Item) →
        heard r ≡ heard (behind_it c g (place_at c.offset a (suc n))) → (x : Option Refusal) → M.lack g ≡ x →
        heard (repeated M p g c.offset a (suc n) r x)
        ≡ shown ahead (due M w c.offset (state (behind_place c n a) g) x)
    unfolding heard repeated places due
    due_says c l g p a n r h None k =
        let o = c.offset in
        ap₂ gives (ap (M.item g) (place_first o a l.below))
        (heard_places M p 0 g o a 0 n r _ (h ∙ ap (λ (f : ℕ). heard (behind_it c g f)) (left_places o a n))
        ∙ sym (ahead_places (behind_place c n a) (live_behind n a l) g k n refl))
    due_says c l g p a n r h (Some e) k = refl

    -- reading from a cursor on says what the operations list, however many were read before them
    abbrev pub Says : Stream Op → Type 0
    Says xs =
        (c : Cursor) (g : Reg) (k : ℕ) → stream_at M s c.at ≡ xs → Live c (length s) → c.remaining ≡ 0 →
        heard (listing_of M c.size xs k g c.offset) ≡ shown ahead (read M w xs (state c g))

    module _ (c : Cursor) (l : Live c (length s)) (z : c.remaining ≡ 0) (g : Reg) (p next : ℕ) (h : next ≤ length s)
        (rest : Stream Op) (same : stream_at M s next ≡ rest) (says : Says rest) where
      on : (k to : ℕ) → to < 2 ^ 64 →
          heard (listing_of M c.size rest k g to) ≡ shown ahead (read M w rest (state (read_to next c to) g))
      on k to b = says (read_to next c to) g k same (live_to to l h b) z

      alike : (k to : ℕ) → to < 2 ^ 64 →
          heard (listing_of M c.size rest k g to) ≡ heard (behind_it (read_to next c to) g to)
      alike k to b =
          on k to b ∙ sym (on 0 to b) ∙ ap (λ (xs : Stream Op). heard (listing_of M c.size xs 0 g to)) (sym same)

      motion_says : (k : ℕ) (m : Motion) →
          heard (listed M p k g c.offset (listing_of M c.size rest (suc k)) (turn_of c.size c.offset m))
          ≡ shown ahead (answered M w c.offset g (read M w rest) (moved_of c next m))
      unfolding heard listed answered moved_by turn_of
      motion_says k Stays = on (suc k) c.offset l.below
      motion_says k (Adds n) = on (suc k) _ (omega arith)
      motion_says k (Seeks to) = on (suc k) _ (omega arith)
      motion_says k Restarts = says (anew next c) g (suc k) same (live_start h l.sized) refl
      motion_says k (Repeats zero addition) = on (suc k) c.offset l.below
      motion_says k (Repeats (suc n) addition) =
          let o = c.offset in
          let a = advance_of c.size addition in
          let rest = alike (suc k) (place_at o a (suc n)) (place_below o a (suc n)) in
          due_says (read_to next c o) (live_to o l h l.below) g p a n _ rest (M.lack g) refl
      motion_says k Ends = refl
      motion_says k (Refuses e) = refl

    pub reads_say : (xs : Stream Op) → Says xs
    unfolding heard listing_of read
    reads_say out c g k same l z = refl
    reads_say (bad e p) c g k same l z = refl
    reads_say (one p op next rest) c g k same l z =
        let b = behind M s c.at same in
        let did = M.effect c.size op g in
        motion_says c l z did.registers p next b.inside rest b.same (reads_say rest) k did.motion

    call_says : w.cursor.offset < 2 ^ 64 → ahead w ≡ shown ahead (call M s w)
    unfolding ahead call
    call_says b =
        let c = w.cursor in
        let g = w.registers in
        by_standing c (length s) (λ x. ahead_by w x ≡ shown ahead (called M w s x)) (λ r. refl) (λ e. refl)
        (λ r e z. reads_say (stream_at M s c.at) c g 0 refl (is_live c (length s) r e b) z)
        (λ r e n z. due_says c (is_live c (length s) r e b) g 0 c.advance n _ refl (M.lack g) refl)

  -- ---- so calls say it

  abbrev pub Below : Walk Reg → Type 0
  Below w = w.cursor.offset < 2 ^ 64

  below_due : (c : Cursor) (next : ℕ) (t : Turn) → IfMoved (λ d. Unit {0}) (λ d. d.offset < 2 ^ 64) (moved_by c next t)
  unfolding moved_by
  below_due c next (On to) = tt
  below_due c next Anew = tt
  below_due c next (Due left a) = omega arith
  below_due c next End = tt
  below_due c next (Refused e) = tt

  -- whatever the offset was, behind an item it is below 2^64
  stays : (w : Walk Reg) → walks.Stays Below (call M s w)
  stays w =
      by_call M s (λ v. Unit {0}) Below (λ v at next op e p. below_due v.cursor next (turn_of _ _ _)) w
      (walks.Stays Below) (λ u v p d. d) (λ v p. tt) (λ e. tt) tt (λ r. tt) (λ n e. omega arith)

  -- from an offset that its type has, they say what is ahead
  pub walks_below : (w : Walk Reg) → Below w → Walks (call M s) w (ahead w)
  walks_below = walks_ahead (call M s) ahead Below call_says (λ w p. stays w)

  -- every state has a run
  pub walks_all : (w : Walk Reg) → Walks (call M s) w (shown ahead (call M s w))
  walks_all w = by (call M s w) refl (stays w)
    where
      by : (a : Answer (Walk Reg) Item) → call M s w ≡ a → walks.Stays Below a →
          Walks (call M s) w (shown ahead a)
      by (item x v) e b = at_item e (walks_below v b)
      by (end v) e b = at_end_lem e
      by (refused number v) e b = at_refusal_lem e

  -- calls from a state that is in no repeat say what the operations from its read place on list
  pub reads_on : (w : Walk Reg) → Live w.cursor (length s) → w.cursor.remaining ≡ 0 →
      Walks (call M s) w (heard (listing_from w))
  unfolding ahead
  reads_on w l z =
      subst (Walks (call M s) w) (ap (ahead_by w) (stands w.cursor (length s) l z)) (walks_below w l.below)
