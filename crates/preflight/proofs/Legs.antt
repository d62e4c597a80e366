-- One operation of a preflight: what it comes to is the verdict on what it lists, and the places that it yields are those that it lists.
-- Assumes nothing.
use Rattle.std.specs.Prelude.{Option, None, Some}
use Prim.Native.Nat.{ℕ, zero, suc, ◌+◌, ◌%◌, ◌^◌, ◌≤◌, ◌<◌}
use mathlib.Core.Path.{◌≡◌, refl, ap, sym, ◌∙◌, subst}
use mathlib.Core.Bool.{Bool, true, false, cond}
use mathlib.Core.List.{List}
use native.Mathlib.Numerals.{add-one}
use native.Mathlib.Omega.{arith}
use lib.Dec.{ltb, leb}
use lib.ListN.{length, get_or}
use Rattle.cursor.specs.Motion.{turn_of, advance_of}
use Rattle.cursor.specs.declared.Motion.{Motion}
use Rattle.cursor.specs.declared.Motion.TheVariants.{Stays, Adds, Seeks, Restarts, Repeats, Ends, Refuses}
use Rattle.listing.proofs.Streams.{ends_within, stream_by}
use Rattle.listing.specs.Listing.{Listing, places, repeated, listed, listing_of}
use Rattle.listing.specs.Machine.{Machine}
use Rattle.listing.specs.declared.Effect.{Effect}
use Rattle.listing.specs.Stream.{Stream, before, stream_at}
use Rattle.operations.specs.Table.{Parsed, operation, faulty, no_bytes, operation_at}
use Rattle.places.specs.Places.{place_at, fits, judged_from, judged_of, largest_size}
use Rattle.places.specs.declared.Judged.{Judged}
use Rattle.places.specs.declared.Judged.TheVariants.{Inside, Outside, TooLarge}
use Rattle.refusal.specs.declared.Refusal.{Refusal}
use Rattle.refusal.specs.declared.Refusal.TheVariants.{PlaceOutside}
use Rattle.preflight.specs.Flown.{flown_judged, flown_places, flown_due, flown_of}
use Rattle.preflight.specs.declared.flight.Flight.{Flight}
use Rattle.preflight.specs.Leg.{Placed, flight_at, Leg, on, said, spot_of, places_of, leg_by, leg_over, leg_of, leg_at}
use Rattle.preflight.specs.Verdict.{Verdict, width_of, verdict, fit_sizes}
use Rattle.preflight.specs.declared.spot.Flown.{Flown}
use Rattle.preflight.specs.declared.spot.Flown.TheVariants.{On, Pass, Fault}
use Rattle.preflight.specs.declared.spot.Spot.{Spot}
use Rattle.preflight.proofs.Verdicts.{decided, verdict_turn}

-- of a leg that goes on, what holds of where it comes to and of the number of its places
abbrev pub IfOn : {Reg : Type 0} → (Flight Reg → ℕ → Type 0) → Leg Reg → Type 0
IfOn P (on f n) = P f n
IfOn P (said v) = Unit {0}

-- of places that are all inside, what holds of the offset behind them
abbrev IfInside : (ℕ → Type 0) → Judged → Type 0
IfInside P (Inside o) = P o
IfInside P (Outside index) = Unit {0}
IfInside P TooLarge = Unit {0}

-- it is that of the place that would be next
judged_behind : (o a w z i n m : ℕ) → i + n ≡ m → IfInside (λ b. b ≡ place_at o a m) (judged_from o a w z i n)
unfolding judged_from
judged_behind o a w z i zero m e = ap (place_at o a) (omega arith)
judged_behind o a w z i (suc n) m e = by (fits w z (place_at o a i)) (judged_behind o a w z (suc i) n m (omega arith))
  where
    by : (b : Bool) → IfInside (λ c. c ≡ place_at o a m) (judged_from o a w z (suc i) n) →
        IfInside (λ c. c ≡ place_at o a m) (elim b as (λ _. Judged) [ true ↦ judged_from o a w z (suc i) n | false ↦ Outside i ])
    by true h = h
    by false h = tt

module _ {Op Reg Item : Type 0} (M : Machine Op Reg Item) (size : ℕ) (sizes s : List ℕ) where
  -- what the operations from a place on list, with k read before them; and the verdict on it
  abbrev pub ahead : (at k : ℕ) → Reg → (o : ℕ) → Listing Item
  ahead at k g o = listing_of M size (stream_at M s at) k g o

  abbrev pub flight : (at k : ℕ) → Reg → (o : ℕ) → Verdict
  flight at k g o = verdict M size sizes (ahead at k g o)

  -- by what stands there
  ahead_by_lem : (at k : ℕ) (g : Reg) (o : ℕ) {q : Parsed Op} → operation_at M.table s at ≡ q →
      ahead at k g o ≡ listing_of M size (before M at (stream_at M s) q) k g o
  ahead_by_lem at k g o e = ap (λ (xs : Stream Op). listing_of M size xs k g o) (stream_by M s at e)

  pub flight_by : (at k : ℕ) (g : Reg) (o : ℕ) {q : Parsed Op} → operation_at M.table s at ≡ q →
      flight at k g o ≡ verdict M size sizes (listing_of M size (before M at (stream_at M s) q) k g o)
  flight_by at k g o e = ap (verdict M size sizes) (ahead_by_lem at k g o e)

  module _ (f : Flight Reg) where
    -- ---- the verdict

    abbrev pub after : Leg Reg → Verdict
    after (on to n) = flight to.at to.operations to.registers to.offset
    after (said v) = v

    after_by : (next : ℕ) (did : Effect Reg) (d : Flown) →
        decided f.at f.operations (flight next (suc f.operations) did.registers) d ≡ after (leg_by M size sizes f next did d)
    after_by next did (On to) = ap (λ (k : ℕ). flight next k did.registers to) (sym (add-one f.operations))
    after_by next did Pass = refl
    after_by next did (Fault e index) = refl

    -- the verdict on the operations from there on is that behind the leg
    pub leg_verdict : Placed M → fit_sizes sizes ≡ true → flight f.at f.operations f.registers f.offset ≡ after (leg_at M size sizes s f)
    unfolding leg_of leg_over listing_of before verdict
    leg_verdict P fit = by (operation_at M.table s f.at) refl
      where
        by : (q : Parsed Op) → operation_at M.table s f.at ≡ q →
            flight f.at f.operations f.registers f.offset ≡ after (leg_of M size sizes f q)
        by (operation op next) e =
            let did = M.effect size op f.registers in
            flight_by f.at f.operations f.registers f.offset e
            ∙ verdict_turn M P size sizes did.registers fit f.at f.operations (listing_of M size (stream_at M s next) (suc f.operations)) f.offset (turn_of size f.offset did.motion)
            ∙ after_by next did (flown_of (spot_of M size did.registers) f.offset sizes (turn_of size f.offset did.motion))
        by (faulty e) q = flight_by f.at f.operations f.registers f.offset q
        by no_bytes q = flight_by f.at f.operations f.registers f.offset q

    -- ---- where it comes to

    pub record Beyond (to : Flight Reg) : Type 0 where
      pub beyond : f.at < to.at
      pub inside : to.at ≤ length s
      pub counted : to.operations ≡ f.operations + 1

    beyond_by : (next : ℕ) (did : Effect Reg) → f.at < next → next ≤ length s → (d : Flown) → IfOn (λ to n. Beyond to) (leg_by M size sizes f next did d)
    beyond_by next did l h (On to) = record { beyond = l; inside = h; counted = refl }
    beyond_by next did l h Pass = tt
    beyond_by next did l h (Fault e index) = tt

    leg_beyond : IfOn (λ to n. Beyond to) (leg_at M size sizes s f)
    unfolding leg_of leg_over
    leg_beyond = by (operation_at M.table s f.at) refl
      where
        by : (q : Parsed Op) → operation_at M.table s f.at ≡ q → IfOn (λ to n. Beyond to) (leg_of M size sizes f q)
        by (operation op next) e =
            let w = ends_within M s f.at e in
            let did = M.effect size op f.registers in
            beyond_by next did w.beyond w.inside
            (flown_of (spot_of M size did.registers) f.offset sizes (turn_of size f.offset did.motion))
        by (faulty e) q = tt
        by no_bytes q = tt

    pub goes_beyond : {to : Flight Reg} {n : ℕ} → leg_at M size sizes s f ≡ on to n → Beyond to
    goes_beyond e = subst (IfOn (λ to n. Beyond to)) e leg_beyond

    -- ---- what it lists

    -- so many places, in front of what is listed from where it comes to
    pub record Lists (to : Flight Reg) (n : ℕ) : Type 0 where
      pub advance : ℕ
      pub same : ahead f.at f.operations f.registers f.offset
          ≡ places M f.at to.registers f.offset advance 0 n (ahead to.at to.operations to.registers to.offset)

    module _ (next : ℕ) (did : Effect Reg) where
      abbrev to : (o : ℕ) → Flight Reg
      to o = flight_at next (f.operations + 1) o did.registers

      -- what stands there lists so many places, and then what stands behind it lists from an offset on
      abbrev Yields : (o a n : ℕ) → Type 0
      Yields o a n =
          ahead f.at f.operations f.registers f.offset
          ≡ places M f.at did.registers f.offset a 0 n (ahead next (suc f.operations) did.registers o)

      yields : (o a n : ℕ) → Yields o a n → Lists (to o) n
      yields o a n e =
          record {
            advance = a;
            same = e ∙ ap (λ (k : ℕ). places M f.at did.registers f.offset a 0 n (ahead next k did.registers o)) (sym (add-one f.operations));
          }

      -- places that lack nothing; they end where the judge says
      lists_judged : (a left : ℕ) → places_of did.motion ≡ suc left → Yields (place_at f.offset a (suc left)) a (suc left) →
          (j : Judged) → IfInside (λ o. o ≡ place_at f.offset a (suc left)) j → IfOn Lists (leg_by M size sizes f next did (flown_judged j))
      lists_judged a left c e (Inside o) h =
          subst (Lists (to o)) (sym c) (yields o a (suc left) (e ∙ ap (λ (p : ℕ). places M f.at did.registers f.offset a 0 (suc left) (ahead next (suc f.operations) did.registers p)) (sym h)))
      lists_judged a left c e (Outside index) h = tt
      lists_judged a left c e TooLarge h = tt

      lists_segment : (a left : ℕ) → places_of did.motion ≡ suc left → Yields (place_at f.offset a (suc left)) a (suc left) →
          IfOn Lists (leg_by M size sizes f next did (flown_places (spot_of M size did.registers) f.offset a left sizes))
      unfolding flown_places judged_of
      lists_segment a left c e = by (ltb spot.segment (length sizes)) (leb (get_or sizes spot.segment 0) largest_size)
        where
          spot : Spot
          spot = spot_of M size did.registers

          width : ℕ
          width = width_of spot.size spot.kind

          by : (b d : Bool) →
              IfOn Lists (leg_by M size sizes f next did (cond b (flown_judged (cond d (judged_from f.offset a width (get_or sizes spot.segment 0) 0 (suc left)) TooLarge)) (Fault PlaceOutside 0)))
          by true true = lists_judged a left c e (judged_from f.offset a width (get_or sizes spot.segment 0) 0 (suc left)) (judged_behind f.offset a width (get_or sizes spot.segment 0) 0 (suc left) (suc left) (omega arith))
          by true false = tt
          by false d = tt

      -- by what the motion is; `here` is what stands there
      lists_motion : (m : Motion) → m ≡ did.motion →
          ahead f.at f.operations f.registers f.offset
          ≡ listed M f.at f.operations did.registers f.offset (listing_of M size (stream_at M s next) (suc f.operations)) (turn_of size f.offset m) →
          IfOn Lists (leg_by M size sizes f next did (flown_of (spot_of M size did.registers) f.offset sizes (turn_of size f.offset m)))
      unfolding turn_of flown_of listed places
      lists_motion Stays q e = subst (Lists (to f.offset)) (ap places_of q) (yields f.offset 0 0 e)
      lists_motion (Adds n) q e = subst (Lists (to ((f.offset + n) % 2 ^ 64))) (ap places_of q) (yields ((f.offset + n) % 2 ^ 64) 0 0 e)
      lists_motion (Seeks n) q e = subst (Lists (to (n % 2 ^ 64))) (ap places_of q) (yields (n % 2 ^ 64) 0 0 e)
      lists_motion Restarts q e = subst (Lists (to 0)) (ap places_of q) (yields 0 0 0 e)
      lists_motion (Repeats zero addition) q e = subst (Lists (to f.offset)) (ap places_of q) (yields f.offset 0 0 e)
      lists_motion (Repeats (suc left) addition) q e = by (M.lack did.registers) refl
        where
          by : (l : Option Refusal) → M.lack did.registers ≡ l →
              IfOn Lists (leg_by M size sizes f next did (flown_due (spot_of M size did.registers) f.offset (advance_of size addition) left sizes l))
          by None h = lists_segment (advance_of size addition) left (sym (ap places_of q)) (e ∙ unfold repeated in rw h)
          by (Some x) h = tt
      lists_motion Ends q e = tt
      lists_motion (Refuses x) q e = tt

    leg_lists : IfOn Lists (leg_at M size sizes s f)
    unfolding leg_of leg_over listing_of before
    leg_lists = by (operation_at M.table s f.at) refl
      where
        by : (q : Parsed Op) → operation_at M.table s f.at ≡ q → IfOn Lists (leg_of M size sizes f q)
        by (operation op next) e =
            let did = M.effect size op f.registers in
            lists_motion next did did.motion refl (ahead_by_lem f.at f.operations f.registers f.offset e)
        by (faulty e) q = tt
        by no_bytes q = tt

    -- a leg that goes on lists the places that it yields, and behind them what is listed from where it comes to
    pub leg_places : {to : Flight Reg} {n : ℕ} → leg_at M size sizes s f ≡ on to n → Lists to n
    leg_places e = subst (IfOn Lists) e leg_lists
