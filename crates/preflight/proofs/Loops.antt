-- A preflight's code by the tests it makes, for `search`: its start, one operation, and the loop over operations. Assumes nothing.
use Prim.Native.Nat.{ℕ, ◌+◌, ◌-◌, ◌^◌, ◌≤◌, ◌<◌}
use mathlib.Core.Path.{◌≡◌, refl, ap, sym, ◌∙◌}
use mathlib.Core.Bool.{Bool, true, false, cond}
use mathlib.Core.List.{List}
use native.Mathlib.Omega.{arith}
use lib.ListN.{length}
use Rattle.cursor.specs.Cursor.{is_pointer_size, start_of, at_start}
use Rattle.std.specs.Prelude.{Ok, Err}
use Rattle.listing.proofs.Streams.{ends_within}
use Rattle.listing.specs.Call.{begin_from, begin}
use Rattle.listing.specs.Listing.{listing}
use Rattle.listing.specs.declared.Walk.{Walk}
use Rattle.listing.specs.Machine.{Machine}
use Rattle.operations.specs.Table.{Parsed, operation, operation_at}
use Rattle.refusal.specs.Numbers.{number_of}
use Rattle.refusal.specs.declared.Refusal.TheVariants.{PointerSize, UnfitSizes}
use Rattle.runs.specs.Runs.{Begin}
use Rattle.preflight.specs.declared.flight.Flight.{Flight}
use Rattle.preflight.specs.Leg.{flight_at, Leg, on, said, Placed, started, leg_at}
use Rattle.preflight.specs.Verdict.{Verdict, fault, fit_sizes, with_sizes, preflight}
use Rattle.preflight.proofs.Legs.{flight, after, leg_verdict, Beyond, goes_beyond}

pub counts : {Op Reg Item : Type 0} (M : Machine Op Reg Item) (s : List ℕ) (at : ℕ) {k : ℕ} {x : Parsed Op} → x ≡ operation_at M.table s at →
    {op : Op} {next : ℕ} → x ≡ operation op next → k ≤ at → length s < 2 ^ 64 → k + 1 < 2 ^ 64
counts M s at p q h l = let w = ends_within M s at (sym p ∙ q) in omega (arith, w.beyond, w.inside)

-- ---- the loop

module _ {Op Reg Item : Type 0} (M : Machine Op Reg Item) (size : ℕ) (sizes s : List ℕ) where
  -- the invariant: the verdict is the one on the operations from here on
  pub record Flying (v : Verdict) (f : Flight Reg) : Type 0 where
    pub same : v ≡ flight M size sizes s f.at f.operations f.registers f.offset
    pub few : f.operations ≤ f.at
    pub fit : fit_sizes sizes ≡ true

  -- by the test of the sizes
  module _ (g : Reg) {b : Bool} (e : b ≡ fit_sizes sizes) where
    pub not_fit : b ≡ false → {y : Verdict} → y ≡ fault (number_of UnfitSizes) 0 0 → y ≡ with_sizes M g size sizes s
    unfolding with_sizes
    not_fit f h = h ∙ sym (rw (sym e ∙ f))

    pub takes_off : b ≡ true → Flying (with_sizes M g size sizes s) (flight_at 0 0 0 g)
    unfolding with_sizes listing
    takes_off f = let fit = sym e ∙ f in record { same = rw fit; few = omega arith; fit = fit }

-- by what the operation comes to
module _ {Op Reg Item : Type 0} (M : Machine Op Reg Item) (P : Placed M) {size : ℕ} {sizes s : List ℕ} {v : Verdict} {f : Flight Reg} (r : Flying M size sizes s v f)
    {x : Leg Reg} (p : x ≡ leg_at M size sizes s f) where
  comes_to : {l : Leg Reg} → x ≡ l → v ≡ after M size sizes s f l
  comes_to e = r.same ∙ leg_verdict M size sizes s f P r.fit ∙ ap (after M size sizes s f) (sym p ∙ e)

  pub has_said : {y : Verdict} → x ≡ said y → y ≡ v
  has_said e = sym (comes_to e)

  module _ {to : Flight Reg} {places : ℕ} (e : x ≡ on to places) where
    beyond : Beyond M size sizes s f to
    beyond = goes_beyond M size sizes s f (sym p ∙ e)

    pub further : length s - to.at < length s - f.at
    further = omega (arith, beyond.beyond, beyond.inside)

    pub flies_on : Flying M size sizes s v to
    flies_on = record { same = comes_to e; few = omega (arith, beyond.beyond, beyond.counted, r.few); fit = r.fit }

-- ---- the start, by what the walk's start is

module _ {Op Reg Item : Type 0} (M : Machine Op Reg Item) (g : Reg) (size : ℕ) (sizes s : List ℕ) where
  pub starting : started M size sizes s (begin size g) ≡ preflight M g size sizes s
  unfolding preflight start_of
  starting = by_size (is_pointer_size size)
    where
      by_size : (b : Bool) →
          started M size sizes s (begin_from g (cond b (Ok (at_start size)) (Err PointerSize)))
          ≡ cond b (with_sizes M g size sizes s) (fault (number_of PointerSize) 0 0)
      by_size true = refl
      by_size false = refl

  pub started_as : {b : Begin (Walk Reg)} {v : Verdict} → b ≡ begin size g → v ≡ started M size sizes s b → v ≡ preflight M g size sizes s
  started_as e h = h ∙ ap (started M size sizes s) e ∙ starting
