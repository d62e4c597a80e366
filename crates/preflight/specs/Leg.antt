-- One operation of a stream in a preflight: from where the preflight stands to where it stands behind the operation, or to what it says.
-- Only private functions promise this. That it is the verdict on what the operation lists is `leg_verdict`, and that the places
-- it yields are those that the operation lists is `leg_places` (proofs/Legs.antt).
use Rattle.std.specs.Prelude.{ℕ, ◌+◌, ◌≡◌, List}
use Rattle.cursor.specs.Motion.{turn_of}
use Rattle.cursor.specs.declared.Motion.{Motion}
use Rattle.cursor.specs.declared.Motion.TheVariants.{Stays, Adds, Seeks, Restarts, Repeats, Ends, Refuses}
use Rattle.listing.specs.Machine.{Machine}
use Rattle.listing.specs.declared.Effect.{Effect}
use Rattle.listing.specs.declared.Walk.{Walk}
use Rattle.operations.specs.Table.{Parsed, operation, faulty, no_bytes, operation_at}
use Rattle.refusal.specs.Numbers.{number_of}
use Rattle.runs.specs.Runs.{Begin, begun, not_begun}
use Rattle.preflight.specs.Flown.{flown_of}
use Rattle.preflight.specs.Verdict.{Verdict, pass, fault, with_sizes}
use Rattle.preflight.specs.declared.flight.Flight.{Flight}
use Rattle.preflight.specs.declared.spot.Flown.{Flown}
use Rattle.preflight.specs.declared.spot.Flown.TheVariants.{On, Pass, Fault}
use Rattle.preflight.specs.declared.spot.Spot.{Spot}

abbrev pub flight_at : {Reg : Type 0} → (at operations offset : ℕ) → Reg → Flight Reg
flight_at at operations offset g = record { at = at; operations = operations; offset = offset; registers = g }

pub data Leg (Reg : Type 0) : Type 0 where
  on : Flight Reg → (places : ℕ) → Leg Reg  -- behind the operation, which yields so many places
  said : Verdict → Leg Reg

-- how many places a motion yields
abbrev pub places_of : Motion → ℕ
places_of Stays = 0
places_of (Adds n) = 0
places_of (Seeks to) = 0
places_of Restarts = 0
places_of (Repeats count addition) = count
places_of Ends = 0
places_of (Refuses e) = 0

-- segment and type of an item are those of the registers, whatever its offset
abbrev pub Placed : {Op Reg Item : Type 0} → Machine Op Reg Item → Type 0
Placed {Reg = Reg} M =
    (g : Reg) (offset : ℕ) →
    M.place (M.item g offset)
    ≡ record { segment = (M.place (M.item g 0)).segment; offset = offset; kind = (M.place (M.item g 0)).kind }

-- what is known of places if some are due: all are of the segment and of the type that the registers say
abbrev pub spot_of : {Op Reg Item : Type 0} (M : Machine Op Reg Item) (size : ℕ) → Reg → Spot
spot_of M size g =
    let p = M.place (M.item g 0) in
    record { size = size; lack = M.lack g; segment = p.segment; kind = p.kind }

module _ {Op Reg Item : Type 0} (M : Machine Op Reg Item) (size : ℕ) (sizes : List ℕ) where
  -- by what the motion comes to; `next` is the place behind the operation
  abbrev pub leg_by : Flight Reg → (next : ℕ) → Effect Reg → Flown → Leg Reg
  leg_by f next did (On to) = on (flight_at next (f.operations + 1) to did.registers) (places_of did.motion)
  leg_by f next did Pass = said (pass (f.operations + 1))
  leg_by f next did (Fault e index) = said (fault (number_of e) f.at index)

  -- an operation that is read
  unfoldable pub leg_over : Flight Reg → Op → (next : ℕ) → Leg Reg
  leg_over f op next =
      let did = M.effect size op f.registers in
      leg_by f next did (flown_of (spot_of M size did.registers) f.offset sizes (turn_of size f.offset did.motion))

  -- what stands at the place
  unfoldable pub leg_of : Flight Reg → Parsed Op → Leg Reg
  leg_of f (operation op next) = leg_over f op next
  leg_of f (faulty e) = said (fault (number_of e) f.at 0)
  leg_of f no_bytes = said (pass f.operations)

  abbrev pub leg_at : (s : List ℕ) → Flight Reg → Leg Reg
  leg_at s f = leg_of f (operation_at M.table s f.at)

-- ---- a stream, from the start of its walk

abbrev pub started : {Op Reg Item : Type 0} → Machine Op Reg Item → (size : ℕ) (sizes s : List ℕ) → Begin (Walk Reg) → Verdict
started M size sizes s (begun w) = with_sizes M w.registers size sizes s
started M size sizes s (not_begun number) = fault number 0 0
