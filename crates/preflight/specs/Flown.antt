-- What a motion comes to in a preflight. Only private functions promise this; that it is the verdict on what the operation lists is
-- `verdict_turn` (proofs/Verdicts.antt). A spot is what is known of places if some are due: the pointer size, what they lack, their
-- segment and their type.
use Rattle.std.specs.Prelude.{ℕ, cond, List, ltb, length, get_or, Option, None, Some}
use Rattle.cursor.specs.declared.Turn.{Turn}
use Rattle.cursor.specs.declared.Turn.TheVariants as turn
use Rattle.places.specs.Places.{judged_of}
use Rattle.places.specs.declared.Judged.{Judged}
use Rattle.places.specs.declared.Judged.TheVariants.{Inside, Outside, TooLarge}
use Rattle.refusal.specs.declared.Refusal.{Refusal}
use Rattle.refusal.specs.declared.Refusal.TheVariants.{PlaceOutside, UnfitSizes}
use Rattle.preflight.specs.Verdict.{width_of}
use Rattle.preflight.specs.declared.spot.Flown.{Flown}
use Rattle.preflight.specs.declared.spot.Flown.TheVariants.{On, Pass, Fault}
use Rattle.preflight.specs.declared.spot.Spot.{Spot}

abbrev pub flown_judged : Judged → Flown
flown_judged (Inside behind) = On behind
flown_judged (Outside index) = Fault PlaceOutside index
flown_judged TooLarge = Fault UnfitSizes 0  -- not said: the sizes were tested before the first operation

module _ (spot : Spot) where
  -- places that lack nothing; a segment without a size has no place inside
  unfoldable pub flown_places : (offset advance left : ℕ) (sizes : List ℕ) → Flown
  flown_places offset advance left sizes =
      cond (ltb spot.segment (length sizes))
      (flown_judged (judged_of offset advance left (width_of spot.size spot.kind) (get_or sizes spot.segment 0)))
      (Fault PlaceOutside 0)

  abbrev pub flown_due : (offset advance left : ℕ) (sizes : List ℕ) → Option Refusal → Flown
  flown_due offset advance left sizes None = flown_places offset advance left sizes
  flown_due offset advance left sizes (Some e) = Fault e 0

  unfoldable pub flown_of : (offset : ℕ) (sizes : List ℕ) → Turn → Flown
  flown_of offset sizes (turn.On to) = On to
  flown_of offset sizes turn.Anew = On 0
  flown_of offset sizes (turn.Due left advance) = flown_due offset advance left sizes spot.lack
  flown_of offset sizes turn.End = Pass
  flown_of offset sizes (turn.Refused e) = Fault e 0
