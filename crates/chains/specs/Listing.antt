-- What the starts list: every segment that has fixups, in order. A record that is refused is an entry, and not the end.
use Rattle.std.specs.Prelude.{ℕ, zero, suc, ◌+◌, cond, List, eqb, Option, Some, None}
use Rattle.chains.specs.FixupChains.{offset_at, then_starts, record_at}
use Rattle.chains.specs.declared.Segment.{Segment}
use Rattle.refusal.specs.Numbers.{number_of}
use Rattle.refusal.specs.declared.Refusal.TheVariants.{FaultyChains}
use Rattle.runs.specs.Runs.{Run, stops, fails, gives}

-- a segment, as `X` has it, or a refusal
pub data Entry (X : Type 0) : Type 0 where
  segment : X → Entry X
  refusal : (number : ℕ) → Entry X

abbrev pub entry : Option Segment → Entry Segment
entry (Some x) = segment x
entry None = refusal (number_of FaultyChains)

-- n segments from an index on, where the starts are at a place
unfoldable pub segments : List ℕ → (place n index : ℕ) → Run (Entry Segment)
segments s place zero index = stops
segments s place (suc n) index =
    let rest = segments s place n (index + 1) in
    cond (eqb (offset_at s place index) 0) rest (gives (entry (record_at s index (place + offset_at s place index))) rest)

unfoldable pub listing : List ℕ → Run (Entry Segment)
listing s = then_starts s fails (λ place count. segments s place count 0)
