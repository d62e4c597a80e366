-- Calls in a row at the boundary to C. One caller lends the same two records each time, as the last call left them, and goes by the number
-- that is answered.
use Rattle.std.specs.Prelude.{ℕ, cond, List, eqb}
use Rattle.packing.specs.Boundary.{States, Items, item_told, end_told, stepped}
use Rattle.runs.specs.Runs.{Answer, Run, mapped}
use Rattle.runs.specs.Runs as answer

-- the bytes of the state and those of the item
pub record Lent : Type 0 where
  pub state : List ℕ
  pub item : List ℕ

abbrev pub lent : (state item : List ℕ) → Lent
lent state item = record { state = state; item = item }

-- what a step says to one who goes by its number: 0 is an item, whose record is then told; 256 the end; any other a refusal
abbrev pub by_number : (number : ℕ) → Lent → Answer Lent (List ℕ)
by_number number r =
    cond (eqb number item_told) (answer.item r.item r)
    (cond (eqb number end_told) (answer.end r) (answer.refused number r))

-- the number and the bytes that a step answers and leaves, as an answer
abbrev pub as_answer : ℕ × List ℕ × List ℕ → Answer Lent (List ℕ)
as_answer p = by_number p.0 (lent p.1 p.2)

-- one call through the entry point
abbrev pub through : {W X : Type 0} → States W → Items X → (W → Answer W X) → Lent → Answer Lent (List ℕ)
through S I call r = as_answer (stepped S I r.state r.item call)

-- a run of items, as a run of their records
abbrev pub recorded : {X : Type 0} → Items X → Run X → Run (List ℕ)
recorded I r = mapped I.bytes r
