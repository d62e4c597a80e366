-- `packed_preflight::answer` answers the verdict where what is lent fits. Assumes nothing.
use Rattle.std.proofs.Common.{rules, arith}
use Rattle.packed_preflight.proofs.Flights.{verdict_unfit, sizes_unfit, flown_as}
use Rattle.packed_preflight.proofs.answer.Goals as goal
use Rattle.packed_preflight.proofs.answer.Goals.{then-verdict-ne16-via-then-verdict-ne16, then-verdict-ne16-via-else-verdict-ne16+then-sizes-ne0}

pub returns-then-verdict-ne16 : goal.returns-then-verdict-ne16
returns-then-verdict-ne16 g c flight is says =
    elim c.then-verdict-ne16.branch [
      | then-verdict-ne16-via-then-verdict-ne16 w ↦ verdict_unfit _ _ _ _ _ c.refused.ensures (λ e. omega (arith, e, w.if-verdict-ne16.true))
      | then-verdict-ne16-via-else-verdict-ne16+then-sizes-ne0 w ↦
          sizes_unfit _ _ _ _ _ (omega (arith, w.if-verdict-ne16.false)) c.refused.ensures (λ e. omega (arith, e, w.if-sizes-ne0.true))
    ]

pub returns : goal.returns
returns g c flight is says = flown_as _ _ _ _ _ (search rules) _ (search rules) c.tell.ensures (c.judge.ensures flight is says)
