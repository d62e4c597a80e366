use Rattle.std.proofs.Common.{arith}
use Rattle.numbers.proofs.parts.Inside.{lies_in, lies_out}
use Rattle.numbers.proofs.parts.Part.of.Goals as goal
use Rattle.numbers.proofs.parts.Part.of.Goals.{then-s-self-via-then-s-self, then-s-self-via-else-s-self+then-s-self-2}

pub returns-then-s-self : goal.returns-then-s-self
returns-then-s-self c =
    elim c.then-s-self.branch [
      | then-s-self-via-then-s-self w ↦ lies_out _ _ _ _ (omega (arith, w.if-s-self.true))
      | then-s-self-via-else-s-self+then-s-self-2 w ↦ lies_out _ _ _ _ (omega (arith, w.if-s-self.false, w.if-s-self-2.true))
    ]

pub returns : goal.returns
returns c = lies_in _ _ _ _ (omega (arith, c.if-s-self.false)) (omega (arith, c.if-s-self-2.false))
