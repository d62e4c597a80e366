-- At each return the law for it, whose premises are among the tests.
use Rattle.std.proofs.Common.{◌+◌, ◌-◌, refl, arith}
use Rattle.places.proofs.Judgements.{too_large, at_once, still, forth_leaves, forth_stays, back_leaves, back_stays}
use Rattle.places.proofs.judge.Goals as goal

pub returns-then-size-gt-LARGEST_SIZE : goal.returns-then-size-gt-LARGEST_SIZE
returns-then-size-gt-LARGEST_SIZE c = too_large _ _ _ _ _ (omega arith)

pub returns-then-size-width : goal.returns-then-size-width
returns-then-size-width c = at_once _ _ _ _ _ (omega arith) (omega arith) (omega arith)

pub returns-then-last-offset : goal.returns-then-last-offset
returns-then-last-offset c = at_once _ _ _ _ _ (omega arith) (omega arith) (omega arith)

pub returns-then-advance-eq0 : goal.returns-then-advance-eq0
returns-then-advance-eq0 c = still _ _ _ _ _ (omega arith) (omega arith) (omega arith) (omega arith)

pub returns-then-steps_up-left : goal.returns-then-steps_up-left
returns-then-steps_up-left c =
    forth_leaves _ _ _ _ _ (omega arith) (omega arith) (omega arith) (omega arith) (omega arith) (omega arith) refl

pub returns-then-advance-le9223372036854775808 : goal.returns-then-advance-le9223372036854775808
returns-then-advance-le9223372036854775808 c =
    forth_stays _ _ _ _ _ (omega arith) (omega arith) (omega arith) (omega arith) (omega arith) (omega arith) refl

pub returns-then-steps_down-left : goal.returns-then-steps_down-left
returns-then-steps_down-left c =
    back_leaves _ _ _ _ _ (omega arith) (omega arith) (omega arith) (18446744073709551615 - c.args.advance + 1) (omega arith) (omega arith) (omega arith) (omega arith) refl

pub returns : goal.returns
returns c =
    back_stays _ _ _ _ _ (omega arith) (omega arith) (omega arith) (18446744073709551615 - c.args.advance + 1) (omega arith) (omega arith) (omega arith) (omega arith) refl
