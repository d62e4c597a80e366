use Rattle.std.proofs.Common.{◌∙◌, refl}
use Rattle.listing.proofs.Loops.{by_parsed, by_moved, further, reads_on}
use Rattle.listing.specs.Call.{answered, read}
use Rattle.listing.specs.Stream.{before}
use Rattle.listing.proofs.Walk.read.Goals as goal

pub returns-in-Ok-None : goal.returns-in-Ok-None
unfolding read before
returns-in-Ok-None g c =
    let none_left = rw c.in-Ok-None.field-0-is at c.in-Ok-None.ensures in
    by_parsed c.loop-op.invariant none_left

pub returns-in-Err : goal.returns-in-Err
unfolding read before
returns-in-Err g c = c.refused-in-Err.ensures ∙ by_parsed c.loop-op.invariant c.in-Err.ensures

pub loop-op-smaller : goal.loop-op-smaller
loop-op-smaller g c =
    let parsed = rw c.in-Ok-Some.field-0-is at c.in-Ok-Some.ensures in
    further c.loop-op.invariant parsed c.effect-did.ensures c.in-On.ensures refl

pub loop-op-preserved : goal.loop-op-preserved
loop-op-preserved g c =
    let parsed = rw c.in-Ok-Some.field-0-is at c.in-Ok-Some.ensures in
    reads_on c.loop-op.invariant parsed c.effect-did.ensures c.in-On.ensures refl

pub returns-in-Due : goal.returns-in-Due
unfolding answered
returns-in-Due g c =
    let parsed = rw c.in-Ok-Some.field-0-is at c.in-Ok-Some.ensures in
    c.due.ensures ∙ by_moved c.loop-op.invariant parsed c.effect-did.ensures c.in-Due.ensures

pub returns-in-End : goal.returns-in-End
unfolding answered
returns-in-End g c =
    let parsed = rw c.in-Ok-Some.field-0-is at c.in-Ok-Some.ensures in
    by_moved c.loop-op.invariant parsed c.effect-did.ensures c.in-End.ensures

pub returns-in-Refused : goal.returns-in-Refused
unfolding answered
returns-in-Refused g c =
    let parsed = rw c.in-Ok-Some.field-0-is at c.in-Ok-Some.ensures in
    c.refused.ensures ∙ by_moved c.loop-op.invariant parsed c.effect-did.ensures c.in-Refused.ensures
