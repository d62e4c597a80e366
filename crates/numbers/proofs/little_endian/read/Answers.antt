use Rattle.std.proofs.Common.{arith}
use Rattle.numbers.proofs.little_endian.Fields.{field_in, field_past, field_cut, none_read, one_more, more_fits, sum_fits, all_read}
use Rattle.numbers.proofs.little_endian.read.Goals as goal

pub returns-then-s-at : goal.returns-then-s-at
returns-then-s-at g c = field_past _ _ _ c.if-s-at.true

pub returns-then-s-at-2 : goal.returns-then-s-at-2
returns-then-s-at-2 g c = field_cut _ _ _ c.if-s-at.false c.if-s-at-2.true

pub loop-i-init : goal.loop-i-init
loop-i-init g c = (none_read _ _, omega arith)

pub loop-i-preserved : goal.loop-i-preserved
loop-i-preserved g c = (rw c.from.ensures (one_more _ _ _ _ c.loop-i.invariant.0 c.if-s-at.false c.if-s-at-2.false c.loop-i-test.true), omega arith)

pub overflow_mul-value : goal.overflow_mul-value
overflow_mul-value g c = more_fits _ _ _ _ c.loop-i.invariant.0 c.type_inv.s c.requires c.loop-i-test.true

pub overflow_add-value : goal.overflow_add-value
overflow_add-value g c = rw c.from.ensures (sum_fits _ _ _ _ c.loop-i.invariant.0 c.type_inv.s c.requires c.loop-i-test.true _)

pub returns : goal.returns
returns g c =
    field_in _ _ _ c.if-s-at.false c.if-s-at-2.false
    (all_read _ _ _ _ c.loop-i.invariant.0 c.loop-i.invariant.1 (omega (arith, c.loop-i-test.false)))
