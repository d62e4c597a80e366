use Rattle.std.proofs.Common.{arith}
use Rattle.numbers.proofs.leb128.Gathering.{gather_laws}
use Rattle.numbers.proofs.leb128.gather.Goals as goal

pub loop-at-init : goal.loop-at-init
loop-at-init c = search (gather_laws, arith)

pub returns-then-scale : goal.returns-then-scale
returns-then-scale c = search (gather_laws, arith)

pub returns-then-byte-lt128 : goal.returns-then-byte-lt128
returns-then-byte-lt128 c = search (gather_laws, arith)

pub returns-then-scale-2 : goal.returns-then-scale-2
returns-then-scale-2 c = search (gather_laws, arith)

pub overflow_mul-low : goal.overflow_mul-low
overflow_mul-low c = rw c.from.ensures (search (gather_laws, arith))

pub overflow_add-low : goal.overflow_add-low
overflow_add-low c = rw c.from.ensures (search (gather_laws, arith))

pub overflow_mul-scale : goal.overflow_mul-scale
overflow_mul-scale c = search (gather_laws, arith)

pub loop-at-preserved : goal.loop-at-preserved
loop-at-preserved c = rw c.from.ensures (search (gather_laws, arith))

pub returns : goal.returns
returns c = search (gather_laws, arith)
