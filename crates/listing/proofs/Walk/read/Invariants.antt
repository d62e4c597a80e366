use Rattle.std.proofs.Common.{◌-◌, length}
use Rattle.listing.proofs.Loops.{Reading}
use Rattle.listing.specs.Call.{read}
use Rattle.listing.specs.Stream.{stream_at}
use Rattle.listing.proofs.Walk.read.Given as goal

abbrev pub invariant-loop-op : goal.invariant-loop-op
invariant-loop-op g l =
    let M = g.R.Registers.machine in
    Reading M l.s l.self (read M l.self (stream_at M l.s l.self.cursor.at) l.self) l.cursor l.registers

abbrev pub decreases-loop-op : goal.decreases-loop-op
decreases-loop-op g l = length l.s - l.cursor.at
