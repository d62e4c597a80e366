use Rattle.std.proofs.Common.{◌≡◌, ◌+◌, ◌-◌, ◌≤◌}
use Rattle.numbers.specs.LittleEndian.{little_endian}
use Rattle.numbers.proofs.little_endian.read.Given as goal

-- the last i bytes of the field are read
abbrev pub invariant-loop-i : goal.invariant-loop-i
invariant-loop-i g l = (l.value ≡ little_endian l.i l.s (l.at + (g.row.N - l.i))) × (l.i ≤ g.row.N)
