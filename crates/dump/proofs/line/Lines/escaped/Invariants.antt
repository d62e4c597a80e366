-- What the loop of `Lines::escaped` keeps: a byte of the name has come to four bytes at most.
use Rattle.std.proofs.Common.{◌≡◌, ◌*◌, ◌≤◌, length}
use Rattle.dump.proofs.line.Lines.escaped.Given as goal

abbrev pub invariant-loop-i : goal.invariant-loop-i
invariant-loop-i l = length l.text ≡ 64 × l.n ≤ 4 * l.i
