use Rattle.std.proofs.Common.{◌≡◌, ◌-◌, ◌/◌, ◌^◌, ◌<◌, ◌≤◌, length, drop}
use Rattle.dump.specs.Digits.{last_digits}
use Rattle.dump.proofs.line.write_digits.Given as goal

abbrev pub invariant-loop-at : goal.invariant-loop-at
invariant-loop-at l = record {
  long : length l.room ≡ 20;
  within : l.at ≤ 20;
  left : l.rest ≡ l.n / l.base ^ (20 - l.at);
  written : drop l.at l.room ≡ last_digits l.base (20 - l.at) l.n;
  shortest : l.width < 20 - l.at → l.base ^ (20 - l.at - 1) ≤ l.n;
}

abbrev pub decreases-loop-at : goal.decreases-loop-at
decreases-loop-at l = l.at
