use Rattle.std.proofs.Common.{refl}
use Rattle.numbers.specs.Passed.{nul_within}
use Rattle.numbers.proofs.strings.has_nul.Goals as goal

pub returns : goal.returns
unfolding nul_within
returns c = refl
