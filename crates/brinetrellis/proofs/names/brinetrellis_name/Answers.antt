use Rattle.std.proofs.Common.{rules}
use Rattle.numbers.proofs.Picks.{picks}
use Rattle.packing.proofs.Boundary.{over, two}
use Rattle.brinetrellis.proofs.names.brinetrellis_name.Goals as goal

pub returns : goal.returns
returns c = search (picks, two, over, rules)
