use Rattle.numerals.proofs.Turns.{starts}
use Rattle.numerals.proofs.digits.Goals as goal

pub loop-b-init : goal.loop-b-init
loop-b-init c = starts c.args.base c.requires c.args.text.now
