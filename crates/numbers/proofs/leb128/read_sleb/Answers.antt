use Rattle.std.proofs.Common.{◌∙◌, ap, rules, Some}
use Rattle.numbers.proofs.leb128.Sleb.{few_plus, ten_plus}
use Rattle.numbers.proofs.leb128.read_sleb.Goals as goal

pub returns-then-last-lt64 : goal.returns-then-last-lt64
returns-then-last-lt64 c =
    ap (λ z. Some (z, c.in-Few.next)) (search rules) ∙
    few_plus c.args.s.now c.args.at c.gather.ensures (search rules) c.if-last-lt64.true (rw c.from.ensures at c.plus.ensures)

pub returns-then-last-eq0 : goal.returns-then-last-eq0
returns-then-last-eq0 c =
    ap (λ z. Some (z, c.in-Ten.next)) (search rules) ∙
    ten_plus c.args.s.now c.args.at c.gather.ensures (search rules) c.if-last-eq0.true c.plus-then-last-eq0.ensures
