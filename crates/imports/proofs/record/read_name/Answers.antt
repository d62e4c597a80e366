-- Where the sum is none of a usize, no name is there.
use Rattle.imports.proofs.Imports.{name_far}
use Rattle.numbers.specs.Strings.{string_at}
use Rattle.std.proofs.Common.{◌≤◌, length, ap, ◌∙◌, arith}
use Rattle.imports.proofs.record.read_name.Goals as goal

pub returns : goal.returns
returns c =
    let short : length c.args.s.now ≤ 0xffff_ffff_ffff_ffff = omega arith in
    c.read_string.ensures ∙ ap (string_at c.args.s.now) c.saturating_add.ensures ∙ name_far c.args.s.now _ short
