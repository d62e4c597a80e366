-- Fields of two bytes fit a u16.
use Rattle.chains.proofs.Records.{field_fits}
use Rattle.std.proofs.Common.{rules}
use Rattle.chains.proofs.record.read_record.Goals as goal

pub overflow_cast-result : goal.overflow_cast-result
overflow_cast-result c = search (field_fits, rules)

pub overflow_cast-result-2 : goal.overflow_cast-result-2
overflow_cast-result-2 c = search (field_fits, rules)

pub overflow_cast-result-3 : goal.overflow_cast-result-3
overflow_cast-result-3 c = search (field_fits, rules)
