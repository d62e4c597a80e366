-- `packing::is_record` tests each field. Assumes nothing.
use Rattle.std.proofs.Common.{rules}
use Rattle.packing.proofs.Fields.{tests_each, other_length}
use Rattle.packing.proofs.is_record.Goals as goal

pub returns-then-has_words : goal.returns-then-has_words
returns-then-has_words c = tests_each _ _ c.has_words.ensures c.if-has_words.true (search rules)

pub returns-else-has_words : goal.returns-else-has_words
returns-else-has_words c = other_length _ _ c.has_words.ensures c.if-has_words.false
