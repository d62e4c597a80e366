-- `packing::write` writes all words, or none. Assumes nothing.
use Rattle.std.proofs.Common.{arith, refl, ◌∙◌}
use Rattle.packing.proofs.Crossing.{so_many, not_so_many}
use Rattle.packing.proofs.Words.{writes_on, writes_all, writes_nothing}
use Rattle.packing.specs.Words.{bytes_of}
use Rattle.packing.proofs.write.Goals as goal

pub returns-then-not-has_words : goal.returns-then-not-has_words
returns-then-not-has_words c = writes_nothing _ _ (not_so_many _ _ c.has_words.ensures c.if-not-has_words.true refl)

pub loop-i-init : goal.loop-i-init
unfolding bytes_of
loop-i-init c = record { long = so_many _ _ c.has_words.ensures c.if-not-has_words.false; is = refl }

pub loop-i-preserved : goal.loop-i-preserved
loop-i-preserved c =
    writes_on c.loop-i.invariant _ _ c.loop-i-test.true (omega arith) (c.copy_from_slice.ensures.after ∙ c.to_le_bytes.ensures)

pub returns : goal.returns
returns c = writes_all c.loop-i.invariant c.loop-i-test.false
