-- In accord with the document where readers have slipped: a repeat of no places has none due, so that nothing can be lacking. Assumes nothing.
use Rattle.std.proofs.Common.{◌≡◌, refl}
use Rattle.cursor.specs.Motion.{turn_of}
use Rattle.cursor.specs.declared.Motion.TheVariants.{Repeats}
use Rattle.cursor.specs.declared.Turn.TheVariants.{On}

pub none_due : turn_of 8 16 (Repeats 0 4) ≡ On 16
unfolding turn_of
none_due = refl
