-- An item has five words, whichever fixup it is. Assumes nothing.
use Prim.Native.Nat.{suc}
use mathlib.Core.Path.{◌≡◌, refl, ap}
use lib.ListN.{length}
use Rattle.packed_pages.specs.Packed.{fixup_words, item_words}
use Rattle.pages.specs.declared.Patch.{Patch}
use Rattle.pages.specs.declared.pointer.Fixup.{Fixup}
use Rattle.pages.specs.declared.pointer.Fixup.TheVariants.{Rebase, Bind}

four : (f : Fixup) → length (fixup_words f) ≡ 4
four (Rebase r) = refl
four (Bind b) = refl

pub five : (x : Patch) → length (item_words x) ≡ 5
five x = ap suc (four x.fixup)
