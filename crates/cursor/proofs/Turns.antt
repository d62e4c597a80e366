-- What a call has to do where the cursor is in range and the walk was not refused. Assumes nothing.
use Rattle.std.proofs.Common.{◌≡◌, ℕ, ◌≤◌, Bool, true, false, sym, ◌∙◌, le-leb}
use Rattle.cursor.specs.Cursor.{is_pointer_size, live_standing, standing_of}
use Rattle.cursor.specs.declared.Cursor.{Cursor}

module _ (c : Cursor) (len : ℕ) {t : Bool} (h : c.at ≤ len) (p : t ≡ is_pointer_size c.size) (e : t ≡ true) where
  pub stands_live : c.ended ≡ false → live_standing c c.remaining ≡ standing_of c len
  unfolding standing_of
  stands_live d = simp (le-leb c.at len h, sym p ∙ e, d)
