-- One call, by how the state stands. Assumes nothing.
use Prim.Native.Nat.{ℕ, zero, suc, ◌^◌, ◌≤◌, ◌<◌}
use mathlib.Core.Path.{◌≡◌, refl, ap, sym, ◌∙◌}
use mathlib.Core.Bool.{Bool, true, false, cond, and-eq-true_iff}
use mathlib.Core.List.{List}
use native.Mathlib.Omega.{arith}
use borrow.Author.Tests.{leb-true}
use lib.Dec.{leb}
use lib.ListN.{length}
use Rattle.cursor.proofs.Turns.{stands_live}
use Rattle.cursor.specs.Cursor.{is_pointer_size, at_start, behind_place, in_range, live_standing, standing_of, read_to}
use Rattle.cursor.specs.declared.Cursor.{Cursor}
use Rattle.cursor.specs.declared.Standing.{Standing}
use Rattle.cursor.specs.declared.Standing.TheVariants as standing
use Rattle.listing.specs.Call.{called, call}
use Rattle.listing.specs.declared.Walk.{Walk}
use Rattle.listing.specs.Machine.{Machine}

pub call_by : {Op Reg Item : Type 0} (M : Machine Op Reg Item) (s : List ℕ) (w : Walk Reg) {x : Standing} → standing_of w.cursor (length s) ≡ x →
    call M s w ≡ called M w s x
unfolding call
call_by M s w e = ap (called M w s) e

-- ---- what holds of each way to stand

module _ (c : Cursor) (len : ℕ) (Q : Standing → Type 0) (out : in_range c len ≡ false → Q standing.OutOfRange)
    (ended : c.ended ≡ true → Q standing.Ended)
    (reads : in_range c len ≡ true → c.ended ≡ false → c.remaining ≡ 0 → Q standing.Reading)
    (due : in_range c len ≡ true → c.ended ≡ false → (n : ℕ) → c.remaining ≡ suc n →
    Q (standing.Due (behind_place c n c.advance))) where
  by_remaining : in_range c len ≡ true → c.ended ≡ false → (n : ℕ) → c.remaining ≡ n → Q (live_standing c n)
  by_remaining r e zero = reads r e
  by_remaining r e (suc n) = due r e n

  pub by_standing : Q (standing_of c len)
  unfolding standing_of
  by_standing = by (in_range c len) refl c.ended refl
    where
      by : (b : Bool) → in_range c len ≡ b → (d : Bool) → c.ended ≡ d →
          Q (cond b (cond d standing.Ended (live_standing c c.remaining)) standing.OutOfRange)
      by false r d e = out r
      by true r true e = ended e
      by true r false e = by_remaining r e c.remaining refl

-- ---- in range, not ended, and at an offset below 2^64

pub record Live (c : Cursor) (len : ℕ) : Type 0 where
  pub inside : c.at ≤ len
  pub sized : is_pointer_size c.size ≡ true
  pub going : c.ended ≡ false
  pub below : c.offset < 2 ^ 64

module _ (c : Cursor) (len : ℕ) where
  pub is_live : in_range c len ≡ true → c.ended ≡ false → c.offset < 2 ^ 64 → Live c len
  is_live r e b =
      let p = (and-eq-true_iff (leb c.at len) (is_pointer_size c.size)).0 r in
      record { inside = leb-true c.at len p.0; sized = p.1; going = e; below = b }

  pub stands : Live c len → {n : ℕ} → c.remaining ≡ n → standing_of c len ≡ live_standing c n
  stands l e = sym (stands_live c len l.inside refl l.sized l.going) ∙ ap (live_standing c) e

-- behind a place, read on, and from a start
pub live_behind : {c : Cursor} {len : ℕ} (n a : ℕ) → Live c len → Live (behind_place c n a) len
live_behind n a l = record { inside = l.inside; sized = l.sized; going = l.going; below = omega arith }

pub live_to : {c : Cursor} {len next : ℕ} (to : ℕ) → Live c len → next ≤ len → to < 2 ^ 64 → Live (read_to next c to) len
live_to to l h b = record { inside = h; sized = l.sized; going = l.going; below = b }

pub live_start : {size len next : ℕ} → next ≤ len → is_pointer_size size ≡ true → Live (read_to next (at_start size) 0) len
live_start h e = record { inside = h; sized = e; going = refl; below = omega arith }
