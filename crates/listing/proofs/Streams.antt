-- The operations of a stream from a place on: none, one that is refused, or one and those from the place behind it. Assumes nothing.
use Prim.Native.Nat.{ℕ, zero, suc, ◌+◌, ◌-◌, ◌≤◌, ◌<◌}
use mathlib.Core.Path.{◌≡◌, refl, ap, sym, ◌∙◌, subst}
use mathlib.Core.List.{List}
use native.Mathlib.Omega.{arith}
use lib.ListN.{length}
use Rattle.listing.specs.Machine.{Machine}
use Rattle.listing.specs.Stream.{Stream, out, bad, one, before, stream_in, stream_at}
use Rattle.numbers.proofs.Laws.{Within}
use Rattle.operations.proofs.Laws.{operation_read, no_bytes_left}
use Rattle.operations.proofs.Rows.{no_byte}
use Rattle.operations.specs.Table.{Parsed, operation, faulty, no_bytes, operation_at}
use Rattle.refusal.specs.declared.Refusal.{Refusal}

module _ {Op Reg Item : Type 0} (M : Machine Op Reg Item) (s : List ℕ) where
  -- what stands at a place
  abbrev pub there : (at : ℕ) → Parsed Op
  there at = operation_at M.table s at

  -- an operation ends behind its place, and within the bytes
  pub ends_within : (at : ℕ) {op : Op} {next : ℕ} → there at ≡ operation op next → Within s at next
  ends_within at e = operation_read s at M.table e

  pub fewer_left : (at : ℕ) {op : Op} {next : ℕ} → there at ≡ operation op next → length s - next < length s - at
  fewer_left at e = let w = ends_within at e in omega (arith, w.beyond, w.inside)

  before_same : (at : ℕ) (r q : ℕ → Stream Op) (p : Parsed Op) → there at ≡ p → ((next : ℕ) → at < next → r next ≡ q next) →
      before M at r p ≡ before M at q p
  unfolding before
  before_same at r q (operation op next) e h = ap (one at op next) (h next (ends_within at e).beyond)
  before_same at r q (faulty n) e h = refl
  before_same at r q no_bytes e h = refl

  -- it does not matter how many operations are allowed, where they are enough
  enough : (m n at : ℕ) → length s ≤ at + m → length s ≤ at + n → stream_in M m s at ≡ stream_in M n s at
  unfolding stream_in before
  enough zero zero at h k = refl
  enough zero (suc n) at h k = rw (sym (no_byte M.table s at (omega arith)))
  enough (suc m) zero at h k = rw (sym (no_byte M.table s at (omega arith)))
  enough (suc m) (suc n) at h k =
      before_same at (stream_in M m s) (stream_in M n s) (there at) refl (λ next l. enough m n next (omega arith) (omega arith))

  module _ (at : ℕ) where
    -- by what stands there
    pub stream_by : {p : Parsed Op} → there at ≡ p → stream_at M s at ≡ before M at (stream_at M s) p
    unfolding stream_in stream_at
    stream_by e = enough (length s) (suc (length s)) at (omega arith) (omega arith) ∙ rw e

  -- an operation at a place; those behind it are those of the place behind it
  pub record Behind (at position : ℕ) (op : Op) (next : ℕ) (rest : Stream Op) : Type 0 where
    pub here : position ≡ at
    pub parsed : there at ≡ operation op next
    pub beyond : at < next
    pub inside : next ≤ length s
    pub same : stream_at M s next ≡ rest

  -- what is refused at a place
  pub record Unread (at position : ℕ) (e : Refusal) : Type 0 where
    pub here : position ≡ at
    pub parsed : there at ≡ faulty e

  abbrev IfStream : ℕ → Stream Op → Type 0
  IfStream at out = length s ≤ at
  IfStream at (bad e position) = Unread at position e
  IfStream at (one position op next rest) = Behind at position op next rest

  if_before : (at : ℕ) (p : Parsed Op) → there at ≡ p → IfStream at (before M at (stream_at M s) p)
  unfolding before
  if_before at (operation op next) e =
      let w = ends_within at e in
      record {
        here = refl;
        parsed = e;
        beyond = w.beyond;
        inside = w.inside;
        same = refl;
      }
  if_before at (faulty e) f = record { here = omega arith; parsed = f }
  if_before at no_bytes e = no_bytes_left s at M.table e

  if_stream : (at : ℕ) {xs : Stream Op} → stream_at M s at ≡ xs → IfStream at xs
  if_stream at e = subst (IfStream at) (sym (stream_by at refl) ∙ e) (if_before at (there at) refl)

  pub behind : (at : ℕ) {position next : ℕ} {op : Op} {rest : Stream Op} → stream_at M s at ≡ one position op next rest → Behind at position op next rest
  behind at e = if_stream at e

  pub is_out : (at : ℕ) → stream_at M s at ≡ out → length s ≤ at
  is_out at e = if_stream at e

  pub is_bad : (at : ℕ) {e : Refusal} {position : ℕ} → stream_at M s at ≡ bad e position → Unread at position e
  is_bad at e = if_stream at e
