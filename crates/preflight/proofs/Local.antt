-- Where a stream comes to, operation by operation, the bytes up to there decide. The laws are about the definitions alone. Assumes nothing.
use Prim.Native.Nat.{ℕ, ◌≤◌}
use mathlib.Core.Path.{◌≡◌}
use mathlib.Core.List.{List, [], ◌∷◌, ◌++◌}
use native.Mathlib.Omega.{arith}
use lib.ListN.{take}
use Rattle.listing.proofs.Local as listing
use Rattle.listing.proofs.Local.{Leads, stays, there_local, leads_then}
use Rattle.listing.proofs.Streams.{ends_within}
use Rattle.listing.specs.Machine.{Machine}
use Rattle.preflight.specs.Faults.{Comes, begins, over}

pub record Led {Op Reg Item : Type 0} (M : Machine Op Reg Item) (s : List ℕ) (at : ℕ) : Type 0 where
  pub ops : List (Op × ℕ)
  pub leads : Leads M s 0 ops at

module _ {Op Reg Item : Type 0} (M : Machine Op Reg Item) (size : ℕ) (sizes s : List ℕ) {start : Reg} where
  -- it comes there in all bytes that are the same up to there, or further
  pub comes_local : {at k o : ℕ} {g : Reg} → Comes M size sizes s start at k g o → (to : ℕ) → at ≤ to → (r : List ℕ) → take to r ≡ take to s →
      Comes M size sizes r start at k g o
  comes_local begins to h r f = begins
  comes_local (over {at} c e t) to h r f =
      over (comes_local c to (omega (arith, (ends_within M s at e).beyond)) r f) (there_local M s at e h r f) t

  -- operations lead there from the start of the bytes
  pub comes_led : {at k o : ℕ} {g : Reg} → Comes M size sizes s start at k g o → Led M s at
  comes_led begins = record { ops = []; leads = stays }
  comes_led (over {next} {op} c e t) =
      let l = comes_led c in
      record { ops = l.ops ++ ((op, next) ∷ []); leads = leads_then M s l.leads (listing.over e stays) }
