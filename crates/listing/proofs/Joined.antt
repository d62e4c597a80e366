-- Calls from a start on say what the stream lists, and nothing else. Assumes nothing.
use Prim.Native.Nat.{ℕ}
use mathlib.Core.Path.{◌≡◌, refl, sym, subst}
use mathlib.Core.List.{List}
use native.Mathlib.Omega.{arith}
use Rattle.listing.proofs.Ahead.{reads_on}
use Rattle.listing.proofs.Calls.{live_start}
use Rattle.listing.proofs.Starts.{begun_is}
use Rattle.listing.specs.Call.{begin, call}
use Rattle.listing.specs.declared.Walk.{Walk}
use Rattle.listing.specs.Listing.{listing, heard}
use Rattle.listing.specs.Machine.{Machine}
use Rattle.runs.proofs.Walks.{walks_one}
use Rattle.runs.specs.Runs.{begun, Run, Walks}

module _ {Op Reg Item : Type 0} (M : Machine Op Reg Item) (s : List ℕ) (size : ℕ) (g : Reg) (w : Walk Reg) (e : begin size g ≡ begun w) where
  -- calls from a start on say what the stream lists
  pub joined : Walks (call M s) w (heard (listing M size g s))
  unfolding listing
  joined =
      let b = begun_is size g e in
      subst (λ (v : Walk Reg). Walks (call M s) v (heard (listing M size g s))) (sym b.is)
      (reads_on M s _ (live_start (omega arith) b.sized) refl)

  -- and nothing else
  pub joined_only : (r : Run Item) → Walks (call M s) w r → r ≡ heard (listing M size g s)
  joined_only r p = walks_one (call M s) p joined
