-- The preflight agrees with what calling the walk to its end says. Assumes nothing.
use Prim.Native.Nat.{ℕ}
use mathlib.Core.Path.{◌≡◌, refl, ap, sym, ◌∙◌}
use mathlib.Core.Bool.{Bool, true, false}
use mathlib.Core.List.{List}
use Rattle.listing.proofs.Joined.{joined_only}
use Rattle.listing.proofs.Starts.{begun_is}
use Rattle.listing.specs.Call.{begin, call}
use Rattle.listing.specs.Listing.{Listing, ends, refuses, lists, listing, heard}
use Rattle.listing.specs.Machine.{Machine}
use Rattle.listing.specs.declared.Walk.{Walk}
use Rattle.refusal.specs.Numbers.{number_of}
use Rattle.refusal.specs.declared.Refusal.TheVariants.{PlaceOutside}
use Rattle.runs.specs.Runs.{begun, Run, Walks}
use Rattle.preflight.specs.Verdict.{Verdict, fault, inside, verdict, fit_sizes, with_sizes, preflight}
use Rattle.preflight.specs.Walked.{Outcome, faulty, outcome, walked}

module _ {Op Reg Item : Type 0} (M : Machine Op Reg Item) (size : ℕ) (sizes : List ℕ) where
  entry : (b : Bool) (p i : ℕ) (v : Verdict) (x : Outcome) → outcome v ≡ x →
      outcome (elim b as (λ _. Verdict) [ true ↦ v | false ↦ fault (number_of PlaceOutside) p i ])
      ≡ elim b as (λ _. Outcome) [ true ↦ x | false ↦ faulty (number_of PlaceOutside) ]
  entry true p i v x e = e
  entry false p i v x e = refl

  heard_alike : (l : Listing Item) → outcome (verdict M size sizes l) ≡ walked M size sizes (heard l)
  unfolding verdict walked heard
  heard_alike (ends k) = refl
  heard_alike (refuses number p) = refl
  heard_alike (lists p i x rest) = entry (inside size sizes (M.place x)) p i _ _ (heard_alike rest)

  -- for sizes that are fit, and calls from a start on: the preflight passes exactly if they end without refusal with each item inside, and
  -- else names what comes first
  pub agrees : (g : Reg) (s : List ℕ) (w : Walk Reg) → begin size g ≡ begun w → fit_sizes sizes ≡ true → (r : Run Item) → Walks (call M s) w r →
      outcome (preflight M g size sizes s) ≡ walked M size sizes r
  unfolding preflight with_sizes
  agrees g s w e fit r walks =
      rw ((begun_is size g e).sized, fit)
      (heard_alike (listing M size g s) ∙ ap (walked M size sizes) (sym (joined_only M s size g w e r walks)))
