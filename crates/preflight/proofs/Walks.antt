-- The preflights agree with the walks, kind by kind. Assumes nothing.
use Prim.Native.Nat.{ℕ}
use mathlib.Core.Path.{◌≡◌}
use mathlib.Core.Bool.{true}
use mathlib.Core.List.{List}
use Rattle.bind.specs.Binds.{binds}
use Rattle.bind.specs.declared.Bind.{Bind}
use Rattle.bind.specs.declared.Registers.{Registers}
use Rattle.listing.specs.Call.{begin, call}
use Rattle.rebase.specs.Rebases.{unset, rebases}
use Rattle.rebase.specs.declared.Rebase.{Rebase}
use Rattle.rebase.specs.declared.Registers as rebase
use Rattle.listing.specs.declared.Walk.{Walk}
use Rattle.runs.specs.Runs.{begun, Run, Walks}
use Rattle.preflight.specs.Verdict.{fit_sizes, preflight}
use Rattle.preflight.specs.Walked.{outcome, walked}
use Rattle.preflight.proofs.Agrees.{agrees}

module _ (size : ℕ) (sizes s : List ℕ) where
  pub rebases_agree : (w : Walk rebase.Registers) → begin size unset ≡ begun w → fit_sizes sizes ≡ true → (r : Run Rebase) → Walks (call rebases s) w r →
      outcome (preflight rebases unset size sizes s) ≡ walked rebases size sizes r
  rebases_agree w = agrees rebases size sizes unset s w

  -- g is `plainly`, `weakly` or `lazily`
  pub binds_agree : (g : Registers) (w : Walk Registers) → begin size g ≡ begun w → fit_sizes sizes ≡ true → (r : Run Bind) → Walks (call binds s) w r →
      outcome (preflight binds g size sizes s) ≡ walked binds size sizes r
  binds_agree g w = agrees binds size sizes g s w
