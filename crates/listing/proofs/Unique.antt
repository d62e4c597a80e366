-- An effect is its registers and its motion, so the contracts of effects leave one each. Assumes nothing.
use mathlib.Core.Path.{◌≡◌}
use Rattle.listing.specs.Machine.{◌and◌}
use Rattle.listing.specs.declared.Effect.{Effect}

pub effect_one : {Reg : Type 0} (r q : Effect Reg) → (r.registers and r.motion) ≡ (q.registers and q.motion) → r ≡ q
effect_one r q e = e
