-- Two walks that say the same, call by call: what calls of the one say, calls of the other say. Assumes nothing.
use mathlib.Core.Path.{◌≡◌, subst}
use Rattle.runs.specs.Runs.{Answer, item, end, refused, Run, mapped, Walks, at_end_lem, at_refusal_lem, at_item}

-- an answer of this kind, and what holds of its state
pub record Meets {U Y : Type 0} (P : U → Type 0) (kind : U → Answer U Y) (b : Answer U Y) : Type 0 where
  pub state : U
  pub is : b ≡ kind state
  pub meets : P state

-- `R` relates the states behind an item, `Q` those behind a refusal; `f` is what the other walk has for an item
module _ {W U X Y : Type 0} (R Q : W → U → Type 0) (f : X → Y) where
  abbrev pub Alike : Answer W X → Answer U Y → Type 0
  Alike (item x w) b = Meets (R w) (item (f x)) b
  Alike (end w) b = Meets (λ v. Unit {0}) end b
  Alike (refused number w) b = Meets (Q w) (refused number) b

  module _ (call : W → Answer W X) (other : U → Answer U Y) (alike : (w : W) (v : U) → R w v → Alike (call w) (other v)) where
    by_call : {w : W} {v : U} → R w v → {a : Answer W X} → call w ≡ a → Alike a (other v)
    by_call {w} {v} h e = subst (λ (a : Answer W X). Alike a (other v)) e (alike w v h)

    pub walks_alike : {w : W} {r : Run X} → Walks call w r → {v : U} → R w v → Walks other v (mapped f r)
    unfolding mapped
    walks_alike (at_end_lem e) h = at_end_lem (by_call h e).is
    walks_alike (at_refusal_lem e) h = at_refusal_lem (by_call h e).is
    walks_alike (at_item e p) h = let m = by_call h e in at_item m.is (walks_alike p m.meets)
