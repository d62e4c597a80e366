-- What is left of a state that is refused or at its end, and what it says ever after. Assumes nothing.
use Prim.Native.Nat.{ℕ}
use mathlib.Core.Path.{◌≡◌, refl, ap, sym, ◌∙◌, subst}
use mathlib.Core.Bool.{true, true≢false}
use mathlib.Core.List.{List}
use lib.ListN.{length}
use Rattle.imports.specs.Call.{marked, out_of_range, call}
use Rattle.imports.specs.declared.Import.{Import}
use Rattle.imports.specs.declared.ImportWalk.{ImportWalk}
use Rattle.refusal.specs.Numbers.{number_of}
use Rattle.refusal.specs.declared.Refusal.TheVariants.{StateOutOfRange}
use Rattle.runs.specs.Runs.{Answer, item, end, refused}
use Rattle.imports.proofs.Answers.{by_call}
use Rattle.imports.proofs.Calls.{InRange, none_out}

module _ (s : List ℕ) (w : ImportWalk) where
  -- a state out of range is refused, 19, and comes back as it came
  pub out_of_range_lem : out_of_range w.place w.symbols_offset (length s) ≡ true → call s w ≡ refused (number_of StateOutOfRange) w
  unfolding call
  out_of_range_lem e = rw e

  module _ (i : InRange w.place w.symbols_offset (length s)) where
    -- the state that is handed back with an end, and with a refusal
    abbrev Stands : Answer ImportWalk Import → Type 0
    Stands (item x v) = Unit {0}
    Stands (end v) = v ≡ w
    Stands (refused number v) = v ≡ marked w

    stands : Stands (call s w)
    stands =
        by_call s w Stands refl (λ e. refl) (λ x at left l e. tt)
        (λ o. absurd (true≢false (sym o ∙ none_out w.place w.symbols_offset (length s) i)))

    -- any other refusal hands back the state as given, marked as ended
    pub marked_ended_lem : {number : ℕ} {v : ImportWalk} → call s w ≡ refused number v → v ≡ marked w
    marked_ended_lem e = subst Stands e stands

    -- and it says End ever after, whatever bytes are lent, where it is in range of them
    pub kept : {number : ℕ} {v : ImportWalk} → call s w ≡ refused number v → (t : List ℕ) → InRange w.place w.symbols_offset (length t) → call t v ≡ end v
    unfolding call
    kept e t j = rw (marked_ended_lem e, none_out w.place w.symbols_offset (length t) j)

    -- End hands back the state as given
    pub end_same : {v : ImportWalk} → call s w ≡ end v → v ≡ w
    end_same e = subst Stands e stands

    -- and it says End again
    pub end_again : {v : ImportWalk} → call s w ≡ end v → call s v ≡ end v
    end_again {v} e = ap (call s) (end_same e) ∙ e
