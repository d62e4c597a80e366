-- A refused walk says End ever after. Assumes nothing.
use Prim.Native.Nat.{ℕ}
use mathlib.Core.Path.{◌≡◌, refl, sym, ◌∙◌, subst}
use mathlib.Core.List.{List}
use mathlib.Core.Bool.{true, false, true≢false}
use lib.ListN.{length}
use Rattle.cursor.specs.Cursor.{in_range, standing_of, marked_ended}
use Rattle.cursor.specs.declared.Standing.TheVariants as standing
use Rattle.listing.specs.Call.{state, call}
use Rattle.listing.specs.declared.Walk.{Walk}
use Rattle.listing.specs.Machine.{Machine}
use Rattle.listing.proofs.Answers.{by_registers, by_call}
use Rattle.listing.proofs.Calls.{call_by}
use Rattle.runs.proofs.Walks.{IfRefused}
use Rattle.runs.specs.Runs.{end, refused}

module _ {Op Reg Item : Type 0} (M : Machine Op Reg Item) (w : Walk Reg) where
  abbrev pub ended : Walk Reg
  ended = state (marked_ended w.cursor) w.registers

  module _ (s : List ℕ) where
    -- a state out of range is refused, 19, and comes back as it came
    pub out_of_range : in_range w.cursor (length s) ≡ false → call M s w ≡ refused 19 w
    unfolding standing_of
    out_of_range r = call_by M s w {x = standing.OutOfRange} (simp r)

    module _ (r : in_range w.cursor (length s) ≡ true) where
      -- any other refusal hands back the state as given, marked as ended
      pub marked : {e : ℕ} {v : Walk Reg} → call M s w ≡ refused e v → v ≡ ended
      marked e =
          subst (IfRefused (λ v. v ≡ ended)) e
          (by_call M s _ (λ v. Unit {0}) (by_registers M s (λ g. Unit {0}) (λ size at next op g f p. tt)) w
          (IfRefused (λ v. v ≡ ended)) (λ u v p d. tt) (λ v p. tt) (λ e. refl) tt
          (λ q. absurd (true≢false (sym r ∙ q))) (λ n e. tt))

      -- and it says End ever after, whatever bytes are lent, where it is in range of them
      pub kept : {e : ℕ} {v : Walk Reg} → call M s w ≡ refused e v → (t : List ℕ) → in_range w.cursor (length t) ≡ true → call M t v ≡ end v
      unfolding standing_of
      kept e t q =
          subst (λ (v : Walk Reg). call M t v ≡ end v) (sym (marked e))
          (call_by M t ended {x = standing.Ended} (simp q))
