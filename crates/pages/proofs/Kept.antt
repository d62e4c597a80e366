-- What is left of a state that is refused, and what it says ever after. Assumes nothing.
use Rattle.std.proofs.Common.{◌≡◌, ℕ, true, false, List, length, sym, refl, ◌∙◌, subst, true≢false}
use Rattle.pages.proofs.Answers.{by_call}
use Rattle.pages.proofs.Calls.{call_ended}
use Rattle.pages.specs.Call.{marked, out_of_range, call}
use Rattle.pages.specs.declared.PageWalk.{PageWalk}
use Rattle.refusal.specs.Numbers.{number_of}
use Rattle.refusal.specs.declared.Refusal.TheVariants.{StateOutOfRange}
use Rattle.runs.proofs.Walks.{IfRefused}
use Rattle.runs.specs.Runs.{end, refused}

module _ (s d : List ℕ) (w : PageWalk) where
  -- a state out of range is refused, 19, and comes back as it came
  pub out_of_range_lem : out_of_range w (length s) ≡ true → call s d w ≡ refused (number_of StateOutOfRange) w
  unfolding call
  out_of_range_lem e = rw e

  module _ (i : out_of_range w (length s) ≡ false) where
    -- any other refusal hands back the state as given, marked as ended
    pub marked_ended_lem : {number : ℕ} {v : PageWalk} → call s d w ≡ refused number v → v ≡ marked w
    marked_ended_lem e =
        subst (IfRefused (λ v. v ≡ marked w)) e
        (by_call s d w {I = λ v. Unit {0}} (IfRefused (λ v. v ≡ marked w))
        (record { on_page_lem = λ v l i. tt; to_list = λ v index l i. tt; next_chain = λ v l i. tt; to_pointer_lem = λ v due place l i. tt })
        (λ e. refl) (λ v i. tt) (λ v n i. tt) (λ o. absurd (true≢false (sym o ∙ i))) (λ i. tt))

    -- and it says End ever after, whatever bytes are lent, where it is in range of them
    pub kept : {number : ℕ} {v : PageWalk} → call s d w ≡ refused number v → (t c : List ℕ) → out_of_range w (length t) ≡ false → call t c v ≡ end v
    kept e t c j = rw (marked_ended_lem e) (sym (call_ended t c (marked w) j refl))
