-- The turns of a lap's loop. Assumes nothing.
use Rattle.std.proofs.Common.{◌≡◌, ℕ, suc, ◌+◌, ◌-◌, ◌%◌, ◌^◌, ◌<◌, ◌≤◌, sym, refl, ap, ◌∙◌, arith}
use Rattle.laps.specs.Laps.{turn, lap, IsCall, IsNumber}
use Rattle.runs.specs.Runs.{Answer}
use Rattle.runs.specs.Told.{told}
use Rattle.runs.specs.declared.Step.{Step}
use Rattle.runs.specs.declared.Step.TheVariants as step

-- with a sum so far, the calls that are left make the whole, whatever call and number they are
abbrev pub SameLap : {W X : Type 0} → (step : W → Step W X → Type 0) (value : X → ℕ → Type 0) (left sum : ℕ) (w : W) (limit : ℕ) (start : W) → Type 0
SameLap {W} {X} step value left sum w limit start =
    (call : W → Answer W X) (number : X → ℕ) → IsCall step call → IsNumber value number → lap number call left sum w ≡ lap number call limit 0 start

module _ {W X : Type 0} (number : X → ℕ) (call : W → Answer W X) (left sum : ℕ) (w : W) {whole : ℕ} (same : lap number call left sum w ≡ whole) where
  -- no call is left
  pub full : left ≤ 0 → sum ≡ whole
  unfolding lap
  full h = let e : left ≡ 0 = omega arith in sym (ap (λ (n : ℕ). lap number call n sum w) e) ∙ same

  -- a call is left, and answers this
  module _ (h : 0 < left) {a : Step W X} (e : told a ≡ call w) where
    turned : {q : Step W X} → a ≡ q → turn number (lap number call (left - 1)) sum (told q) ≡ whole
    unfolding lap
    turned f =
        let q : left ≡ suc (left - 1) = omega arith in
        ap (turn number (lap number call (left - 1)) sum) (sym (ap told f) ∙ e) ∙ sym (ap (λ (n : ℕ). lap number call n sum w) q) ∙ same

    -- no item
    pub halts : ((v : W) (x : X) → a ≡ step.Item v x → ⊥) → sum ≡ whole
    halts f = by_answer a refl
      where
        by_answer : (q : Step W X) → a ≡ q → sum ≡ whole
        by_answer (step.Item v x) i = absurd (f v x i)
        by_answer (step.End v) i = turned i
        by_answer (step.Refused v n) i = turned i

    pub goes_on : {v : W} {x : X} {n : ℕ} → a ≡ step.Item v x → n ≡ number x → lap number call (left - 1) ((sum + n) % 2 ^ 64) v ≡ whole
    goes_on {v} f k = ap (λ (m : ℕ). lap number call (left - 1) ((sum + m) % 2 ^ 64) v) k ∙ turned f
