-- What calls from a state on say: at most one thing; and what there is ahead of a state, where each call takes the first off it. Assumes
-- nothing.
use Prim.Native.Nat.{ℕ}
use mathlib.Core.Path.{◌≡◌, refl, ap, ap₂, sym, ◌∙◌, subst}
use native.Mathlib.Omega.{arith}
use Rattle.runs.specs.Runs.{Begin, begun, not_begun, Answer, item, end, refused, Run, stops, fails, gives, ◌then◌, mapped, Walks, at_end_lem, at_refusal_lem, at_item}

pub then_stops : {Item : Type 0} (r : Run Item) → (r then stops) ≡ r
unfolding ◌then◌
then_stops stops = refl
then_stops (fails number) = refl
then_stops (gives x r) = ap (gives x) (then_stops r)

pub then_then : {Item : Type 0} (r q p : Run Item) → ((r then q) then p) ≡ (r then (q then p))
unfolding ◌then◌
then_then stops q p = refl
then_then (fails number) q p = refl
then_then (gives x r) q p = ap (gives x) (then_then r q p)

-- of a start, what holds of the state that it gives
abbrev pub IfBegun : {W : Type 0} → (W → Type 0) → Begin W → Type 0
IfBegun P (begun w) = P w
IfBegun P (not_begun number) = Unit {0}

module _ {W Item : Type 0} where
  -- of a start and what is listed: calls from its state say that; where it is refused, what holds of its number and that
  abbrev pub Starts : (W → Answer W Item) → (ℕ → Run Item → Type 0) → Begin W → Run Item → Type 0
  Starts call Refuses (begun w) r = Walks call w r
  Starts call Refuses (not_begun number) r = Refuses number r

  -- what an answer says, with what is ahead of the state that it hands back
  abbrev pub shown : (ahead : W → Run Item) → Answer W Item → Run Item
  shown ahead (item x v) = gives x (ahead v)
  shown ahead (end v) = stops
  shown ahead (refused number v) = fails number

  -- of an item, what holds of the state behind it
  abbrev pub Stays : (W → Type 0) → Answer W Item → Type 0
  Stays P (item x v) = P v
  Stays P (end v) = Unit {0}
  Stays P (refused number v) = Unit {0}

  -- of an item, what holds of it
  abbrev pub IfItem : (Item → Type 0) → Answer W Item → Type 0
  IfItem P (item x v) = P x
  IfItem P (end v) = Unit {0}
  IfItem P (refused number v) = Unit {0}

  -- of a refusal, what holds of the state that it hands back
  abbrev pub IfRefused : (W → Type 0) → Answer W Item → Type 0
  IfRefused P (item x v) = Unit {0}
  IfRefused P (end v) = Unit {0}
  IfRefused P (refused number v) = P v

  -- of any answer, what holds of the state that it hands back, and of the number of a refusal
  abbrev pub Hands : (W → Type 0) → (ℕ → Type 0) → Answer W Item → Type 0
  Hands P N (item x v) = P v
  Hands P N (end v) = P v
  Hands P N (refused number v) = P v × N number

  pub if_item : (P : Item → Type 0) (a : Answer W Item) → ((x : Item) (v : W) → a ≡ item x v → P x) → IfItem P a
  if_item P (item x v) h = h x v refl
  if_item P (end v) h = tt
  if_item P (refused number v) h = tt

  pub hands_stays : (P : W → Type 0) (N : ℕ → Type 0) (a : Answer W Item) → Hands P N a → Stays P a
  hands_stays P N (item x v) h = h
  hands_stays P N (end v) h = tt
  hands_stays P N (refused number v) h = tt

module _ {W Item : Type 0} (call : W → Answer W Item) where
  pub walks_one : {w : W} {r q : Run Item} → Walks call w r → Walks call w q → r ≡ q
  walks_one (at_end_lem e) (at_end_lem f) = refl
  walks_one (at_end_lem e) (at_refusal_lem f) = cc
  walks_one (at_end_lem e) (at_item f q) = cc
  walks_one (at_refusal_lem e) (at_end_lem f) = cc
  walks_one (at_refusal_lem e) (at_refusal_lem f) = cc
  walks_one (at_refusal_lem e) (at_item f q) = cc
  walks_one (at_item e p) (at_end_lem f) = cc
  walks_one (at_item e p) (at_refusal_lem f) = cc
  walks_one (at_item {v = v} {x = x} e p) (at_item {v = u} {x = y} {r = r} f q) =
      let d : u ≡ v = cc in
      let c : x ≡ y = cc in
      ap₂ gives c (walks_one p (subst (λ (a : W). Walks call a r) d q))

  -- where of every item something is told that it can be told back from, so can the run
  module _ {X : Type 0} (told : Item → X) (back : X → Item) (P : W → Type 0) (stays : (w : W) → P w → Stays P (call w))
      (same : (w : W) → P w → IfItem (λ x. back (told x) ≡ x) (call w)) where
    pub told_back : {w : W} {r : Run Item} → Walks call w r → P w → mapped back (mapped told r) ≡ r
    unfolding mapped
    told_back (at_end_lem e) p = refl
    told_back (at_refusal_lem e) p = refl
    told_back {w} (at_item e q) p =
        ap₂ gives (subst (IfItem (λ x. back (told x) ≡ x)) e (same w p)) (told_back q (subst (Stays P) e (stays w p)))

  module _ (ahead : W → Run Item) (P : W → Type 0) (says : (w : W) → P w → ahead w ≡ shown ahead (call w)) (stays : (w : W) → P w → Stays P (call w)) where
    abbrev Heard : Run Item → Type 0
    Heard r = (w : W) → P w → r ≡ ahead w → Walks call w r

    -- by the first call; those behind an item say what is ahead of the state that it hands back
    by_answer : (r : Run Item) → ((x : Item) (q : Run Item) → r ≡ gives x q → Heard q) → (w : W) (a : Answer W Item) → call w ≡ a → Stays P a → r ≡ shown ahead a → Walks call w r
    by_answer r later w (end v) e l q = subst (Walks call w) (sym q) (at_end_lem e)
    by_answer r later w (refused number v) e l q = subst (Walks call w) (sym q) (at_refusal_lem e)
    by_answer r later w (item x v) e l q = subst (Walks call w) (sym q) (at_item e (later x (ahead v) q v l refl))

    heard : (r : Run Item) → Heard r
    heard stops w p q =
        by_answer stops (λ x r e. let n : ◌≡◌ {A = ℕ} 0 1 = cc in absurd (omega arith)) w (call w) refl (stays w p) (q ∙ says w p)
    heard (fails number) w p q =
        by_answer (fails number) (λ x r e. let n : ◌≡◌ {A = ℕ} 0 1 = cc in absurd (omega arith)) w (call w) refl (stays w p) (q ∙ says w p)
    heard (gives y r) w p q =
        by_answer (gives y r) (λ x k e. let d : r ≡ k = cc in subst Heard d (heard r)) w (call w) refl (stays w p) (q ∙ says w p)

    -- calls say what is ahead
    pub walks_ahead : (w : W) → P w → Walks call w (ahead w)
    walks_ahead w p = heard (ahead w) w p refl
