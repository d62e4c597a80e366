-- Calls in a row through an entry point say what calls of the walk say; and a state that a call hands back as it was given keeps its bytes.
-- Assumes nothing.
use Prim.Native.Nat.{ℕ}
use mathlib.Core.Path.{◌≡◌, refl, sym, ap, ◌∙◌, subst}
use mathlib.Core.Bool.{true, and-eq-true_iff}
use mathlib.Core.List.{List}
use native.Mathlib.Omega.{arith}
use borrow.Author.Tests.{eq-eqb, ne_eqb, ltb-true}
use lib.Dec.{ltb}
use lib.ListN.{length}
use Rattle.packing.specs.Boundary.{States, Items, item_told, end_told, started, step_told, stepped}
use Rattle.packing.specs.Calls.{Lent, lent, by_number, as_answer, through, recorded}
use Rattle.packing.proofs.Boundary.{carried, by_state}
use Rattle.packing.proofs.Whole.{Bytes}
use Rattle.refusal.proofs.Numbered.{IsNumber}
use Rattle.runs.proofs.Alike.{Alike, walks_alike}
use Rattle.runs.proofs.Walks.{Hands, if_item, hands_stays, told_back}
use Rattle.runs.specs.Runs.{Begin, begun, Answer, Run, mapped, Walks}
use Rattle.runs.specs.Runs as answer

-- ---- states in bytes, both ways: of those whose fields are such as their types have (`Typed`), and of bytes that hold one

pub record Faithful {W : Type 0} (S : States W) (Typed : W → Type 0) : Type 0 where
  pub holds : (w : W) → Typed w → S.holds (S.bytes w) ≡ true
  pub whole : (w : W) → Typed w → S.value (S.bytes w) ≡ w
  pub typed : (s : List ℕ) → Bytes s → S.holds s ≡ true → Typed (S.value s)
  pub back : (s : List ℕ) → Bytes s → S.holds s ≡ true → S.bytes (S.value s) ≡ s

-- records of items have their length
abbrev pub Long : {X : Type 0} → Items X → Type 0
Long {X} I = (x : X) → length (I.bytes x) ≡ I.long

-- ---- the number of a refusal is neither that of an item nor that of the end

refused_by : (n : ℕ) (r : Lent) → IsNumber n → by_number n r ≡ answer.refused n r
refused_by n r h =
    let b = (and-eq-true_iff (ltb 0 n) (ltb n 256)).0 h in
    let above = ltb-true 0 n b.0 in
    let below = ltb-true n 256 b.1 in
    rw (ne_eqb n item_told (λ e. omega (arith, above, e)), ne_eqb n end_told (λ e. omega (arith, below, e)))

-- what a start has written
pub wrote : {W : Type 0} (S : States W) {b : Begin W} {w : W} → b ≡ begun w → (state : List ℕ) → length state ≡ S.long → started S state b ≡ (item_told, S.bytes w)
unfolding started
wrote S e state l = rw (eq-eqb (length state) S.long l, e)

-- what is lent are the bytes of a state, and a record for an item
pub record Lends {W X : Type 0} (S : States W) (I : Items X) (Typed : W → Type 0) (w : W) (r : Lent) : Type 0 where
  pub typed : Typed w
  pub state : r.state ≡ S.bytes w
  pub item : length r.item ≡ I.long

module _ {W X : Type 0} (S : States W) (I : Items X) (Typed : W → Type 0) (faithful : Faithful S Typed) (long : Long I) (call : W → Answer W X)
    (hands : (w : W) → Typed w → Hands Typed IsNumber (call w)) where
  -- a call on the bytes of a state is a call on the state
  called : (w : W) (r : Lent) → Lends S I Typed w r → through S I call r ≡ as_answer (step_told S I (call w))
  called w r h =
      ap (λ (s : List ℕ). through S I call (lent s r.item)) h.state
      ∙ ap as_answer
      (carried S I call w (faithful.holds w h.typed) (faithful.whole w h.typed) r.item h.item)

  -- and they say the same; `Q` is what is asked of what is lent behind a refusal
  module _ (Q : W → Lent → Type 0) (behind : (w : W) → Typed w → Q w (lent (S.bytes w) I.blank)) where
    told_alike : (a : Answer W X) → Hands Typed IsNumber a →
        Alike (Lends S I Typed) Q I.bytes a (as_answer (step_told S I a))
    told_alike (answer.item x v) t =
        record { state = _; is = refl; meets = record { typed = t; state = refl; item = long x } }
    told_alike (answer.end v) t = record { state = _; is = refl; meets = tt }
    told_alike (answer.refused n v) t =
        record { state = _; is = refused_by n (lent (S.bytes v) I.blank) t.1; meets = behind v t.0 }

    pub calls_alike : (w : W) (r : Lent) → Lends S I Typed w r → Alike (Lends S I Typed) Q I.bytes (call w) (through S I call r)
    calls_alike w r h =
        subst (Alike (Lends S I Typed) Q I.bytes (call w)) (sym (called w r h)) (told_alike (call w) (hands w h.typed))

  -- calls through the entry point say what calls of the walk say
  pub calls_say : {w : W} {r : Run X} → Walks call w r → Typed w → (item : List ℕ) → length item ≡ I.long →
      Walks (through S I call) (lent (S.bytes w) item) (recorded I r)
  calls_say p t item l =
      walks_alike (Lends S I Typed) (λ w r. Unit {0}) I.bytes call (through S I call) (calls_alike (λ w r. Unit {0}) (λ w t. tt)) p
      (record { typed = t; state = refl; item = l })

  -- and so from there on
  pub started_say : {b : Begin W} {w : W} → b ≡ begun w → Typed w → {r : Run X} → Walks call w r →
      (state item : List ℕ) → length state ≡ S.long → length item ≡ I.long →
      Walks (through S I call) (lent (started S state b).1 item) (recorded I r)
  started_say e t {r} p state item l m =
      subst (λ (q : ℕ × List ℕ). Walks (through S I call) (lent q.1 item) (recorded I r))
      (sym (wrote S e state l)) (calls_say p t item m)

  -- where the record of every item tells which it is, the records of all tell what the calls say
  pub records_back : (item_at : List ℕ → X) →
      ((w : W) → Typed w → (x : X) (v : W) → call w ≡ answer.item x v → item_at (I.bytes x) ≡ x) →
      {w : W} {r : Run X} → Walks call w r → Typed w → mapped item_at (recorded I r) ≡ r
  records_back item_at same =
      told_back call I.bytes item_at Typed (λ w t. hands_stays Typed IsNumber (call w) (hands w t))
      (λ w t. if_item (λ x. item_at (I.bytes x) ≡ x) (call w) (same w t))

  -- a state that comes back as it was given comes back as the bytes that were lent
  module _ (state : List ℕ) (bytes : Bytes state) (h : S.holds state ≡ true)
      (item : List ℕ) (l : length item ≡ I.long) where
    pub unchanged : {a : Answer W X} → call (S.value state) ≡ a → stepped S I state item call ≡ step_told S I a
    unchanged e = by_state S I state item call l h ∙ ap (step_told S I) e

    pub refused_back : {n : ℕ} → call (S.value state) ≡ answer.refused n (S.value state) →
        stepped S I state item call ≡ (n, state, I.blank)
    refused_back {n} e = unchanged e ∙ ap (λ (s : List ℕ). (n, s, I.blank)) (faithful.back state bytes h)

    pub end_back : call (S.value state) ≡ answer.end (S.value state) →
        stepped S I state item call ≡ (end_told, state, I.blank)
    end_back e = unchanged e ∙ ap (λ (s : List ℕ). (end_told, s, I.blank)) (faithful.back state bytes h)
