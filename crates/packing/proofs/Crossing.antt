-- A start and a call of a walk, as the code makes them of words. Assumes nothing.
use Prim.Native.Nat.{ℕ, ◌*◌, ◌<◌}
use mathlib.Core.Path.{◌≡◌, refl, sym, ap, ◌∙◌, subst}
use mathlib.Core.Bool.{Bool, true, false, cond}
use mathlib.Core.List.{List}
use borrow.Author.Tests.{eqb-true, leb-false}
use Rattle.std.proofs.lemmas.Bool.{eqb-false}
use lib.Dec.{eqb, leb}
use lib.ListN.{length}
use Rattle.std.specs.Prelude.{Option, Some, None, Result, Ok, Err, MatchResult}
use Rattle.packing.proofs.Boundary.{over, two, three, started_unfit, started_as, item_unfit, state_unfit, stepped_as}
use Rattle.packing.specs.Boundary.{States, Items, held, unfit, item_told, start_told, started, step_told, stepped}
use Rattle.packing.specs.Fields.{u8, pointer_size}
use Rattle.packing.specs.Words.{bytes_of, written, reported}
use Rattle.refusal.specs.Numbers.{number_of}
use Rattle.refusal.specs.declared.Refusal.{Refusal}
use Rattle.refusal.specs.declared.Refusal.TheVariants.{PointerSize}
use Rattle.runs.specs.Runs.{Begin, not_begun, Answer}
use Rattle.runs.specs.Told.{told}
use Rattle.runs.specs.Told as told
use Rattle.runs.specs.declared.Step.{Step}

-- words are written over bytes of their length
pub overwrites : (n : ℕ) (vs s : List ℕ) {t u : List ℕ} → length vs ≡ n → length s ≡ 8 * n → bytes_of vs ≡ u → t ≡ written vs s → t ≡ u
overwrites n vs s v l e f = over s vs vs f refl (l ∙ ap (λ (k : ℕ). 8 * k) (sym v)) ∙ e

-- bytes that are so many words, and some that are not
module _ (n : ℕ) (s : List ℕ) {t : Bool} (test : t ≡ eqb (length s) (8 * n)) where
  pub so_many : t ≡ true → length s ≡ 8 * n
  so_many f = eqb-true (length s) (8 * n) (sym test ∙ f)

  pub not_so_many : {l : ℕ} → t ≡ false → l ≡ 8 * n → length s ≡ l → ⊥
  not_so_many f e q = eqb-false (length s) (8 * n) (sym test ∙ f) (q ∙ e)

-- ---- a start

module _ {W : Type 0} (S : States W) (state : List ℕ) where
  pub begins_unfit : (b : Begin W) {r : ℕ} → r ≡ unfit → (length state ≡ S.long → ⊥) → ◌≡◌ {A = ℕ × List ℕ} (r, state) (started S state b)
  begins_unfit b e h = two e refl ∙ started_unfit S state b h

  module _ (n : ℕ) (long : S.long ≡ 8 * n) (l : length state ≡ 8 * n) {r : Result W Refusal} where
    begins_as : {q : Result W Refusal} {y : ℕ × List ℕ} → r ≡ q → y ≡ start_told S state (told.start_told q) → y ≡ started S state (told.start_told r)
    begins_as e f = started_as S state _ (l ∙ sym long) (f ∙ ap (λ (x : Result W Refusal). start_told S state (told.start_told x)) (sym e))

    pub begins : {w : W} (vs : List ℕ) {s : List ℕ} → r ≡ Ok w → length vs ≡ n → bytes_of vs ≡ S.bytes w → s ≡ written vs state →
        ◌≡◌ {A = ℕ × List ℕ} (item_told, s) (started S state (told.start_told r))
    begins vs q v e g = begins_as q (two refl (overwrites n vs state v l e g))

    pub begins_not : {e : Refusal} {k : ℕ} → r ≡ Err e → k ≡ number_of e → ◌≡◌ {A = ℕ × List ℕ} (k, state) (started S state (told.start_told r))
    begins_not q g = begins_as q (two g refl)

-- ---- a call

module _ {W : Type 0} (S : States W) (s : List ℕ) where
  -- what bytes hold
  by_held : (P : Option W → Type 0) → (S.holds s ≡ false → P None) → (S.holds s ≡ true → P (Some (S.value s))) → P (held S s)
  by_held P none some = by (S.holds s) refl
    where
      by : (b : Bool) → S.holds s ≡ b → P (cond b (Some (S.value s)) None)
      by true e = some e
      by false e = none e

  pub holds_none : {r : Option W} → r ≡ held S s → r ≡ None → S.holds s ≡ false
  holds_none e f = by_held (λ o. o ≡ None → S.holds s ≡ false) (λ h q. h) (λ h q. cc) (sym e ∙ f)

  pub holds_some : {r : Option W} {w : W} → r ≡ held S s → r ≡ Some w → S.holds s ≡ true
  holds_some {w = w} e f = by_held (λ o. o ≡ Some w → S.holds s ≡ true) (λ h q. cc) (λ h q. h) (sym e ∙ f)

  pub value_some : {r : Option W} {w : W} → r ≡ held S s → r ≡ Some w → w ≡ S.value s
  value_some {w = w} e f = by_held (λ o. o ≡ Some w → w ≡ S.value s) (λ h q. cc) (λ h q. cc) (sym e ∙ f)

module _ {W X : Type 0} (S : States W) (I : Items X) (state item : List ℕ) where
  -- what is reported is told
  module _ (n m : ℕ) (l : length state ≡ 8 * n) (k : length item ≡ 8 * m) where
    pub reports_told : (vs ws : List ℕ) {y : ℕ × List ℕ × List ℕ} {number : ℕ} {a b : Step W X} →
        y ≡ reported number vs ws state item → a ≡ b → length vs ≡ n → length ws ≡ m →
        ◌≡◌ {A = ℕ × List ℕ × List ℕ} (number, bytes_of vs, bytes_of ws) (step_told S I (told b)) → y ≡ step_told S I (told a)
    reports_told vs ws e f v w g =
        e
        ∙ three refl (overwrites n vs state v l refl refl) (overwrites m ws item w k refl refl)
        ∙ g
        ∙ ap (λ (x : Step W X). step_told S I (told x)) (sym f)

  pub steps_unfit : (call : W → Answer W X) {r : ℕ} → r ≡ unfit → (length item ≡ I.long → ⊥) →
      ◌≡◌ {A = ℕ × List ℕ × List ℕ} (r, state, item) (stepped S I state item call)
  steps_unfit call e h = three e refl refl ∙ item_unfit S I state item call h

  pub steps_not : (call : W → Answer W X) {r : ℕ} → r ≡ unfit → length item ≡ I.long → S.holds state ≡ false →
      ◌≡◌ {A = ℕ × List ℕ × List ℕ} (r, state, item) (stepped S I state item call)
  steps_not call e l h = three e refl refl ∙ state_unfit S I state item call l h

  pub steps : (call : W → Answer W X) (a : Step W X) (w : W) {y : ℕ × List ℕ × List ℕ} → length item ≡ I.long → y ≡ step_told S I (told a) →
      told a ≡ call w → w ≡ S.value state → S.holds state ≡ true → y ≡ stepped S I state item call
  steps call a w l e f g h = stepped_as S I state item call l e f g h

-- a start at a pointer size, which a byte holds, or is refused
module _ {W : Type 0} (size : ℕ) (b : Begin W) where
  pub sized : (P : ℕ → Type 0) {r : Result ℕ Refusal} (q : Result W Refusal) → r ≡ pointer_size size → MatchResult r P (λ e. q ≡ Err e) →
      (P size → told.start_told q ≡ b) → (255 < size → not_begun (number_of PointerSize) ≡ b) → told.start_told q ≡ b
  sized P {r} q e m small large = by (leb size u8) refl (subst (λ (x : Result ℕ Refusal). MatchResult x P (λ f. q ≡ Err f)) e m)
    where
      by : (t : Bool) → leb size u8 ≡ t → MatchResult (cond t (Ok size) (Err PointerSize)) P (λ f. q ≡ Err f) → told.start_told q ≡ b
      by true h p = small p
      by false h p = ap told.start_told p ∙ large (leb-false size u8 h)
