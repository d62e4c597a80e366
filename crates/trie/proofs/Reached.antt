-- What a call reaches, whatever it answers and hands back: as many visits as it counts lead there from the walk and the buffer that it was
-- given, and the arrays and the buffer are as the last of them left them. Assumes nothing.
use Prim.Native.Nat.{ℕ, suc, ◌+◌}
use mathlib.Core.Path.{◌≡◌, refl, ap}
use mathlib.Core.List.{List}
use native.Mathlib.Omega.{arith}
use Rattle.trie.proofs.Course.{reached, next, Course, ends, refuses, waits, limits, exports, visits, call_by}
use Rattle.trie.specs.Call.{refused, Outcome, call}
use Rattle.trie.specs.declared.TrieWalk.{TrieWalk}
use Rattle.nodes.specs.declared.export.Export.{Export}
use Rattle.std.specs.Prelude.{Option}

-- the arrays of a walk
pub record Arrays : Type 0 where
  pub places : List ℕ
  pub offsets : List ℕ
  pub left : List ℕ
  pub lengths : List ℕ

abbrev pub arrays : TrieWalk → Arrays
arrays w = record { places = w.places; offsets = w.offsets; left = w.left; lengths = w.lengths }

module _ (most : ℕ) (s : List ℕ) where
  -- so many visits lead from one walk and buffer to another
  pub data Leads : (n : ℕ) → TrieWalk → List ℕ → TrieWalk → List ℕ → Type 0 where
    here : {w : TrieWalk} {b : List ℕ} → Leads 0 w b w b
    visit : {n len : ℕ} {t : Option Export} {w v u : TrieWalk} {b c d : List ℕ} → next most s w b ≡ reached len t v c → Leads n v c u d → Leads (suc n) w b u d

  -- n nodes were visited before
  pub record Came (n : ℕ) (w : TrieWalk) (b : List ℕ) (o : Outcome) : Type 0 where
    pub steps : ℕ
    pub last : TrieWalk
    pub count : o.reply.visits ≡ n + steps
    pub leads : Leads steps w b last o.buffer
    pub same : arrays o.reached ≡ arrays last

  course_came : {given : TrieWalk} {k n : ℕ} {w : TrieWalk} {b : List ℕ} {o : Outcome} → Course most s given k n w b o → Came n w b o
  course_came (ends {w = w} e z) = record { steps = 0; last = w; count = omega arith; leads = here; same = refl }
  course_came (refuses {w = w} e d) = record { steps = 0; last = w; count = omega arith; leads = here; same = ap arrays d }
  course_came (waits {w = w}) = record { steps = 0; last = w; count = omega arith; leads = here; same = refl }
  course_came (limits {w = w} z) = record { steps = 0; last = w; count = omega arith; leads = here; same = refl }
  course_came (exports {v = v} e) = record { steps = 1; last = v; count = refl; leads = visit e here; same = refl }
  course_came (visits e c) =
      let r = course_came c in
      record { steps = suc r.steps; last = r.last; count = omega (arith, r.count); leads = visit e r.leads; same = r.same }

  -- what is handed back is what was reached, but for a refusal
  abbrev Handed : Outcome → Type 0
  Handed o = ((number : ℕ) → o.reply.answer ≡ refused number → ⊥) → o.reply.walk ≡ o.reached

  course_hands : {given : TrieWalk} {k n : ℕ} {w : TrieWalk} {b : List ℕ} {o : Outcome} → Course most s given k n w b o → Handed o
  course_hands (ends e z) h = refl
  course_hands (refuses {x = x} e d) h = absurd (h x refl)
  course_hands waits h = refl
  course_hands (limits z) h = refl
  course_hands (exports e) h = refl
  course_hands (visits e c) h = course_hands c h

  -- ---- of any state

  module _ (limit : ℕ) (w : TrieWalk) (b : List ℕ) where
    pub call_came : Came 0 w b (call most s limit w b)
    call_came =
        call_by most s limit w b (Came 0 w b)
        (λ out. record { steps = 0; last = w; count = refl; leads = here; same = refl })
        (λ range e. record { steps = 0; last = w; count = refl; leads = here; same = refl })
        (λ range e c. course_came c)

    pub call_hands : Handed (call most s limit w b)
    call_hands = call_by most s limit w b Handed (λ out h. refl) (λ range e h. refl) (λ range e c. course_hands c)
