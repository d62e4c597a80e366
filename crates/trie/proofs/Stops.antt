-- What a call leaves that answers the end or a refusal: a refusal hands back the state as it was given, marked as ended, but for 19, which
-- hands it back as it came; and a walk that has ended says End ever after. Assumes nothing.
use Prim.Native.Nat.{ℕ, zero, ◌≤◌}
use mathlib.Core.Path.{◌≡◌, refl, sym, ap, ◌∙◌, subst}
use mathlib.Core.Bool.{Bool, true, false, true≢false}
use mathlib.Core.List.{List}
use native.Mathlib.Omega.{arith}
use borrow.Author.Tests.{le-ltb}
use lib.ListN.{length}
use Rattle.refusal.specs.Numbers.{number_of}
use Rattle.refusal.specs.declared.Refusal.TheVariants.{StateOutOfRange}
use Rattle.trie.proofs.Children.{OfTrie, child_refused}
use Rattle.trie.proofs.Course.{Next, over, failed, reached, next, next_by, halts, Course, ends, refuses, waits, limits, exports, visits, InRange, ended_stays, goes_on, call_course, call_by}
use Rattle.nodes.specs.Child.{any}
use Rattle.trie.specs.Call.{marked, closed, on_top, Answer, export, more, end, refused, Outcome, replied, go_on, call}
use Rattle.trie.specs.Frames.{top_down, out_of_range, still_open}
use Rattle.trie.specs.declared.TrieWalk.{TrieWalk}

-- ---- the numbers of refusals

module _ (most : ℕ) (s : List ℕ) where
  abbrev IfFailed : Next → Type 0
  IfFailed over = Unit {0}
  IfFailed (failed number) = OfTrie number
  IfFailed (reached len t v c) = Unit {0}

  failed_number : (w : TrieWalk) (b : List ℕ) → IfFailed (next most s w b)
  failed_number w b =
      next_by most s w b IfFailed
      (record {
        done = λ y z. tt;
        bad = λ z x f. child_refused s (length b) (top_down w.offsets (still_open w.left w.depth)) (on_top (closed w) w.lengths) (on_top (closed w) w.places) f;
        full = λ z e n f l. (omega arith, omega arith);
        child = λ z e n f l. tt;
        none = λ y e. (omega arith, omega arith);
        shut = λ y n e l. (omega arith, omega arith);
        root = λ y n e l. tt;
      })

-- ---- the state that is handed back

module _ (most : ℕ) (s : List ℕ) (room : ℕ) (given : TrieWalk) where
  record Over (w : TrieWalk) : Type 0 where
    ended : w.ended ≡ true
    range : InRange most s room w

  -- with no node open a state is in range
  none_open : (w : TrieWalk) → w.depth ≡ 0 → InRange most s room w
  unfolding out_of_range any top_down
  none_open w e = ap (λ (d : ℕ). out_of_range most w.places w.lengths d (length s) room) e ∙ rw (le-ltb most 0 (omega arith))

  -- the walk that is handed back, by the answer
  abbrev Left : Answer → TrieWalk → Type 0
  Left (export len x) w = Unit {0}
  Left more w = Unit {0}
  Left end w = Over w
  Left (refused number) w = OfTrie number × (w ≡ marked given)

  course_leaves : {k n : ℕ} {w : TrieWalk} {b : List ℕ} {p : Outcome} → Course most s given k n w b p → Left p.reply.answer p.reply.walk
  course_leaves (ends {w = w} e z) = record { ended = refl; range = none_open (marked (closed w)) z }
  course_leaves (refuses {w = w} {b = b} e d) = (subst (IfFailed most s) e (failed_number most s w b), refl)
  course_leaves waits = tt
  course_leaves (limits y) = tt
  course_leaves (exports e) = tt
  course_leaves (visits e c) = course_leaves c

module _ (most : ℕ) (s : List ℕ) (limit : ℕ) (w : TrieWalk) (b : List ℕ) (range : InRange most s (length b) w) where
  call_leaves : Left most s (length b) w (call most s limit w b).reply.answer (call most s limit w b).reply.walk
  call_leaves = by w.ended refl
    where
      by : (c : Bool) → w.ended ≡ c → Left most s (length b) w (call most s limit w b).reply.answer (call most s limit w b).reply.walk
      by true e =
          subst (λ (p : Outcome). Left most s (length b) w p.reply.answer p.reply.walk) (sym (ended_stays most s limit w b range e))
          (record { ended = e; range = range })
      by false e = course_leaves most s (length b) w (call_course most s limit w b range e)

  -- a refusal hands back the state as it was given, marked as ended
  pub refused_result : {number : ℕ} → (call most s limit w b).reply.answer ≡ refused number → (call most s limit w b).reply.walk ≡ marked w
  refused_result e = (subst (λ (a : Answer). Left most s (length b) w a (call most s limit w b).reply.walk) e call_leaves).1

  over_by : (a : Answer) (v : TrieWalk) → Left most s (length b) w a v → halts a ≡ true → Over most s (length b) w v
  over_by (export len x) v h q = absurd (true≢false (sym q))
  over_by more v h q = absurd (true≢false (sym q))
  over_by end v h q = h
  over_by (refused number) v h q = subst (Over most s (length b) w) (sym h.1) (record { ended = refl; range = range })

  -- after the end or a refusal every call says End, with any limit, any bytes and any buffer of which the state is in range
  pub kept : halts (call most s limit w b).reply.answer ≡ true → (t : List ℕ) (k : ℕ) (c : List ℕ) → InRange most t (length c) (call most s limit w b).reply.walk
      → call most t k (call most s limit w b).reply.walk c ≡ replied end (call most s limit w b).reply.walk 0 c
  kept q t k c r =
      let v = (call most s limit w b).reply.walk in
      ended_stays most t k v c r (over_by (call most s limit w b).reply.answer v call_leaves q).ended

  -- it is in range of the same bytes and any buffer as long
  pub kept_range : halts (call most s limit w b).reply.answer ≡ true → InRange most s (length b) (call most s limit w b).reply.walk
  kept_range q = (over_by (call most s limit w b).reply.answer (call most s limit w b).reply.walk call_leaves q).range

-- limit 0 changes nothing
pub waited : (most : ℕ) (s : List ℕ) (w : TrieWalk) (b : List ℕ) → InRange most s (length b) w → w.ended ≡ false → call most s zero w b ≡ replied more w 0 b
unfolding go_on
waited most s w b range e = goes_on most s zero w b range e

-- ---- of any state

module _ (most : ℕ) (s : List ℕ) (limit : ℕ) (w : TrieWalk) (b : List ℕ) where
  -- refusals have the numbers 15 to 19
  pub refused_number : {number : ℕ} → (call most s limit w b).reply.answer ≡ refused number → (15 ≤ number) × (number ≤ 19)
  refused_number {number} =
      call_by most s limit w b (λ (p : Outcome). p.reply.answer ≡ refused number → (15 ≤ number) × (number ≤ 19))
      (λ out e. let q : number ≡ 19 = cc in (omega arith, omega arith))
      (λ range z e. let q : ◌≡◌ {A = ℕ} 0 1 = cc in absurd (omega arith))
      (λ range z c e. let h = subst (λ (a : Answer). Left most s (length b) w a (call most s limit w b).reply.walk) e (course_leaves most s (length b) w c) in
      (omega (arith, h.0.0), omega (arith, h.0.1)))

  -- 19 hands back the state as it came
  pub returned : (call most s limit w b).reply.answer ≡ refused (number_of StateOutOfRange) → call most s limit w b ≡ replied (refused (number_of StateOutOfRange)) w 0 b
  returned =
      call_by most s limit w b (λ (p : Outcome). p.reply.answer ≡ refused (number_of StateOutOfRange) → p ≡ replied (refused (number_of StateOutOfRange)) w 0 b)
      (λ out e. refl)
      (λ range z e. let q : ◌≡◌ {A = ℕ} 0 1 = cc in absurd (omega arith))
      (λ range z c e. let h = subst (λ (a : Answer). Left most s (length b) w a (call most s limit w b).reply.walk) e (course_leaves most s (length b) w c) in
      absurd (omega (arith, h.0.1)))
