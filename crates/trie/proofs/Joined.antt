-- Calls from the start say what the trie lists, whatever their limits; and enough of them come to its end. Assumes nothing.
use Prim.Native.Nat.{ℕ, zero, suc, ◌+◌, ◌≤◌, ◌<◌}
use mathlib.Core.Path.{◌≡◌, refl, sym, ap, ◌∙◌, subst}
use mathlib.Core.Bool.{false, true≢false}
use mathlib.Core.List.{List, [], ◌∷◌, ◌++◌}
use native.Mathlib.Omega.{arith}
use lib.ListN.{length, take}
use Rattle.runs.specs.Runs.{Run, stops, fails, gives}
use Rattle.trie.proofs.Course.{Next, over, failed, reached, next, IfReached, Course, call_course, halts, course_keeps}
use Rattle.trie.proofs.Course as course
use Rattle.trie.proofs.Fits.{sound_ranged}
use Rattle.trie.proofs.Good.{Good, ahead, Lists, good_closed, next_lists, good_next, good_start}
use Rattle.trie.proofs.Says.{Says, says_over, says_failed, says_reached, says_one, course_joins, calls_say}
use Rattle.trie.specs.Call.{at_start, Answer, export, more, end, refused, Outcome, call}
use Rattle.nodes.specs.Symbols.{Symbol, symbol, Ending, at_end, at_refusal, with_symbol, exports_in, visits_in, ending_of}
use Rattle.trie.specs.Joined.{Joined, joined, join, calls, joined_in}
use Rattle.nodes.specs.Listing.{Visit, visit, listing}
use Rattle.trie.specs.declared.TrieWalk.{TrieWalk}
use Rattle.std.specs.Prelude.{Some}

module _ (most : ℕ) (s : List ℕ) (room : ℕ) where
  -- ---- the visits from a state on say what it has ahead

  says_ahead : (l : Run Visit) (w : TrieWalk) (b : List ℕ) → Good most s room w b → ahead most s room w b ≡ l → Says most s w b (joined_in l)
  unfolding exports_in visits_in ending_of
  says_ahead stops w b g e = by (next most s w b) refl (next_lists most s room w b g)
    where
      by : (x : Next) → next most s w b ≡ x → Lists most s room (ahead most s room w b) x → Says most s w b (joined_in stops)
      by over f h = says_over f
      by (failed x) f h = let z : ◌≡◌ {A = ℕ} 0 1 = cc in absurd (omega arith)
      by (reached len t v c) f h = let q = h.1 in let z : ◌≡◌ {A = ℕ} 0 1 = cc in absurd (omega arith)
  says_ahead (fails y) w b g e = by (next most s w b) refl (next_lists most s room w b g)
    where
      by : (x : Next) → next most s w b ≡ x → Lists most s room (ahead most s room w b) x → Says most s w b (joined_in (fails y))
      by over f h = let z : ◌≡◌ {A = ℕ} 0 1 = cc in absurd (omega arith)
      by (failed x) f h = let q : x ≡ y = cc in says_failed (f ∙ ap failed q)
      by (reached len t v c) f h = let q = h.1 in let z : ◌≡◌ {A = ℕ} 0 1 = cc in absurd (omega arith)
  says_ahead (gives u l) w b g e = by (λ v c. says_ahead l v c) (next most s w b) refl (next_lists most s room w b g) (good_next most s room w b g)
    where
      by : ((v : TrieWalk) (c : List ℕ) → Good most s room v c → ahead most s room v c ≡ l → Says most s v c (joined_in l))
          → (x : Next) → next most s w b ≡ x → Lists most s room (ahead most s room w b) x → IfReached (Good most s room) (next most s w b) → Says most s w b (joined_in (gives u l))
      by ih over f h k = let z : ◌≡◌ {A = ℕ} 0 1 = cc in absurd (omega arith)
      by ih (failed x) f h k = let z : ◌≡◌ {A = ℕ} 0 1 = cc in absurd (omega arith)
      by ih (reached len t v c) f h k =
          let q = h.1 in
          let m : ahead most s room v c ≡ l = cc in
          let n : visit (take len c) h.0 t ≡ u = cc in
          subst (λ (x : Visit). Says most s w b (joined (with_symbol x.name x.terminal (exports_in l)) (1 + visits_in l) (Some (ending_of l)))) n
          (says_reached f (ih v c (subst (IfReached (Good most s room)) f k) m))

  -- ---- a call, and what is ahead after it

  module _ (k : ℕ) (w : TrieWalk) (b : List ℕ) (g : Good most s room w b) where
    abbrev p : Outcome
    p = call most s k w b

    course_is : Course most s w k 0 w b p
    course_is = call_course most s k w b (sound_ranged most s room w b g.sound) g.sound.going

    good_after : halts p.reply.answer ≡ false → Good most s room p.reply.walk p.buffer
    good_after z = course_keeps most s (Good most s room) (good_next most s room) (λ w b g z. good_closed most s room w b g) course_is g z

    -- with what is ahead after it, a call says what was ahead before
    joins_ahead : join p.reply.visits p.buffer (joined_in (ahead most s room p.reply.walk p.buffer)) p.reply.answer ≡ joined_in (ahead most s room w b)
    joins_ahead =
        let j = joined_in (ahead most s room p.reply.walk p.buffer) in
        let t = course_joins most s j course_is (λ z. says_ahead (ahead most s room p.reply.walk p.buffer) p.reply.walk p.buffer (good_after z) refl) in
        let v : 0 + t.said.visits ≡ t.said.visits = omega arith in
        t.same ∙ (λ i. joined t.said.exports (v i) t.said.ending) ∙ says_one most s t.says (says_ahead (ahead most s room w b) w b g refl)

  -- ---- calls that do not come to an end say the first of it

  starts_by : (a : Answer) (n : ℕ) (b : List ℕ) (j i : Joined) → (halts a ≡ false → (rest : List Symbol) × (j.exports ≡ i.exports ++ rest))
      → (rest : List Symbol) × ((join n b j a).exports ≡ (join n b i a).exports ++ rest)
  starts_by (export len x) n b j i h = let r = h refl in (r.0, ap (λ (y : List Symbol). symbol (take len b) x ∷ y) r.1)
  starts_by more n b j i h = h refl
  starts_by end n b j i h = ([], refl)
  starts_by (refused number) n b j i h = ([], refl)

  calls_start : (ks : List ℕ) (w : TrieWalk) (b : List ℕ) → Good most s room w b → (rest : List Symbol) × (exports_in (ahead most s room w b) ≡ (calls most s w b ks).exports ++ rest)
  unfolding calls
  calls_start [] w b g = (exports_in (ahead most s room w b), refl)
  calls_start (k ∷ ks) w b g =
      let c = call most s k w b in
      let r = starts_by c.reply.answer c.reply.visits c.buffer (joined_in (ahead most s room c.reply.walk c.buffer)) (calls most s c.reply.walk c.buffer ks)
      (λ z. calls_start ks c.reply.walk c.buffer (good_after k w b g z)) in
      (r.0, sym (ap (λ (j : Joined). j.exports) (joins_ahead k w b g)) ∙ r.1)

  -- ---- enough calls come to an end

  course_moves : {given : TrieWalk} {k n : ℕ} {w : TrieWalk} {b : List ℕ} {q : Outcome} → Course most s given k n w b q
      → (n ≤ q.reply.visits) × (0 < k → halts q.reply.answer ≡ false → n < q.reply.visits)
  course_moves (course.ends e z) = (omega arith, λ h q. absurd (true≢false q))
  course_moves (course.refuses e d) = (omega arith, λ h q. absurd (true≢false q))
  course_moves course.waits = (omega arith, λ h q. absurd (omega arith))
  course_moves (course.limits y) = (omega arith, λ h q. absurd (omega arith))
  course_moves (course.exports e) = (omega arith, λ h q. omega arith)
  course_moves (course.visits e c) = let m = (course_moves c).0 in (omega arith, λ h q. omega arith)

-- how many of the limits are not 0
unfoldable pub nonzero : (limits : List ℕ) → ℕ
nonzero [] = 0
nonzero (zero ∷ ks) = nonzero ks
nonzero (suc k ∷ ks) = suc (nonzero ks)

module _ (most : ℕ) (s : List ℕ) (room : ℕ) where
  visits_by : (a : Answer) (n : ℕ) (b : List ℕ) (j : Joined) → halts a ≡ false → (join n b j a).visits ≡ n + j.visits
  visits_by (export len x) n b j z = refl
  visits_by more n b j z = refl
  visits_by end n b j z = absurd (true≢false z)
  visits_by (refused number) n b j z = absurd (true≢false z)

  fewer : (k : ℕ) (ks : List ℕ) (w : TrieWalk) (b : List ℕ) → Good most s room w b → visits_in (ahead most s room w b) < nonzero (k ∷ ks) → halts (call most s k w b).reply.answer ≡ false
      → visits_in (ahead most s room (call most s k w b).reply.walk (call most s k w b).buffer) < nonzero ks
  unfolding nonzero
  fewer zero ks w b g h z =
      let c = call most s zero w b in
      let e = sym (visits_by c.reply.answer c.reply.visits c.buffer (joined_in (ahead most s room c.reply.walk c.buffer)) z) ∙ ap (λ (j : Joined). j.visits) (joins_ahead most s room zero w b g) in
      omega (arith, e)
  fewer (suc k) ks w b g h z =
      let c = call most s (suc k) w b in
      let e = sym (visits_by c.reply.answer c.reply.visits c.buffer (joined_in (ahead most s room c.reply.walk c.buffer)) z) ∙ ap (λ (j : Joined). j.visits) (joins_ahead most s room (suc k) w b g) in
      let m = (course_moves most s room (course_is most s room (suc k) w b g)).1 (omega arith) z in
      omega (arith, e, m)

  ends_by : (a : Answer) (n : ℕ) (b : List ℕ) (j : Joined) → (halts a ≡ false → (e : Ending) × (j.ending ≡ Some e)) → (e : Ending) × ((join n b j a).ending ≡ Some e)
  ends_by (export len x) n b j h = h refl
  ends_by more n b j h = h refl
  ends_by end n b j h = (at_end, refl)
  ends_by (refused number) n b j h = (at_refusal number, refl)

  calls_end : (ks : List ℕ) (w : TrieWalk) (b : List ℕ) → Good most s room w b → visits_in (ahead most s room w b) < nonzero ks → (e : Ending) × ((calls most s w b ks).ending ≡ Some e)
  unfolding calls
  calls_end [] w b g h = unfold nonzero in absurd (omega arith)
  calls_end (k ∷ ks) w b g h =
      let c = call most s k w b in
      ends_by c.reply.answer c.reply.visits c.buffer (calls most s c.reply.walk c.buffer ks)
      (λ z. calls_end ks c.reply.walk c.buffer (good_after most s room k w b g z) (fewer k ks w b g h z))

-- ---- from the start, with any bytes, any buffer and any limits

module _ (most : ℕ) (s b limits : List ℕ) where
  -- calls that come to an end say what the trie lists: its exports, the number of its visits, its ending
  pub joined_says : {e : Ending} → (calls most s (at_start most) b limits).ending ≡ Some e → calls most s (at_start most) b limits ≡ joined_in (listing s (length b) most)
  joined_says q =
      let g = good_start most s b in
      says_one most s (calls_say most s (length b) limits (at_start most) b g.sound q) (says_ahead most s (length b) (listing s (length b) most) (at_start most) b g refl)

  -- calls that do not, say the first of its exports
  pub joined_starts : (rest : List Symbol) × (exports_in (listing s (length b) most) ≡ (calls most s (at_start most) b limits).exports ++ rest)
  joined_starts = calls_start most s (length b) limits (at_start most) b (good_start most s b)

  -- calls do come to an end once more of their limits are not 0 than the trie lists visits
  pub joined_all : visits_in (listing s (length b) most) < nonzero limits → calls most s (at_start most) b limits ≡ joined_in (listing s (length b) most)
  joined_all h = joined_says (calls_end most s (length b) limits (at_start most) b (good_start most s b) h).1
