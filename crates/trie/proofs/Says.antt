-- What the visits from a state on say, to the end or the first refusal: it is one. Calls that come to an end say it, whatever their limits, from
-- any state in range. Assumes nothing.
use Prim.Native.Nat.{ℕ, ◌+◌}
use mathlib.Core.Path.{◌≡◌, refl, sym, ◌∙◌, subst}
use mathlib.Core.Bool.{false, true≢false}
use mathlib.Core.List.{List, [], ◌∷◌}
use native.Mathlib.Omega.{arith}
use lib.ListN.{length, take}
use Rattle.trie.proofs.Course.{over, failed, reached, next, next_closed, Course, ends, refuses, waits, limits, exports, visits, InRange, call_course, halts, course_keeps}
use Rattle.trie.proofs.Fits.{fit, Sound, sound_closed, sound_next, sound_ranged}
use Rattle.trie.specs.Call.{Answer, export, more, end, refused, Outcome, call}
use Rattle.nodes.specs.Symbols.{Ending, at_end, at_refusal, with_symbol}
use Rattle.trie.specs.Joined.{Joined, joined, join, calls}
use Rattle.trie.specs.declared.TrieWalk.{TrieWalk}
use Rattle.nodes.specs.declared.export.Export.{Export}
use Rattle.std.specs.Prelude.{Option, Some}

module _ (most : ℕ) (s : List ℕ) where
  pub data Says : TrieWalk → List ℕ → Joined → Type 0 where
    says_over : {w : TrieWalk} {b : List ℕ} → next most s w b ≡ over → Says w b (joined [] 0 (Some at_end))
    says_failed : {w : TrieWalk} {b : List ℕ} {x : ℕ} → next most s w b ≡ failed x → Says w b (joined [] 0 (Some (at_refusal x)))
    says_reached : {w : TrieWalk} {b : List ℕ} {len : ℕ} {t : Option Export} {v : TrieWalk} {c : List ℕ} {j : Joined} → next most s w b ≡ reached len t v c → Says v c j
        → Says w b (joined (with_symbol (take len c) t j.exports) (1 + j.visits) j.ending)

  pub says_one : {w : TrieWalk} {b : List ℕ} {i j : Joined} → Says w b i → Says w b j → i ≡ j
  says_one (says_over e) (says_over f) = refl
  says_one (says_over e) (says_failed f) = cc
  says_one (says_over e) (says_reached f q) = cc
  says_one (says_failed e) (says_over f) = cc
  says_one (says_failed e) (says_failed f) = cc
  says_one (says_failed e) (says_reached f q) = cc
  says_one (says_reached e p) (says_over f) = cc
  says_one (says_reached e p) (says_failed f) = cc
  says_one (says_reached {len = len} {t = t} {v = v} {c = c} e p) (says_reached {len = m} {t = u} {v = w} {c = d} {j = j} f q) =
      let x : m ≡ len = cc in
      let y : u ≡ t = cc in
      let z : w ≡ v = cc in
      let a : d ≡ c = cc in
      let r = says_one p (subst (λ (k : TrieWalk). Says k c j) z (subst (λ (k : List ℕ). Says w k j) a q)) in
      λ i. joined (with_symbol (take (sym x i) (sym a i)) (sym y i) (r i).exports) (1 + (r i).visits) (r i).ending

  says_as : {v w : TrieWalk} {b : List ℕ} {j : Joined} → next most s v b ≡ next most s w b → Says v b j → Says w b j
  says_as q (says_over e) = says_over (sym q ∙ e)
  says_as q (says_failed e) = says_failed (sym q ∙ e)
  says_as q (says_reached e p) = says_reached (sym q ∙ e) p

  -- ---- a call, and what is said after it

  -- n nodes were visited before the course
  pub record Joins (n : ℕ) (w : TrieWalk) (b : List ℕ) (p : Outcome) (j : Joined) : Type 0 where
    pub said : Joined
    pub says : Says w b said
    pub same : join p.reply.visits p.buffer j p.reply.answer ≡ joined said.exports (n + said.visits) said.ending

  pub course_joins : {given : TrieWalk} {k n : ℕ} {w : TrieWalk} {b : List ℕ} {p : Outcome} (j : Joined) → Course most s given k n w b p
      → (halts p.reply.answer ≡ false → Says p.reply.walk p.buffer j) → Joins n w b p j
  course_joins {n = n} j (ends e z) h = let q : n ≡ n + 0 = omega arith in record { said = _; says = says_over e; same = λ i. joined [] (q i) (Some at_end) }
  course_joins {n = n} j (refuses {x = x} e d) h =
      let q : n ≡ n + 0 = omega arith in record { said = _; says = says_failed e; same = λ i. joined [] (q i) (Some (at_refusal x)) }
  course_joins j waits h = record { said = j; says = h refl; same = refl }
  course_joins j (limits {w = w} {b = b} y) h = record { said = j; says = says_as (next_closed most s w b y) (h refl); same = refl }
  course_joins {n = n} j (exports {len = len} {c = c} {x = x} e) h =
      let q : n + 1 + j.visits ≡ n + (1 + j.visits) = omega arith in
      record {
        said = _;
        says = says_reached e (h refl);
        same = λ i. joined (with_symbol (take len c) (Some x) j.exports) (q i) j.ending;
      }
  course_joins {n = n} j (visits e c) h =
      let r = course_joins j c h in
      let q : n + 1 + r.said.visits ≡ n + (1 + r.said.visits) = omega arith in
      record { said = _; says = says_reached e r.says; same = r.same ∙ (λ i. joined r.said.exports (q i) r.said.ending) }

  -- ---- calls one after another

  -- where the joined calls have an ending, those after a call that goes on have it
  ended_by : (n : ℕ) (b : List ℕ) (rest : Joined) (a : Answer) {e : Ending} → halts a ≡ false → (join n b rest a).ending ≡ Some e → rest.ending ≡ Some e
  ended_by n b rest (export len x) z q = q
  ended_by n b rest more z q = q
  ended_by n b rest end z q = absurd (true≢false z)
  ended_by n b rest (refused number) z q = absurd (true≢false z)

  pub calls_say : (room : ℕ) (ks : List ℕ) (w : TrieWalk) (b : List ℕ) → Sound most s room w b → {e : Ending} → (calls most s w b ks).ending ≡ Some e → Says w b (calls most s w b ks)
  unfolding calls
  calls_say room [] w b h q = let x : ◌≡◌ {A = ℕ} 0 1 = cc in absurd (omega arith)
  calls_say room (k ∷ ks) w b h q =
      let p = call most s k w b in
      let rest = calls most s p.reply.walk p.buffer ks in
      let c = call_course most s k w b (sound_ranged most s room w b h) h.going in
      let t = course_joins rest c (λ z. calls_say room ks p.reply.walk p.buffer (course_keeps most s (Sound most s room) (sound_next most s room) (λ w b h z. sound_closed most s room w b h) c h z)
      (ended_by p.reply.visits p.buffer rest p.reply.answer z q)) in
      let v : 0 + t.said.visits ≡ t.said.visits = omega arith in
      subst (Says w b) (sym (t.same ∙ (λ i. joined t.said.exports (v i) t.said.ending))) t.says

  -- the exports joined over calls do not depend on the limits
  pub alike : (w : TrieWalk) (b : List ℕ) → InRange most s (length b) w → w.ended ≡ false → (ks ls : List ℕ) {e f : Ending}
      → (calls most s w b ks).ending ≡ Some e → (calls most s w b ls).ending ≡ Some f → calls most s w b ks ≡ calls most s w b ls
  alike w b r z ks ls p q =
      let h : Sound most s (length b) w b = record { long = refl; going = z; fit = fit most s (length b) w r } in
      says_one (calls_say (length b) ks w b h p) (calls_say (length b) ls w b h q)
