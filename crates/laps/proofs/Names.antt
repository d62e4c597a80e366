-- The turns of the trie lap's loop. Assumes nothing.
use Rattle.std.proofs.Common.{◌≡◌, ℕ, suc, ◌+◌, ◌-◌, ◌%◌, ◌^◌, ◌<◌, ◌≤◌, List, sym, refl, ap, ◌∙◌, arith}
use Rattle.nodes.specs.declared.export.Export as export
use Rattle.laps.specs.Laps.{trie_turn, trie_lap}
use Rattle.trie.specs.Call.{Reply, seen, call}
use Rattle.trie.specs.Told.{answer_told, told}
use Rattle.trie.specs.declared.TrieAnswer.{TrieAnswer}
use Rattle.trie.specs.declared.TrieAnswer.TheVariants.{Export, More, End, Refused}
use Rattle.trie.specs.declared.TrieStep.{TrieStep}
use Rattle.trie.specs.declared.TrieWalk.{TrieWalk}

module _ (s : List ℕ) (left sum : ℕ) (w : TrieWalk) (b : List ℕ) {whole : ℕ × List ℕ} (same : trie_lap s left sum w b ≡ whole) where
  -- no call is left
  pub full : left ≤ 0 → (sum, b) ≡ whole
  unfolding trie_lap
  full h = let e : left ≡ 0 = omega arith in sym (ap (λ (n : ℕ). trie_lap s n sum w b) e) ∙ same

  -- a call is left, and answers this
  module _ (h : 0 < left) {r : TrieStep} {d : List ℕ} (e : ◌≡◌ {A = Reply × List ℕ} (told r, d) (seen (call 256 s (2 ^ 64 - 1) w b))) where
    turned : {q : TrieAnswer} → r.answer ≡ q → trie_turn (trie_lap s (left - 1)) sum r.walk d (answer_told q) ≡ whole
    unfolding trie_lap
    turned f =
        let q : left ≡ suc (left - 1) = omega arith in
        ap (λ (a : TrieAnswer). trie_turn (trie_lap s (left - 1)) sum r.walk d (answer_told a)) (sym f)
        ∙ ap (λ (p : Reply × List ℕ). trie_turn (trie_lap s (left - 1)) sum p.0.walk p.1 p.0.answer) e
        ∙ sym (ap (λ (n : ℕ). trie_lap s n sum w b) q)
        ∙ same

    -- no export
    pub halts : ((n : ℕ) (x : export.Export) → r.answer ≡ Export n x → ⊥) → (sum, d) ≡ whole
    halts f = by_answer r.answer refl
      where
        by_answer : (q : TrieAnswer) → r.answer ≡ q → (sum, d) ≡ whole
        by_answer (Export n x) i = absurd (f n x i)
        by_answer More i = turned i
        by_answer End i = turned i
        by_answer (Refused n) i = turned i

    pub goes_on : {n : ℕ} {x : export.Export} → r.answer ≡ Export n x → trie_lap s (left - 1) ((sum + n) % 2 ^ 64) r.walk d ≡ whole
    goes_on f = turned f
