-- A step at the boundary, by what its parts answered. Assumes nothing.
use Prim.Native.Nat.{ℕ, ◌*◌}
use mathlib.Core.Path.{◌≡◌, refl, sym, ap, ◌∙◌}
use mathlib.Core.Bool.{Bool, true, cond}
use mathlib.Core.List.{List}
use native.Mathlib.Omega.{arith}
use borrow.Author.Tests.{eq-eqb}
use lib.ListN.{length}
use Rattle.packed_trie.specs.Packed.{most, state_bytes, holds, state_at, target_words, item_words, item_long, answer_told, step_told, stepped}
use Rattle.packing.proofs.Boundary.{over}
use Rattle.packing.specs.Boundary.{unfit}
use Rattle.packing.specs.Words.{written}
use Rattle.trie.specs.Call.{Answer, export, more, end, refused, Reply, seen, call}
use Rattle.nodes.specs.Exported.{Target, regular, reexport, stub_and_resolver}
use Rattle.trie.specs.declared.TrieWalk.{TrieWalk}

-- ---- a step

-- an item has nine words
pub six : (x : Target) → length (target_words x) ≡ 6
six (regular address) = refl
six (reexport ordinal place size) = refl
six (stub_and_resolver stub resolver) = refl

pub nine : (visits : ℕ) (a : Answer) → 8 * length (item_words visits a) ≡ item_long
nine visits (export len x) = omega (arith, six x.target)
nine visits more = refl
nine visits end = refl
nine visits (refused n) = refl

module _ (s : List ℕ) (limit : ℕ) (state name item : List ℕ) where
  module _ (l : length item ≡ item_long) where
    pub by_state : {b : Bool} → holds state ≡ b → stepped s limit state name item ≡ cond b (step_told (seen (call most s limit (state_at state) name))) (unfit, state, name, item)
    unfolding stepped
    by_state e = rw (eq-eqb (length item) item_long l, e)

    module _ (h : holds state ≡ true) {w : TrieWalk} (e : w ≡ state_at state) {r : Reply} {b : List ℕ} (f : ◌≡◌ {A = Reply × List ℕ} (r, b) (seen (call most s limit w name))) where
      pub stepped_as : {n : ℕ} {t ws i : List ℕ} → t ≡ state_bytes r.walk → i ≡ written ws item → ws ≡ item_words r.visits r.answer → n ≡ answer_told r.answer → ◌≡◌ {A = ℕ × List ℕ × List ℕ × List ℕ} (n, t, b, i) (stepped s limit state name item)
      stepped_as {ws = ws} p q g m =
          let o = over item ws (item_words r.visits r.answer) q g (l ∙ sym (nine r.visits r.answer)) in
          (λ j. (m j, p j, b, o j))
          ∙ ap step_told (f ∙ ap (λ (v : TrieWalk). seen (call most s limit v name)) e)
          ∙ sym (by_state h)
