-- A call, by the way that it goes before and at the root. Assumes nothing.
use Prim.Native.Nat.{ℕ, suc, ◌-◌, ◌≤◌}
use mathlib.Core.Path.{◌≡◌, sym, ap, ◌∙◌}
use mathlib.Core.Bool.{Bool, true, false, cond, ◌||◌}
use mathlib.Core.List.{List}
use native.Mathlib.Omega.{arith}
use borrow.Author.Tests.{eq-eqb, ne_eqb, ltb-false}
use lib.Dec.{ltb, eqb}
use lib.ListN.{length}
use Rattle.numbers.proofs.Picks.{neither}
use Rattle.trie.proofs.Course.{ended_stays, goes_on, out_stays}
use Rattle.refusal.specs.declared.Refusal.TheVariants.{FaultyNode, StateOutOfRange}
use Rattle.trie.specs.Call.{marked, rooted, Reply, seen, visited, onward, visit_root, go_on, call}
use Rattle.nodes.specs.ExportsTrie.{node_at}
use Rattle.trie.specs.Frames.{top_down, one_above, out_of_range}
use Rattle.trie.specs.Told.{told}
use Rattle.trie.specs.declared.TrieAnswer.TheVariants as answer
use Rattle.trie.specs.declared.TrieStep.{TrieStep}
use Rattle.trie.specs.declared.TrieWalk.{TrieWalk}
use Rattle.nodes.specs.declared.export.Export.{Export}
use Rattle.nodes.specs.declared.node.Node.{Node}
use Rattle.std.specs.Prelude.{Option, Some, None}

-- ---- the root: k nodes more may be visited

module _ (s : List ℕ) (given : TrieWalk) (k : ℕ) (b : List ℕ) {x : Option Node} (q : x ≡ node_at s 0) where
  abbrev Root : Reply × List ℕ → Type 0
  Root p = p ≡ seen (visit_root 256 s given k b (node_at s 0))

  pub no_root : x ≡ None → {r : TrieStep} → r ≡ record { answer = answer.Refused FaultyNode; walk = marked given; visits = 0 } → Root (told r, b)
  unfolding visit_root
  no_root f p = (λ i. (told (p i), b)) ∙ ap (λ (y : Option Node). seen (visit_root 256 s given k b y)) (sym f ∙ q)

  module _ {n : Node} (f : x ≡ Some n) where
    at_root : {t : Option Export} → n.terminal ≡ t → seen (visited (onward 256 s given k) 0 1 (rooted given n) b t) ≡ seen (visit_root 256 s given k b (node_at s 0))
    unfolding visit_root
    at_root y =
        ap (λ (t : Option Export). seen (visited (onward 256 s given k) 0 1 (rooted given n) b t)) (sym y)
        ∙ ap (λ (y : Option Node). seen (visit_root 256 s given k b y)) (sym f ∙ q)

    pub root_exports : {y : Export} → n.terminal ≡ Some y → {r : TrieStep} → r ≡ record { answer = answer.Export 0 y; walk = rooted given n; visits = 1 } → Root (told r, b)
    unfolding visited
    root_exports y p = (λ i. (told (p i), b)) ∙ at_root y

    pub root_on : n.terminal ≡ None → {p : Reply × List ℕ} → p ≡ seen (onward 256 s given k 1 (rooted given n) b) → Root p
    unfolding visited
    root_on y p = p ∙ at_root y

-- ---- before the first visit

pub range_fits : (places lengths : List ℕ) (d bytes room : ℕ) {t : Bool} → t ≡ out_of_range 256 places lengths d bytes room → t ≡ false → d ≤ 256
unfolding out_of_range
range_fits places lengths d bytes room q f =
    ltb-false 256 d (neither (ltb 256 d) (one_above bytes (top_down places d) || one_above room (top_down lengths d)) (sym q ∙ f)).0

module _ (s : List ℕ) (limit : ℕ) (w : TrieWalk) (b : List ℕ) {t : Bool} (q : t ≡ out_of_range 256 w.places w.lengths w.depth (length s) (length b)) where
  abbrev Called : Reply × List ℕ → Type 0
  Called p = p ≡ seen (call 256 s limit w b)

  pub is_out : t ≡ true → {r : TrieStep} → r ≡ record { answer = answer.Refused StateOutOfRange; walk = w; visits = 0 } → Called (told r, b)
  is_out f p = (λ i. (told (p i), b)) ∙ sym (ap seen (out_stays 256 s limit w b (sym q ∙ f)))

  module _ (f : t ≡ false) where
    pub is_ended : w.ended ≡ true → {r : TrieStep} → r ≡ record { answer = answer.End; walk = w; visits = 0 } → Called (told r, b)
    is_ended g p = (λ i. (told (p i), b)) ∙ sym (ap seen (ended_stays 256 s limit w b (sym q ∙ f) g))

    module _ (g : w.ended ≡ false) where
      goes : seen (go_on 256 s limit w b) ≡ seen (call 256 s limit w b)
      goes = sym (ap seen (goes_on 256 s limit w b (sym q ∙ f) g))

      pub is_none : limit ≡ 0 → {r : TrieStep} → r ≡ record { answer = answer.More; walk = w; visits = 0 } → Called (told r, b)
      unfolding go_on
      is_none z p = (λ i. (told (p i), b)) ∙ ap (λ (k : ℕ). seen (go_on 256 s k w b)) (sym z) ∙ goes

      module _ (z : limit ≡ 0 → ⊥) where
        some : {c : Bool} → eqb w.depth 0 ≡ c → seen (cond c (visit_root 256 s w (limit - 1) b (node_at s 0)) (onward 256 s w (suc (limit - 1)) 0 w b)) ≡ seen (call 256 s limit w b)
        unfolding go_on
        some h =
            let m : suc (limit - 1) ≡ limit = omega arith in
            ap (λ (c : Bool). seen (cond c (visit_root 256 s w (limit - 1) b (node_at s 0)) (onward 256 s w (suc (limit - 1)) 0 w b))) (sym h)
            ∙ ap (λ (k : ℕ). seen (go_on 256 s k w b)) m
            ∙ goes

        pub is_first : w.depth ≡ 0 → {p : Reply × List ℕ} → p ≡ seen (visit_root 256 s w (limit - 1) b (node_at s 0)) → Called p
        is_first h p = p ∙ some (eq-eqb w.depth 0 h)

        pub is_begun : (w.depth ≡ 0 → ⊥) → {p : Reply × List ℕ} → p ≡ seen (onward 256 s w (limit - 0) 0 w b) → Called p
        is_begun h p =
            let m : limit - 0 ≡ suc (limit - 1) = omega arith in
            p ∙ ap (λ (k : ℕ). seen (onward 256 s w k 0 w b)) m ∙ some (ne_eqb w.depth 0 h)
