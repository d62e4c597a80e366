-- One turn of the walk's loop, by the way that it goes. Assumes nothing.
use Prim.Native.Nat.{ℕ, zero, suc, ◌+◌, ◌-◌, ◌≤◌, ◌<◌}
use mathlib.Core.Path.{◌≡◌, refl, sym, ap, ◌∙◌}
use mathlib.Core.Bool.{Bool, true, false, cond}
use mathlib.Core.List.{List}
use native.Mathlib.Nat.{pos_of_ne-zero}
use native.Mathlib.Omega.{arith}
use borrow.Author.Tests.{eq-eqb, ne_eqb, eqb-false, le-leb, lt-leb}
use lib.Dec.{eqb}
use lib.ListN.{length, get_or, set, take, length-set}
use Rattle.numbers.specs.Parts.{part_at}
use Rattle.refusal.specs.declared.Refusal.{Refusal}
use Rattle.refusal.specs.declared.Refusal.TheVariants.{TooManyOpenNodes}
use Rattle.trie.proofs.Children.{child_read}
use Rattle.trie.proofs.Searches.{front_top, front_open}
use Rattle.trie.specs.Call.{at_depth, marked, put, child_name, child_opened, more, end, seen, replied, visited, visit_child, child_of, onward}
use Rattle.trie.specs.NextChild.{child_at}
use Rattle.trie.specs.Frames.{top_down, still_open}
use Rattle.trie.specs.Told.{told}
use Rattle.trie.specs.declared.TrieAnswer.TheVariants as answer
use Rattle.trie.specs.declared.TrieStep.{TrieStep}
use Rattle.trie.specs.declared.TrieWalk.{TrieWalk}
use Rattle.nodes.specs.declared.export.Export.{Export}
use Rattle.nodes.specs.declared.node.Edge.{Edge}
use Rattle.nodes.specs.declared.node.Node.{Node}
use Rattle.nodes.specs.Child.{Child}
use Rattle.std.specs.Prelude.{Some, None, Ok, Err}

-- ---- what is on top when all is closed that has no child left

at_most_by : (x d : ℕ) (t : Bool) → x ≤ d → cond t x (suc d) ≤ suc d
at_most_by x d true h = omega arith
at_most_by x d false h = omega arith

pub still_at_most : (left : List ℕ) (d : ℕ) → still_open left d ≤ d
unfolding still_open
still_at_most left zero = omega arith
still_at_most left (suc d) = at_most_by (still_open left d) d (eqb (get_or left d 0) 0) (still_at_most left d)

has_child_by : (left : List ℕ) (x d : ℕ) (t : Bool) → eqb (get_or left d 0) 0 ≡ t → ((x ≡ 0 → ⊥) → 0 < get_or left (x - 1) 0)
    → (cond t x (suc d) ≡ 0 → ⊥) → 0 < get_or left (cond t x (suc d) - 1) 0
has_child_by left x d true e h n = h n
has_child_by left x d false e h n =
    let s : suc d - 1 ≡ d = omega arith in
    rw s (pos_of_ne-zero (eqb-false (get_or left d 0) 0 e))

pub has_child : (left : List ℕ) (d : ℕ) → (still_open left d ≡ 0 → ⊥) → 0 < get_or left (still_open left d - 1) 0
unfolding still_open
has_child left zero n = absurd (n refl)
has_child left (suc d) n = has_child_by left (still_open left d) d (eqb (get_or left d 0) 0) refl (has_child left d) n

-- ---- the loop: the walk is at w with the buffer b, and `visits` nodes are visited

pub record Going (s : List ℕ) (given : TrieWalk) (limit done : ℕ) (w₀ : TrieWalk) (b₀ : List ℕ) (w : TrieWalk) (b : List ℕ) (visits : ℕ) : Type 0 where
  pub few : visits ≤ limit
  pub fits : w.depth ≤ 256
  pub offsets : length w.offsets ≡ 256
  pub left : length w.left ≡ 256
  pub long : length b ≡ length b₀
  pub same : onward 256 s given (limit - done) done w₀ b₀ ≡ onward 256 s given (limit - visits) visits w b

module _ {s : List ℕ} {given : TrieWalk} {limit done : ℕ} {w₀ : TrieWalk} {b₀ : List ℕ} where
  pub begins : w₀.depth ≤ 256 → length w₀.offsets ≡ 256 → length w₀.left ≡ 256 → done ≤ limit → Going s given limit done w₀ b₀ w₀ b₀ done
  begins h o f l = record { few = l; fits = h; offsets = o; left = f; long = refl; same = refl }

  module _ {w : TrieWalk} {b : List ℕ} {visits : ℕ} (g : Going s given limit done w₀ b₀ w b visits) {d : ℕ}
      (counted : d ≡ still_open (take w.depth w.left) (length (take w.depth w.left))) where
    e : d ≡ still_open w.left w.depth
    e = counted ∙ front_open w.left w.depth (omega (arith, g.fits, g.left))

    pub child_left : (d ≡ 0 → ⊥) → 0 < get_or w.left (d - 1) 0
    child_left z = rw e (has_child w.left w.depth (λ q. z (e ∙ q)))

    -- the definition's turn, at the depth that the code has
    last : onward 256 s given 0 visits w b ≡ cond (eqb d 0) (replied end (marked (at_depth d w)) visits b) (replied more (at_depth d w) visits b)
    unfolding onward
    last =
        λ i.
        cond (eqb (sym e i) 0) (replied end (marked (at_depth (sym e i) w)) visits b)
        (replied more (at_depth (sym e i) w) visits b)

    next : (k : ℕ) → onward 256 s given (suc k) visits w b
        ≡ cond (eqb d 0) (replied end (marked (at_depth d w)) visits b) (visit_child 256 s (onward 256 s given k) given visits (at_depth d w) b (child_of s (length b) (at_depth d w)))
    unfolding onward
    next k =
        λ i.
        cond (eqb (sym e i) 0) (replied end (marked (at_depth (sym e i) w)) visits b)
        (visit_child 256 s (onward 256 s given k) given visits (at_depth (sym e i) w) b (child_of s (length b) (at_depth (sym e i) w)))

    pub ends : d ≡ 0 → {r : TrieStep} → r ≡ record { answer = answer.End; walk = marked (at_depth d w); visits = visits }
        → (told r, b) ≡ seen (onward 256 s given (limit - done) done w₀ b₀)
    ends z f = sym (ap seen (g.same ∙ by (limit - visits)) ∙ (λ i. (told (sym f i), b)))
      where
        by : (k : ℕ) → onward 256 s given k visits w b ≡ replied end (marked (at_depth d w)) visits b
        by zero = last ∙ rw (eq-eqb d 0 z)
        by (suc k) = next k ∙ rw (eq-eqb d 0 z)

    module _ (z : d ≡ 0 → ⊥) where
      pub pauses : limit ≤ visits → {r : TrieStep} → r ≡ record { answer = answer.More; walk = at_depth d w; visits = visits }
          → (told r, b) ≡ seen (onward 256 s given (limit - done) done w₀ b₀)
      pauses h f =
          let k : limit - visits ≡ 0 = omega arith in
          sym (ap seen (g.same ∙ ap (λ (m : ℕ). onward 256 s given m visits w b) k ∙ last) ∙ rw (ne_eqb d 0 z) (λ i. (told (sym f i), b)))

      -- a child is read
      module _ (h : visits < limit) {c : Child}
          (read : c ≡ child_at s (length b) (top_down (take d w.offsets) (length (take d w.offsets))) (get_or w.lengths (d - 1) 0) (get_or w.places (d - 1) 0)) where
        q : c ≡ child_at s (length b) (top_down w.offsets d) (get_or w.lengths (d - 1) 0) (get_or w.places (d - 1) 0)
        q = read ∙ ap (λ (xs : List ℕ). child_at s (length b) xs (get_or w.lengths (d - 1) 0) (get_or w.places (d - 1) 0)) (front_top w.offsets d (omega (arith, e, still_at_most w.left w.depth, g.fits, g.offsets)))

        on : {x : Child} → c ≡ x → onward 256 s given (limit - done) done w₀ b₀ ≡ visit_child 256 s (onward 256 s given (limit - (visits + 1))) given visits (at_depth d w) b x
        on f =
            let k : limit - visits ≡ suc (limit - (visits + 1)) = omega arith in
            g.same
            ∙ ap (λ (m : ℕ). onward 256 s given m visits w b) k
            ∙ next (limit - (visits + 1))
            ∙ rw (ne_eqb d 0 z) (ap (visit_child 256 s (onward 256 s given (limit - (visits + 1))) given visits (at_depth d w) b) (sym q ∙ f))

        pub refuses : {x : Refusal} → c ≡ Err x → {r : TrieStep} → r ≡ record { answer = answer.Refused x; walk = marked given; visits = visits }
            → (told r, b) ≡ seen (onward 256 s given (limit - done) done w₀ b₀)
        unfolding visit_child
        refuses f p = sym (ap seen (on f) ∙ (λ i. (told (sym p i), b)))

        module _ {x : Edge} {n : Node} (f : c ≡ Ok (x, n)) where
          pub name_fits : get_or w.lengths (d - 1) 0 + x.name.length ≤ length b
          name_fits = (child_read s (length b) (top_down w.offsets d) (get_or w.lengths (d - 1) 0) (get_or w.places (d - 1) 0) q f).fits

          pub full : 256 ≤ d → {r : TrieStep} → r ≡ record { answer = answer.Refused TooManyOpenNodes; walk = marked given; visits = visits }
              → (told r, b) ≡ seen (onward 256 s given (limit - done) done w₀ b₀)
          unfolding visit_child
          full l p = sym (ap seen (on f) ∙ rw (le-leb 256 d l) (λ i. (told (sym p i), b)))

          -- its edge is put into the buffer
          module _ (l : d < 256) (o₀ : ℕ × ℕ) {o : ℕ × ℕ} {bytes c₀ : List ℕ} (u : (o, bytes) ≡ part_at o₀ s x.name.place x.name.length) (v : c₀ ≡ put bytes b (get_or w.lengths (d - 1) 0)) where
            reached : onward 256 s given (limit - done) done w₀ b₀ ≡ visited (onward 256 s given (limit - (visits + 1))) (child_name (at_depth d w) x) (visits + 1) (child_opened (at_depth d w) x n) c₀ n.terminal
            unfolding visit_child
            reached =
                on f
                ∙ rw (lt-leb 256 d l)
                (ap (λ (a : List ℕ). visited (onward 256 s given (limit - (visits + 1))) (child_name (at_depth d w) x) (visits + 1) (child_opened (at_depth d w) x n) a n.terminal)
                (sym (v ∙ ap (λ (a : List ℕ). put a b (get_or w.lengths (d - 1) 0)) (ap (λ (a : (ℕ × ℕ) × List ℕ). a.1) u))))

            pub exports : {y : Export} → n.terminal ≡ Some y → {r : TrieStep} → r ≡ record { answer = answer.Export (child_name (at_depth d w) x) y; walk = child_opened (at_depth d w) x n; visits = visits + 1 }
                → (told r, c₀) ≡ seen (onward 256 s given (limit - done) done w₀ b₀)
            unfolding visited
            exports y p = sym (ap seen (reached ∙ ap (visited (onward 256 s given (limit - (visits + 1))) (child_name (at_depth d w) x) (visits + 1) (child_opened (at_depth d w) x n) c₀) y) ∙ (λ i. (told (sym p i), c₀)))

            pub goes_on : length c₀ ≡ length b → n.terminal ≡ None → Going s given limit done w₀ b₀ (child_opened (at_depth d w) x n) c₀ (visits + 1)
            unfolding visited
            goes_on m y =
                record {
                  few = omega arith;
                  fits = omega arith;
                  offsets = length-set w.offsets d x.offset ∙ g.offsets;
                  left = length-set (set w.left (d - 1) (get_or w.left (d - 1) 0 - 1)) d n.children ∙ length-set w.left (d - 1) (get_or w.left (d - 1) 0 - 1) ∙ g.left;
                  long = m ∙ g.long;
                  same = reached ∙ ap (visited (onward 256 s given (limit - (visits + 1))) (child_name (at_depth d w) x) (visits + 1) (child_opened (at_depth d w) x n) c₀) y;
                }
