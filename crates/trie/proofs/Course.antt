-- The course of a call: what comes next in the trie, again and again, as far as the call goes. This is the one file that goes by the limit;
-- every law of calls goes along a course. `most` nodes may be open at once. Assumes nothing.
use Prim.Native.Nat.{ℕ, zero, suc, ◌+◌, ◌≤◌, ◌<◌}
use mathlib.Core.Path.{◌≡◌, refl, sym, ap, ◌∙◌, subst}
use mathlib.Core.Bool.{Bool, true, false, cond, true≢false}
use mathlib.Core.List.{List}
use native.Mathlib.Omega.{arith}
use borrow.Author.Tests.{eq-eqb, ne_eqb, eqb-true, eqb-false, leb-true, leb-false}
use lib.Dec.{leb, eqb}
use lib.ListN.{length, get_or}
use Rattle.nodes.specs.Exported.{export_told}
use Rattle.nodes.specs.ExportsTrie.{node_at}
use Rattle.nodes.specs.declared.export.Export.{Export}
use Rattle.nodes.specs.declared.node.Edge.{Edge}
use Rattle.nodes.specs.declared.node.Node.{Node}
use Rattle.refusal.specs.Numbers.{number_of}
use Rattle.refusal.specs.declared.Refusal.{Refusal}
use Rattle.refusal.specs.declared.Refusal.TheVariants.{FaultyNode, TooManyOpenNodes, StateOutOfRange}
use Rattle.trie.specs.Call.{at_depth, marked, closed, rooted, child_of, child_name, child_opened, edge_put, Answer, export, more, end, refused, Outcome, replied, refusing, visited, visit_child, onward, visit_root, go_on, call}
use Rattle.trie.specs.Frames.{out_of_range, still_open}
use Rattle.trie.specs.declared.TrieWalk.{TrieWalk}
use Rattle.nodes.specs.Child.{Child}
use Rattle.std.specs.Prelude.{Option, Some, None, Ok, Err}

-- ---- what comes next: nothing, a refusal, or a node, with the length of its name and what is left behind

pub data Next : Type 0 where
  over : Next
  failed : (number : ℕ) → Next
  reached : (len : ℕ) → Option Export → TrieWalk → (buffer : List ℕ) → Next

-- a node is open
abbrev pub Begun : TrieWalk → Type 0
Begun w = w.depth ≡ 0 → ⊥

-- and still is when finished nodes are closed
abbrev pub Unfinished : TrieWalk → Type 0
Unfinished w = still_open w.left w.depth ≡ 0 → ⊥

pub has_begun : (w : TrieWalk) → Unfinished w → Begun w
unfolding still_open
has_begun w z e = z (ap (still_open w.left) e)

module _ (most : ℕ) (s : List ℕ) where
  abbrev pub child_next : TrieWalk → List ℕ → Child → Next
  child_next w b (Err e) = failed (number_of e)
  child_next w b (Ok (e, n)) =
      cond (leb most w.depth) (failed (number_of TooManyOpenNodes))
      (reached (child_name w e) n.terminal (child_opened w e n) (edge_put s w e b))

  abbrev pub root_next : TrieWalk → List ℕ → Option Node → Next
  root_next w b None = failed (number_of FaultyNode)
  root_next w b (Some n) =
      cond (leb most 0) (failed (number_of TooManyOpenNodes)) (reached 0 n.terminal (rooted w n) b)

  -- of a walk whose finished nodes are closed
  abbrev pub open_next : TrieWalk → List ℕ → Next
  open_next w b = cond (eqb w.depth 0) over (child_next w b (child_of s (length b) w))

  unfoldable pub next : TrieWalk → List ℕ → Next
  next w b = cond (eqb w.depth 0) (root_next w b (node_at s 0)) (open_next (closed w) b)

  pub next_open : (w : TrieWalk) (b : List ℕ) → Begun w → next w b ≡ open_next (closed w) b
  unfolding next
  next_open w b y = rw (ne_eqb w.depth 0 y)

  pub next_root : (w : TrieWalk) (b : List ℕ) → w.depth ≡ 0 → next w b ≡ root_next w b (node_at s 0)
  unfolding next
  next_root w b y = ap (λ (c : Bool). cond c (root_next w b (node_at s 0)) (open_next (closed w) b)) (eq-eqb w.depth 0 y)

  -- closing finished nodes changes nothing
  still_by : (left : List ℕ) (d : ℕ) (t : Bool) → eqb (get_or left d 0) 0 ≡ t → still_open left (still_open left d) ≡ still_open left d
      → still_open left (cond t (still_open left d) (suc d)) ≡ cond t (still_open left d) (suc d)
  still_by left d true e h = h
  still_by left d false e h = unfold still_open in ap (λ (t : Bool). cond t (still_open left d) (suc d)) e

  still_still : (left : List ℕ) (d : ℕ) → still_open left (still_open left d) ≡ still_open left d
  unfolding still_open
  still_still left zero = refl
  still_still left (suc d) = still_by left d (eqb (get_or left d 0) 0) refl (still_still left d)

  pub next_closed : (w : TrieWalk) (b : List ℕ) → Unfinished w → next (closed w) b ≡ next w b
  next_closed w b z =
      let e = still_still w.left w.depth in
      next_open (closed w) b z ∙ (λ i. open_next (at_depth (e i) w) b) ∙ sym (next_open w b (has_begun w z))

-- what is shown of each case holds of what comes next

module _ (most : ℕ) (s : List ℕ) (w : TrieWalk) (b : List ℕ) where
  pub record Cases (Q : Next → Type 0) : Type 0 where
    pub done : Begun w → still_open w.left w.depth ≡ 0 → Q over
    pub bad : Unfinished w → (x : Refusal) → child_of s (length b) (closed w) ≡ Err x → Q (failed (number_of x))
    pub full : Unfinished w → (e : Edge) (n : Node) → child_of s (length b) (closed w) ≡ Ok (e, n) → most ≤ still_open w.left w.depth
        → Q (failed (number_of TooManyOpenNodes))
    pub child : Unfinished w → (e : Edge) (n : Node) → child_of s (length b) (closed w) ≡ Ok (e, n) → still_open w.left w.depth < most
        → Q (reached (child_name (closed w) e) n.terminal (child_opened (closed w) e n) (edge_put s (closed w) e b))
    pub none : w.depth ≡ 0 → node_at s 0 ≡ None → Q (failed (number_of FaultyNode))
    pub shut : w.depth ≡ 0 → (n : Node) → node_at s 0 ≡ Some n → most ≤ 0 → Q (failed (number_of TooManyOpenNodes))
    pub root : w.depth ≡ 0 → (n : Node) → node_at s 0 ≡ Some n → 0 < most → Q (reached 0 n.terminal (rooted w n) b)

  module _ (Q : Next → Type 0) (c : Cases Q) where
    depth_by : Unfinished w → (e : Edge) (n : Node) → child_of s (length b) (closed w) ≡ Ok (e, n)
        → (t : Bool) → leb most (still_open w.left w.depth) ≡ t
        → Q (cond t (failed (number_of TooManyOpenNodes)) (reached (child_name (closed w) e) n.terminal (child_opened (closed w) e n) (edge_put s (closed w) e b)))
    depth_by z e n f true q = c.full z e n f (leb-true most (still_open w.left w.depth) q)
    depth_by z e n f false q = c.child z e n f (leb-false most (still_open w.left w.depth) q)

    child_by_lem : Unfinished w → (x : Child) → child_of s (length b) (closed w) ≡ x → Q (child_next most s (closed w) b x)
    child_by_lem z (Err x) f = c.bad z x f
    child_by_lem z (Ok (e, n)) f = depth_by z e n f (leb most (still_open w.left w.depth)) refl

    open_by : Begun w → (t : Bool) → eqb (still_open w.left w.depth) 0 ≡ t → Q (cond t over (child_next most s (closed w) b (child_of s (length b) (closed w))))
    open_by y true e = c.done y (eqb-true (still_open w.left w.depth) 0 e)
    open_by y false e = child_by_lem (eqb-false (still_open w.left w.depth) 0 e) (child_of s (length b) (closed w)) refl

    root_by : w.depth ≡ 0 → (x : Option Node) → node_at s 0 ≡ x → Q (root_next most s w b x)
    root_by y None e = c.none y e
    root_by y (Some n) e = by (leb most 0) refl
      where
        by : (t : Bool) → leb most 0 ≡ t → Q (cond t (failed (number_of TooManyOpenNodes)) (reached 0 n.terminal (rooted w n) b))
        by true q = c.shut y n e (leb-true most 0 q)
        by false q = c.root y n e (leb-false most 0 q)

    pub next_by : Q (next most s w b)
    next_by = by (eqb w.depth 0) refl
      where
        by : (t : Bool) → eqb w.depth 0 ≡ t → Q (next most s w b)
        by true y = let d = eqb-true w.depth 0 y in subst Q (sym (next_root most s w b d)) (root_by d (node_at s 0) refl)
        by false y =
            let d = eqb-false w.depth 0 y in
            subst Q (sym (next_open most s w b d)) (open_by d (eqb (still_open w.left w.depth) 0) refl)

-- ---- the course

module _ (most : ℕ) (s : List ℕ) where
  -- from the walk w and the buffer b on: n nodes were visited before, and k more may be
  pub data Course (given : TrieWalk) : (k n : ℕ) → TrieWalk → List ℕ → Outcome → Type 0 where
    ends : {k n : ℕ} {w : TrieWalk} {b : List ℕ} → next most s w b ≡ over → still_open w.left w.depth ≡ 0 → Course given k n w b (replied end (marked (closed w)) n b)
    refuses : {k n : ℕ} {w v : TrieWalk} {b : List ℕ} {x : ℕ} → next most s w b ≡ failed x → at_depth w.depth v ≡ w → Course given k n w b (refusing x given v n b)
    waits : {n : ℕ} {w : TrieWalk} {b : List ℕ} → Course given 0 n w b (replied more w n b)  -- a limit of 0 closes nothing
    limits : {n : ℕ} {w : TrieWalk} {b : List ℕ} → Unfinished w → Course given 0 n w b (replied more (closed w) n b)
    exports : {k n len : ℕ} {w v : TrieWalk} {b c : List ℕ} {x : Export} → next most s w b ≡ reached len (Some x) v c
        → Course given (suc k) n w b (replied (export len (export_told x)) v (n + 1) c)
    visits : {k n len : ℕ} {w v : TrieWalk} {b c : List ℕ} {o : Outcome} → next most s w b ≡ reached len None v c → Course given k (n + 1) v c o
        → Course given (suc k) n w b o

  module _ (given : TrieWalk) where
    abbrev Has : (k : ℕ) → ((n : ℕ) → TrieWalk → List ℕ → Outcome) → Type 0
    Has k on = (n : ℕ) (w : TrieWalk) (b : List ℕ) → Begun w → Course given k n w b (on n w b)

    module _ {k : ℕ} (on : (n : ℕ) → TrieWalk → List ℕ → Outcome) (has : Has k on) (n : ℕ) (w : TrieWalk) (b : List ℕ) where
      visit_course : (len : ℕ) (v : TrieWalk) (c : List ℕ) → Begun v → (t : Option Export) → next most s w b ≡ reached len t v c → Course given (suc k) n w b (visited on len (n + 1) v c t)
      unfolding visited
      visit_course len v c y None e = visits e (has (n + 1) v c y)
      visit_course len v c y (Some x) e = exports e

      child_course : (u : TrieWalk) → at_depth w.depth u ≡ w → (x : Child) → next most s w b ≡ child_next most s u b x → Course given (suc k) n w b (visit_child most s on given n u b x)
      unfolding visit_child
      child_course u d (Err e) q = refuses q d
      child_course u d (Ok (e, x)) q = by (leb most u.depth) q
        where
          by : (t : Bool)
              → next most s w b ≡ cond t (failed (number_of TooManyOpenNodes)) (reached (child_name u e) x.terminal (child_opened u e x) (edge_put s u e b))
              → Course given (suc k) n w b (cond t (refusing (number_of TooManyOpenNodes) given u n b) (visited on (child_name u e) (n + 1) (child_opened u e x) (edge_put s u e b) x.terminal))
          by true q = refuses q d
          by false q = visit_course (child_name u e) _ _ (λ z. omega (arith, z)) x.terminal q

    -- with finished nodes closed, none is left
    ends_at : (w : TrieWalk) (b : List ℕ) → Begun w → {t : Bool} → eqb (still_open w.left w.depth) 0 ≡ t
        → next most s w b ≡ cond t over (child_next most s (closed w) b (child_of s (length b) (closed w)))
    ends_at w b y e = next_open most s w b y ∙ ap (λ (t : Bool). cond t over (child_next most s (closed w) b (child_of s (length b) (closed w)))) e

    onward_course : (k : ℕ) → Has k (onward most s given k)
    unfolding onward
    onward_course zero n w b y = by (eqb (still_open w.left w.depth) 0) refl
      where
        by : (t : Bool) → eqb (still_open w.left w.depth) 0 ≡ t → Course given 0 n w b (cond t (replied end (marked (closed w)) n b) (replied more (closed w) n b))
        by true e = ends (ends_at w b y e) (eqb-true (still_open w.left w.depth) 0 e)
        by false e = limits (eqb-false (still_open w.left w.depth) 0 e)
    onward_course (suc k) n w b y = by (onward_course k) (eqb (still_open w.left w.depth) 0) refl
      where
        by : Has k (onward most s given k) → (t : Bool) → eqb (still_open w.left w.depth) 0 ≡ t
            → Course given (suc k) n w b (cond t (replied end (marked (closed w)) n b) (visit_child most s (onward most s given k) given n (closed w) b (child_of s (length b) (closed w))))
        by ih true e = ends (ends_at w b y e) (eqb-true (still_open w.left w.depth) 0 e)
        by ih false e =
            child_course (onward most s given k) ih n w b (closed w) refl (child_of s (length b) (closed w)) (ends_at w b y e)

    root_course : (k : ℕ) (b : List ℕ) (x : Option Node) → next most s given b ≡ root_next most s given b x → Course given (suc k) 0 given b (visit_root most s given k b x)
    unfolding visit_root
    root_course k b None q = refuses q refl
    root_course k b (Some n) q = by (leb most 0) q
      where
        by : (t : Bool) → next most s given b ≡ cond t (failed (number_of TooManyOpenNodes)) (reached 0 n.terminal (rooted given n) b)
            → Course given (suc k) 0 given b (cond t (refusing (number_of TooManyOpenNodes) given given 0 b) (visited (onward most s given k) 0 1 (rooted given n) b n.terminal))
        by true q = refuses q refl
        by false q = visit_course (onward most s given k) (onward_course k) 0 given b 0 _ b (λ z. omega (arith, z)) n.terminal q

  go_course : (limit : ℕ) (w : TrieWalk) (b : List ℕ) → Course w limit 0 w b (go_on most s limit w b)
  unfolding go_on
  go_course zero w b = waits
  go_course (suc k) w b = by (eqb w.depth 0) refl
    where
      by : (t : Bool) → eqb w.depth 0 ≡ t → Course w (suc k) 0 w b (cond t (visit_root most s w k b (node_at s 0)) (onward most s w (suc k) 0 w b))
      by true y = root_course w k b (node_at s 0) (next_root most s w b (eqb-true w.depth 0 y))
      by false y = onward_course w (suc k) 0 w b (eqb-false w.depth 0 y)

  -- ---- a call

  -- the state is in range, for a buffer of this length
  abbrev pub InRange : (room : ℕ) → TrieWalk → Type 0
  InRange room w = out_of_range most w.places w.lengths w.depth (length s) room ≡ false

  module _ (limit : ℕ) (w : TrieWalk) (b : List ℕ) (range : InRange (length b) w) where
    ranged : call most s limit w b ≡ cond w.ended (replied end w 0 b) (go_on most s limit w b)
    unfolding call
    ranged = rw range

    -- a walk that has ended says End, at any limit, and nothing changes
    pub ended_stays : w.ended ≡ true → call most s limit w b ≡ replied end w 0 b
    ended_stays e = ranged ∙ ap (λ (c : Bool). cond c (replied end w 0 b) (go_on most s limit w b)) e

    pub goes_on : w.ended ≡ false → call most s limit w b ≡ go_on most s limit w b
    goes_on e = ranged ∙ ap (λ (c : Bool). cond c (replied end w 0 b) (go_on most s limit w b)) e

    -- one that has not goes its course
    pub call_course : w.ended ≡ false → Course w limit 0 w b (call most s limit w b)
    call_course e = subst (Course w limit 0 w b) (sym (goes_on e)) (go_course limit w b)

  -- one that is out of range comes back as it came
  pub out_stays : (limit : ℕ) (w : TrieWalk) (b : List ℕ) → out_of_range most w.places w.lengths w.depth (length s) (length b) ≡ true
      → call most s limit w b ≡ replied (refused (number_of StateOutOfRange)) w 0 b
  unfolding call
  out_stays limit w b out = rw out

-- what is shown of each case holds of a call
module _ (most : ℕ) (s : List ℕ) (limit : ℕ) (w : TrieWalk) (b : List ℕ) (Q : Outcome → Type 0) where
  pub call_by : (out_of_range most w.places w.lengths w.depth (length s) (length b) ≡ true → Q (replied (refused (number_of StateOutOfRange)) w 0 b))
      → (InRange most s (length b) w → w.ended ≡ true → Q (replied end w 0 b))
      → (InRange most s (length b) w → w.ended ≡ false → Course most s w limit 0 w b (call most s limit w b) → Q (call most s limit w b))
      → Q (call most s limit w b)
  call_by f g h = by (out_of_range most w.places w.lengths w.depth (length s) (length b)) w.ended refl refl
    where
      by : (c d : Bool) → out_of_range most w.places w.lengths w.depth (length s) (length b) ≡ c → w.ended ≡ d → Q (call most s limit w b)
      by true d r e = subst Q (sym (out_stays most s limit w b r)) (f r)
      by false true r e = subst Q (sym (ended_stays most s limit w b r e)) (g r e)
      by false false r e = h r e (call_course most s limit w b r e)

-- ---- the answers that end a walk

abbrev pub halts : Answer → Bool
halts (export len x) = false
halts more = false
halts end = true
halts (refused number) = true

-- ---- what every visit keeps, every call keeps that goes on

abbrev pub IfReached : (TrieWalk → List ℕ → Type 0) → Next → Type 0
IfReached P over = Unit {0}
IfReached P (failed number) = Unit {0}
IfReached P (reached len t v c) = P v c

module _ (most : ℕ) (s : List ℕ) (P : TrieWalk → List ℕ → Type 0) (visit-keeps : (w : TrieWalk) (b : List ℕ) → P w b → IfReached P (next most s w b))
    (close-keeps : (w : TrieWalk) (b : List ℕ) → P w b → Unfinished w → P (closed w) b) where
  pub course_keeps : {given : TrieWalk} {k n : ℕ} {w : TrieWalk} {b : List ℕ} {o : Outcome} → Course most s given k n w b o → P w b → halts o.reply.answer ≡ false → P o.reply.walk o.buffer
  course_keeps (ends e z) h q = absurd (true≢false q)
  course_keeps (refuses e d) h q = absurd (true≢false q)
  course_keeps waits h q = h
  course_keeps (limits {w = w} {b = b} y) h q = close-keeps w b h y
  course_keeps (exports {w = w} {b = b} e) h q = subst (IfReached P) e (visit-keeps w b h)
  course_keeps (visits {w = w} {b = b} e c) h q = course_keeps c (subst (IfReached P) e (visit-keeps w b h)) q
