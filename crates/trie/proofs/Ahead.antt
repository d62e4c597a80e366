-- What a walk has still to list, and that the next child is the first of it. Assumes nothing.
use Prim.Native.Nat.{ℕ, zero, suc, ◌+◌, ◌-◌, ◌≤◌, ◌<◌}
use mathlib.Core.Path.{◌≡◌, refl, sym, ap, ◌∙◌}
use mathlib.Core.Bool.{Bool, true, false, cond}
use mathlib.Core.List.{List, ◌∷◌, ◌++◌}
use native.Mathlib.Nat.{le_trans}
use native.Mathlib.Omega.{arith}
use borrow.Author.Tests.{eqb-true, le-leb}
use lib.Dec.{ltb, eqb}
use lib.ListN.{length, get_or, set, take, drop, length-set, length-append, length-drop}
use lib.Seq.{get_or-set_same, get_or-set_other, length-take-le, take-append-le, take_at, take-take}
use Rattle.numbers.proofs.Laws.{part_length}
use Rattle.numbers.specs.Parts.{part_of}
use Rattle.refusal.specs.Numbers.{number_of}
use Rattle.refusal.specs.declared.Refusal.{Refusal}
use Rattle.refusal.specs.declared.Refusal.TheVariants.{FaultyNode, TooManyOpenNodes, NameTooLong}
use Rattle.runs.proofs.Walks.{then_then}
use Rattle.runs.specs.Runs.{Run, stops, fails, gives, ◌then◌}
use Rattle.trie.specs.Call.{put}
use Rattle.trie.specs.Frames.{top_down, still_open}
use Rattle.trie.specs.NextChild.{child_at}
use Rattle.nodes.specs.Child.{Child, is_one_of, entered_at}
use Rattle.nodes.specs.ExportsTrie.{then_read, edge_at}
use Rattle.nodes.specs.Listing.{Visit, visit, entered, if_room, child_by, children_by, children, subtree_by, subtree}
use Rattle.trie.specs.declared.TrieWalk.{TrieWalk}
use Rattle.nodes.specs.declared.node.Edge.{Edge}
use Rattle.nodes.specs.declared.node.Node.{Node}
use Rattle.std.specs.Prelude.{Option, Some, None, Ok, Err}

-- ---- what is put into the buffer

module _ (bytes b : List ℕ) (at : ℕ) (fits : at + length bytes ≤ length b) where
  is_put : put bytes b at ≡ take at b ++ bytes ++ drop (at + length bytes) b
  unfolding put
  is_put = rw (le-leb (at + length bytes) (length b) fits)

  front : length (take at b ++ bytes) ≡ at + length bytes
  front = length-append (take at b) bytes ∙ ap (λ (n : ℕ). n + length bytes) (length-take-le at b (omega arith))

  pub put_length : length (put bytes b at) ≡ length b
  put_length =
      ap length is_put
      ∙ length-append (take at b ++ bytes) (drop (at + length bytes) b)
      ∙ (let e = front in let f = length-drop (at + length bytes) b in omega arith)

  -- the name with the edge
  pub put_name : take (at + length bytes) (put bytes b at) ≡ take at b ++ bytes
  put_name = ap (take (at + length bytes)) is_put ∙ take_at (take at b ++ bytes) (drop (at + length bytes) b) (at + length bytes) front

  -- and the names that it begins with
  pub put_before : (i : ℕ) → i ≤ at → take i (put bytes b at) ≡ take i b
  put_before i h =
      ap (take i) is_put
      ∙ take-append-le i (take at b ++ bytes) (drop (at + length bytes) b) (omega (arith, front))
      ∙ take-append-le i (take at b) bytes (omega (arith, length-take-le at b (omega arith)))
      ∙ take-take i at b h

-- ---- the names of the open nodes: each begins with those below it, and the topmost fits the room m

abbrev pub Nested : TrieWalk → (m d : ℕ) → Type 0
Nested w m zero = Unit {0}
Nested w m (suc d) = (get_or w.lengths d 0 ≤ m) × Nested w (get_or w.lengths d 0) d

nested_more : (w : TrieWalk) (m n d : ℕ) → m ≤ n → Nested w m d → Nested w n d
nested_more w m n zero l h = tt
nested_more w m n (suc d) l h = (le_trans h.0 l, h.1)

pub nested_still : (w : TrieWalk) (m d : ℕ) → Nested w m d → Nested w m (still_open w.left d)
unfolding still_open
nested_still w m zero h = tt
nested_still w m (suc d) h =
    by (eqb (get_or w.left d 0) 0)
    (nested_more w (get_or w.lengths d 0) m (still_open w.left d) h.0 (nested_still w (get_or w.lengths d 0) d h.1))
  where
    by : (t : Bool) → Nested w m (still_open w.left d) → Nested w m (cond t (still_open w.left d) (suc d))
    by true k = k
    by false k = h

-- the arrays have room for as many nodes as may be open
pub record Sized (most : ℕ) (w : TrieWalk) : Type 0 where
  pub places : length w.places ≡ most
  pub offsets : length w.offsets ≡ most
  pub left : length w.left ≡ most
  pub lengths : length w.lengths ≡ most

-- two walks have the same for the first d
pub record Same (v w : TrieWalk) (d : ℕ) : Type 0 where
  pub places : (i : ℕ) → i < d → get_or v.places i 0 ≡ get_or w.places i 0
  pub offsets : (i : ℕ) → i < d → get_or v.offsets i 0 ≡ get_or w.offsets i 0
  pub left : (i : ℕ) → i < d → get_or v.left i 0 ≡ get_or w.left i 0
  pub lengths : (i : ℕ) → i < d → get_or v.lengths i 0 ≡ get_or w.lengths i 0

fewer : (v w : TrieWalk) (d : ℕ) → Same v w (suc d) → Same v w d
fewer v w d q =
    record {
      places = λ i l. q.places i (omega arith);
      offsets = λ i l. q.offsets i (omega arith);
      left = λ i l. q.left i (omega arith);
      lengths = λ i l. q.lengths i (omega arith);
    }

top_same : (xs ys : List ℕ) (d : ℕ) → ((i : ℕ) → i < d → get_or xs i 0 ≡ get_or ys i 0) → top_down xs d ≡ top_down ys d
unfolding top_down
top_same xs ys zero q = refl
top_same xs ys (suc d) q = λ j. q d (omega arith) j ∷ top_same xs ys d (λ i l. q i (omega arith)) j

pub nested_same : (v w : TrieWalk) (m d : ℕ) → Same v w d → Nested w m d → Nested v m d
nested_same v w m zero q h = tt
nested_same v w m (suc d) q h =
    let l = q.lengths d (omega arith) in
    (omega (arith, l, h.0), rw l (nested_same v w (get_or w.lengths d 0) d (fewer v w d q) h.1))

-- ---- what is still to be listed

module _ (most : ℕ) (s : List ℕ) (room : ℕ) where
  -- the children that the first d open nodes have left, the topmost's first
  unfoldable pub ahead_at : TrieWalk → (buffer : List ℕ) (d : ℕ) → Run Visit
  ahead_at w b zero = stops
  ahead_at w b (suc d) =
      children s room (subtree s room (most - suc d)) (top_down w.offsets (suc d)) (take (get_or w.lengths d 0) b) (get_or w.left d 0) (get_or w.places d 0)
      then ahead_at w b d

  -- nodes are closed that have no child left
  pub ahead_still : (w : TrieWalk) (b : List ℕ) (d : ℕ) → ahead_at w b d ≡ ahead_at w b (still_open w.left d)
  unfolding still_open
  ahead_still w b zero = refl
  ahead_still w b (suc d) = by (eqb (get_or w.left d 0) 0) refl (ahead_still w b d)
    where
      by : (t : Bool) → eqb (get_or w.left d 0) 0 ≡ t → ahead_at w b d ≡ ahead_at w b (still_open w.left d)
          → ahead_at w b (suc d) ≡ ahead_at w b (cond t (still_open w.left d) (suc d))
      by true e k =
          unfold ahead_at children_by ◌then◌ in
          (ap (λ (n : ℕ). children s room (subtree s room (most - suc d)) (top_down w.offsets (suc d)) (take (get_or w.lengths d 0) b) n (get_or w.places d 0) then ahead_at w b d)
          (eqb-true (get_or w.left d 0) 0 e)
          ∙ k)
      by false e k = refl

  -- the same arrays up to d, and the same names up to m bytes
  pub ahead_same : (v w : TrieWalk) (b c : List ℕ) (m d : ℕ) → Same v w d → ((i : ℕ) → i ≤ m → take i c ≡ take i b) → Nested w m d → ahead_at v c d ≡ ahead_at w b d
  unfolding ahead_at
  ahead_same v w b c m zero q e h = refl
  ahead_same v w b c m (suc d) q e h =
      let o = top_same v.offsets w.offsets (suc d) q.offsets in
      let n = ap (λ (k : ℕ). take k c) (q.lengths d (omega arith)) ∙ e (get_or w.lengths d 0) h.0 in
      let r = ahead_same v w b c (get_or w.lengths d 0) d (fewer v w d q) (λ i l. e i (le_trans l h.0)) h.1 in
      λ j. children s room (subtree s room (most - suc d)) (o j) (n j) (q.left d (omega arith) j) (q.places d (omega arith) j) then r j

  -- a child as a call reads it
  read_by : (below : (ancestors name : List ℕ) (offset : ℕ) → Node → Run Visit) (later : ℕ → Run Visit) (ancestors name : List ℕ) (x : Option Edge)
      → child_by s (if_room room) below later ancestors name x
      ≡ entered s below later ancestors name
      (then_read x (Err FaultyNode) (λ e. cond (ltb room (length name + e.name.length)) (Err NameTooLong) (entered_at s (is_one_of e.offset ancestors) e)))
  unfolding child_by entered then_read
  read_by below later ancestors name None = refl
  read_by below later ancestors name (Some e) = by (ltb room (length name + e.name.length)) (entered_at s (is_one_of e.offset ancestors) e)
    where
      by : (t : Bool) (c : Child) → cond t (fails (number_of NameTooLong)) (entered s below later ancestors name c) ≡ entered s below later ancestors name (cond t (Err NameTooLong) c)
      by true c = refl
      by false c = refl

  -- ---- the next child of the topmost of suc d, which has one

  module _ (w : TrieWalk) (b : List ℕ) (d : ℕ) (h : Nested w (length b) (suc d)) where
    abbrev kept : ℕ
    kept = get_or w.lengths d 0

    -- what is behind the child
    abbrev later : ℕ → Run Visit
    later next = children s room (subtree s room (most - suc d)) (top_down w.offsets (suc d)) (take kept b) (get_or w.left d 0 - 1) next

    child_ahead : (get_or w.left d 0 ≡ 0 → ⊥) → {x : Child} → child_at s room (top_down w.offsets (suc d)) kept (get_or w.places d 0) ≡ x
        → ahead_at w b (suc d) ≡ entered s (subtree s room (most - suc d)) later (top_down w.offsets (suc d)) (take kept b) x then ahead_at w b d
    unfolding ahead_at children_by child_at
    child_ahead z {x} e =
        let n : get_or w.left d 0 ≡ suc (get_or w.left d 0 - 1) = omega arith in
        let l : length (take kept b) ≡ kept = length-take-le kept b h.0 in
        ap (λ (k : ℕ). children s room (subtree s room (most - suc d)) (top_down w.offsets (suc d)) (take kept b) k (get_or w.places d 0) then ahead_at w b d) n
        ∙ ap (λ (r : Run Visit). r then ahead_at w b d) (read_by (subtree s room (most - suc d)) later (top_down w.offsets (suc d)) (take kept b) (edge_at s (get_or w.places d 0)))
        ∙ ap (λ (k : ℕ). entered s (subtree s room (most - suc d)) later (top_down w.offsets (suc d)) (take kept b) (child_at s room (top_down w.offsets (suc d)) k (get_or w.places d 0)) then ahead_at w b d) l
        ∙ ap (λ (y : Child). entered s (subtree s room (most - suc d)) later (top_down w.offsets (suc d)) (take kept b) y then ahead_at w b d) e

    pub refused_ahead : (get_or w.left d 0 ≡ 0 → ⊥) → {x : Refusal} → child_at s room (top_down w.offsets (suc d)) kept (get_or w.places d 0) ≡ Err x
        → ahead_at w b (suc d) ≡ fails (number_of x)
    refused_ahead z e = child_ahead z e ∙ (unfold entered ◌then◌ in refl)

    module _ (x : Edge) (n : Node) where
      pub full_ahead : (get_or w.left d 0 ≡ 0 → ⊥) → child_at s room (top_down w.offsets (suc d)) kept (get_or w.places d 0) ≡ Ok (x, n) → most ≤ suc d
          → ahead_at w b (suc d) ≡ fails (number_of TooManyOpenNodes)
      unfolding entered subtree_by ◌then◌
      full_ahead z e l =
          let k : most - suc d ≡ 0 = omega arith in
          child_ahead z e
          ∙ ap (λ (k : ℕ). (subtree s room k (top_down w.offsets (suc d)) (take kept b ++ part_of s x.name.place x.name.length) x.offset n then later x.next) then ahead_at w b d) k

      -- the child is opened, and its edge is put into the buffer
      abbrev pub name : List ℕ
      name = take kept b ++ part_of s x.name.place x.name.length

      abbrev pub after : TrieWalk
      after =
          record {
            places = set (set w.places d x.next) (suc d) n.place;
            offsets = set w.offsets (suc d) x.offset;
            left = set (set w.left d (get_or w.left d 0 - 1)) (suc d) n.children;
            lengths = set w.lengths (suc d) (kept + x.name.length);
            depth = suc d + 1;
            ended = w.ended;
          }

      abbrev pub buffer : List ℕ
      buffer = put (part_of s x.name.place x.name.length) b kept

      module _ (sized : Sized most w) (l : suc d < most) (fits : kept + x.name.length ≤ length b) (inside : x.name.place + x.name.length ≤ length s) where
        untouched : (xs : List ℕ) (i u v : ℕ) → i < d → get_or (set (set xs d u) (suc d) v) i 0 ≡ get_or xs i 0
        untouched xs i u v k =
            get_or-set_other (set xs d u) (suc d) i v 0 (λ z. omega arith) ∙ get_or-set_other xs d i u 0 (λ z. omega arith)

        below : (xs : List ℕ) (i v : ℕ) → i < suc d → get_or (set xs (suc d) v) i 0 ≡ get_or xs i 0
        below xs i v k = get_or-set_other xs (suc d) i v 0 (λ z. omega arith)

        under : (xs : List ℕ) (u v : ℕ) → length xs ≡ most → get_or (set (set xs d u) (suc d) v) d 0 ≡ u
        under xs u v k = below (set xs d u) d v (omega arith) ∙ get_or-set_same xs d u 0 (omega arith)

        on_top_lem : (xs : List ℕ) (v : ℕ) → length xs ≡ most → get_or (set xs (suc d) v) (suc d) 0 ≡ v
        on_top_lem xs v k = get_or-set_same xs (suc d) v 0 (omega arith)

        same_below : Same after w d
        same_below =
            record {
              places = λ i k. untouched w.places i x.next n.place k;
              offsets = λ i k. below w.offsets i x.offset (omega arith);
              left = λ i k. untouched w.left i (get_or w.left d 0 - 1) n.children k;
              lengths = λ i k. below w.lengths i (kept + x.name.length) (omega arith);
            }

        bytes_long : length (part_of s x.name.place x.name.length) ≡ x.name.length
        bytes_long = part_length s x.name.place x.name.length inside

        bytes_fit : kept + length (part_of s x.name.place x.name.length) ≤ length b
        bytes_fit = omega (arith, bytes_long, fits)

        pub name_put : take (kept + x.name.length) buffer ≡ name
        name_put =
            ap (λ (k : ℕ). take (kept + k) buffer) (sym bytes_long) ∙ put_name (part_of s x.name.place x.name.length) b kept bytes_fit

        pub opened_ahead : (get_or w.left d 0 ≡ 0 → ⊥) → child_at s room (top_down w.offsets (suc d)) kept (get_or w.places d 0) ≡ Ok (x, n)
            → ahead_at w b (suc d) ≡ gives (visit name x.offset n.terminal) (ahead_at after buffer (suc (suc d)))
        unfolding entered subtree_by ◌then◌ ahead_at top_down
        opened_ahead z e =
            let k : most - suc d ≡ suc (most - suc (suc d)) = omega arith in
            let v = visit name x.offset n.terminal in
            let below-it = children s room (subtree s room (most - suc (suc d))) (x.offset ∷ top_down w.offsets (suc d)) name n.children n.place in
            let t : top_down w.offsets (suc d) ≡ top_down after.offsets (suc d) = sym (top_same after.offsets w.offsets (suc d) (λ i m. below w.offsets i x.offset m)) in
            let f : get_or after.offsets (suc d) 0 ≡ x.offset = on_top_lem w.offsets x.offset sized.offsets in
            let m : name ≡ take (get_or after.lengths (suc d) 0) buffer = sym name_put ∙ ap (λ (k : ℕ). take k buffer) (sym (on_top_lem w.lengths (kept + x.name.length) sized.lengths)) in
            let c : get_or after.left (suc d) 0 ≡ n.children = on_top_lem (set w.left d (get_or w.left d 0 - 1)) n.children (length-set w.left d (get_or w.left d 0 - 1) ∙ sized.left) in
            let p : get_or after.places (suc d) 0 ≡ n.place = on_top_lem (set w.places d x.next) n.place (length-set w.places d x.next ∙ sized.places) in
            let m₂ : take kept b ≡ take (get_or after.lengths d 0) buffer =
            sym (put_before (part_of s x.name.place x.name.length) b kept bytes_fit kept (omega arith)) ∙ ap (λ (k : ℕ). take k buffer) (sym (below w.lengths d (kept + x.name.length) (omega arith))) in
            let c₂ = under w.left (get_or w.left d 0 - 1) n.children sized.left in
            let p₂ = under w.places x.next n.place sized.places in
            let r = ahead_same after w b buffer kept d same_below (λ i m. put_before (part_of s x.name.place x.name.length) b kept bytes_fit i m) h.1 in
            child_ahead z e
            ∙ ap (λ (k : ℕ). (subtree s room k (top_down w.offsets (suc d)) name x.offset n then later x.next) then ahead_at w b d) k
            ∙ ap (gives v) (then_then below-it (later x.next) (ahead_at w b d))
            ∙ (λ j. gives v
            (children s room (subtree s room (most - suc (suc d))) (sym f j ∷ t j) (m j) (sym c j) (sym p j)
            then (children s room (subtree s room (most - suc d)) (t j) (m₂ j) (sym c₂ j) (sym p₂ j) then sym r j)))

        pub sized_after : Sized most after
        sized_after =
            record {
              places = length-set (set w.places d x.next) (suc d) n.place ∙ length-set w.places d x.next ∙ sized.places;
              offsets = length-set w.offsets (suc d) x.offset ∙ sized.offsets;
              left = length-set (set w.left d (get_or w.left d 0 - 1)) (suc d) n.children ∙ length-set w.left d (get_or w.left d 0 - 1) ∙ sized.left;
              lengths = length-set w.lengths (suc d) (kept + x.name.length) ∙ sized.lengths;
            }

        length-after : length buffer ≡ length b
        length-after = put_length (part_of s x.name.place x.name.length) b kept bytes_fit

        pub nested_after : Nested after (length buffer) (suc (suc d))
        nested_after =
            let m = on_top_lem w.lengths (kept + x.name.length) sized.lengths in
            let m₂ = below w.lengths d (kept + x.name.length) (omega arith) in
            (omega (arith, m, length-after, fits), (omega (arith, m, m₂), rw m₂ (nested_same after w kept d same_below h.1)))
