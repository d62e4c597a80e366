-- A state in range stays in range along a course. Assumes nothing.
use Prim.Native.Nat.{ℕ, zero, suc, ◌+◌, ◌-◌, ◌≤◌, ◌<◌}
use mathlib.Core.Path.{◌≡◌, refl, sym, ap, ◌∙◌, subst}
use mathlib.Core.Bool.{Bool, false, ◌||◌}
use mathlib.Core.List.{List}
use native.Mathlib.Decide.{dec_lt, ℕ_discrete}
use native.Mathlib.Omega.{arith}
use borrow.Author.Tests.{ltb-false, le-ltb}
use lib.Dec.{ltb}
use lib.ListN.{length, get_or, set, get_or-eq_default}
use lib.Seq.{get_or-set_same, get_or-set_other, set_out}
use Rattle.numbers.proofs.Picks.{neither}
use Rattle.numbers.proofs.Laws.{part_length}
use Rattle.numbers.specs.Parts.{part_of}
use Rattle.trie.proofs.Ahead.{put_length}
use Rattle.nodes.proofs.Inside.{EdgeIn, edge_in, NodeIn, node_in}
use Rattle.trie.proofs.Children.{Read, child_read}
use Rattle.trie.proofs.Course.{Unfinished, next, next_by, IfReached, InRange}
use Rattle.trie.proofs.Visits.{still_at_most}
use Rattle.trie.specs.Call.{closed, on_top, rooted, child_of, child_name, child_opened, edge_put}
use Rattle.nodes.specs.Child.{any}
use Rattle.nodes.specs.ExportsTrie.{node_at}
use Rattle.trie.specs.Frames.{top_down, out_of_range, still_open}
use Rattle.trie.specs.declared.TrieWalk.{TrieWalk}
use Rattle.nodes.specs.declared.node.Edge.{Edge}
use Rattle.nodes.specs.declared.node.Node.{Node}
use Rattle.std.specs.Prelude.{Some, Ok}

-- ---- a state in range, element by element

pub record Fit (most bytes room : ℕ) (w : TrieWalk) : Type 0 where
  pub few : w.depth ≤ most
  pub places : (i : ℕ) → i < w.depth → get_or w.places i 0 ≤ bytes
  pub lengths : (i : ℕ) → i < w.depth → get_or w.lengths i 0 ≤ room

any_none : (p : ℕ → Bool) (xs : List ℕ) (d : ℕ) → ((i : ℕ) → i < d → p (get_or xs i 0) ≡ false) → any p (top_down xs d) ≡ false
unfolding any top_down
any_none p xs zero h = refl
any_none p xs (suc d) h = rw (h d (omega arith)) (any_none p xs d (λ i l. h i (omega arith)))

all_not : (p : ℕ → Bool) (xs : List ℕ) (d : ℕ) → any p (top_down xs d) ≡ false → (i : ℕ) → i < d → p (get_or xs i 0) ≡ false
unfolding any top_down
all_not p xs zero e i l = absurd (omega arith)
all_not p xs (suc d) e i l =
    let h = neither (p (get_or xs d 0)) (any p (top_down xs d)) e in
    elim (dec_lt i d) [
      | yes k ↦ all_not p xs d h.1 i k
      | no k ↦ let q : i ≡ d = omega arith in rw q h.0
    ]

pub fit : (most : ℕ) (s : List ℕ) (room : ℕ) (w : TrieWalk) → InRange most s room w → Fit most (length s) room w
unfolding out_of_range
fit most s room w e =
    let bytes = length s in
    let d = w.depth in
    let h = neither (ltb most d) (any (λ y. ltb bytes y) (top_down w.places d) || any (λ y. ltb room y) (top_down w.lengths d)) e in
    let k = neither (any (λ y. ltb bytes y) (top_down w.places d)) (any (λ y. ltb room y) (top_down w.lengths d)) h.1 in
    record {
      few = ltb-false most d h.0;
      places = λ i l. ltb-false bytes (get_or w.places i 0) (all_not (λ y. ltb bytes y) w.places d k.0 i l);
      lengths = λ i l. ltb-false room (get_or w.lengths i 0) (all_not (λ y. ltb room y) w.lengths d k.1 i l);
    }

pub ranged : (most : ℕ) (s : List ℕ) (room : ℕ) (w : TrieWalk) → Fit most (length s) room w → InRange most s room w
unfolding out_of_range
ranged most s room w f =
    let bytes = length s in
    let d = w.depth in
    rw (le-ltb most d f.few, any_none (λ y. ltb bytes y) w.places d (λ i l. le-ltb bytes (get_or w.places i 0) (f.places i l)))
    (any_none (λ y. ltb room y) w.lengths d (λ i l. le-ltb room (get_or w.lengths i 0) (f.lengths i l)))

-- an element is set to what is small enough
module _ (xs : List ℕ) (i v bound : ℕ) (h : v ≤ bound) where
  set_new : get_or (set xs i v) i 0 ≤ bound
  set_new =
      elim (dec_lt i (length xs)) [
        | yes l ↦ rw (get_or-set_same xs i v 0 l) h
        | no l ↦ let e = ap (λ (ys : List ℕ). get_or ys i 0) (set_out xs i v (omega arith)) ∙ get_or-eq_default xs 0 {n = i} (omega arith) in omega arith
      ]

  pub set_old : (m : ℕ) → get_or xs m 0 ≤ bound → get_or (set xs i v) m 0 ≤ bound
  set_old m k =
      elim (ℕ_discrete m i) [
        | yes e ↦ rw e set_new
        | no e ↦ rw (get_or-set_other xs i m v 0 e) k
      ]

-- ---- a child that may be opened: what was read of it lies in the bytes, and its name fits the buffer

module _ (s : List ℕ) (w : TrieWalk) (b : List ℕ) (e : Edge) (n : Node) (g : child_of s (length b) (closed w) ≡ Ok (e, n)) where
  abbrev kept : ℕ
  kept = on_top (closed w) w.lengths

  pub read : Read s (length b) (top_down w.offsets (still_open w.left w.depth)) kept (on_top (closed w) w.places) e n
  read = child_read s (length b) (top_down w.offsets (still_open w.left w.depth)) kept (on_top (closed w) w.places) refl g

  pub within : EdgeIn s e
  within = edge_in s (on_top (closed w) w.places) read.edge

  pub counted : NodeIn s n
  counted = node_in s e.offset read.node

  pub buffer_long : length (edge_put s (closed w) e b) ≡ length b
  buffer_long =
      let p = part_length s e.name.place e.name.length within.inside in
      put_length (part_of s e.name.place e.name.length) b kept (omega (arith, p, read.fits))

-- ---- a state in range stays so

pub record Sound (most : ℕ) (s : List ℕ) (room : ℕ) (w : TrieWalk) (b : List ℕ) : Type 0 where
  pub long : length b ≡ room
  pub going : w.ended ≡ false
  pub fit : Fit most (length s) room w

module _ (most : ℕ) (s : List ℕ) (room : ℕ) (w : TrieWalk) (b : List ℕ) (h : Sound most s room w b) where
  abbrev d : ℕ
  d = still_open w.left w.depth

  pub sound_closed : Sound most s room (closed w) b
  sound_closed =
      let l = still_at_most w.left w.depth in
      record {
        long = h.long;
        going = h.going;
        fit = record {
          few = omega (arith, l, h.fit.few);
          places = λ i k. h.fit.places i (omega (arith, l));
          lengths = λ i k. h.fit.lengths i (omega (arith, l));
        };
      }

  module _ (z : Unfinished w) (e : Edge) (n : Node) (g : child_of s (length b) (closed w) ≡ Ok (e, n)) (l : still_open w.left w.depth < most) where
    place_in : n.place ≤ length s
    place_in = (counted s w b e n g).inside

    next_in : e.next ≤ length s
    next_in = (within s w b e n g).next

    name_fits : child_name (closed w) e ≤ room
    name_fits = omega (arith, (read s w b e n g).fits, h.long)

    at_or_below : (P : ℕ → Type 0) → P d → ((i : ℕ) → i < d → P i) → (i : ℕ) → i < d + 1 → P i
    at_or_below P p q i k =
        elim (dec_lt i d) [
          | yes m ↦ q i m
          | no m ↦ let j : i ≡ d = omega arith in subst P (sym j) p
        ]

    sound_child : Sound most s room (child_opened (closed w) e n) (edge_put s (closed w) e b)
    sound_child =
        let f = sound_closed.fit in
        record {
          long = buffer_long s w b e n g ∙ h.long;
          going = h.going;
          fit = record {
            few = omega arith;
            places = at_or_below (λ i. get_or (set (set w.places (d - 1) e.next) d n.place) i 0 ≤ length s)
                (set_new (set w.places (d - 1) e.next) d n.place (length s) place_in)
                (λ i k. set_old (set w.places (d - 1) e.next) d n.place (length s) place_in i
                (set_old w.places (d - 1) e.next (length s) next_in i (f.places i k)));
            lengths = at_or_below (λ i. get_or (set w.lengths d (child_name (closed w) e)) i 0 ≤ room)
                (set_new w.lengths d (child_name (closed w) e) room name_fits)
                (λ i k. set_old w.lengths d (child_name (closed w) e) room name_fits i (f.lengths i k));
          };
        }

  sound_root : (n : Node) → node_at s 0 ≡ Some n → 0 < most → Sound most s room (rooted w n) b
  sound_root n e l =
      record {
        long = h.long;
        going = h.going;
        fit = record {
          few = omega arith;
          places = λ i l. let q : i ≡ 0 = omega arith in rw q (set_new w.places 0 n.place (length s) (node_in s 0 e).inside);
          lengths = λ i l. let q : i ≡ 0 = omega arith in rw q (set_new w.lengths 0 0 room (omega arith));
        };
      }

  pub sound_next : IfReached (Sound most s room) (next most s w b)
  sound_next =
      next_by most s w b (IfReached (Sound most s room))
      (record {
        done = λ y z. tt;
        bad = λ z x f. tt;
        full = λ z e n f l. tt;
        child = sound_child;
        none = λ y e. tt;
        shut = λ y n e l. tt;
        root = λ y n e l. sound_root n e l;
      })

  pub sound_ranged : InRange most s (length b) w
  sound_ranged = subst (λ (m : ℕ). InRange most s m w) (sym h.long) (ranged most s room w h.fit)
