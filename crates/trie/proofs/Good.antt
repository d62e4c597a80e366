-- The states that a walk from the start can have: what comes next is the first of what they have ahead. Assumes nothing.
use Prim.Native.Nat.{ℕ, suc, ◌+◌, ◌-◌, ◌≤◌, ◌<◌}
use mathlib.Core.Path.{◌≡◌, refl, sym, ap, ◌∙◌, subst}
use mathlib.Core.Bool.{Bool, cond}
use mathlib.Core.List.{List, [], ◌∷◌}
use native.Mathlib.Omega.{arith}
use borrow.Author.Tests.{eq-eqb, ne_eqb}
use lib.Dec.{eqb}
use lib.ListN.{length, get_or, set, take, length-set, length-replicate}
use lib.Seq.{get_or-set_same}
use Rattle.refusal.specs.Numbers.{number_of}
use Rattle.refusal.specs.declared.Refusal.{Refusal}
use Rattle.refusal.specs.declared.Refusal.TheVariants.{FaultyNode, TooManyOpenNodes}
use Rattle.runs.proofs.Walks.{then_stops}
use Rattle.runs.specs.Runs.{Run, stops, fails, gives, ◌then◌}
use Rattle.trie.proofs.Ahead.{Nested, nested_still, nested_same, Sized, Same, ahead_at, ahead_same, ahead_still, refused_ahead, full_ahead, after, name_put, opened_ahead, sized_after, nested_after}
use Rattle.trie.proofs.Course.{Next, over, failed, reached, Begun, Unfinished, has_begun, next, next_by, IfReached}
use Rattle.trie.proofs.Fits.{Sound, sound_closed, sound_next, read, within}
use Rattle.trie.proofs.Visits.{has_child}
use Rattle.trie.specs.Call.{at_start, closed, on_top, rooted, child_of, child_name, child_opened, edge_put}
use Rattle.nodes.specs.ExportsTrie.{then_read, node_at}
use Rattle.trie.specs.Frames.{top_down, still_open}
use Rattle.trie.specs.NextChild.{child_at}
use Rattle.nodes.specs.Listing.{Visit, visit, children, subtree_by, subtree, listing_by, listing}
use Rattle.trie.specs.declared.TrieWalk.{TrieWalk}
use Rattle.nodes.specs.declared.node.Edge.{Edge}
use Rattle.nodes.specs.declared.node.Node.{Node}
use Rattle.nodes.specs.Child.{Child}
use Rattle.std.specs.Prelude.{Option, Some, None, Ok, Err}

pub record Good (most : ℕ) (s : List ℕ) (room : ℕ) (w : TrieWalk) (b : List ℕ) : Type 0 where
  pub sound : Sound most s room w b
  pub sized : Sized most w
  pub nested : Nested w (length b) w.depth

module _ (most : ℕ) (s : List ℕ) (room : ℕ) where
  -- what a walk has still to list
  abbrev pub ahead : TrieWalk → List ℕ → Run Visit
  ahead w b = cond (eqb w.depth 0) (listing s room most) (ahead_at most s room w b w.depth)

  ahead_begun : (w : TrieWalk) (b : List ℕ) → Begun w → ahead w b ≡ ahead_at most s room w b w.depth
  ahead_begun w b y = ap (λ (c : Bool). cond c (listing s room most) (ahead_at most s room w b w.depth)) (ne_eqb w.depth 0 y)

  ahead_first : (w : TrieWalk) (b : List ℕ) → w.depth ≡ 0 → ahead w b ≡ listing s room most
  ahead_first w b y = ap (λ (c : Bool). cond c (listing s room most) (ahead_at most s room w b w.depth)) (eq-eqb w.depth 0 y)

  -- a listing by what comes next
  abbrev pub Lists : Run Visit → Next → Type 0
  Lists l over = l ≡ stops
  Lists l (failed number) = l ≡ fails number
  Lists l (reached len t v c) = (offset : ℕ) × (l ≡ gives (visit (take len c) offset t) (ahead v c))

  module _ (w : TrieWalk) (b : List ℕ) (g : Good most s room w b) where
    r : length b ≡ room
    r = g.sound.long

    arrays : (d : ℕ) → Same (closed w) w d
    arrays d = record { places = λ i l. refl; offsets = λ i l. refl; left = λ i l. refl; lengths = λ i l. refl }

    nested_closed : Nested (closed w) (length b) (still_open w.left w.depth)
    nested_closed =
        nested_same (closed w) w (length b) (still_open w.left w.depth) (arrays (still_open w.left w.depth)) (nested_still w (length b) w.depth g.nested)

    pub good_closed : Good most s room (closed w) b
    good_closed =
        record {
          sound = sound_closed most s room w b g.sound;
          sized = record { places = g.sized.places; offsets = g.sized.offsets; left = g.sized.left; lengths = g.sized.lengths };
          nested = nested_closed;
        }

    module _ (y : Begun w) where
      closed_ahead : ahead w b ≡ ahead_at most s room (closed w) b (still_open w.left w.depth)
      closed_ahead =
          ahead_begun w b y
          ∙ ahead_still most s room w b w.depth
          ∙ sym (ahead_same most s room (closed w) w b b (length b) (still_open w.left w.depth) (arrays (still_open w.left w.depth)) (λ i l. refl)
          (nested_still w (length b) w.depth g.nested))

      over_lists : still_open w.left w.depth ≡ 0 → ahead w b ≡ stops
      unfolding ahead_at
      over_lists z = closed_ahead ∙ ap (ahead_at most s room (closed w) b) z

    -- the topmost node, of suc d, has a child
    module _ (z : Unfinished w) where
      abbrev d : ℕ
      d = still_open w.left w.depth - 1

      q : still_open w.left w.depth ≡ suc d
      q = omega arith

      here : ahead w b ≡ ahead_at most s room (closed w) b (suc d)
      here = closed_ahead (has_begun w z) ∙ ap (ahead_at most s room (closed w) b) q

      nest : Nested (closed w) (length b) (suc d)
      nest = subst (Nested (closed w) (length b)) q nested_closed

      some : get_or w.left d 0 ≡ 0 → ⊥
      some e = let h = has_child w.left w.depth z in omega arith

      read_as : {x : Child} → child_of s (length b) (closed w) ≡ x
          → child_at s room (top_down w.offsets (suc d)) (on_top (closed w) w.lengths) (on_top (closed w) w.places) ≡ x
      read_as f =
          sym (λ i. child_at s (r i) (top_down w.offsets (q i)) (on_top (closed w) w.lengths) (on_top (closed w) w.places)) ∙ f

      bad_lists : (x : Refusal) → child_of s (length b) (closed w) ≡ Err x → ahead w b ≡ fails (number_of x)
      bad_lists x f = here ∙ refused_ahead most s room (closed w) b d nest some (read_as f)

      module _ (e : Edge) (n : Node) (f : child_of s (length b) (closed w) ≡ Ok (e, n)) where
        full_lists : most ≤ still_open w.left w.depth → ahead w b ≡ fails (number_of TooManyOpenNodes)
        full_lists l = here ∙ full_ahead most s room (closed w) b d nest e n some (read_as f) (omega arith)

        module _ (l : still_open w.left w.depth < most) where
          abbrev v : TrieWalk
          v = child_opened (closed w) e n

          abbrev c : List ℕ
          c = edge_put s (closed w) e b

          above : suc d < most
          above = omega arith

          fits : child_name (closed w) e ≤ length b
          fits = (read s w b e n f).fits

          inside : e.name.place + e.name.length ≤ length s
          inside = (within s w b e n f).inside

          v_is : after most s room (closed w) b d nest e n ≡ v
          v_is =
              λ i.
              record {
                places = set (set w.places d e.next) (sym q i) n.place;
                offsets = set w.offsets (sym q i) e.offset;
                left = set (set w.left d (get_or w.left d 0 - 1)) (sym q i) n.children;
                lengths = set w.lengths (sym q i) (child_name (closed w) e);
                depth = sym q i + 1;
                ended = w.ended;
              }

          child_lists : Lists (ahead w b) (reached (child_name (closed w) e) n.terminal v c)
          child_lists =
              let p : suc (suc d) ≡ v.depth = omega arith in (
                e.offset,
                here
                    ∙ opened_ahead most s room (closed w) b d nest e n good_closed.sized above fits inside some (read_as f)
                    ∙ (λ i. gives (visit (sym (name_put most s room (closed w) b d nest e n good_closed.sized above fits inside) i) e.offset n.terminal)
                    (ahead_at most s room (v_is i) c (p i)))
                    ∙ ap (gives (visit (take (child_name (closed w) e) c) e.offset n.terminal)) (sym (ahead_begun v c (λ z. omega (arith, z)))),
              )

          child_good : Sound most s room v c → Good most s room v c
          child_good h =
              let p : suc (suc d) ≡ v.depth = omega arith in
              record {
                sound = h;
                sized = subst (Sized most) v_is (sized_after most s room (closed w) b d nest e n good_closed.sized above fits inside);
                nested = subst (Nested v (length c)) p
                    (subst (λ (u : TrieWalk). Nested u (length c) (suc (suc d))) v_is
                    (nested_after most s room (closed w) b d nest e n good_closed.sized above fits inside));
              }

    -- ---- the root

    module _ (y : w.depth ≡ 0) where
      first_lists : {x : Option Node} → node_at s 0 ≡ x → ahead w b ≡ then_read x (fails (number_of FaultyNode)) (λ n. subtree s room most [] [] 0 n)
      unfolding listing_by
      first_lists e =
          ahead_first w b y ∙ ap (λ (x : Option Node). then_read x (fails (number_of FaultyNode)) (λ n. subtree s room most [] [] 0 n)) e

      none_lists : node_at s 0 ≡ None → ahead w b ≡ fails (number_of FaultyNode)
      unfolding then_read
      none_lists e = first_lists e

      module _ (n : Node) (e : node_at s 0 ≡ Some n) where
        root_lists_as : (k : ℕ) → most ≡ k → ahead w b ≡ subtree s room k [] [] 0 n
        unfolding then_read
        root_lists_as k q = first_lists e ∙ ap (λ (k : ℕ). subtree s room k [] [] 0 n) q

        shut_lists : most ≤ 0 → ahead w b ≡ fails (number_of TooManyOpenNodes)
        unfolding subtree_by
        shut_lists l = root_lists_as 0 (omega arith)

        module _ (l : 0 < most) where
          at_bottom : (xs : List ℕ) (x : ℕ) → length xs ≡ most → get_or (set xs 0 x) 0 0 ≡ x
          at_bottom xs x h = get_or-set_same xs 0 x 0 (omega arith)

          root_lists : Lists (ahead w b) (reached 0 n.terminal (rooted w n) b)
          unfolding subtree_by ahead_at top_down
          root_lists =
              let p = at_bottom w.places n.place g.sized.places in
              let o = at_bottom w.offsets 0 g.sized.offsets in
              let c = at_bottom w.left n.children g.sized.left in
              let m = at_bottom w.lengths 0 g.sized.lengths in (
                0,
                root_lists_as (suc (most - 1)) (omega arith)
                    ∙ ap (gives (visit [] 0 n.terminal))
                    (sym (then_stops (children s room (subtree s room (most - 1)) (0 ∷ []) [] n.children n.place))
                    ∙ (λ i. children s room (subtree s room (most - 1)) (sym o i ∷ []) (take (sym m i) b) (sym c i) (sym p i) then stops)),
              )

          root_good : Sound most s room (rooted w n) b → Good most s room (rooted w n) b
          root_good h =
              let m = at_bottom w.lengths 0 g.sized.lengths in
              record {
                sound = h;
                sized = record {
                  places = length-set w.places 0 n.place ∙ g.sized.places;
                  offsets = length-set w.offsets 0 0 ∙ g.sized.offsets;
                  left = length-set w.left 0 n.children ∙ g.sized.left;
                  lengths = length-set w.lengths 0 0 ∙ g.sized.lengths;
                };
                nested = (omega (arith, m), tt);
              }

    -- ---- all cases

    pub next_lists : Lists (ahead w b) (next most s w b)
    next_lists =
        next_by most s w b (Lists (ahead w b))
        (record { done = over_lists; bad = bad_lists; full = full_lists; child = child_lists; none = none_lists; shut = shut_lists; root = root_lists })

    pub good_next : IfReached (Good most s room) (next most s w b)
    good_next =
        next_by most s w b (λ x. IfReached (Sound most s room) x → IfReached (Good most s room) x)
        (record {
          done = λ y z h. tt;
          bad = λ z x f h. tt;
          full = λ z e n f l h. tt;
          child = child_good;
          none = λ y e h. tt;
          shut = λ y n e l h. tt;
          root = root_good;
        })
        (sound_next most s room w b g.sound)

pub good_start : (most : ℕ) (s b : List ℕ) → Good most s (length b) (at_start most) b
good_start most s b =
    record {
      sound = record {
        long = refl;
        going = refl;
        fit = record { few = omega arith; places = λ i l. absurd (omega arith); lengths = λ i l. absurd (omega arith) };
      };
      sized = record { places = length-replicate most 0; offsets = length-replicate most 0; left = length-replicate most 0; lengths = length-replicate most 0 };
      nested = tt;
    }
