-- Calls hand back states whose fields are such as their types have, the arrays' lengths and each number; and so are those of the exports
-- that they answer. Assumes nothing.
use Prim.Native.Nat.{ℕ, zero, suc, ◌+◌, ◌-◌, ◌^◌, ◌≤◌, ◌<◌}
use mathlib.Core.Path.{◌≡◌, refl, ◌∙◌, subst}
use mathlib.Core.List.{List}
use native.Mathlib.Omega.{arith}
use lib.ListN.{length, get_or, set, replicate, length-set}
use Rattle.numbers.proofs.little_endian.Fields.{Bytes}
use Rattle.nodes.proofs.Inside.{TerminalIn, node_in}
use Rattle.trie.proofs.Course.{Next, over, failed, reached, next, next_by, Course, ends, refuses, waits, limits, exports, visits, call_by}
use Rattle.nodes.proofs.Exports.{ExportIn}
use Rattle.trie.proofs.Fits.{set_old, read, within, counted, buffer_long}
use Rattle.trie.proofs.Visits.{still_at_most}
use Rattle.trie.specs.Call.{at_start, closed, on_top, rooted, child_of, child_name, child_opened, edge_put, Answer, export, more, end, refused, Outcome, call}
use Rattle.nodes.specs.ExportsTrie.{node_at}
use Rattle.trie.specs.Frames.{still_open}
use Rattle.trie.specs.declared.TrieWalk.{TrieWalk}
use Rattle.nodes.specs.declared.node.Edge.{Edge}
use Rattle.nodes.specs.declared.node.Node.{Node}
use Rattle.nodes.specs.declared.export.Export.{Export}
use Rattle.std.specs.Prelude.{Option, Some, Ok}

-- ---- what the types hold

-- an array, by the largest value of its elements
pub record Array (largest : ℕ) (xs : List ℕ) : Type 0 where
  pub long : length xs ≡ 256
  pub each : (i : ℕ) → get_or xs i 0 ≤ largest

-- places, offsets, children left, lengths and depth
pub record Fields (p o l n : List ℕ) (d : ℕ) : Type 0 where
  pub places : Array (2 ^ 64 - 1) p
  pub offsets : Array (2 ^ 64 - 1) o
  pub left : Array (2 ^ 8 - 1) l
  pub lengths : Array (2 ^ 64 - 1) n
  pub depth : d ≤ 2 ^ 64 - 1

abbrev pub Typed : TrieWalk → Type 0
Typed w = Fields w.places w.offsets w.left w.lengths w.depth

-- what is lent: bytes are bytes, and a slice has less than 2^64 of them; so many has the name buffer
pub record TypedLent (s : List ℕ) (room : ℕ) : Type 0 where
  pub bytes : Bytes s
  pub short : length s < 2 ^ 64
  pub small : room < 2 ^ 64

-- ---- a start

zeros : (n i : ℕ) → get_or (replicate n 0) i 0 ≤ 0
zeros zero i = omega arith
zeros (suc n) zero = omega arith
zeros (suc n) (suc i) = zeros n i

blank : (largest : ℕ) → Array largest (replicate 256 0)
blank largest = record { long = refl; each = λ i. omega (arith, zeros 256 i) }

pub typed_start : Typed (at_start 256)
typed_start =
    record { places = blank (2 ^ 64 - 1); offsets = blank (2 ^ 64 - 1); left = blank (2 ^ 8 - 1); lengths = blank (2 ^ 64 - 1); depth = omega arith }

-- ---- what comes next

set_array : {largest : ℕ} {xs : List ℕ} → Array largest xs → (i v : ℕ) → v ≤ largest → Array largest (set xs i v)
set_array {largest} {xs} a i v h = record { long = length-set xs i v ∙ a.long; each = λ m. set_old xs i v largest h m (a.each m) }

typed_closed : (w : TrieWalk) → Typed w → Typed (closed w)
typed_closed w t =
    record { places = t.places; offsets = t.offsets; left = t.left; lengths = t.lengths; depth = omega (arith, t.depth, still_at_most w.left w.depth) }

-- ---- what a call hands back

-- of an export, the name is in the buffer, and its numbers are such as their types have
abbrev pub AnswerIn : (bytes room : ℕ) → Answer → Type 0
AnswerIn bytes room (export len x) = (len ≤ room) × ExportIn bytes x
AnswerIn bytes room more = Unit {0}
AnswerIn bytes room end = Unit {0}
AnswerIn bytes room (refused number) = Unit {0}

-- a state, at most so many visits, an answer, and the buffer as long as it was
pub record Back (bytes room limit : ℕ) (p : Outcome) : Type 0 where
  pub typed : Typed p.reply.walk
  pub visits : p.reply.visits ≤ limit
  pub answer : AnswerIn bytes room p.reply.answer
  pub long : length p.buffer ≡ room

module _ (s : List ℕ) (room : ℕ) (lent : TypedLent s room) where
  -- a node that is reached, with the length of its name in the buffer
  record Held (len : ℕ) (t : Option Export) (w : TrieWalk) (b : List ℕ) : Type 0 where
    typed : Typed w
    long : length b ≡ room
    name : len ≤ room
    terminal : TerminalIn (length s) t

  abbrev IfHeld : Next → Type 0
  IfHeld over = Unit {0}
  IfHeld (failed number) = Unit {0}
  IfHeld (reached len t v c) = Held len t v c

  module _ (w : TrieWalk) (b : List ℕ) (t : Typed w) (l : length b ≡ room) where
    held_child : (e : Edge) (n : Node) → child_of s (length b) (closed w) ≡ Ok (e, n) → still_open w.left w.depth < 256
        → Held (child_name (closed w) e) n.terminal (child_opened (closed w) e n) (edge_put s (closed w) e b)
    held_child e n f m =
        let d : ℕ = still_open w.left w.depth in
        let i = within s w b e n f in
        let j = counted s w b e n f in
        let fits : child_name (closed w) e ≤ room = omega (arith, (read s w b e n f).fits, l) in
        let few : n.children ≤ 2 ^ 8 - 1 = omega (arith, j.count, (lent.bytes (n.place - 1)).fits) in
        let fewer : on_top (closed w) w.left - 1 ≤ 2 ^ 8 - 1 = omega (arith, t.left.each (d - 1)) in
        record {
          typed = record {
            places = set_array (set_array t.places (d - 1) e.next (omega (arith, i.next, lent.short))) d n.place (omega (arith, j.inside, lent.short));
            offsets = set_array t.offsets d e.offset (omega (arith, i.offset));
            left = set_array (set_array t.left (d - 1) (on_top (closed w) w.left - 1) fewer) d n.children few;
            lengths = set_array t.lengths d (child_name (closed w) e) (omega (arith, fits, lent.small));
            depth = omega arith;
          };
          long = buffer_long s w b e n f ∙ l;
          name = fits;
          terminal = j.terminal;
        }

    held_root : (n : Node) → node_at s 0 ≡ Some n → Held 0 n.terminal (rooted w n) b
    held_root n f =
        let j = node_in s 0 f in
        record {
          typed = record {
            places = set_array t.places 0 n.place (omega (arith, j.inside, lent.short));
            offsets = set_array t.offsets 0 0 (omega arith);
            left = set_array t.left 0 n.children (omega (arith, j.count, (lent.bytes (n.place - 1)).fits));
            lengths = set_array t.lengths 0 0 (omega arith);
            depth = omega arith;
          };
          long = l;
          name = omega arith;
          terminal = j.terminal;
        }

    held_next : IfHeld (next 256 s w b)
    held_next =
        next_by 256 s w b IfHeld
        (record {
          done = λ y z. tt;
          bad = λ z x f. tt;
          full = λ z e n f m. tt;
          child = λ z. held_child;
          none = λ y e. tt;
          shut = λ y n e l. tt;
          root = λ y n e l. held_root n e;
        })

  -- ---- a course

  course_back : {given : TrieWalk} {k n : ℕ} {w : TrieWalk} {b : List ℕ} {p : Outcome} → Typed given → Course 256 s given k n w b p → Typed w → length b ≡ room → Back (length s) room (n + k) p
  course_back g (ends {w = w} e z) t l = record { typed = typed_closed w t; visits = omega arith; answer = tt; long = l }
  course_back g (refuses e d) t l = record { typed = g; visits = omega arith; answer = tt; long = l }
  course_back g waits t l = record { typed = t; visits = omega arith; answer = tt; long = l }
  course_back g (limits {w = w} y) t l = record { typed = typed_closed w t; visits = omega arith; answer = tt; long = l }
  course_back g (exports {w = w} {b = b} e) t l =
      let h = subst IfHeld e (held_next w b t l) in
      record { typed = h.typed; visits = omega arith; answer = (h.name, h.terminal); long = h.long }
  course_back g (visits {w = w} {b = b} e c) t l =
      let h = subst IfHeld e (held_next w b t l) in
      let r = course_back g c h.typed h.long in
      record { typed = r.typed; visits = omega (arith, r.visits); answer = r.answer; long = r.long }

-- ---- a call

-- from any state whose fields are such as their types have, in range or not
pub typed_call : (s : List ℕ) (limit : ℕ) (w : TrieWalk) (b : List ℕ) → TypedLent s (length b) → Typed w → Back (length s) (length b) limit (call 256 s limit w b)
typed_call s limit w b lent t =
    call_by 256 s limit w b (Back (length s) (length b) limit)
    (λ out. record { typed = t; visits = omega arith; answer = tt; long = refl })
    (λ range e. record { typed = t; visits = omega arith; answer = tt; long = refl })
    (λ range e c. let z : 0 + limit ≡ limit = omega arith in
    subst (λ (k : ℕ). Back (length s) (length b) k (call 256 s limit w b)) z (course_back s (length b) lent t c t refl))
