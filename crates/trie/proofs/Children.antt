-- What is known of a child that is found, or refused. Assumes nothing.
use Prim.Native.Nat.{ℕ, ◌+◌, ◌≤◌}
use mathlib.Core.Path.{◌≡◌, refl, sym, ap, ◌∙◌, subst}
use mathlib.Core.Bool.{Bool, true, false, cond}
use mathlib.Core.List.{List}
use native.Mathlib.Omega.{arith}
use borrow.Author.Tests.{ltb-false}
use lib.Dec.{eqb, ltb}
use lib.ListN.{length}
use Rattle.std.specs.List.{list_any}
use Rattle.trie.proofs.Searches.{any_top}
use Rattle.trie.specs.Frames.{top_down}
use Rattle.nodes.specs.Child.{Child, is_one_of, entered_at}
use Rattle.nodes.specs.ExportsTrie.{then_read, node_at, edge_at}
use Rattle.nodes.specs.declared.node.Edge.{Edge}
use Rattle.nodes.specs.declared.node.Node.{Node}
use Rattle.refusal.specs.Numbers.{number_of}
use Rattle.refusal.specs.declared.Refusal.{Refusal}
use Rattle.refusal.specs.declared.Refusal.TheVariants.{FaultyNode, NameTooLong}
use Rattle.trie.specs.NextChild.{child_at}
use Rattle.std.specs.Prelude.{Option, Some, None, Ok, Err}

-- the number of a refusal that comes of the trie
abbrev pub OfTrie : ℕ → Type 0
OfTrie number = (15 ≤ number) × (number ≤ 18)

pub record Read (s : List ℕ) (room : ℕ) (ancestors : List ℕ) (kept place : ℕ) (e : Edge) (n : Node) : Type 0 where
  pub edge : edge_at s place ≡ Some e
  pub fits : kept + e.name.length ≤ room
  pub node : node_at s e.offset ≡ Some n

module _ (s : List ℕ) (room : ℕ) (ancestors : List ℕ) (kept place : ℕ) where
  abbrev IfRead : Child → Type 0
  IfRead (Ok (e, n)) = Read s room ancestors kept place e n
  IfRead (Err x) = OfTrie (number_of x)

  node_step : (e : Edge) → edge_at s place ≡ Some e → kept + e.name.length ≤ room → (x : Option Node) → node_at s e.offset ≡ x
      → IfRead (then_read x (Err FaultyNode) (λ n. Ok (e, n)))
  unfolding then_read
  node_step e f h (Some n) g = record { edge = f; fits = h; node = g }
  node_step e f h None g = (omega arith, omega arith)

  tests : (e : Edge) → edge_at s place ≡ Some e → (a b : Bool) → ltb room (kept + e.name.length) ≡ a
      → IfRead (cond a (Err NameTooLong) (entered_at s b e))
  unfolding entered_at
  tests e f true b g = (omega arith, omega arith)
  tests e f false true g = (omega arith, omega arith)
  tests e f false false g = node_step e f (ltb-false room (kept + e.name.length) g) (node_at s e.offset) refl

  child_by_lem : IfRead (child_at s room ancestors kept place)
  unfolding child_at then_read
  child_by_lem = by (edge_at s place) refl
    where
      by : (x : Option Edge) → edge_at s place ≡ x
          → IfRead (then_read x (Err FaultyNode) (λ e. cond (ltb room (kept + e.name.length)) (Err NameTooLong) (entered_at s (is_one_of e.offset ancestors) e)))
      by (Some e) f = tests e f (ltb room (kept + e.name.length)) (is_one_of e.offset ancestors) refl
      by None f = (omega arith, omega arith)

  pub child_read : {r : Child} {e : Edge} {n : Node} → r ≡ child_at s room ancestors kept place → r ≡ Ok (e, n) → Read s room ancestors kept place e n
  child_read f g = subst IfRead (sym f ∙ g) child_by_lem

  pub child_refused : {x : Refusal} → child_at s room ancestors kept place ≡ Err x → OfTrie (number_of x)
  child_refused f = subst IfRead f child_by_lem

-- as the code reads it, which is lent the offsets of the open nodes as a slice
module _ (s : List ℕ) (room : ℕ) (offsets : List ℕ) (kept place : ℕ) {e : Edge} (f : edge_at s place ≡ Some e) (g : ltb room (kept + e.name.length) ≡ false) where
  pub child_entered : {o : Bool} → o ≡ list_any (λ y. eqb y e.offset) offsets → {r : Child} → r ≡ entered_at s o e
      → r ≡ child_at s room (top_down offsets (length offsets)) kept place
  unfolding child_at then_read
  child_entered h q =
      rw (f, g) (q ∙ ap (λ (o : Bool). entered_at s o e) (h ∙ sym (any_top (λ y. eqb y e.offset) offsets)))
