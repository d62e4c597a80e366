-- Edges and nodes that are read lie in the bytes. Assumes nothing.
use Prim.Native.Nat.{ℕ, ◌+◌, ◌-◌, ◌^◌, ◌≤◌, ◌<◌}
use mathlib.Core.Path.{◌≡◌, refl, sym, ap, subst}
use mathlib.Core.Bool.{Bool, true, false, cond}
use mathlib.Core.List.{List}
use native.Mathlib.Omega.{arith}
use borrow.Author.Tests.{ltb-true, leb-true}
use lib.Dec.{leb, ltb, eqb}
use lib.ListN.{length, get_or, take}
use lib.Seq.{length-take-le}
use Rattle.nodes.proofs.Exports.{ExportIn, IfExport, export_more, export_in}
use Rattle.nodes.specs.Exported.{export_told}
use Rattle.nodes.specs.ExportsTrie.{then_read, export_at, counted_at, node_at, edge_at}
use Rattle.nodes.specs.declared.export.Export.{Export}
use Rattle.nodes.specs.declared.node.Edge.{Edge}
use Rattle.nodes.specs.declared.node.Node.{Node}
use Rattle.std.specs.Prelude.{Option, Some, None}
use Rattle.numbers.proofs.Laws.{uleb_read, string_read}
use Rattle.numbers.proofs.Then.{by_read}
use Rattle.numbers.specs.Leb128.{uleb_at}
use Rattle.numbers.specs.Strings.{string_at}

pub record EdgeIn (s : List ℕ) (e : Edge) : Type 0 where
  pub next : e.next ≤ length s
  pub inside : e.name.place + e.name.length ≤ length s
  pub offset : e.offset < 2 ^ 64

abbrev pub TerminalIn : (bytes : ℕ) → Option Export → Type 0
TerminalIn bytes None = Unit {0}
TerminalIn bytes (Some x) = ExportIn bytes (export_told x)

-- its children are counted by the byte before its first edge
pub record NodeIn (s : List ℕ) (n : Node) : Type 0 where
  pub inside : n.place ≤ length s
  pub count : n.children ≡ get_or s (n.place - 1) 0
  pub terminal : TerminalIn (length s) n.terminal

abbrev IfEdge : List ℕ → Option Edge → Type 0
IfEdge s (Some e) = EdgeIn s e
IfEdge s None = Unit {0}

abbrev IfNode : List ℕ → Option Node → Type 0
IfNode s (Some n) = NodeIn s n
IfNode s None = Unit {0}

module _ (s : List ℕ) where
  edge_by : (at : ℕ) → IfEdge s (edge_at s at)
  unfolding edge_at
  edge_by at =
      by_read (string_at s at) _ _ (IfEdge s) tt
      (λ name next f.
      let t = string_read s at (sym f) refl in
      by_read (uleb_at s next) _ _ (IfEdge s) tt
      (λ offset behind g.
      let u = uleb_read s next (sym g) refl in
      record { next = u.within.inside; inside = omega (arith, t.ends, t.within.inside); offset = u.below }))

  pub edge_in : (at : ℕ) {e : Edge} → edge_at s at ≡ Some e → EdgeIn s e
  edge_in at f = subst (IfEdge s) f (edge_by at)

  counted_by : (t : Option Export) (at : ℕ) → TerminalIn (length s) t → IfNode s (counted_at s t at)
  unfolding counted_at
  counted_by t at h = by (ltb at (length s)) refl
    where
      by : (b : Bool) → ltb at (length s) ≡ b → IfNode s (cond b (Some (record { terminal = t; children = get_or s at 0; place = at + 1 })) None)
      by true f =
          let l = ltb-true at (length s) f in
          let e : at ≡ at + 1 - 1 = omega arith in
          record { inside = omega arith; count = ap (λ (i : ℕ). get_or s i 0) e; terminal = h }
      by false f = tt

  node_by : (offset : ℕ) → IfNode s (node_at s offset)
  unfolding node_at
  node_by offset =
      by_read (uleb_at s offset) _ _ (IfNode s) tt
      (λ size at f. none at (eqb size 0) _ (area at size (leb (at + size) (length s)) refl))
    where
      none : (at : ℕ) (b : Bool) (x : Option Node) → IfNode s x → IfNode s (cond b (counted_at s None at) x)
      none at true x h = counted_by None at tt
      none at false x h = h

      exports : (at size : ℕ) (x : Option Export) → IfExport (length s) x → IfNode s (then_read x None (λ x. counted_at s (Some x) (at + size)))
      exports at size (Some x) h = unfold then_read in counted_by (Some x) (at + size) h
      exports at size None h = unfold then_read in tt

      area : (at size : ℕ) (b : Bool) → leb (at + size) (length s) ≡ b
          → IfNode s (cond b (then_read (export_at (take (at + size) s) at) None (λ x. counted_at s (Some x) (at + size))) None)
      area at size true f =
          let t = take (at + size) s in
          let l = length-take-le (at + size) s (leb-true (at + size) (length s) f) in
          exports at size (export_at t at) (export_more (omega (arith, l, leb-true (at + size) (length s) f)) (export_at t at) (export_in t at))
      area at size false f = tt

  pub node_in : (offset : ℕ) {n : Node} → node_at s offset ≡ Some n → NodeIn s n
  node_in offset f = subst (IfNode s) f (node_by offset)
