-- Calls from any state that goes on say what is ahead of it; those from a start on say what the bytes list, and nothing else; where the start
-- is refused, they list that refusal. Assumes nothing.
use Prim.Native.Nat.{ℕ, zero, suc}
use mathlib.Core.Path.{◌≡◌, refl, ap, sym, ◌∙◌, subst}
use mathlib.Core.Bool.{Bool, false, cond}
use mathlib.Core.List.{List}
use lib.ListN.{length}
use Rattle.std.specs.Prelude.{Result, Ok, Err}
use Rattle.imports.specs.Call.{begin, imported, next, call}
use Rattle.imports.specs.ChainedImports.{import_at}
use Rattle.imports.specs.Listing.{then_rest, imports, listing}
use Rattle.imports.specs.declared.Import.{Import}
use Rattle.imports.specs.declared.ImportWalk.{ImportWalk}
use Rattle.refusal.specs.declared.Refusal.{Refusal}
use Rattle.runs.proofs.Walks.{shown, Stays, Starts, walks_ahead, walks_one}
use Rattle.runs.specs.Runs.{Begin, begun, not_begun, end, Run, fails, Walks}
use Rattle.imports.proofs.Answers.{by_call}
use Rattle.imports.proofs.Calls.{InRange, none_out}
use Rattle.imports.proofs.Imports.{both_imports}
use Rattle.imports.proofs.Inside.{found_inside}

module _ (s : List ℕ) where
  -- a walk that goes on
  pub record Going (w : ImportWalk) : Type 0 where
    pub range : InRange w.place w.symbols_offset (length s)
    pub live : w.ended ≡ false

  -- what is ahead of a state
  abbrev pub ahead : ImportWalk → Run Import
  ahead w = imports s w.imports_format w.symbols_offset w.left w.place

  -- ---- a call

  module _ (w : ImportWalk) where
    going_call : Going w → call s w ≡ next s w w.left
    unfolding call
    going_call g =
        rw (none_out w.place w.symbols_offset (length s) g.range)
        (ap (λ (t : Bool). cond t (end w) (next s w w.left)) g.live)

    says_read : (n : ℕ) (x : Result (Import × ℕ) Refusal) → then_rest (imports s w.imports_format w.symbols_offset n) x ≡ shown ahead (imported w n x)
    unfolding then_rest imported
    says_read n (Ok (x, at)) = refl
    says_read n (Err e) = refl

    says_next : (n : ℕ) → imports s w.imports_format w.symbols_offset n w.place ≡ shown ahead (next s w n)
    unfolding imports next
    says_next zero = refl
    says_next (suc n) = says_read n (import_at s w.imports_format w.symbols_offset w.place)

    says : Going w → ahead w ≡ shown ahead (call s w)
    says g = says_next w.left ∙ ap (shown ahead) (sym (going_call g))

    stays : Going w → Stays Going (call s w)
    stays g =
        by_call s w (Stays Going) tt (λ e. tt)
        (λ x at left l e. record { range = record { place_in = (found_inside s w e).ends; symbols_in = g.range.symbols_in }; live = g.live })
        (λ o. tt)

  -- calls from any state that goes on say what is ahead of it, made up or not
  pub walks : (w : ImportWalk) → Going w → Walks (call s) w (ahead w)
  walks = walks_ahead (call s) ahead Going says stays

  -- ---- a start

  abbrev Lists : Begin ImportWalk → Run Import → Type 0
  Lists = Starts (call s) (λ n r. r ≡ fails n)

  starts : Lists (begin s) (listing s)
  unfolding begin listing
  starts =
      both_imports Lists s _ _ _ _ (λ n. refl)
      (λ h i j. walks _ (record { range = record { place_in = i; symbols_in = j }; live = refl }))

  pub joined : (w : ImportWalk) → begin s ≡ begun w → Walks (call s) w (listing s)
  joined w e = subst (λ (b : Begin ImportWalk). Lists b (listing s)) e starts

  pub joined_only : (w : ImportWalk) {r : Run Import} → begin s ≡ begun w → Walks (call s) w r → r ≡ listing s
  joined_only w e h = walks_one (call s) h (joined w e)

  pub not_begun_lem : {n : ℕ} → begin s ≡ not_begun n → listing s ≡ fails n
  not_begun_lem e = subst (λ (b : Begin ImportWalk). Lists b (listing s)) e starts
