-- What holds of every answer of a call, by what holds of each kind of answer. Assumes nothing.
use Prim.Native.Nat.{ℕ, zero, suc, ◌≤◌, ◌<◌}
use mathlib.Core.Path.{◌≡◌, refl}
use mathlib.Core.Bool.{true}
use mathlib.Core.List.{List}
use native.Mathlib.Omega.{arith}
use lib.ListN.{length}
use Rattle.std.specs.Prelude.{Result, Ok, Err}
use Rattle.imports.specs.Call.{marked, passed, imported, next, out_of_range, call}
use Rattle.imports.specs.ChainedImports.{import_at}
use Rattle.imports.specs.declared.Import.{Import}
use Rattle.imports.specs.declared.ImportWalk.{ImportWalk}
use Rattle.numbers.proofs.Picks.{by_pick, by_test}
use Rattle.refusal.specs.Numbers.{number_of}
use Rattle.refusal.specs.declared.Refusal.{Refusal}
use Rattle.refusal.specs.declared.Refusal.TheVariants.{StateOutOfRange}
use Rattle.runs.specs.Runs.{Answer, item, end, refused}

module _ (s : List ℕ) (w : ImportWalk) (Q : Answer ImportWalk Import → Type 0) (ends : Q (end w)) (refuses : (e : Refusal) → Q (refused (number_of e) (marked w)))
    (gives : (x : Import) (at left : ℕ) → left < w.left → import_at s w.imports_format w.symbols_offset w.place ≡ Ok (x, at) → Q (item x (passed at left w))) where
  by_read : (left : ℕ) → left < w.left → (x : Result (Import × ℕ) Refusal) → import_at s w.imports_format w.symbols_offset w.place ≡ x → Q (imported w left x)
  unfolding imported
  by_read left l (Ok (x, at)) e = gives x at left l e
  by_read left l (Err d) e = refuses d

  by_next : (n : ℕ) → n ≤ w.left → Q (next s w n)
  unfolding next
  by_next zero l = ends
  by_next (suc n) l = by_read n (omega arith) _ refl

  pub by_call : (out_of_range w.place w.symbols_offset (length s) ≡ true → Q (refused (number_of StateOutOfRange) w)) → Q (call s w)
  unfolding call
  by_call out =
      by_test Q (out_of_range w.place w.symbols_offset (length s)) _ _ out
      (λ e. by_pick Q w.ended _ _ ends (by_next w.left (omega arith)))
