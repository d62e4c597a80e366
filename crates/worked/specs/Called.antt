-- That calls say what the document says of a stream: those from a start, of pointer size 8, to the first end or refusal.
use Rattle.std.specs.Prelude.{ℕ, ◌≡◌, List, [], ◌∷◌}
use Rattle.bind.specs.Binds.{plainly, binds}
use Rattle.bind.specs.declared.Bind.{Bind}
use Rattle.listing.specs.Call.{begin, call}
use Rattle.listing.specs.Machine.{Machine}
use Rattle.listing.specs.declared.Walk.{Walk}
use Rattle.rebase.specs.Rebases.{unset, rebases}
use Rattle.runs.specs.Runs.{begun, Run, Walks}
use Rattle.worked.specs.Examples.{Symbol, all_named, Example, uleb, sleb, rebased, bound, preflown}

pub record Calls {Op Reg Item : Type 0} (M : Machine Op Reg Item) (start : Reg) (bytes : List ℕ) (run : Run Item) : Type 0 where
  pub given : Walk Reg
  pub starts : begin 8 start ≡ begun given
  pub say : Walks (call M bytes) given run

-- with the names themselves
pub record CallsNamed (bytes : List ℕ) (run : Run Symbol) : Type 0 where
  pub items : Run Bind
  pub calls : Calls binds plainly bytes items
  pub named : all_named bytes items ≡ run

-- of the other examples nothing is said
abbrev pub Called : Example → Type 0
Called (uleb n bytes) = Unit {0}
Called (sleb z bytes) = Unit {0}
Called (rebased bytes run) = Calls rebases unset bytes run
Called (bound bytes run) = CallsNamed bytes run
Called (preflown stream size bytes sizes said) = Unit {0}

abbrev pub AllCalled : List Example → Type 0
AllCalled [] = Unit {0}
AllCalled (x ∷ xs) = Called x × AllCalled xs
