-- Calls say what the document says of each stream of the list. Assumes nothing.
use Prim.Native.Nat.{ℕ}
use mathlib.Core.Path.{◌≡◌, refl, subst}
use mathlib.Core.List.{List, [], ◌∷◌, map}
use Rattle.bind.specs.Binds.{plainly, binds}
use Rattle.cursor.specs.Cursor.{at_start, start_of}
use Rattle.listing.proofs.Joined.{joined}
use Rattle.listing.specs.Call.{state}
use Rattle.listing.specs.Listing.{listing, heard}
use Rattle.listing.specs.Machine.{Machine}
use Rattle.rebase.specs.Rebases.{unset, rebases}
use Rattle.worked.specs.Called.{Calls, Called, AllCalled}
use Rattle.worked.specs.Examples.{Example, uleb, sleb, rebased, bound, preflown, defined, documented, examples}
use Rattle.worked.proofs.Hold.{examples_hold}

calls : {Op Reg Item : Type 0} (M : Machine Op Reg Item) (start : Reg) (bytes : List ℕ) → Calls M start bytes (heard (listing M 8 start bytes))
unfolding start_of
calls M start bytes =
    let w = state (at_start 8) start in
    record { given = w; starts = refl; say = joined M bytes 8 start w refl }

called : (x : Example) → defined x ≡ documented x → Called x
called (uleb n bytes) e = tt
called (sleb z bytes) e = tt
called (rebased bytes run) e = let q : heard (listing rebases 8 unset bytes) ≡ run = cc in subst (Calls rebases unset bytes) q (calls rebases unset bytes)
called (bound bytes run) e = record { items = heard (listing binds 8 plainly bytes); calls = calls binds plainly bytes; named = cc }
called (preflown stream size bytes sizes said) e = tt

all_called : (xs : List Example) → map defined xs ≡ map documented xs → AllCalled xs
all_called [] e = tt
all_called (x ∷ xs) e =
    let head : defined x ≡ documented x = cc in
    let tail : map defined xs ≡ map documented xs = cc in
    (called x head, all_called xs tail)

pub examples_called : AllCalled examples
examples_called = all_called examples examples_hold
