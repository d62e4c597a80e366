-- What is due, and behind a chain.
use Rattle.std.specs.Prelude.{Bool, true, false, cond}
use Rattle.pages.specs.declared.Due.{Due}
use Rattle.pages.specs.declared.Due.TheVariants.{NextPage, NextChain, PointerThenPage, PointerThenChain}

-- behind the chain of the pointer that is due, if one is
abbrev pub behind : Due → Due
behind NextPage = NextPage
behind NextChain = NextChain
behind PointerThenPage = NextPage
behind PointerThenChain = NextChain

-- a pointer; `more` says whether its chain is followed by another of the page's list
abbrev pub pointer_due : (more : Bool) → Due
pointer_due more = cond more PointerThenChain PointerThenPage

-- ---- the same by two marks: whether a pointer is due, and whether a chain is, behind it or at once

abbrev pub linked : Due → Bool
linked NextPage = false
linked NextChain = false
linked PointerThenPage = true
linked PointerThenChain = true

abbrev pub more : Due → Bool
more NextPage = false
more NextChain = true
more PointerThenPage = false
more PointerThenChain = true

abbrev pub due_of : (linked more : Bool) → Due
due_of false false = NextPage
due_of false true = NextChain
due_of true false = PointerThenPage
due_of true true = PointerThenChain
