-- What is due is told by two marks, both ways. Assumes nothing.
use Rattle.std.proofs.Common.{◌≡◌, Bool, true, false, refl}
use Rattle.pages.specs.Due.{linked, more, due_of}
use Rattle.pages.specs.declared.Due.{Due}
use Rattle.pages.specs.declared.Due.TheVariants.{NextPage, NextChain, PointerThenPage, PointerThenChain}

pub due_back : (due : Due) → due_of (linked due) (more due) ≡ due
due_back NextPage = refl
due_back NextChain = refl
due_back PointerThenPage = refl
due_back PointerThenChain = refl

pub linked_back : (l m : Bool) → linked (due_of l m) ≡ l
linked_back false false = refl
linked_back false true = refl
linked_back true false = refl
linked_back true true = refl

pub more_back : (l m : Bool) → more (due_of l m) ≡ m
more_back false false = refl
more_back false true = refl
more_back true false = refl
more_back true true = refl
