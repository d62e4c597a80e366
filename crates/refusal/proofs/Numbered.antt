-- Laws of the table of numbers. Assumes nothing.
use Prim.Native.Nat.{ℕ}
use mathlib.Core.Path.{◌≡◌, refl, ap}
use mathlib.Core.List.{List, [], ◌∷◌}
use mathlib.Core.Bool.{Bool, true, cond, ◌&&◌}
use lib.Dec.{eqb, ltb}
use Rattle.refusal.proofs.Unique.{one_each}
use Rattle.refusal.specs.Numbers.{number_of}
use Rattle.refusal.specs.declared.Refusal.{Refusal}
use Rattle.refusal.specs.declared.Refusal.TheVariants.{
  PointerSize,
  UnknownOpcode,
  FaultyOperand,
  OrdinalTooLarge,
  NoSegment,
  NoType,
  NoLibrary,
  NoSymbol,
  FaultyChains,
  UnknownVersion,
  UnsupportedFormat,
  BeyondStarts,
  PointerOutside,
  FaultyImport,
  FaultyNode,
  ChildIsOpen,
  TooManyOpenNodes,
  NameTooLong,
  StateOutOfRange,
  PlaceOutside,
  UnfitSizes,
}

-- ---- a number has one refusal

abbrev refusals : List Refusal
refusals =
    PointerSize ∷
    UnknownOpcode ∷
    FaultyOperand ∷
    OrdinalTooLarge ∷
    NoSegment ∷
    NoType ∷
    NoLibrary ∷
    NoSymbol ∷
    FaultyChains ∷
    UnknownVersion ∷
    UnsupportedFormat ∷
    BeyondStarts ∷
    PointerOutside ∷
    FaultyImport ∷
    FaultyNode ∷
    ChildIsOpen ∷
    TooManyOpenNodes ∷
    NameTooLong ∷
    StateOutOfRange ∷
    PlaceOutside ∷
    UnfitSizes ∷
    []

abbrev looked_up : ℕ → List Refusal → Refusal
looked_up n [] = PointerSize
looked_up n (r ∷ rs) = cond (eqb (number_of r) n) r (looked_up n rs)

-- by its number; of a number that none has, any
abbrev pub refusal_of : ℕ → Refusal
refusal_of n = looked_up n refusals

-- a number that can be told from the answers for an item, the end and more
abbrev pub is_number : ℕ → Bool
is_number n = ltb 0 n && ltb n 256

abbrev pub IsNumber : ℕ → Type 0
IsNumber n = is_number n ≡ true

known : (r : Refusal) → ◌≡◌ {A = Refusal × Bool} (refusal_of (number_of r), is_number (number_of r)) (r, true)
known PointerSize = refl
known UnknownOpcode = refl
known FaultyOperand = refl
known OrdinalTooLarge = refl
known NoSegment = refl
known NoType = refl
known NoLibrary = refl
known NoSymbol = refl
known FaultyChains = refl
known UnknownVersion = refl
known UnsupportedFormat = refl
known BeyondStarts = refl
known PointerOutside = refl
known FaultyImport = refl
known FaultyNode = refl
known ChildIsOpen = refl
known TooManyOpenNodes = refl
known NameTooLong = refl
known StateOutOfRange = refl
known PlaceOutside = refl
known UnfitSizes = refl

pub refusal_back : (r : Refusal) → refusal_of (number_of r) ≡ r
refusal_back r = ap (λ (p : Refusal × Bool). p.0) (known r)

pub is_number_lem : (r : Refusal) → IsNumber (number_of r)
is_number_lem r = ap (λ (p : Refusal × Bool). p.1) (known r)

pub number_one : (r q : Refusal) → number_of r ≡ number_of q → r ≡ q
number_one = one_each number_of refusal_of refusal_back
