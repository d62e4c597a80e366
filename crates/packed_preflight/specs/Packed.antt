-- Preflights at the boundary: the sizes of the segments in bytes, and the verdict in two words.
use Rattle.std.specs.Prelude.{ℕ, ◌/◌, ◌%◌, ◌<◌, ◌≡◌, cond, ◌&&◌, List, [], ◌∷◌, Result, eqb, length}
use Rattle.packing.specs.Boundary.{item_told, unfit}
use Rattle.packing.specs.Words.{words_from, bytes_of}
use Rattle.preflight.specs.Verdict.{Verdict, pass, fault}
use Rattle.preflight.specs.Told.{told}
use Rattle.preflight.specs.declared.Fault.{Fault}
use Rattle.refusal.specs.Numbers.{number_of}
use Rattle.refusal.specs.declared.Refusal.TheVariants.{PointerSize}
use denote.Ref.{Bor}

-- ---- the sizes

abbrev pub sizes_of : List ℕ → List ℕ
sizes_of s = words_from s 0 (length s / 8)

-- ---- the verdict

abbrev pub verdict_told : Verdict → ℕ × List ℕ
verdict_told (pass operations) = (item_told, bytes_of (operations ∷ 0 ∷ []))
verdict_told (fault number position index) = (number, bytes_of (position ∷ index ∷ []))

-- sizes are whole words, and the verdict is written over two; `flight` is the preflight
unfoldable pub flown : (flight : (size : ℕ) (sizes s : List ℕ) → Verdict) →
    (s : List ℕ) (size : ℕ) (sizes verdict : List ℕ) → ℕ × List ℕ
flown flight s size sizes verdict =
    cond (eqb (length verdict) 16 && eqb (length sizes % 8) 0)
    (verdict_told (flight size (sizes_of sizes) s)) (unfit, verdict)

-- ---- any preflight, as the code is handed one

-- what a call of it may answer says what `flight` says
abbrev pub Says : (may : Bor (List ℕ) → ℕ → Bor (List ℕ) → Result ℕ Fault → Type 0) →
    (flight : (size : ℕ) (sizes s : List ℕ) → Verdict) → Type 0
Says may flight =
    (s : Bor (List ℕ)) (size : ℕ) (sizes : Bor (List ℕ)) (r : Result ℕ Fault) → may s size sizes r → told r ≡ flight size sizes.now s.now

-- a size that no byte holds is refused, and so are more than 16 sizes, whatever they are
pub record IsPreflight (flight : (size : ℕ) (sizes s : List ℕ) → Verdict) : Type 0 where
  pub large : (size : ℕ) (sizes s : List ℕ) → 255 < size → flight size sizes s ≡ fault (number_of PointerSize) 0 0
  pub many : (size : ℕ) (some others s : List ℕ) → 16 < length some → 16 < length others → flight size some s ≡ flight size others s
