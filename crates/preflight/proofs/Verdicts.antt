-- The verdict on what an operation lists is what the operation comes to in a preflight. Assumes nothing.
use Rattle.std.specs.Prelude.{Option, None, Some}
use Prim.Native.Nat.{ℕ, zero, suc, ◌+◌}
use mathlib.Core.Path.{◌≡◌, refl, ap, sym, ◌∙◌}
use mathlib.Core.Bool.{Bool, true, false, cond, ◌&&◌}
use mathlib.Core.List.{List}
use native.Mathlib.Numerals.{add-one}
use native.Mathlib.Omega.{arith}
use borrow.Author.Tests.{le-leb}
use lib.Dec.{ltb}
use lib.ListN.{length, get_or}
use Rattle.cursor.specs.declared.Turn.{Turn}
use Rattle.cursor.specs.declared.Turn.TheVariants as turn
use Rattle.listing.specs.Listing.{Listing, places, repeated, listed}
use Rattle.listing.specs.Machine.{Machine}
use Rattle.places.specs.Places.{place_at, fits, judged_from, largest_size, judged_of}
use Rattle.places.specs.declared.Judged.{Judged}
use Rattle.places.specs.declared.Judged.TheVariants.{Outside}
use Rattle.refusal.specs.declared.Refusal.{Refusal}
use Rattle.refusal.specs.Numbers.{number_of}
use Rattle.refusal.specs.declared.Refusal.TheVariants.{PlaceOutside}
use Rattle.preflight.specs.Flown.{flown_judged, flown_places, flown_due, flown_of}
use Rattle.preflight.specs.Leg.{Placed, spot_of}
use Rattle.preflight.specs.Verdict.{Verdict, pass, fault, width_of, inside, verdict, fit_sizes}
use Rattle.preflight.specs.declared.spot.Flown.{Flown}
use Rattle.preflight.specs.declared.spot.Flown.TheVariants.{On, Pass, Fault}
use Rattle.preflight.proofs.Small.{fit_small}

-- what the operation at p comes to decides, with k operations read before it; `rest` is the verdict on those behind it, from an offset on
abbrev pub decided : (p k : ℕ) → (ℕ → Verdict) → Flown → Verdict
decided p k rest (On to) = rest to
decided p k rest Pass = pass (k + 1)
decided p k rest (Fault e i) = fault (number_of e) p i

-- the verdict at an entry that is outside
outer : (c : Bool) (p i : ℕ) (x : Verdict) → c ≡ false →
    elim c as (λ _. Verdict) [ true ↦ x | false ↦ fault (number_of PlaceOutside) p i ] ≡ fault (number_of PlaceOutside) p i
outer c p i x e = rw e

-- a branch of the verdict beside one of the search
branch : (b c : Bool) (p k i : ℕ) (rest : ℕ → Verdict) (x : Verdict) (j : Judged) → c ≡ b → x ≡ decided p k rest (flown_judged j) →
    elim c as (λ _. Verdict) [ true ↦ x | false ↦ fault (number_of PlaceOutside) p i ]
    ≡ decided p k rest (flown_judged (elim b as (λ _. Judged) [ true ↦ j | false ↦ Outside i ]))
branch true c p k i rest x j e h = rw e h
branch false c p k i rest x j e h = outer c p i x e

module _ {Op Reg Item : Type 0} (M : Machine Op Reg Item) (P : Placed M) (size : ℕ) (sizes : List ℕ) (g : Reg) where
  abbrev segment : ℕ
  segment = (spot_of M size g).segment

  abbrev kind : ℕ
  kind = (spot_of M size g).kind

  -- the place at an offset
  inside_at_lem : (o : ℕ) {b : Bool} → ltb segment (length sizes) ≡ b →
      inside size sizes (M.place (M.item g o)) ≡ (b && fits (width_of size kind) (get_or sizes segment 0) o)
  unfolding inside
  inside_at_lem o e = ap (inside size sizes) (P g o) ∙ rw e

  module _ (p k : ℕ) (rest : ℕ → Listing Item) where
    abbrev there : ℕ → Verdict
    there to = verdict M size sizes (rest to)

    -- n places from place i on, m in all, in a segment that has a size
    verdict_places : ltb segment (length sizes) ≡ true → (o a i n m : ℕ) → i + n ≡ m →
        verdict M size sizes (places M p g o a i n (rest (place_at o a m)))
        ≡ decided p k there (flown_judged (judged_from o a (width_of size kind) (get_or sizes segment 0) i n))
    unfolding verdict places judged_from
    verdict_places has o a i zero m e = ap (λ (j : ℕ). there (place_at o a j)) (omega arith)
    verdict_places has o a i (suc n) m e =
        branch (fits (width_of size kind) (get_or sizes segment 0) (place_at o a i)) _ p k i there _ _
        (inside_at_lem (place_at o a i) has) (verdict_places has o a (suc i) n m (omega arith))

    module _ (fit : fit_sizes sizes ≡ true) (o : ℕ) where
      by_segment : (a left : ℕ) (b : Bool) → ltb segment (length sizes) ≡ b →
          verdict M size sizes (places M p g o a 0 (suc left) (rest (place_at o a (suc left))))
          ≡ decided p k there
          (cond b (flown_judged (judged_of o a left (width_of size kind) (get_or sizes segment 0))) (Fault PlaceOutside 0))
      by_segment a left true has =
          verdict_places has o a 0 (suc left) (suc left) (omega arith)
          ∙ unfold judged_of in rw (le-leb (get_or sizes segment 0) largest_size (fit_small sizes fit segment))
      by_segment a left false hasn't = unfold verdict places in outer _ p 0 _ (inside_at_lem (place_at o a 0) hasn't)

      verdict_due : (a left : ℕ) (l : Option Refusal) →
          verdict M size sizes (repeated M p g o a (suc left) (rest (place_at o a (suc left))) l)
          ≡ decided p k there (flown_due (spot_of M size g) o a left sizes l)
      unfolding repeated flown_places
      verdict_due a left None = by_segment a left (ltb segment (length sizes)) refl
      verdict_due a left (Some e) = unfold verdict in refl

  pub verdict_turn : fit_sizes sizes ≡ true → (p k : ℕ) (rest : Reg → ℕ → Listing Item) (o : ℕ) (t : Turn) →
      verdict M size sizes (listed M p k g o rest t)
      ≡ decided p k (λ to. verdict M size sizes (rest g to)) (flown_of (spot_of M size g) o sizes t)
  unfolding listed flown_of
  verdict_turn fit p k rest o (turn.On to) = refl
  verdict_turn fit p k rest o turn.Anew = refl
  verdict_turn fit p k rest o (turn.Due left a) = verdict_due p k (rest g) fit o a left (M.lack g)
  verdict_turn fit p k rest o turn.End = unfold verdict in ap pass (sym (add-one k))
  verdict_turn fit p k rest o (turn.Refused e) = unfold verdict in refl
