-- The verdict on a stream is its first fault, or its end, and so is what a preflight says: exactly if. Assumes nothing.
use Rattle.refusal.specs.declared.Refusal.{Refusal}
use Rattle.std.specs.Prelude.{Option, None, Some}
use Prim.Native.Nat.{ℕ, zero, suc, ◌+◌, ◌-◌, ◌<◌}
use mathlib.Core.Path.{◌≡◌, refl, ap, sym, ◌∙◌, subst}
use mathlib.Core.Bool.{Bool, true, false}
use mathlib.Core.List.{List}
use mathlib.Core.Logic.{⊎_elim}
use native.Mathlib.Nat.{eq-or-lt_of_le}
use native.Mathlib.Omega.{arith}
use Rattle.cursor.specs.Cursor.{is_pointer_size}
use Rattle.cursor.specs.declared.Turn.{Turn}
use Rattle.cursor.specs.declared.Turn.TheVariants.{On, Anew, Due, End, Refused}
use Rattle.listing.proofs.Streams.{behind, is_out, is_bad}
use Rattle.listing.specs.Listing.{Listing, places, repeated, listed, listing_of, listing}
use Rattle.listing.specs.Machine.{Machine}
use Rattle.listing.specs.Stream.{Stream, out, bad, one, before, stream_at}
use Rattle.operations.proofs.Rows.{no_byte}
use Rattle.places.specs.Places.{place_at}
use Rattle.preflight.specs.Faults.{
  inside_at,
  Clear,
  goes_on,
  anew,
  all_inside,
  Faulty,
  refused,
  lacking,
  outside,
  registers_by,
  turn_by,
  Comes,
  begins,
  over,
  FaultAt,
  unread,
  read,
  EndAt,
  no_more,
  done,
  FirstFault,
  Ends,
}
use Rattle.preflight.specs.Verdict.{Verdict, pass, fault, verdict, fit_sizes, with_sizes, preflight}
use Rattle.preflight.proofs.Legs.{flight, flight_by}

-- a test is true of all numbers below n, or there is the first of which it is false
first : {A : Type 0} (b : ℕ → Bool) (n : ℕ) → (((i : ℕ) → i < n → b i ≡ true) → A) →
    ((i : ℕ) → i < n → ((j : ℕ) → j < i → b j ≡ true) → b i ≡ false → A) → A
first b zero none some = none (λ i l. absurd (omega arith))
first {A} b (suc n) none some = first b n (λ h. by_last h (b n) refl) (λ i l. some i (omega arith))
  where
    by_last : ((i : ℕ) → i < n → b i ≡ true) → (c : Bool) → b n ≡ c → A
    by_last h true e = none (λ i l. ⊎_elim (λ (q : i ≡ n). ap b q ∙ e) (h i) (eq-or-lt_of_le (omega arith)))
    by_last h false e = some n (omega arith) h e

module _ {Op Reg Item : Type 0} (M : Machine Op Reg Item) (size : ℕ) (sizes : List ℕ) where
  -- ---- an operation

  module _ (g : Reg) (o : ℕ) where
    -- it has no fault, or one, or says the end
    by_turn : {A : Type 0} (t : Turn) → ((to : ℕ) → Clear M size sizes g o t to → A) → ((number index : ℕ) → Faulty M size sizes g o t number index → A) → (t ≡ End → A) → A
    by_turn (On to) clear faulty end = clear to goes_on
    by_turn Anew clear faulty end = clear 0 anew
    by_turn {A} (Due left a) clear faulty end = by_lack (M.lack g) refl
      where
        by_lack : (l : Option Refusal) → M.lack g ≡ l → A
        by_lack None e =
            first (inside_at M size sizes g o a) (suc left)
            (λ h. clear _ (all_inside e (λ i l. h i (omega arith))))
            (λ i l h f. faulty _ i (outside e (omega arith) h f))
        by_lack (Some r) e = faulty _ 0 (lacking e)
    by_turn End clear faulty end = end refl
    by_turn (Refused e) clear faulty end = faulty _ 0 refused

    -- places that are inside are passed over
    over_places : (p a : ℕ) (rest : Listing Item) (c n m : ℕ) → c + n ≡ m → ((j : ℕ) → j < c → inside_at M size sizes g o a j ≡ true) →
        verdict M size sizes (places M p g o a 0 m rest) ≡ verdict M size sizes (places M p g o a c n rest)
    unfolding verdict places
    over_places p a rest zero n m e h = let q : m ≡ n = omega arith in rw q
    over_places p a rest (suc c) n m e h =
        over_places p a rest c (suc n) m (omega arith) (λ j l. h j (omega arith)) ∙ rw (h c (omega arith), verdict)

    module _ (p k : ℕ) (rest : Reg → ℕ → Listing Item) where
      clear_only : {t : Turn} {to : ℕ} → Clear M size sizes g o t to → verdict M size sizes (listed M p k g o rest t) ≡ verdict M size sizes (rest g to)
      unfolding listed repeated places
      clear_only goes_on = refl
      clear_only anew = refl
      clear_only (all_inside {left} {advance} l h) =
          rw l (over_places p advance (rest g (place_at o advance (suc left))) (suc left) 0 (suc left) (omega arith) (λ j q. h j (omega arith)))

      faulty_only : {t : Turn} {number index : ℕ} → Faulty M size sizes g o t number index → verdict M size sizes (listed M p k g o rest t) ≡ fault number p index
      unfolding listed repeated verdict
      faulty_only refused = refl
      faulty_only (lacking l) = rw l
      faulty_only (outside {left} {advance} {index} l q h e) =
          rw l (over_places p advance (rest g (place_at o advance (suc left))) index (suc (left - index)) (suc left) (omega arith) h ∙ unfold places in rw (e, verdict))

  -- ---- a stream

  module _ (start : Reg) (s : List ℕ) where
    abbrev pub whole : Verdict
    whole = verdict M size sizes (listing M size start s)

    -- what stands where it comes to decides
    comes_only : {at k : ℕ} {g : Reg} {o : ℕ} → Comes M size sizes s start at k g o → whole ≡ flight M size sizes s at k g o
    unfolding listing listing_of before
    comes_only begins = refl
    comes_only (over {at} {k} {next} {offset} {to} {g} {op} c e t) =
        comes_only c
        ∙ flight_by M size sizes s at k g offset e
        ∙ clear_only (registers_by M size op g) offset at k (listing_of M size (stream_at M s next) (suc k)) t

    module _ (k : ℕ) {at : ℕ} {g : Reg} {o : ℕ} where
      fault_here : {number index : ℕ} → FaultAt M size sizes s at g o number index → flight M size sizes s at k g o ≡ fault number at index
      unfolding listing_of before
      fault_here (unread e) = flight_by M size sizes s at k g o e ∙ unfold verdict in refl
      fault_here (read {next} {number} {index} {op} e f) =
          flight_by M size sizes s at k g o e
          ∙ faulty_only (registers_by M size op g) o at k (listing_of M size (stream_at M s next) (suc k)) f

      end_here : {operations : ℕ} → EndAt M size sizes s at k g o operations → flight M size sizes s at k g o ≡ pass operations
      unfolding listing_of before verdict listed
      end_here (no_more l) = flight_by M size sizes s at k g o (sym (no_byte M.table s at l))
      end_here (done e f) = flight_by M size sizes s at k g o e ∙ rw f

    pub fault_only : {number position index : ℕ} → FirstFault M size sizes s start number position index → whole ≡ fault number position index
    fault_only f = comes_only f.comes ∙ fault_here f.k f.faults

    pub pass_only : {operations : ℕ} → Ends M size sizes s start operations → whole ≡ pass operations
    pass_only e = comes_only e.comes ∙ end_here e.k e.ends

    -- ---- every stream has a fault or an end

    abbrev Said : Verdict → Type 0
    Said (pass operations) = Ends M size sizes s start operations
    Said (fault number position index) = FirstFault M size sizes s start number position index

    faults_so : {number position index : ℕ} → FirstFault M size sizes s start number position index → Said whole
    faults_so f = subst Said (sym (fault_only f)) f

    ends_so : {operations : ℕ} → Ends M size sizes s start operations → Said whole
    ends_so e = subst Said (sym (pass_only e)) e

    said : (xs : Stream Op) (at k : ℕ) (g : Reg) (o : ℕ) → stream_at M s at ≡ xs → Comes M size sizes s start at k g o → Said whole
    said out at k g o same c = ends_so (record { at = at; k = k; registers = g; offset = o; comes = c; ends = no_more (is_out M s at same) })
    said (bad e position) at k g o same c =
        faults_so (record { k = k; registers = g; offset = o; comes = c; faults = unread (is_bad M s at same).parsed })
    said (one position op next rest) at k g o same c =
        let b = behind M s at same in
        by_turn (registers_by M size op g) o (turn_by M size op g o)
        (λ to t. said rest next (suc k) (registers_by M size op g) to b.same (over c b.parsed t))
        (λ number index f. faults_so (record { k = k; registers = g; offset = o; comes = c; faults = read b.parsed f }))
        (λ e. ends_so (record { at = at; k = k; registers = g; offset = o; comes = c; ends = done b.parsed e }))

    says : {v : Verdict} → whole ≡ v → Said v
    says e = subst Said e (said (stream_at M s 0) 0 0 start 0 refl begins)

    pub fault_at : {number position index : ℕ} → whole ≡ fault number position index → FirstFault M size sizes s start number position index
    fault_at e = says e

    pub pass_at : {operations : ℕ} → whole ≡ pass operations → Ends M size sizes s start operations
    pass_at e = says e

    -- ---- a preflight, where the pointer size and the sizes are fit

    module _ (sized : is_pointer_size size ≡ true) (fit : fit_sizes sizes ≡ true) where
      judged : preflight M start size sizes s ≡ whole
      unfolding preflight with_sizes
      judged = rw (sized, fit)

      pub preflight_fault_at : {number position index : ℕ} → preflight M start size sizes s ≡ fault number position index → FirstFault M size sizes s start number position index
      preflight_fault_at e = fault_at (sym judged ∙ e)

      pub preflight_fault_only : {number position index : ℕ} → FirstFault M size sizes s start number position index → preflight M start size sizes s ≡ fault number position index
      preflight_fault_only f = judged ∙ fault_only f

      pub preflight_pass_at : {operations : ℕ} → preflight M start size sizes s ≡ pass operations → Ends M size sizes s start operations
      preflight_pass_at e = pass_at (sym judged ∙ e)

      pub preflight_pass_only : {operations : ℕ} → Ends M size sizes s start operations → preflight M start size sizes s ≡ pass operations
      preflight_pass_only e = judged ∙ pass_only e
