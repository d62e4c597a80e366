-- A preflight at the boundary, by what its parts answered. Assumes nothing.
use Prim.Native.Nat.{ℕ, ◌+◌, ◌/◌, ◌%◌, ◌<◌, min}
use mathlib.Core.Path.{◌≡◌, refl, sym, ap, ◌∙◌}
use mathlib.Core.List.{List}
use native.Mathlib.Decide.{dec_lt}
use native.Mathlib.Omega.{arith}
use borrow.Author.Tests.{lt-leb, eq-eqb, ne_eqb}
use lib.ListN.{length, take, get_or}
use Rattle.listing.proofs.Starts.{no_size}
use Rattle.listing.specs.Machine.{Machine}
use Rattle.packing.proofs.Boundary.{two}
use Rattle.packing.proofs.Crossing.{overwrites}
use Rattle.packing.proofs.Whole.{words_back}
use Rattle.packing.proofs.Words.{length-words, take_words}
use Rattle.packing.specs.Boundary.{unfit}
use Rattle.packing.specs.Words.{words_from, word_at, bytes_of, written}
use Rattle.packed_preflight.specs.Packed.{sizes_of, verdict_told, flown, IsPreflight}
use Rattle.preflight.specs.Told.{told}
use Rattle.preflight.specs.Verdict.{Verdict, with_sizes, preflight}
use Rattle.preflight.specs.declared.Fault.{Fault}
use Rattle.std.specs.Prelude.{Result}

-- the preflight of every machine, from every start, is one
pub is_preflight : {Op Reg Item : Type 0} (M : Machine Op Reg Item) (start : Reg) → IsPreflight (preflight M start)
unfolding preflight with_sizes
is_preflight M start =
    record {
      large = λ size sizes s h. rw (no_size h);
      many = λ size some others s h k. rw (lt-leb (length some) 16 h, lt-leb (length others) 16 k);
    }

-- the first words, read one by one
pub reads_each : (s words : List ℕ) (n : ℕ) → length words ≡ n → ((i : ℕ) → i < n → get_or words i 0 ≡ word_at s i) → words ≡ words_from s 0 n
reads_each s words n l h =
    sym (words_back s words 0 (λ i k. let z : 0 + i ≡ i = omega arith in ap (word_at s) z ∙ sym (h i (omega (arith, l)))))
    ∙ ap (words_from s 0) l

module _ {flight : ℕ → List ℕ → List ℕ → Verdict} (is : IsPreflight flight) (size : ℕ) (sizes s : List ℕ) where
  -- of more than sixteen sizes, seventeen say what all say
  pub flies : {v : Verdict} (n : ℕ) (words : List ℕ) → words ≡ words_from sizes 0 17 → n ≡ min (length sizes / 8) 17 →
      v ≡ flight size (take n words) s → v ≡ flight size (sizes_of sizes) s
  flies {v} n words e q f =
      let k : ℕ = length sizes / 8 in
      let read : v ≡ flight size (words_from sizes 0 n) s =
      f ∙ ap (λ (zs : List ℕ). flight size zs s) (ap (take n) e ∙ take_words sizes 0 n 17 (omega arith)) in
      elim (dec_lt k 17) [
        | yes h ↦ let m : n ≡ k = omega arith in read ∙ ap (λ (i : ℕ). flight size (words_from sizes 0 i) s) m
        | no h ↦
            read
            ∙ is.many size (words_from sizes 0 n) (sizes_of sizes) s (omega (arith, length-words sizes 0 n)) (omega (arith, length-words sizes 0 k))
      ]

-- ---- what is lent, and what is written

module _ (flight : ℕ → List ℕ → List ℕ → Verdict) (s : List ℕ) (size : ℕ) (sizes verdict : List ℕ) where
  pub verdict_unfit : {r : ℕ} → r ≡ unfit → (length verdict ≡ 16 → ⊥) → ◌≡◌ {A = ℕ × List ℕ} (r, verdict) (flown flight s size sizes verdict)
  unfolding flown
  verdict_unfit e h = two e refl ∙ rw (ne_eqb (length verdict) 16 h)

  module _ (l : length verdict ≡ 16) where
    pub sizes_unfit : {r : ℕ} → r ≡ unfit → (length sizes % 8 ≡ 0 → ⊥) → ◌≡◌ {A = ℕ × List ℕ} (r, verdict) (flown flight s size sizes verdict)
    unfolding flown
    sizes_unfit e h = two e refl ∙ rw (eq-eqb (length verdict) 16 l, ne_eqb (length sizes % 8) 0 h)

    pub flown_as : (v : Verdict) {y : ℕ × List ℕ} → length sizes % 8 ≡ 0 →
        y ≡ verdict_told v → v ≡ flight size (sizes_of sizes) s → y ≡ flown flight s size sizes verdict
    unfolding flown
    flown_as v h e q = rw (eq-eqb (length verdict) 16 l, eq-eqb (length sizes % 8) 0 h) (e ∙ ap verdict_told q)

pub tells : {v q : Result ℕ Fault} {number : ℕ} {s : List ℕ} (words verdict : List ℕ) → v ≡ q → length verdict ≡ 16 → length words ≡ 2 →
    s ≡ written words verdict → ◌≡◌ {A = ℕ × List ℕ} (number, bytes_of words) (verdict_told (told q)) →
    ◌≡◌ {A = ℕ × List ℕ} (number, s) (verdict_told (told v))
tells words verdict e l k f g =
    two refl (overwrites 2 words verdict k l refl f) ∙ g ∙ ap (λ (x : Result ℕ Fault). verdict_told (told x)) (sym e)
