-- The words of an item are read from its bytes as they were written. Assumes nothing.
use Prim.Native.Nat.{ℕ, zero, suc, ◌+◌, ◌≤◌}
use mathlib.Core.Path.{◌≡◌, ap, ◌∙◌, subst}
use mathlib.Core.List.{List, [], ◌∷◌}
use native.Mathlib.Omega.{arith}
use lib.ListN.{length, get_or}
use Rattle.packed_trie.proofs.Steps.{six, nine}
use Rattle.packed_trie.specs.Packed.{target_words, export_words, item_words, item_long}
use Rattle.packing.proofs.Back.{word_back}
use Rattle.packing.proofs.Whole.{words_back}
use Rattle.packing.proofs.Words.{length-bytes}
use Rattle.packing.specs.Fields.{u64}
use Rattle.packing.specs.Words.{word_at, words_from, bytes_of}
use Rattle.nodes.proofs.Exports.{TargetIn, ExportIn}
use Rattle.trie.specs.Call.{Answer}
use Rattle.nodes.specs.Exported.{Target, regular, reexport, stub_and_resolver, Exported}

pub item_long_lem : (n : ℕ) (a : Answer) → length (bytes_of (item_words n a)) ≡ item_long
item_long_lem n a = length-bytes (item_words n a) ∙ nine n a

-- numbers that are all below 2^64
abbrev Small : List ℕ → Type 0
Small [] = Unit {0}
Small (v ∷ vs) = (v ≤ u64) × Small vs

small_at : (vs : List ℕ) → Small vs → (i : ℕ) → get_or vs i 0 ≤ u64
small_at [] h i = omega arith
small_at (v ∷ vs) h zero = h.0
small_at (v ∷ vs) h (suc i) = small_at vs h.1 i

-- ---- the visits, and what is behind them

module _ (n : ℕ) (vs : List ℕ) where
  pub first_word : n ≤ u64 → word_at (bytes_of (n ∷ vs)) 0 ≡ n
  first_word h = word_back (n ∷ vs) 0 (omega arith) h

  later_words : Small vs → words_from (bytes_of (n ∷ vs)) 1 (length vs) ≡ vs
  later_words h =
      words_back (bytes_of (n ∷ vs)) vs 1
      (λ i l. let e : 1 + i ≡ suc i = omega arith in ap (word_at (bytes_of (n ∷ vs))) e ∙ word_back (n ∷ vs) (suc i) (omega arith) (small_at vs h i))

-- ---- an export

target_small : (bytes : ℕ) → bytes ≤ u64 → (x : Target) → TargetIn bytes x → Small (target_words x)
target_small bytes l (regular address) h = (omega arith, (omega arith, (omega arith, (omega arith, (omega arith, (omega arith, tt))))))
target_small bytes l (reexport ordinal place len) h =
    (omega arith, (omega arith, (omega arith, (omega (arith, h.0), (omega (arith, h.1), (omega (arith, h.1), tt))))))
target_small bytes l (stub_and_resolver stub resolver) h =
    (omega arith, (omega (arith, h.0), (omega (arith, h.1), (omega arith, (omega arith, (omega arith, tt))))))

module _ (n len : ℕ) (x : Exported) (few : len ≤ u64) where
  pub name_word : word_at (bytes_of (n ∷ export_words len x)) 1 ≡ len
  name_word = word_back (n ∷ export_words len x) 1 (omega arith) few

  pub export_words_lem : (bytes : ℕ) → bytes ≤ u64 → ExportIn bytes x → words_from (bytes_of (n ∷ export_words len x)) 1 8 ≡ export_words len x
  export_words_lem bytes l h =
      let e : length (export_words len x) ≡ 8 = omega (arith, six x.target) in
      subst (λ (k : ℕ). words_from (bytes_of (n ∷ export_words len x)) 1 k ≡ export_words len x) e
      (later_words n (export_words len x) (few, (omega (arith, h.flags), target_small bytes l x.target h.target)))
