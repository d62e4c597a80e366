-- Calls through the entry point say what calls of the walk say; from a start, what the trie lists. Assumes nothing.
use Prim.Native.Nat.{ℕ, suc, ◌+◌, ◌≤◌, ◌<◌}
use mathlib.Core.Path.{◌≡◌, refl, sym, ap, ◌∙◌, subst}
use mathlib.Core.Bool.{true}
use mathlib.Core.List.{List, [], ◌∷◌, ◌++◌, map, map-append}
use Rattle.std.specs.Prelude.{Option, None, Some}
use native.Mathlib.Omega.{arith}
use borrow.Author.Tests.{eq-eqb, ne_eqb}
use lib.ListN.{length, take, get_or}
use lib.Seq.{length-take-le}
use Rattle.nodes.specs.Symbols.{Ending, exports_in, visits_in}
use Rattle.packed_trie.proofs.Carried.{carried}
use Rattle.packed_trie.proofs.Items.{item_long_lem, first_word, name_word, export_words_lem}
use Rattle.packed_trie.proofs.Whole.{bytes_back, typed_at}
use Rattle.packed_trie.specs.Calls.{SymbolWords, Said, said, join_through, calls_through, through_start, symbol_told, ending_told, joined_told}
use Rattle.packed_trie.specs.Packed.{most, state_long, state_bytes, state_at, holds, states, export_words, item_words, item_long, answer_told}
use Rattle.packing.proofs.Whole.{Bytes}
use Rattle.packing.specs.Boundary.{start_told, started}
use Rattle.packing.specs.Fields.{u64}
use Rattle.packing.specs.Words.{bytes_of}
use Rattle.runs.specs.Runs.{begun}
use Rattle.trie.proofs.Joined.{nonzero, joined_says, joined_starts, joined_all}
use Rattle.trie.proofs.Stops.{refused_number}
use Rattle.trie.proofs.Typed.{Typed, TypedLent, AnswerIn, typed_start, typed_call}
use Rattle.trie.specs.Call.{at_start, Answer, export, more, end, refused, call}
use Rattle.trie.specs.Joined.{Joined, join, calls, joined_in}
use Rattle.nodes.specs.Listing.{listing}
use Rattle.trie.specs.declared.TrieWalk.{TrieWalk}

-- ---- a call

-- so many visits were made, and the buffer was left as c
module _ (n : ℕ) (c : List ℕ) (few : n ≤ u64) (bytes : ℕ) (short : bytes ≤ u64) (small : length c ≤ u64) (rest : Joined) where
  join_says : (a : Answer) → AnswerIn bytes (length c) a → ((number : ℕ) → a ≡ refused number → (15 ≤ number) × (number ≤ 19))
      → join_through (answer_told a) c (bytes_of (item_words n a)) (joined_told rest) ≡ joined_told (join n c rest a)
  join_says (export len x) l g =
      let v = first_word n (export_words len x) few in
      let k : len ≤ u64 = omega (arith, l.0) in
      let m = name_word n len x k in
      let e = export_words_lem n len x k bytes short l.1 ∙ ap (λ (m : ℕ). export_words m x) (sym (length-take-le len c l.0)) in
      λ j. said (record { name = take (m j) c; words = e j } ∷ map symbol_told rest.exports) (v j + rest.visits) (ending_told rest.ending)
  join_says more l g =
      let v = first_word n _ few in
      λ j. said (map symbol_told rest.exports) (v j + rest.visits) (ending_told rest.ending)
  join_says end l g = ap (λ (k : ℕ). said [] k (Some 256)) (first_word n _ few)
  join_says (refused number) l g =
      let h = g number refl in
      rw (ne_eqb number 0 (λ e. omega (arith, h.0)), ne_eqb number 257 (λ e. omega (arith, h.1)))
      (ap (λ (k : ℕ). said [] k (Some number)) (first_word n _ few))

-- ---- calls one after another

-- with limits of 64 bits, from any state whose fields are such as their types have
module _ (s : List ℕ) where
  pub through : (ks : List ℕ) (w : TrieWalk) (b item : List ℕ) → TypedLent s (length b) → Typed w → length item ≡ item_long → ((i : ℕ) → get_or ks i 0 ≤ u64)
      → calls_through s (state_bytes w) b item ks ≡ joined_told (calls most s w b ks)
  unfolding calls_through calls
  through [] w b item lent t l m = refl
  through (k ∷ ks) w b item lent t l m =
      let p = call most s k w b in
      let r = typed_call s k w b lent t in
      let told = bytes_of (item_words p.reply.visits p.reply.answer) in
      ap (λ (q : ℕ × List ℕ × List ℕ × List ℕ). join_through q.0 q.2 q.3 (calls_through s q.1 q.2 q.3 ks)) (carried w t s k b item l)
      ∙ ap (join_through (answer_told p.reply.answer) p.buffer told)
      (through ks p.reply.walk p.buffer told (subst (TypedLent s) (sym r.long) lent) r.typed (item_long_lem p.reply.visits p.reply.answer) (λ i. m (suc i)))
      ∙ join_says p.reply.visits p.buffer (omega (arith, r.visits, m 0)) (length s) (omega (arith, lent.short)) (omega (arith, r.long, lent.small)) (calls most s p.reply.walk p.buffer ks) p.reply.answer
      (subst (λ (room : ℕ). AnswerIn (length s) room p.reply.answer) (sym r.long) r.answer) (λ number e. refused_number most s k w b e)

  -- so from any bytes that are those of a state, made up or not
  pub through_held : (ks state b item : List ℕ) → TypedLent s (length b) → Bytes state → holds state ≡ true → length item ≡ item_long → ((i : ℕ) → get_or ks i 0 ≤ u64)
      → calls_through s state b item ks ≡ joined_told (calls most s (state_at state) b ks)
  through_held ks state b item lent h e l m =
      ap (λ (z : List ℕ). calls_through s z b item ks) (sym (bytes_back state h e)) ∙ through ks (state_at state) b item lent (typed_at state h e) l m

-- ---- from a start: with any bytes, limits and name buffer, and any bytes lent for the state and the item

module _ (s state b item limits : List ℕ) (lent : TypedLent s (length b)) (fits : length state ≡ state_long) (long : length item ≡ item_long) (words : (i : ℕ) → get_or limits i 0 ≤ u64) where
  start_writes : started states state (begun (at_start most)) ≡ start_told states state (begun (at_start most))
  unfolding started
  start_writes = rw (eq-eqb (length state) state_long fits)

  -- they say what calls of the walk say
  pub through_calls : through_start s state b item limits ≡ joined_told (calls most s (at_start most) b limits)
  through_calls =
      ap (λ (q : ℕ × List ℕ). calls_through s q.1 b item limits) start_writes
      ∙ through s limits (at_start most) b item lent typed_start long words

  -- where they come to an end, what the trie lists: its exports, the number of its visits, its ending
  pub through_says : {n : ℕ} → (through_start s state b item limits).ending ≡ Some n
      → through_start s state b item limits ≡ joined_told (joined_in (listing s (length b) most))
  through_says {n} q = through_calls ∙ ap joined_told (by (calls most s (at_start most) b limits).ending refl (sym (ap (λ (x : Said). x.ending) through_calls) ∙ q))
    where
      by : (x : Option Ending) → (calls most s (at_start most) b limits).ending ≡ x → ending_told x ≡ Some n → calls most s (at_start most) b limits ≡ joined_in (listing s (length b) most)
      by None e f = let z : ◌≡◌ {A = ℕ} 0 1 = cc in absurd (omega arith)
      by (Some x) e f = joined_says most s b limits e

  -- where they do not, the first of its exports
  pub through_starts : (rest : List SymbolWords) × (map symbol_told (exports_in (listing s (length b) most)) ≡ (through_start s state b item limits).exports ++ rest)
  through_starts =
      let h = joined_starts most s b limits in
      let rest = map symbol_told h.0 in (
        rest,
        ap (map symbol_told) h.1
            ∙ map-append symbol_told (calls most s (at_start most) b limits).exports h.0
            ∙ ap (λ (x : Said). x.exports ++ rest) (sym through_calls),
      )

  -- they come to an end once more of their limits are not 0 than the trie lists visits
  pub through_all : visits_in (listing s (length b) most) < nonzero limits
      → through_start s state b item limits ≡ joined_told (joined_in (listing s (length b) most))
  through_all h = through_calls ∙ ap joined_told (joined_all most s b limits h)
