-- Words and bytes written one part behind the other, and a state that is read. Assumes nothing.
use Prim.Native.Nat.{ℕ, suc, ◌+◌, ◌-◌, ◌*◌, ◌≤◌}
use mathlib.Core.Path.{◌≡◌, refl, sym, ap, ◌∙◌}
use mathlib.Core.List.{List, [], ◌∷◌, ◌++◌, append_assoc, append-nil}
use native.Mathlib.Omega.{arith}
use lib.ListN.{length, take, drop, set, length-append, length-drop, length-take, drop_of_length-le}
use lib.Seq.{sets, sets-eq, take_all, take_at, drop_at, drop-drop}
use Rattle.packed_trie.specs.Packed.{most, places, offsets, lengths, left, state_long, state_words, state_bytes, state_at}
use Rattle.packing.proofs.Boundary.{over}
use Rattle.packing.proofs.Words.{length-bytes}
use Rattle.packing.specs.Fields.{is_set, bit}
use Rattle.packing.specs.Words.{words_from, word_at, word_bytes, bytes_of, written}
use Rattle.trie.specs.declared.TrieWalk.{TrieWalk}

-- ---- written

-- words written over a part
pub put_as : (words state : List ℕ) (first : ℕ) {t : List ℕ} → 8 * (first + length words) ≤ length state → t ≡ written words (take (8 * first + 8 * length words - 8 * first) (drop (8 * first) state))
    → take (8 * first) state ++ (t ++ drop (8 * first + 8 * length words - 8 * first) (drop (8 * first) state)) ≡ sets state (8 * first) (bytes_of words)
put_as words state first {t} h e =
    let at : ℕ = 8 * first in
    let n : ℕ = 8 * length words in
    let k : at + n - at ≡ n = omega arith in
    let l : length (take n (drop at state)) ≡ n = omega (arith, length-take n (drop at state), length-drop at state) in
    let b = length-bytes words in
    let f : t ≡ bytes_of words = over (take n (drop at state)) words words (e ∙ ap (λ (m : ℕ). written words (take m (drop at state))) k) refl l in
    let r : drop (at + n - at) (drop at state) ≡ drop (at + length (bytes_of words)) state =
    ap (λ (m : ℕ). drop m (drop at state)) k ∙ drop-drop n at state ∙ ap (λ (m : ℕ). drop (at + m) state) (sym b) in
    (λ j. take at state ++ (f j ++ r j))
    ∙ sym (append_assoc (take at state) (bytes_of words) (drop (at + length (bytes_of words)) state))
    ∙ sym (sets-eq (bytes_of words) state at (omega (arith, b)))

-- words written behind words
sets_append : (u v s : List ℕ) (at : ℕ) → sets s at (u ++ v) ≡ sets (sets s at u) (at + length u) v
sets_append [] v s at = let e : at + 0 ≡ at = omega arith in rw e
sets_append (x ∷ u) v s at = let e : at + suc (length u) ≡ suc at + length u = omega arith in rw e (sets_append u v (set s at x) (suc at))

bytes_append : (vs ws : List ℕ) → bytes_of (vs ++ ws) ≡ bytes_of vs ++ bytes_of ws
unfolding bytes_of
bytes_append [] ws = refl
bytes_append (v ∷ vs) ws = ap (λ (l : List ℕ). word_bytes v ++ l) (bytes_append vs ws) ∙ sym (append_assoc (word_bytes v) (bytes_of vs) (bytes_of ws))

behind : (s vs ws : List ℕ) (at : ℕ) {t u : List ℕ} → 8 * length vs ≡ at → t ≡ sets s 0 (bytes_of vs) → u ≡ sets t at (bytes_of ws) → u ≡ sets s 0 (bytes_of (vs ++ ws))
behind s vs ws at l e f =
    let m : at ≡ 0 + length (bytes_of vs) = omega (arith, length-bytes vs) in
    f
    ∙ (λ j. sets (e j) (m j) (bytes_of ws))
    ∙ sym (sets_append (bytes_of vs) (bytes_of ws) s 0)
    ∙ ap (sets s 0) (sym (bytes_append vs ws))

-- a state: its words, and behind them its bytes
module _ (w : TrieWalk) (s : List ℕ) (long : length s ≡ state_long) (p : length w.places ≡ most) (o : length w.offsets ≡ most) (l : length w.lengths ≡ most) where
  pub kept : {x : ℕ} {t₁ t₂ t₃ t₄ v : List ℕ} → x ≡ bit w.ended → t₁ ≡ sets s 0 (bytes_of (w.depth ∷ x ∷ [])) → t₂ ≡ sets t₁ (8 * places) (bytes_of w.places) → t₃ ≡ sets t₂ (8 * offsets) (bytes_of w.offsets)
      → t₄ ≡ sets t₃ (8 * lengths) (bytes_of w.lengths) → v ≡ w.left → take left t₄ ++ (v ++ drop most (drop left t₄)) ≡ state_bytes w
  unfolding state_bytes
  kept {t₄ = t₄} ex e₁ e₂ e₃ e₄ e₅ =
      let head : List ℕ = w.depth ∷ bit w.ended ∷ [] in
      let u : List ℕ = bytes_of (state_words w) in
      let n₁ = length-append w.places w.offsets in
      let n₂ = length-append (w.places ++ w.offsets) w.lengths in
      let m : length u ≡ left = omega (arith, length-bytes (state_words w)) in
      let z : 0 + length u ≡ left = omega arith in
      let f₁ = e₁ ∙ (λ j. sets s 0 (bytes_of (w.depth ∷ ex j ∷ []))) in
      let f₂ = behind s head w.places (8 * places) refl f₁ e₂ in
      let f₃ = behind s (head ++ w.places) w.offsets (8 * offsets) (omega arith) f₂ e₃ in
      let f₄ = behind s (head ++ w.places ++ w.offsets) w.lengths (8 * lengths) (omega arith) f₃ e₄ in
      let all : t₄ ≡ u ++ drop left s = f₄ ∙ sets-eq u s 0 (omega arith) ∙ ap (λ (n : ℕ). u ++ drop n s) z in
      let front : take left t₄ ≡ u = ap (take left) all ∙ take_at u (drop left s) left m in
      let none : drop most (drop left t₄) ≡ [] =
      ap (λ (t : List ℕ). drop most (drop left t)) all
      ∙ ap (drop most) (drop_at u (drop left s) left m)
      ∙ drop_of_length-le (drop left s) {i = most} (omega (arith, length-drop left s)) in
      (λ j. front j ++ (e₅ j ++ none j)) ∙ ap (λ (t : List ℕ). u ++ t) (append-nil w.left)

-- ---- read

pub held_as : (s : List ℕ) {ps os cs ls : List ℕ} {depth v : ℕ} → length s ≡ state_long → ps ≡ words_from s places most → os ≡ words_from s offsets most → ls ≡ words_from s lengths most → cs ≡ take most (drop left s) → depth ≡ word_at s 0 → v ≡ word_at s 1
    → ◌≡◌ {A = TrieWalk} (record { places = ps; offsets = os; lengths = ls; depth = depth; left = cs; ended = is_set v }) (state_at s)
held_as s l e₁ e₂ e₃ e₄ e₅ e₆ =
    let f = e₄ ∙ take_all most (drop left s) (omega (arith, length-drop left s)) in
    λ j. record { places = e₁ j; offsets = e₂ j; lengths = e₃ j; depth = e₅ j; left = f j; ended = is_set (e₆ j) }
