-- What is put into the name buffer: one turn of the loop that copies. For `search`. Assumes nothing.
use Prim.Native.Nat.{ℕ, ◌+◌, ◌≤◌, ◌<◌}
use mathlib.Core.Path.{◌≡◌, refl, sym, ap, ◌∙◌}
use mathlib.Core.List.{List, ◌++◌}
use native.Mathlib.Numerals.{add-one}
use native.Mathlib.Omega.{arith}
use borrow.Author.Tests.{le-leb, lt-leb}
use lib.ListN.{length, get_or, set, take, drop, length-set}
use lib.Seq.{paste, paste-zero, paste-suc, take_all}
use Rattle.trie.specs.Call.{put}

-- i bytes are copied
pub record Copied (bytes before : List ℕ) (at : ℕ) (buffer : List ℕ) (i : ℕ) : Type 0 where
  pub few : i ≤ length bytes
  pub fits : at + length bytes ≤ length before
  pub long : length buffer ≡ length before
  pub same : buffer ≡ paste before at bytes i

module _ (bytes before : List ℕ) (at : ℕ) where
  pub not_put : length before < at + length bytes → before ≡ put bytes before at
  unfolding put
  not_put h = rw (lt-leb (at + length bytes) (length before) h)

  pub copies : at + length bytes ≤ length before → Copied bytes before at before 0
  copies h = record { few = omega arith; fits = h; long = refl; same = paste-zero before at bytes }

module _ {bytes before : List ℕ} {at : ℕ} {buffer : List ℕ} {i : ℕ} (c : Copied bytes before at buffer i) where
  pub copies_on : i < length bytes → Copied bytes before at (set buffer (at + i) (get_or bytes i 0)) (i + 1)
  copies_on h =
      record {
        few = omega arith;
        fits = c.fits;
        long = length-set buffer (at + i) (get_or bytes i 0) ∙ c.long;
        same = ap (λ (b : List ℕ). set b (at + i) (get_or bytes i 0)) c.same
            ∙ paste-suc before at bytes i 0 (omega (arith, c.fits)) h
            ∙ ap (paste before at bytes) (sym (add-one i));
      }

  pub copied : length bytes ≤ i → buffer ≡ put bytes before at
  unfolding put
  copied h =
      let e : i ≡ length bytes = omega (arith, c.few) in
      rw (le-leb (at + length bytes) (length before) c.fits)
      (c.same ∙ ap (paste before at bytes) e ∙ ap (λ (l : List ℕ). take at before ++ l ++ drop (at + length bytes) before) (take_all (length bytes) bytes (omega arith)))

pub ruleset putting = (not_put, copies, copies_on, copied)
