-- What comes back as it came, at the boundary: 19, a limit of 0, and a walk that has ended leave the bytes of the state and of the name as
-- they are. Assumes nothing.
use Prim.Native.Nat.{ℕ}
use mathlib.Core.Path.{◌≡◌, refl, sym, ap, ◌∙◌, subst}
use mathlib.Core.Bool.{Bool, true, false, cond, ◌&&◌}
use mathlib.Core.List.{List}
use native.Mathlib.Omega.{arith}
use borrow.Author.Tests.{eqb-true}
use lib.Dec.{eqb}
use lib.ListN.{length}
use Rattle.packed_trie.proofs.Carried.{whole, state_bytes_lem, carried}
use Rattle.packed_trie.proofs.Steps.{by_state}
use Rattle.packed_trie.proofs.Whole.{bytes_back, typed_at}
use Rattle.packed_trie.specs.Packed.{most, state_bytes, holds, state_at, item_words, item_long, answer_told, step_told, stepped}
use Rattle.packing.proofs.Whole.{Bytes}
use Rattle.packing.specs.Boundary.{item_told, end_told, more_told, unfit}
use Rattle.packing.specs.Fields.{is_set}
use Rattle.packing.specs.Words.{word_at, bytes_of}
use Rattle.trie.proofs.Course.{halts, InRange, out_stays}
use Rattle.trie.proofs.Stops as walk
use Rattle.trie.proofs.Typed.{Typed, TypedLent, typed_call}
use Rattle.trie.specs.Call.{Answer, export, more, end, refused, Outcome, seen, call}
use Rattle.trie.specs.Frames.{out_of_range}
use Rattle.trie.specs.declared.TrieWalk.{TrieWalk}

-- what a step answers and writes
abbrev Written : Type 0
Written = ℕ × List ℕ × List ℕ × List ℕ

module _ (s : List ℕ) (limit : ℕ) (state name item : List ℕ) where
  -- what is shown of each case holds of a step
  stepped_by : (Q : Written → Type 0) → Q (unfit, state, name, item)
      → (length item ≡ item_long → holds state ≡ true → Q (step_told (seen (call most s limit (state_at state) name))))
      → Q (stepped s limit state name item)
  unfolding stepped
  stepped_by Q u f = by (eqb (length item) item_long) (holds state) refl refl
    where
      by : (b c : Bool) → eqb (length item) item_long ≡ b → holds state ≡ c → Q (cond (b && c) (step_told (seen (call most s limit (state_at state) name))) (unfit, state, name, item))
      by true true l h = f (eqb-true (length item) item_long l) h
      by true false l h = u
      by false c l h = u

  -- a step that does not answer 19 is a call, in range
  record Fit : Type 0 where
    long : length item ≡ item_long
    held : holds state ≡ true
    range : InRange most s (length name) (state_at state)

  fit : ((stepped s limit state name item).0 ≡ unfit → ⊥) → Fit
  fit =
      stepped_by (λ (p : Written). (p.0 ≡ unfit → ⊥) → Fit) (λ n. absurd (n refl))
      (λ l h n. by l h n (out_of_range most (state_at state).places (state_at state).lengths (state_at state).depth (length s) (length name)) refl)
    where
      by : length item ≡ item_long → holds state ≡ true → ((step_told (seen (call most s limit (state_at state) name))).0 ≡ unfit → ⊥)
          → (out : Bool) → out_of_range most (state_at state).places (state_at state).lengths (state_at state).depth (length s) (length name) ≡ out → Fit
      by l h n true e = absurd (n (ap (λ (o : Outcome). answer_told o.reply.answer) (out_stays most s limit (state_at state) name e)))
      by l h n false e = record { long = l; held = h; range = e }

  -- ---- 19

  is_refused : (a : Answer) → answer_told a ≡ unfit → a ≡ refused unfit
  is_refused (export len x) e = absurd (omega arith)
  is_refused more e = absurd (omega arith)
  is_refused end e = absurd (omega arith)
  is_refused (refused number) e = ap refused e

  -- 19 leaves state and name as they came
  pub returned : Bytes state → (stepped s limit state name item).0 ≡ unfit → ((stepped s limit state name item).1 ≡ state) × ((stepped s limit state name item).2 ≡ name)
  returned b =
      stepped_by (λ (p : Written). p.0 ≡ unfit → (p.1 ≡ state) × (p.2 ≡ name)) (λ e. (refl, refl))
      (λ l h e.
      let r = walk.returned most s limit (state_at state) name (is_refused (call most s limit (state_at state) name).reply.answer e) in
      (ap (λ (o : Outcome). state_bytes o.reply.walk) r ∙ bytes_back state b h, ap (λ (o : Outcome). o.buffer) r))

  -- what a step leaves of a state are bytes
  pub bytes_left : TypedLent s (length name) → Bytes state → Bytes (stepped s limit state name item).1
  bytes_left lent b =
      stepped_by (λ (p : Written). Bytes p.1) b
      (λ l h. let w = state_at state in state_bytes_lem (call most s limit w name).reply.walk (typed_call s limit w name lent (typed_at state b h)).typed)

-- ---- limit 0

-- a walk that has not ended says More, and nothing changes
pub waited : (s state name item : List ℕ) → Bytes state → ((stepped s 0 state name item).0 ≡ unfit → ⊥) → word_at state 1 ≡ 0
    → stepped s 0 state name item ≡ (more_told, state, name, bytes_of (item_words 0 more))
waited s state name item b n e =
    let f = fit s 0 state name item n in
    by_state s 0 state name item f.long f.held
    ∙ ap (λ (o : Outcome). step_told (seen o)) (walk.waited most s (state_at state) name f.range (ap is_set e))
    ∙ ap (λ (z : List ℕ). (more_told, z, name, bytes_of (item_words 0 more))) (bytes_back state b f.held)

-- ---- after the end or a refusal

module _ (s : List ℕ) (limit : ℕ) (state name item : List ℕ) (lent : TypedLent s (length name)) (b : Bytes state) (not-item : (stepped s limit state name item).0 ≡ item_told → ⊥)
    (not_more : (stepped s limit state name item).0 ≡ more_told → ⊥) (not-unfit : (stepped s limit state name item).0 ≡ unfit → ⊥) where
  abbrev w : TrieWalk
  w = state_at state

  abbrev v : TrieWalk
  v = (call most s limit w name).reply.walk

  fits : Fit s limit state name item
  fits = fit s limit state name item not-unfit

  is_call : stepped s limit state name item ≡ step_told (seen (call most s limit w name))
  is_call = by_state s limit state name item fits.long fits.held

  left : (stepped s limit state name item).1 ≡ state_bytes v
  left = ap (λ (p : Written). p.1) is_call

  typed : Typed v
  typed = (typed_call s limit w name lent (typed_at state b fits.held)).typed

  halted : halts (call most s limit w name).reply.answer ≡ true
  halted =
      by (call most s limit w name).reply.answer
      (λ e. not-item (ap (λ (p : Written). p.0) is_call ∙ e))
      (λ e. not_more (ap (λ (p : Written). p.0) is_call ∙ e))
    where
      by : (a : Answer) → (answer_told a ≡ item_told → ⊥) → (answer_told a ≡ more_told → ⊥) → halts a ≡ true
      by (export len x) f g = absurd (f refl)
      by more f g = absurd (g refl)
      by end f g = refl
      by (refused number) f g = refl

  module _ (t : List ℕ) (k : ℕ) (c i : List ℕ) where
    ends : length i ≡ item_long → InRange most t (length c) v → stepped t k (state_bytes v) c i ≡ (end_told, state_bytes v, c, bytes_of (item_words 0 end))
    ends l r = carried v typed t k c i l ∙ ap (λ (o : Outcome). step_told (seen o)) (walk.kept most s limit w name fits.range halted t k c r)

    -- every call that does not answer 19 says End, with any bytes, limit and buffers, and nothing changes
    pub stays : ((stepped t k (stepped s limit state name item).1 c i).0 ≡ unfit → ⊥)
        → stepped t k (stepped s limit state name item).1 c i ≡ (end_told, (stepped s limit state name item).1, c, bytes_of (item_words 0 end))
    stays =
        subst (λ (z : List ℕ). ((stepped t k z c i).0 ≡ unfit → ⊥) → stepped t k z c i ≡ (end_told, z, c, bytes_of (item_words 0 end))) (sym left)
        (λ n. let f = fit t k (state_bytes v) c i n in ends f.long (subst (InRange most t (length c)) (whole v typed) f.range))

  -- and none does with the same trie, and a name buffer as long
  pub stays_same : (k : ℕ) (c i : List ℕ) → length c ≡ length name → length i ≡ item_long
      → stepped s k (stepped s limit state name item).1 c i ≡ (end_told, (stepped s limit state name item).1, c, bytes_of (item_words 0 end))
  stays_same k c i l m =
      subst (λ (z : List ℕ). stepped s k z c i ≡ (end_told, z, c, bytes_of (item_words 0 end))) (sym left)
      (ends s k c i m (subst (λ (room : ℕ). InRange most s room v) (sym l) (walk.kept_range most s limit w name fits.range halted)))
