-- Reading is local: what is read at a place depends only on the bytes up to the place behind it. The laws are about the definitions alone.
-- Assumes nothing.
use Prim.Native.Nat.{ℕ, ◌+◌, ◌≤◌, ◌<◌}
use mathlib.Core.Path.{◌≡◌, refl, ap, sym, ◌∙◌, subst}
use mathlib.Core.Bool.{Bool, true, false, cond, ◌||◌}
use mathlib.Core.List.{List, [], ◌∷◌, ◌++◌}
use native.Mathlib.Omega.{arith}
use borrow.Author.Tests.{lt-ltb, le-ltb, le-leb, ltb-false, ne_eqb}
use lib.Dec.{leb, ltb, eqb}
use lib.IntN.{ℤ}
use lib.ListN.{length, get_or, take, drop, length-take, length-drop, take-append-drop, get_or-append}
use lib.Seq.{length-take-le, take-append-le, take-take, take-add, drop_at, get_or-take}
use Rattle.numbers.specs.Digits.{from_digits}
use Rattle.numbers.specs.Leb128.{is_last, bytes_at, tenth, uleb_of, uleb_at, sleb_of, sleb_at}
use Rattle.numbers.specs.LittleEndian.{little_endian, field_at}
use Rattle.numbers.specs.Parts.{part_of}
use Rattle.numbers.specs.Passed.{behind}
use Rattle.numbers.specs.Spans.{Span, span, unended, in_front, span_to}
use Rattle.numbers.specs.Strings.{is_nul, string_of, string_at}
use Rattle.std.specs.Prelude.{Option, Some, None}
use Rattle.numbers.specs.declared.parts.Part.{Part}
use Rattle.numbers.proofs.Picks.{by_pick}
use Rattle.numbers.proofs.Spans.{behind_none, goes_before, is_span, length_snoc}

-- ---- bytes that are the same up to a place

module _ (s r : List ℕ) where
  -- they are the same up to any place before it
  pub same_less : (n : ℕ) {to : ℕ} → to ≤ n → take n r ≡ take n s → take to r ≡ take to s
  same_less n {to} h e = sym (take-take to n r h) ∙ ap (take to) e ∙ take-take to n s h

  -- where the place lies in the one, it does in the other
  pub same_inside : {to : ℕ} → to ≤ length s → take to r ≡ take to s → to ≤ length r
  same_inside {to} h e = omega (arith, length-take to r, ap length e, length-take-le to s h)

between : (at n : ℕ) (s : List ℕ) → at ≤ length s → drop at (take (at + n) s) ≡ take n (drop at s)
between at n s h = ap (drop at) (take-add at n s) ∙ drop_at (take at s) (take n (drop at s)) at (length-take-le at s h)

-- ---- what is read of some bytes is decided by those up to a place: all bytes that are the same up to there give the same

pub record Decided {A : Type 0} (read : List ℕ → A) (s : List ℕ) (to : ℕ) : Type 0 where
  pub inside : to ≤ length s
  pub same : (r : List ℕ) → take to r ≡ take to s → read r ≡ read s

module _ {A : Type 0} {read : List ℕ → A} {s : List ℕ} {to : ℕ} (d : Decided read s to) where
  -- it is read with whatever bytes behind them
  pub with_more : (t : List ℕ) → read (s ++ t) ≡ read s
  with_more t = d.same (s ++ t) (take-append-le to s t d.inside)

  -- and with none behind them
  pub with_less : (n : ℕ) → to ≤ n → read (take n s) ≡ read s
  with_less n h = d.same (take n s) (take-take to n s h)

  -- more of the bytes decide it too
  abbrev pub later : (n : ℕ) → to ≤ n → n ≤ length s → Decided read s n
  later n h k = record { inside = k; same = λ r e. d.same r (same_less s r n h e) }

  -- where they are the same, they decide the same
  abbrev pub elsewhere : (r : List ℕ) → take to r ≡ take to s → Decided read r to
  elsewhere r e =
      record { inside = same_inside s r d.inside e; same = λ q f. d.same q (f ∙ e) ∙ sym (d.same r e) }

  -- they decide what is made of it
  abbrev pub decides : {B : Type 0} (make : A → B) → Decided (λ r. make (read r)) s to
  decides make = record { inside = d.inside; same = λ r e. ap make (d.same r e) }

-- bytes that decide what is read first, and what is read then, decide both
abbrev pub decides_then : {A B : Type 0} {read : List ℕ → A} {s : List ℕ} {to : ℕ} (go : List ℕ → A → B) → Decided read s to →
    Decided (λ r. go r (read s)) s to → Decided (λ r. go r (read r)) s to
decides_then go d c = record { inside = c.inside; same = λ r e. ap (go r) (d.same r e) ∙ c.same r e }

-- ---- a byte, some bytes, and whether they are there

module _ (s : List ℕ) where
  pub byte_local : (at : ℕ) → at < length s → Decided (λ r. get_or r at 0) s (at + 1)
  byte_local at h =
      record {
        inside = omega arith;
        same = λ r e. sym (get_or-take (at + 1) r at 0 (omega arith)) ∙ ap (λ (l : List ℕ). get_or l at 0) e ∙ get_or-take (at + 1) s at 0 (omega arith);
      }

  pub below_local : (at : ℕ) → at < length s → Decided (λ r. ltb at (length r)) s (at + 1)
  below_local at h =
      record {
        inside = omega arith;
        same = λ r e. lt-ltb at (length r) (let k : at + 1 ≤ length r = same_inside s r (omega arith) e in omega arith) ∙ sym (lt-ltb at (length s) h);
      }

  module _ (at n : ℕ) (h : at + n ≤ length s) where
    pub bytes_local : Decided (λ r. take n (drop at r)) s (at + n)
    bytes_local =
        record {
          inside = h;
          same = λ r e. let k = same_inside s r h e in sym (between at n r (omega arith)) ∙ ap (drop at) e ∙ between at n s (omega arith);
        }

    pub room_local : Decided (λ r. leb (at + n) (length r)) s (at + n)
    room_local =
        record {
          inside = h;
          same = λ r e. le-leb (at + n) (length r) (same_inside s r h e) ∙ sym (le-leb (at + n) (length s) h);
        }

-- ---- runs: one that ends is decided by its own bytes

module _ (ends : ℕ → Bool) where
  -- the bytes that some begin with are a span, whatever follows
  record Ended (s bs : List ℕ) : Type 0 where
    begins : take (length bs) s ≡ bs
    whatever : (t : List ℕ) → span_to ends (bs ++ t) ≡ span bs

  -- none of some bytes ends a span, which so goes on behind them
  record Open (s : List ℕ) : Type 0 where
    goes : (i : ℕ) → i < length s → ends (get_or s i 0) ≡ false
    onward : (t : List ℕ) → span_to ends (s ++ t) ≡ behind s (span_to ends t)

  abbrev Known : List ℕ → Span → Type 0
  Known s (span bs) = Ended s bs
  Known s unended = Open s

  ends_known : (b : ℕ) (s : List ℕ) → ends b ≡ true → Ended (b ∷ s) (b ∷ [])
  unfolding span_to
  ends_known b s e = record { begins = refl; whatever = λ t. rw e }

  before_behind : (b : ℕ) (s : List ℕ) (x : Span) → in_front b (behind s x) ≡ behind (b ∷ s) x
  before_behind b s (span bs) = refl
  before_behind b s unended = refl

  goes_known : (b : ℕ) (s : List ℕ) → ends b ≡ false → (x : Span) → Known s x → Known (b ∷ s) (in_front b x)
  unfolding span_to
  goes_known b s e (span bs) k =
      record { begins = ap (λ (l : List ℕ). b ∷ l) k.begins; whatever = λ t. rw e (ap (in_front b) (k.whatever t)) }
  goes_known b s e unended k =
      record {
        goes = goes_before ends b s e k.goes;
        onward = λ t. rw e (ap (in_front b) (k.onward t) ∙ before_behind b s (span_to ends t));
      }

  test_known : (b : ℕ) (s : List ℕ) (t : Bool) → ends b ≡ t → (x : Span) → Known s x → Known (b ∷ s) (cond t (span (b ∷ [])) (in_front b x))
  test_known b s true e x k = ends_known b s e
  test_known b s false e x k = goes_known b s e x k

  known : (s : List ℕ) → Known s (span_to ends s)
  unfolding span_to
  known [] = record { goes = λ i h. absurd (omega arith); onward = λ t. sym (behind_none (span_to ends t)) }
  known (b ∷ s) = test_known b s (ends b) refl (span_to ends s) (known s)

  ended_by : (s : List ℕ) {bs : List ℕ} → span_to ends s ≡ span bs → Ended s bs
  ended_by s e = subst (Known s) e (known s)

  open_by : (s : List ℕ) → span_to ends s ≡ unended → Open s
  open_by s e = subst (Known s) e (known s)

  -- bytes that do not end a span: it goes on behind them
  pub span_onward : (s t : List ℕ) → span_to ends s ≡ unended → span_to ends (s ++ t) ≡ behind s (span_to ends t)
  span_onward s t e = (open_by s e).onward t

  module _ (s : List ℕ) (at : ℕ) {bs : List ℕ} (e : span_to ends (drop at s) ≡ span bs) where
    span_inside : at + length bs ≤ length s
    span_inside =
        let i = is_span ends (drop at s) e in
        omega (arith, ap length i.split ∙ length_snoc i.passed i.last, i.inside, length-drop at s)

    span_same : (r : List ℕ) → take (length bs) (drop at r) ≡ take (length bs) (drop at s) → span_to ends (drop at r) ≡ span_to ends (drop at s)
    span_same r f =
        let k = ended_by (drop at s) e in
        let left = drop (length bs) (drop at r) in
        ap (span_to ends) (sym (take-append-drop (length bs) (drop at r)) ∙ ap (λ (l : List ℕ). l ++ left) (f ∙ k.begins))
        ∙ k.whatever left
        ∙ sym e

    pub span_local : Decided (λ r. span_to ends (drop at r)) s (at + length bs)
    span_local =
        let d = bytes_local s at (length bs) span_inside in
        record { inside = span_inside; same = λ r f. span_same r (d.same r f) }

-- what is made of a span, by cases: where it ends, its bytes decide it
module _ {A : Type 0} (ends : ℕ → Bool) (of : Span → A) (s : List ℕ) (at : ℕ) (P : A → Type 0) where
  by_span : ((bs : List ℕ) → Decided (λ r. of (span_to ends (drop at r))) s (at + length bs) → P (of (span bs))) → P (of unended) →
      P (of (span_to ends (drop at s)))
  by_span h bad = by (span_to ends (drop at s)) refl
    where
      by : (x : Span) → span_to ends (drop at s) ≡ x → P (of x)
      by (span bs) e = h bs (decides (span_local ends s at e) of)
      by unended e = bad

-- ---- LEB128: a number is decided by its bytes

module _ (s : List ℕ) (at : ℕ) where
  abbrev IfUleb : Option (ℕ × ℕ) → Type 0
  IfUleb (Some (v, next)) = Decided (λ r. uleb_at r at) s next
  IfUleb None = Unit {0}

  pub uleb_local : {v next : ℕ} → uleb_at s at ≡ Some (v, next) → Decided (λ r. uleb_at r at) s next
  unfolding uleb_at
  uleb_local e = subst IfUleb e (by_span is_last (uleb_of at) s at IfUleb (λ bs d. by_pick IfUleb (ltb (tenth bs) 2) _ _ d tt) tt)

  abbrev IfSleb : Option (ℤ × ℕ) → Type 0
  IfSleb (Some (v, next)) = Decided (λ r. sleb_at r at) s next
  IfSleb None = Unit {0}

  pub sleb_local : {v : ℤ} {next : ℕ} → sleb_at s at ≡ Some (v, next) → Decided (λ r. sleb_at r at) s next
  unfolding sleb_at
  sleb_local e =
      subst IfSleb e
      (by_span is_last (sleb_of at) s at IfSleb (λ bs d. by_pick IfSleb (eqb (tenth bs) 0x00 || eqb (tenth bs) 0x7f) _ _ d tt) tt)

-- ---- ten bytes decide what the number is, or that there is none. (Where there are fewer and none is the last, more may mend it.)

module _ {A : Type 0} (of : Span → A) (long : (bs : List ℕ) → 128 ≤ tenth bs → of (span bs) ≡ of unended)
    (s : List ℕ) (at : ℕ) (h : at + 10 ≤ length s) where
  abbrev ten : List ℕ → List ℕ
  ten r = take 10 (drop at r)

  from_ten : (r : List ℕ) → drop at r ≡ ten r ++ drop 10 (drop at r)
  from_ten r = sym (take-append-drop 10 (drop at r))

  there_are_ten : length (ten s) ≡ 10
  there_are_ten = length-take-le 10 (drop at s) (omega (arith, length-drop at s))

  goes_past : Open is_last (ten s) → (x : Span) → of (behind (ten s) x) ≡ of unended
  goes_past o (span bs) =
      long (ten s ++ bs)
      (let l = ltb-false (tenth (ten s)) 128 (o.goes 9 (omega (arith, there_are_ten))) in
      omega (arith, l, get_or-append (ten s) bs 0 9 (omega (arith, there_are_ten))))
  goes_past o unended = refl

  none_of : Open is_last (ten s) → (r : List ℕ) → ten r ≡ ten s → of (bytes_at r at) ≡ of unended
  none_of o r e =
      let left = drop 10 (drop at r) in
      ap of (ap (span_to is_last) (from_ten r ∙ ap (λ (l : List ℕ). l ++ left) e) ∙ o.onward left)
      ∙ goes_past o (span_to is_last left)

  by_ten : (x : Span) → span_to is_last (ten s) ≡ x → Decided (λ r. of (bytes_at r at)) s (at + 10)
  by_ten (span bs) e =
      let f = ap (span_to is_last) (from_ten s) ∙ with_more (span_local is_last (ten s) 0 e) (drop 10 (drop at s)) ∙ e in
      later (decides (span_local is_last s at f) of) (at + 10) (omega (arith, span_inside is_last (ten s) 0 e, there_are_ten)) h
  by_ten unended e =
      let o = open_by is_last (ten s) e in
      let d = bytes_local s at 10 h in
      record { inside = h; same = λ r f. none_of o r (d.same r f) ∙ sym (none_of o s refl) }

  ten_local : Decided (λ r. of (bytes_at r at)) s (at + 10)
  ten_local = by_ten (span_to is_last (ten s)) refl

module _ (s : List ℕ) (at : ℕ) (h : at + 10 ≤ length s) where
  pub uleb_ten : Decided (λ r. uleb_at r at) s (at + 10)
  unfolding uleb_at
  uleb_ten = ten_local (uleb_of at) (λ bs l. rw (le-ltb (tenth bs) 2 (omega arith))) s at h

  pub sleb_ten : Decided (λ r. sleb_at r at) s (at + 10)
  unfolding sleb_at
  sleb_ten = ten_local (sleb_of at) (λ bs l. rw (ne_eqb (tenth bs) 0x00 (λ e. omega (arith, e)), ne_eqb (tenth bs) 0x7f (λ e. omega (arith, e)))) s at h

-- ---- strings: one is decided by its bytes and its NUL. (Where there is no NUL, one may follow.)

module _ (s : List ℕ) (at : ℕ) where
  abbrev IfString : Option (Part × ℕ) → Type 0
  IfString (Some (part, next)) = Decided (λ r. string_at r at) s next
  IfString None = Unit {0}

  pub string_local : {part : Part} {next : ℕ} → string_at s at ≡ Some (part, next) → Decided (λ r. string_at r at) s next
  unfolding string_at
  string_local e = subst IfString e (by_span is_nul (string_of at) s at IfString (λ bs d. d) tt)

-- ---- fields and parts, where they lie in the bytes

module _ (s : List ℕ) (at n : ℕ) (h : at + n ≤ length s) where
  pub field_local : Decided (λ r. field_at n r at) s (at + n)
  unfolding field_at little_endian
  field_local =
      decides_then (λ r t. cond t (Some (from_digits 256 (take n (drop at r)), at + n)) None) (room_local s at n h)
      (decides (bytes_local s at n h) (λ l. cond (leb (at + n) (length s)) (Some (from_digits 256 l, at + n)) None))

  pub part_local : Decided (λ r. part_of r at n) s (at + n)
  unfolding part_of
  part_local =
      decides_then (λ r t. cond t (take n (drop at r)) []) (room_local s at n h)
      (decides (bytes_local s at n h) (λ l. cond (leb (at + n) (length s)) l []))
