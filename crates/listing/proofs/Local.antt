-- Reading a stream is local: the operations up to a place are those of all bytes that are the same up to there. The laws are about the
-- definitions alone. Assumes nothing.
use Prim.Native.Nat.{ℕ, ◌≤◌}
use mathlib.Core.Path.{◌≡◌, refl, ap, sym, ◌∙◌}
use mathlib.Core.List.{List, [], ◌∷◌, ◌++◌}
use native.Mathlib.Omega.{arith}
use lib.ListN.{length, take}
use lib.Seq.{length-take-le, take-append-le, take_at, take-take}
use Rattle.listing.proofs.Streams.{there, ends_within, stream_by, behind, is_out, is_bad}
use Rattle.listing.specs.Machine.{Machine}
use Rattle.listing.specs.Stream.{Stream, out, bad, one, before, stream_at}
use Rattle.numbers.proofs.Local.{same_less}
use Rattle.operations.proofs.Local.{operation_local}
use Rattle.operations.proofs.Rows.{no_byte}
use Rattle.operations.specs.Table.{operation}

module _ {Op Reg Item : Type 0} (M : Machine Op Reg Item) where
  -- ---- operations, each with the place behind it, lead from a place to another

  pub data Leads (s : List ℕ) : (at : ℕ) → List (Op × ℕ) → (to : ℕ) → Type 0 where
    stays : {at : ℕ} → Leads s at [] at
    over : {at next to : ℕ} {op : Op} {ops : List (Op × ℕ)} → there M s at ≡ operation op next → Leads s next ops to →
        Leads s at ((op, next) ∷ ops) to

  -- a stream that begins with them
  abbrev pub following : (at : ℕ) → List (Op × ℕ) → Stream Op → Stream Op
  following at [] rest = rest
  following at ((op, next) ∷ ops) rest = one at op next (following next ops rest)

  module _ (s : List ℕ) where
    -- an operation stands in all bytes that are the same up to the place behind it, or further
    pub there_local : (at : ℕ) {next to : ℕ} {op : Op} → there M s at ≡ operation op next → next ≤ to → (r : List ℕ) → take to r ≡ take to s →
        there M r at ≡ operation op next
    there_local at {to} e h r f = (operation_local M.table s at e).same r (same_less s r to h f) ∙ e

    -- the stream from the one place on is those operations, and then the stream from the other on
    pub leads_stream : {at to : ℕ} {ops : List (Op × ℕ)} → Leads s at ops to → stream_at M s at ≡ following at ops (stream_at M s to)
    unfolding before
    leads_stream stays = refl
    leads_stream {at} (over {next} {op} e l) = stream_by M s at e ∙ ap (one at op next) (leads_stream l)

    -- they lead onward
    leads_on : {at to : ℕ} {ops : List (Op × ℕ)} → Leads s at ops to → at ≤ to
    leads_on stays = omega arith
    leads_on {at} (over e l) = let h = leads_on l in omega (arith, (ends_within M s at e).beyond)

    -- and not out of the bytes
    pub leads_inside : {at to : ℕ} {ops : List (Op × ℕ)} → Leads s at ops to → at ≤ length s → to ≤ length s
    leads_inside stays h = h
    leads_inside {at} (over e l) h = leads_inside l (ends_within M s at e).inside

    -- where others lead on from there, they all do
    pub leads_then : {at mid to : ℕ} {ops more : List (Op × ℕ)} → Leads s at ops mid → Leads s mid more to → Leads s at (ops ++ more) to
    leads_then stays k = k
    leads_then (over e l) k = over e (leads_then l k)

    -- they lead there in all bytes that are the same up to there
    pub leads_local : {at to : ℕ} {ops : List (Op × ℕ)} → Leads s at ops to → (r : List ℕ) → take to r ≡ take to s → Leads r at ops to
    leads_local stays r f = stays
    leads_local {at} (over e l) r f = over (there_local at e (leads_on l) r f) (leads_local l r f)

  -- where no bytes are left, there are no operations
  pub stream_out : (r : List ℕ) (at : ℕ) → length r ≤ at → stream_at M r at ≡ out
  unfolding before
  stream_out r at h = stream_by M r at (sym (no_byte M.table r at h))

  -- ---- bytes that are the same up to a place to which operations lead

  module _ (s : List ℕ) {at to : ℕ} {ops : List (Op × ℕ)} (l : Leads s at ops to) where
    -- their stream is those operations, and then their own from there on
    pub stream_local : (r : List ℕ) → take to r ≡ take to s → stream_at M r at ≡ following at ops (stream_at M r to)
    stream_local r f = leads_stream r (leads_local s l r f)

    module _ (h : at ≤ length s) where
      -- so with bytes behind the stream
      pub stream_more : (t : List ℕ) → stream_at M (s ++ t) at ≡ following at ops (stream_at M (s ++ t) to)
      stream_more t = stream_local (s ++ t) (take-append-le to s t (leads_inside s l h))

      long_cut : length (take to s) ≡ to
      long_cut = length-take-le to s (leads_inside s l h)

      -- with the stream cut there, and other bytes behind the cut
      pub stream_cut_more : (t : List ℕ) → stream_at M (take to s ++ t) at ≡ following at ops (stream_at M (take to s ++ t) to)
      stream_cut_more t = stream_local (take to s ++ t) (take_at (take to s) t to long_cut)

      -- and with none behind it
      pub stream_cut : stream_at M (take to s) at ≡ following at ops out
      stream_cut =
          stream_local (take to s) (take-take to to s (omega arith))
          ∙ ap (following at ops) (stream_out (take to s) to (omega (arith, long_cut)))

  -- ---- the operations of a stream that are whole, and the first place where there is none

  pub record Whole (s : List ℕ) (at : ℕ) : Type 0 where
    pub ops : List (Op × ℕ)
    pub to : ℕ
    pub leads : Leads s at ops to
    pub none_there : (op : Op) (next : ℕ) → there M s to ≡ operation op next → ⊥

  module _ (s : List ℕ) where
    whole_here : (at : ℕ) → ((op : Op) (next : ℕ) → there M s at ≡ operation op next → ⊥) → Whole s at
    whole_here at h = record { ops = []; to = at; leads = stays; none_there = h }

    by_stream : (xs : Stream Op) (at : ℕ) → stream_at M s at ≡ xs → Whole s at
    by_stream out at e =
        let n = no_byte M.table s at (is_out M s at e) in
        whole_here at (λ op next f. let z : ◌≡◌ {A = ℕ} 0 1 = cc in omega arith)
    by_stream (bad n position) at e =
        let b = (is_bad M s at e).parsed in
        whole_here at (λ op next f. let z : ◌≡◌ {A = ℕ} 0 1 = cc in omega arith)
    by_stream (one position op next rest) at e =
        let b = behind M s at e in
        let w = by_stream rest next b.same in
        record {
          ops = (op, next) ∷ w.ops;
          to = w.to;
          leads = over b.parsed w.leads;
          none_there = w.none_there;
        }

    -- every stream has them
    pub whole : (at : ℕ) → Whole s at
    whole at = by_stream (stream_at M s at) at refl
